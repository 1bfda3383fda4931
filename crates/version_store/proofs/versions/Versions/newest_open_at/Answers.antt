-- The first item of a walk back that is open at the level is the newest such change.
use Rattle.std.proofs.Common.{◌≡◌, ℕ, ◌-◌, ◌<◌, List, Some, length, get_or, ap, subst, sym, ◌∙◌, arith}
use Rattle.std.specs.Prelude.{slice_get}
use Rattle.version_store.specs.declared.item.Item.{Item}
use Rattle.version_store.specs.HeldChanges.{HeldChange, is_open_at, last_place}
use Rattle.version_store.specs.OpenChanges.{Reach}
use Rattle.version_store.proofs.HeldLemmas.{length-held}
use Rattle.version_store.proofs.OpenWalks.{Here, release-stop, sought-found, sought-here, sought-start, sought-step, sought-stop}
use Rattle.version_store.proofs.versions.Versions.newest_open_at.Goals as goal

pub loop-end-init : goal.loop-end-init
loop-end-init c =
    let a = c.self.inside in
    let is : c.end_of-end.result ≡ get_or a.newest.items c.args.session.0 0 - a.rows.first =
    c.end_of-end.ensures ∙ ap (λ (n : ℕ). n - c.first-first.result) (c.newest_of.ensures ∙ ap (λ (l : List ℕ). get_or l c.args.session.0 0) c.deref.ensures.value) ∙ ap (λ (n : ℕ). get_or a.newest.items c.args.session.0 0 - n) c.first-first.ensures.value in
    sought-start c.args.session.0 c.args.level a.items.items c.end_of-end.result
    (subst (λ (n : ℕ). Reach c.args.session.0 a.items.items n (length a.items.items)) (sym is) (c.self.invariant.opens.heads c.args.session.0))

pub index-item-requires : goal.index-item-requires
index-item-requires c = omega (arith, c.self.inside.items.ok.0, c.loop-end.invariant.within, c.loop-end-test.true)

pub returns-then-is_open_at-clause-place : goal.returns-then-is_open_at-clause-place
returns-then-is_open_at-clause-place c =
    let a = c.self.inside in let x = c.index-item.result.now in
    let h : Here c.args.session.0 a.rows.first a.items.items c.loop-end.end x = sought-here c.args.session.0 c.args.level a.rows.first a.items.items c.loop-end.end x c.loop-end.invariant c.self.invariant.opens.links c.loop-end-test.true c.index-item.ensures in
    sym (sought-found c.args.session.0 c.args.level a.items.items a.rows.pieces c.loop-end.end x c.self.invariant.keeps.are_rows c.loop-end.invariant c.loop-end-test.true h.at (sym c.is_open_at.ensures ∙ c.if-is_open_at.true))
    ∙ ap (last_place (is_open_at c.args.session.0 c.args.level)) c.self.view_is

pub returns-then-is_open_at-clause-within : goal.returns-then-is_open_at-clause-within
returns-then-is_open_at-clause-within c =
    let a = c.self.inside in
    omega (arith, c.loop-end.invariant.within, c.loop-end-test.true, length-held a.items.items a.rows.pieces c.self.invariant.keeps.are_rows, ap (length {A = HeldChange}) c.self.view_is)

pub returns-then-item-level-clause-place : goal.returns-then-item-level-clause-place
returns-then-item-level-clause-place c =
    let a = c.self.inside in let x = c.index-item.result.now in
    let h : Here c.args.session.0 a.rows.first a.items.items c.loop-end.end x = sought-here c.args.session.0 c.args.level a.rows.first a.items.items c.loop-end.end x c.loop-end.invariant c.self.invariant.opens.links c.loop-end-test.true c.index-item.ensures in
    let own : x.session.0 ≡ c.args.session.0 = c.loop-end.invariant.own (c.loop-end.end - 1) x (omega (arith, c.loop-end-test.true)) h.at in
    sym (sought-stop c.args.session.0 c.args.level a.items.items a.rows.pieces c.loop-end.end c.loop-end.invariant
    (release-stop c.args.session.0 c.args.level a.rows.first a.items.items c.loop-end.end x c.self.invariant.opens.levels own h.at c.if-item-level.true))
    ∙ ap (last_place (is_open_at c.args.session.0 c.args.level)) c.self.view_is

pub loop-end-smaller : goal.loop-end-smaller
loop-end-smaller c =
    let a = c.self.inside in let x = c.index-item.result.now in
    let h : Here c.args.session.0 a.rows.first a.items.items c.loop-end.end x = sought-here c.args.session.0 c.args.level a.rows.first a.items.items c.loop-end.end x c.loop-end.invariant c.self.invariant.opens.links c.loop-end-test.true c.index-item.ensures in
    omega (arith, c.loop-end-test.true, c.end_of-end-in-loop-end.ensures, c.first-first.ensures.value, h.reach.within)

pub loop-end-preserved : goal.loop-end-preserved
loop-end-preserved c =
    let a = c.self.inside in let x = c.index-item.result.now in
    let h : Here c.args.session.0 a.rows.first a.items.items c.loop-end.end x = sought-here c.args.session.0 c.args.level a.rows.first a.items.items c.loop-end.end x c.loop-end.invariant c.self.invariant.opens.links c.loop-end-test.true c.index-item.ensures in
    sought-step c.args.session.0 c.args.level a.rows.first a.items.items c.loop-end.end c.end_of-end-in-loop-end.result x c.loop-end.invariant h c.loop-end-test.true (sym c.is_open_at.ensures ∙ c.if-is_open_at.false)
    (c.end_of-end-in-loop-end.ensures ∙ ap (λ (n : ℕ). x.own_before - n) c.first-first.ensures.value)

pub returns-clause-place : goal.returns-clause-place
returns-clause-place c =
    let a = c.self.inside in
    sym (sought-stop c.args.session.0 c.args.level a.items.items a.rows.pieces c.loop-end.end c.loop-end.invariant
    (λ (k : ℕ) (y : Item) (lt : k < c.loop-end.end) (at : slice_get a.items.items k ≡ Some y). absurd (omega (arith, c.loop-end-test.false, lt))))
    ∙ ap (last_place (is_open_at c.args.session.0 c.args.level)) c.self.view_is
