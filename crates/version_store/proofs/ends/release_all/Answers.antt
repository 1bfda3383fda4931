-- One open item more is done, and none was passed over.
use Rattle.std.proofs.Common.{◌≡◌, ℕ, ◌-◌, ◌<◌, List, Some, length, get_or, set, ap, subst, sym, ◌∙◌, arith}
use Rattle.std.specs.Prelude.{slice_get}
use Rattle.std.proofs.lemmas.List.{set-get_or}
use Rattle.version_store.specs.declared.item.Item.{Item}
use Rattle.version_store.specs.Items.{released_item}
use Rattle.version_store.specs.OpenChanges.{AreLinked, Reach}
use Rattle.version_store.proofs.OpenLemmas.{release-skips, release-tamed}
use Rattle.version_store.proofs.OpenWalks.{Here, Walked, walked-here, walked-start, walked-step, walked-stop, release-still, release-stop}
use Rattle.version_store.proofs.ends.release_all.Goals as goal

here_of : (session level first : ℕ) (old items : List Item) (end : ℕ) (x : Item) → Walked (released_item session level) session old items end → AreLinked first old → 0 < end → x ≡ get_or items (end - 1) x → Here session first old end x
here_of session level first old items end x walked links some is = walked-here (released_item session level) session first old items end x walked links some is

pub loop-end-init : goal.loop-end-init
loop-end-init c =
    walked-start (released_item c.args.session.0 c.args.level) c.args.session.0 c.args.items.now.items c.end_of-end.result (release-skips c.args.session.0 c.args.level)
    (subst (λ (n : ℕ). Reach c.args.session.0 c.args.items.now.items n (length c.args.items.now.items)) (sym c.end_of-end.ensures) c.requires.reach)

pub index_mut-item-requires : goal.index_mut-item-requires
index_mut-item-requires c = omega (arith, c.loop-end.items.ok.0, c.loop-end.invariant.count, c.loop-end.invariant.within, c.loop-end-test.true)

pub returns-then-item-level : goal.returns-then-item-level
returns-then-item-level c =
    let old = c.args.items.now.items in let x = c.index_mut-item.result.now in
    let own : x.session.0 ≡ c.args.session.0 = c.loop-end.invariant.own (c.loop-end.end - 1) x (omega arith) (here_of c.args.session.0 c.args.level c.args.first old c.loop-end.items.items c.loop-end.end x c.loop-end.invariant c.requires.links c.loop-end-test.true c.index_mut-item.ensures.value).at in
    ap (set c.loop-end.items.items (c.loop-end.end - 1)) c.index_mut-item.ensures.value ∙ set-get_or c.loop-end.items.items (c.loop-end.end - 1) x
    ∙ walked-stop (released_item c.args.session.0 c.args.level) c.args.session.0 old c.loop-end.items.items c.loop-end.end c.loop-end.invariant
    (λ (k : ℕ) (y : Item) (lt : k < c.loop-end.end) (at : slice_get old k ≡ Some y).
    release-still c.args.session.0 c.args.level y (release-stop c.args.session.0 c.args.level c.args.first old c.loop-end.end x c.requires.levels own
    (here_of c.args.session.0 c.args.level c.args.first old c.loop-end.items.items c.loop-end.end x c.loop-end.invariant c.requires.links c.loop-end-test.true c.index_mut-item.ensures.value).at c.if-item-level.true k y lt at))

next_is : (x y : Item) (session level first next : ℕ) → y ≡ released_item session level x → next ≡ y.own_before - first → next ≡ x.own_before - first
next_is x y session level first next made is = is ∙ ap (λ (n : ℕ). n - first) (ap (λ (z : Item). z.own_before) made ∙ (release-tamed session level x).before)

pub loop-end-smaller : goal.loop-end-smaller
loop-end-smaller c =
    let x = c.index_mut-item.result.now in
    omega (
      arith,
      c.loop-end-test.true,
      next_is x c.release.new.self c.args.session.0 c.args.level c.args.first c.end_of-end-in-loop-end.result c.release.ensures c.end_of-end-in-loop-end.ensures,
      (here_of c.args.session.0 c.args.level c.args.first c.args.items.now.items c.loop-end.items.items c.loop-end.end x c.loop-end.invariant c.requires.links c.loop-end-test.true c.index_mut-item.ensures.value).reach.within,
    )

pub loop-end-preserved : goal.loop-end-preserved
loop-end-preserved c =
    let x = c.index_mut-item.result.now in
    walked-step (released_item c.args.session.0 c.args.level) c.args.session.0 c.args.first c.args.items.now.items c.loop-end.items.items c.loop-end.end c.end_of-end-in-loop-end.result x c.release.new.self (release-skips c.args.session.0 c.args.level) c.loop-end.invariant
    (here_of c.args.session.0 c.args.level c.args.first c.args.items.now.items c.loop-end.items.items c.loop-end.end x c.loop-end.invariant c.requires.links c.loop-end-test.true c.index_mut-item.ensures.value)
    c.loop-end-test.true c.release.ensures (next_is x c.release.new.self c.args.session.0 c.args.level c.args.first c.end_of-end-in-loop-end.result c.release.ensures c.end_of-end-in-loop-end.ensures)

pub returns : goal.returns
returns c =
    walked-stop (released_item c.args.session.0 c.args.level) c.args.session.0 c.args.items.now.items c.loop-end.items.items c.loop-end.end c.loop-end.invariant
    (λ (k : ℕ) (y : Item) (lt : k < c.loop-end.end) (at : slice_get c.args.items.now.items k ≡ Some y). absurd (omega (arith, c.loop-end-test.false, lt)))
