-- One open item more is done, and none was passed over.
use Rattle.std.proofs.Common.{◌≡◌, ℕ, ◌-◌, ◌<◌, List, Some, length, get_or, ap, subst, sym, ◌∙◌, arith}
use Rattle.std.specs.Prelude.{slice_get}
use Rattle.version_store.specs.declared.item.Item.{Item}
use Rattle.version_store.specs.Items.{committed_item}
use Rattle.version_store.specs.OpenChanges.{AreLinked, Reach}
use Rattle.version_store.proofs.OpenLemmas.{commit-skips, commit-tamed}
use Rattle.version_store.proofs.OpenWalks.{Here, Walked, walked-here, walked-start, walked-step, walked-stop}
use Rattle.version_store.proofs.ends.commit_all.Goals as goal

here_of : (session number first : ℕ) (old items : List Item) (end : ℕ) (x : Item) → Walked (committed_item session number) session old items end → AreLinked first old → 0 < end → x ≡ get_or items (end - 1) x → Here session first old end x
here_of session number first old items end x walked links some is = walked-here (committed_item session number) session first old items end x walked links some is

pub loop-end-init : goal.loop-end-init
loop-end-init c =
    walked-start (committed_item c.args.session.0 c.args.number) c.args.session.0 c.args.items.now.items c.end_of-end.result (commit-skips c.args.session.0 c.args.number)
    (subst (λ (n : ℕ). Reach c.args.session.0 c.args.items.now.items n (length c.args.items.now.items)) (sym c.end_of-end.ensures) c.requires.reach)

pub index_mut-item-requires : goal.index_mut-item-requires
index_mut-item-requires c = omega (arith, c.loop-end.items.ok.0, c.loop-end.invariant.count, c.loop-end.invariant.within, c.loop-end-test.true)

next_is : (x y : Item) (session number first next : ℕ) → y ≡ committed_item session number x → next ≡ y.own_before - first → next ≡ x.own_before - first
next_is x y session number first next made is = is ∙ ap (λ (n : ℕ). n - first) (ap (λ (z : Item). z.own_before) made ∙ (commit-tamed session number x).before)

pub loop-end-smaller : goal.loop-end-smaller
loop-end-smaller c =
    let x = c.index_mut-item.result.now in
    omega (
      arith,
      c.loop-end-test.true,
      next_is x c.commit.new.self c.args.session.0 c.args.number c.args.first c.end_of-end-in-loop-end.result c.commit.ensures c.end_of-end-in-loop-end.ensures,
      (here_of c.args.session.0 c.args.number c.args.first c.args.items.now.items c.loop-end.items.items c.loop-end.end x c.loop-end.invariant c.requires.links c.loop-end-test.true c.index_mut-item.ensures.value).reach.within,
    )

pub loop-end-preserved : goal.loop-end-preserved
loop-end-preserved c =
    let x = c.index_mut-item.result.now in
    walked-step (committed_item c.args.session.0 c.args.number) c.args.session.0 c.args.first c.args.items.now.items c.loop-end.items.items c.loop-end.end c.end_of-end-in-loop-end.result x c.commit.new.self (commit-skips c.args.session.0 c.args.number) c.loop-end.invariant
    (here_of c.args.session.0 c.args.number c.args.first c.args.items.now.items c.loop-end.items.items c.loop-end.end x c.loop-end.invariant c.requires.links c.loop-end-test.true c.index_mut-item.ensures.value)
    c.loop-end-test.true c.commit.ensures (next_is x c.commit.new.self c.args.session.0 c.args.number c.args.first c.end_of-end-in-loop-end.result c.commit.ensures c.end_of-end-in-loop-end.ensures)

pub returns : goal.returns
returns c =
    walked-stop (committed_item c.args.session.0 c.args.number) c.args.session.0 c.args.items.now.items c.loop-end.items.items c.loop-end.end c.loop-end.invariant
    (λ (k : ℕ) (y : Item) (lt : k < c.loop-end.end) (at : slice_get c.args.items.now.items k ≡ Some y). absurd (omega (arith, c.loop-end-test.false, lt)))
