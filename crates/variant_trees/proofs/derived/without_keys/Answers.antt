use Rattle.std.proofs.Common.{◌≡◌, ◌+◌, ◌++◌, ◌∷◌, [], List, ℕ, take, sym, ap, subst, ◌∙◌, arith}
use Rattle.variant_trees.proofs.KeysLeft.{LeftOf, all_left, is_kept, is_left_out, none_left}
use Rattle.variant_trees.proofs.KeysPut.{whole}
use Rattle.variant_trees.proofs.derived.without_keys.Goals as goal
use Rattle.variant_trees.proofs.derived.without_keys.Goals.{then-not-is_among+in-Ok, else-not-is_among}

pub loop-key-init : goal.loop-key-init
loop-key-init c = none_left c.args.keys.now c.args.others.now c.empty-left.result c.empty-left.ensures

pub loop-key-preserved : goal.loop-key-preserved
loop-key-preserved c = elim c.if-not-is_among.branch [
  | then-not-is_among+in-Ok w ↦
      subst (λ (left : List (List ℕ)). LeftOf (take (c.loop-key.key-index + 1) c.args.keys.now) c.args.others.now left) (sym w.left-is)
      (is_kept c.args.keys.now c.args.others.now c.loop-key.left w.push.new.self c.loop-key.key-index c.key-item.result c.loop-key-test.true c.key-item.is (sym c.is_among.ensures ∙ w.if-not-is_among.true)
      (w.in-Ok.ensures ∙ ap (λ (key : List ℕ). c.loop-key.left ++ key ∷ []) w.copy.ensures) c.loop-key.invariant)
  | else-not-is_among w ↦
      subst (λ (left : List (List ℕ)). LeftOf (take (c.loop-key.key-index + 1) c.args.keys.now) c.args.others.now left) (sym w.left-is)
      (is_left_out c.args.keys.now c.args.others.now c.loop-key.left c.loop-key.key-index c.key-item.result c.loop-key-test.true c.key-item.is (sym c.is_among.ensures ∙ w.if-not-is_among.false) c.loop-key.invariant)
]

pub returns : goal.returns
returns c = all_left c.args.keys.now c.args.others.now c.loop-key.left c.loop-key.key-index (whole c.args.keys.now c.loop-key.key-index (omega (arith, c.loop-key-test.false))) c.loop-key.invariant
