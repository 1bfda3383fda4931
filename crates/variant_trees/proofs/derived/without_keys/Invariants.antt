use Rattle.std.proofs.Common.{take}
use Rattle.variant_trees.proofs.KeysLeft.{LeftOf}
use Rattle.variant_trees.proofs.derived.without_keys.Given as goal

abbrev pub invariant-loop-key : goal.invariant-loop-key
invariant-loop-key l = LeftOf (take l.key-index l.keys) l.others l.left
