use Rattle.std.proofs.Common.{◌-◌}
use Rattle.btree_inplace.proofs.Entering.{Going}
use Rattle.btree_inplace.proofs.Tree.leaf_with_room.Given as goal

abbrev pub invariant-loop-level : goal.invariant-loop-level
invariant-loop-level l = Going l.key l.need l.fn.space l.fn.self l.self (l.self.depth - l.level) l.space l.page
