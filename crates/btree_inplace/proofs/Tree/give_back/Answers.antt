use Rattle.std.proofs.Common.{[]}
use Rattle.btree_inplace.specs.Trees.{pages_of}
use Rattle.btree_inplace.proofs.Counting.{copies-once}
use Rattle.btree_inplace.proofs.Swapping.{swaps-exchanges}
use Rattle.btree_inplace.proofs.Tree.give_back.Goals as goal

pub give_back_below-requires-clause-once : goal.give_back_below-requires-clause-once
give_back_below-requires-clause-once c = λ p. copies-once (pages_of c.args.space.now c.args.self) p c.requires.tree.once

pub returns : goal.returns
returns c = record { pages = swaps-exchanges c.args.space.now c.give_back_below.new.space (pages_of c.args.space.now c.args.self) [] c.give_back_below.ensures }
