use Rattle.std.proofs.Common.{arith}
use Rattle.btree_inplace.proofs.Tree.node_count.Goals as goal

pub nodes_below-requires-clause-few : goal.nodes_below-requires-clause-few
nodes_below-requires-clause-few c = omega (arith, c.nodes_fit_their_space.ensures c.args.space.now c.args.self.now c.requires, c.len.ensures.value, c.len.ensures.limit)
