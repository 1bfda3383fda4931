use Rattle.std.proofs.Common.{arith}
use Rattle.btree_inplace.proofs.Tree.page_count.Goals as goal

pub pages_below-requires-clause-few : goal.pages_below-requires-clause-few
pages_below-requires-clause-few c = omega (arith, c.pages_fit_their_space.ensures c.args.space.now c.args.self.now c.requires, c.len.ensures.value, c.len.ensures.limit)
