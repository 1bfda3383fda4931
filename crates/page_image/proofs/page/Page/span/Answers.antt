-- A node ends where the next one begins, or where the nodes end.
use Rattle.std.proofs.Common.{arith}
use Rattle.std.proofs.lemmas.List.Sums.{sum_by_more, sum_by_more_le}
use Rattle.page_image.specs.Page.{no_node, node_size}
use Rattle.page_image.proofs.Kept.{few, opened}
use Rattle.page_image.proofs.page.Page.span.Goals as goal

pub overflow_add-i : goal.overflow_add-i
overflow_add-i c = omega (arith, c.requires, few c.args.self.now (opened c.self.inside.bytes c.self.inside.offsets c.self.inside.count c.self.inside.end c.args.self.now c.self.view_is c.self.invariant).page)

pub overflow_sub-result : goal.overflow_sub-result
overflow_sub-result c = omega (arith, c.offset-at.ensures.value, c.offset.ensures.value, sum_by_more node_size c.args.self.now.nodes c.args.i no_node c.requires)

pub returns-clause-size : goal.returns-clause-size
returns-clause-size c = omega (arith, c.offset-at.ensures.value, c.offset.ensures.value, sum_by_more node_size c.args.self.now.nodes c.args.i no_node c.requires)

pub returns-clause-order : goal.returns-clause-order
returns-clause-order c = omega (arith, c.offset-at.ensures.value, c.offset.ensures.value, sum_by_more node_size c.args.self.now.nodes c.args.i no_node c.requires, sum_by_more_le node_size c.args.self.now.nodes c.args.i no_node c.requires)

pub returns-clause-within : goal.returns-clause-within
returns-clause-within c = (opened c.self.inside.bytes c.self.inside.offsets c.self.inside.count c.self.inside.end c.args.self.now c.self.view_is c.self.invariant).page.size
