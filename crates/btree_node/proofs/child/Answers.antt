-- The place before the one where the key would stand.
use Rattle.btree_node.proofs.Children.{child_at, child_before, not_first}
use Rattle.btree_node.proofs.child.Goals as goal

pub overflow_sub-result : goal.overflow_sub-result
overflow_sub-result c = not_first c.args.page.now.nodes c.args.key.now c.in-Err.i c.requires.some c.requires.first c.in-Err.ensures

pub returns-in-Ok : goal.returns-in-Ok
returns-in-Ok c = child_at c.args.page.now.nodes c.args.key.now c.in-Ok.i c.len.ensures.page.rising c.in-Ok.ensures.0 c.in-Ok.ensures.1

pub returns-in-Err : goal.returns-in-Err
returns-in-Err c = child_before c.args.page.now.nodes c.args.key.now c.in-Err.i (not_first c.args.page.now.nodes c.args.key.now c.in-Err.i c.requires.some c.requires.first c.in-Err.ensures) c.in-Err.ensures
