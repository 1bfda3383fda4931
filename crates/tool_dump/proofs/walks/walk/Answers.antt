use Rattle.std.proofs.Common.{arith}
use Rattle.tool_dump.proofs.Walking.{no_fault_told, walked}
use Rattle.tool_dump.proofs.walks.walk.Goals as goal

pub returns-in-Ok : goal.returns-in-Ok
returns-in-Ok c =
    walked (record { once = c.walked_trees_are_a_forest.ensures.once; few = c.nodes_fit_their_space.ensures }) c.in-Ok.depth c.args.space.now c.args.root c.args.marks.now c.walk_tree.new.marks c.at.result
    (record { shape = c.in-Ok.ensures.tree.0; deep = c.in-Ok.ensures.tree.1; depth_is = c.in-Ok.ensures.marks.0; own = c.in-Ok.ensures.own; marks = c.in-Ok.ensures.marks.1 }) c.at.ensures.root c.at.ensures.depth (omega (arith, c.len-few.ensures.value, c.len-few.ensures.limit))

pub returns-in-Err : goal.returns-in-Err
returns-in-Err c = absurd (no_fault_told _ _ c.requires c.in-Err.ensures.fault)
