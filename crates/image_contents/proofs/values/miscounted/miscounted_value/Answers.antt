use Rattle.std.proofs.Common.{sym, ap, ◌∙◌}
use Rattle.std.specs.Prelude.{option_map}
use Rattle.btree_inplace.specs.Trees.{nodes_of}
use Rattle.image_contents.specs.NodesLeft.{node_in}
use Rattle.image_contents.specs.ValueCounts.{count_in, first_finding}
use Rattle.image_contents.specs.ValueFaults.{finding_of}
use Rattle.image_contents.proofs.CountedHeads.{table_is}
use Rattle.image_contents.proofs.HeadsRead.{found_first, found_later, none_found}
use Rattle.image_contents.proofs.Loop.{smaller}
use Rattle.image_contents.proofs.values.miscounted.miscounted_value.Goals as goal

pub of_rows-requires : goal.of_rows-requires
of_rows-requires c = c.requires.1.nodes_tree

pub new-walk-requires : goal.new-walk-requires
new-walk-requires c = c.requires.1.values_tree

pub loop-node-init : goal.loop-node-init
loop-node-init c = ap (first_finding (count_in c.in-Ok.counts)) c.new-walk.ensures

pub loop-node-smaller : goal.loop-node-smaller
loop-node-smaller c = smaller c.loop-node.walk c.next.new.self (node_in c.in-Some.node) c.in-Some.ensures

pub loop-node-preserved : goal.loop-node-preserved
loop-node-preserved c =
    found_later (count_in c.in-Ok.counts) c.loop-node.walk c.next.new.self (node_in c.in-Some.node) (first_finding (count_in c.in-Ok.counts) (nodes_of c.args.space.now c.args.table.now.long_values)) c.in-Some.ensures
    (ap (option_map finding_of) (sym c.in-None.is) ∙ c.head_fault.ensures) c.loop-node.invariant

pub returns-in-Some-head_fault : goal.returns-in-Some-head_fault
returns-in-Some-head_fault c t has =
    found_first (count_in c.in-Ok.counts) c.loop-node.walk c.next.new.self (node_in c.in-Some.node) (finding_of c.in-Some-head_fault.fault) (first_finding (count_in c.in-Ok.counts) (nodes_of c.args.space.now c.args.table.now.long_values)) c.in-Some.ensures
    (ap (option_map finding_of) (sym c.in-Some-head_fault.is) ∙ c.head_fault.ensures) c.loop-node.invariant
    ∙ table_is c.args.space.now c.args.table.now t c.args.versions.now c.in-Ok.counts has (c.nodes_of_a_tree_rise.ensures.tree c.args.space.now c.args.table.now.long_values has.values_tree) c.in-Ok.ensures

pub returns : goal.returns
returns c t has =
    none_found (count_in c.in-Ok.counts) c.loop-node.walk (first_finding (count_in c.in-Ok.counts) (nodes_of c.args.space.now c.args.table.now.long_values)) c.in_default.ensures.0 c.loop-node.invariant
    ∙ table_is c.args.space.now c.args.table.now t c.args.versions.now c.in-Ok.counts has (c.nodes_of_a_tree_rise.ensures.tree c.args.space.now c.args.table.now.long_values has.values_tree) c.in-Ok.ensures
