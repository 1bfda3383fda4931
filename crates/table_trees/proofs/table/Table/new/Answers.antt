-- The trees are made one after the other, and the first stays as the second is made.
use Rattle.std.proofs.Common.{map}
use Rattle.table_trees.specs.LongTrees.{long_root}
use Rattle.table_trees.specs.NodeTrees.{node_root}
use Rattle.table_trees.specs.TableParts.{index_root}
use Rattle.table_trees.proofs.TableChanges.{table_made}
use Rattle.table_trees.proofs.table.Table.new.Goals as goal

pub returns-in-Ok-clause-made : goal.returns-in-Ok-clause-made
returns-in-Ok-clause-made c =
    let nodes = c.in_ok-nodes.ensures.empty in
    let long = c.in-Ok.ensures.empty in
    table_made (record { nodes = c.trees_stay.ensures.nodes; long_values = c.trees_stay.ensures.long_values; indexes = c.trees_stay.ensures.indexes }) c.args.space.now c.new.new.space c.new-2.new.space
    (record { table = c.args.table; nodes = c.in_ok-nodes.nodes; long_values = c.in-Ok.long_values; indexes = c.new-in-Ok.result })
    (record { nodes = nodes.0; no_node = nodes.1; node_pages_are = nodes.2; long_values = long.0; no_value = long.1; long_pages_are = long.2; no_index = c.new-in-Ok.ensures.items })

pub returns-in-Ok-clause-roots : goal.returns-in-Ok-clause-roots
returns-in-Ok-clause-roots c = (λ i. record { number = c.args.table.0; records = node_root c.in_ok-nodes.nodes; long_values = long_root c.in-Ok.long_values; indexes = map index_root (c.new-in-Ok.ensures.items i) })
