use Rattle.std.proofs.Common.{◌≡◌, ◌++◌, length}
use Rattle.std.specs.List.{AllByRecursion, flat_map}
use Rattle.btree_inplace.specs.Trees.{nodes_of}
use Rattle.database_state.specs.Table.{schema_of}
use Rattle.image_contents.specs.ReadVariants.{HasReadableRow, contents_of}
use Rattle.image_findings.specs.EntryFindings.{pairs_of}
use Rattle.image_findings.specs.TableContents.{long_values}
use Rattle.stored_variants.specs.RecordRows.{rows_of_nodes}
use Rattle.image_contents.proofs.entries.variants.TableVariants.push_newest.Given as goal

-- The entries so far and those of the nodes that are left are those of all.
abbrev pub invariant-loop-node : goal.invariant-loop-node
invariant-loop-node l =
    (l.entries.items ++ flat_map (pairs_of l.rule (schema_of l.self.table.now)) (rows_of_nodes (long_values (contents_of l.self)) l.walk)
    ≡ l.initial.entries.items ++ flat_map (pairs_of l.rule (schema_of l.self.table.now)) (rows_of_nodes (long_values (contents_of l.self)) (nodes_of l.self.space.now l.self.opened.now.nodes)))
    × AllByRecursion (HasReadableRow (long_values (contents_of l.self))) l.walk

abbrev pub decreases-loop-node : goal.decreases-loop-node
decreases-loop-node l = length l.walk
