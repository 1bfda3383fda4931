use Rattle.std.proofs.Common.{◌≡◌, ◌+◌, length}
use Rattle.btree_inplace.specs.Trees.{nodes_of}
use Rattle.image_contents.specs.ReferringRows.{counted, referring_rows}
use Rattle.image_contents.proofs.values.missing.references_to.Given as goal

-- Those that are counted and those among the rows that are left are all.
abbrev pub invariant-loop-row : goal.invariant-loop-row
invariant-loop-row l = l.count + counted l.fn.id l.rows ≡ counted l.fn.id (referring_rows l.fn.table.table.0 (nodes_of l.fn.space l.fn.table.nodes) l.fn.versions)

abbrev pub decreases-loop-row : goal.decreases-loop-row
decreases-loop-row l = length l.rows
