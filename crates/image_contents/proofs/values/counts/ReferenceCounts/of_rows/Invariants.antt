use Rattle.std.proofs.Common.{◌≡◌, ℕ, List, length}
use Rattle.btree_inplace.specs.Trees.{nodes_of}
use Rattle.image_contents.specs.ReferringRows.{counted, referring_rows}
use Rattle.image_contents.proofs.CountedRows.{with_rows}
use Rattle.image_contents.proofs.values.counts.ReferenceCounts.of_rows.Given as goal

-- Those that are counted and those among the rows that are left are all.
abbrev pub invariant-loop-row : goal.invariant-loop-row
invariant-loop-row l = (id : List ℕ) → with_rows l.counts l.rows id ≡ counted id (referring_rows l.fn.table.table.0 (nodes_of l.fn.space l.fn.table.nodes) l.fn.versions)

abbrev pub decreases-loop-row : goal.decreases-loop-row
decreases-loop-row l = length l.rows
