use Rattle.std.proofs.Common.{◌≡◌, None, length}
use Rattle.btree_inplace.specs.Trees.{nodes_of}
use Rattle.image_contents.specs.HeadlessValues.{headless_of, least_of}
use Rattle.image_contents.specs.ReferringRows.{referring_rows}
use Rattle.image_contents.proofs.values.missing.headless_value.Given as goal

-- The rows that are left lead to where all lead.
abbrev pub invariant-loop-row : goal.invariant-loop-row
invariant-loop-row l =
    least_of l.least (headless_of (nodes_of l.fn.space l.fn.table.long_values) l.rows)
    ≡ least_of None (headless_of (nodes_of l.fn.space l.fn.table.long_values) (referring_rows l.fn.table.table.0 (nodes_of l.fn.space l.fn.table.nodes) l.fn.versions))

abbrev pub decreases-loop-row : goal.decreases-loop-row
decreases-loop-row l = length l.rows
