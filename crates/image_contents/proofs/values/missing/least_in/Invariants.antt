use Rattle.std.proofs.Common.{ℕ, List, length}
use Rattle.btree_inplace.specs.Trees.{nodes_of}
use Rattle.column_set.specs.OtherValues.{StandIn}
use Rattle.column_set.specs.declared.rows.RowValue.{RowValue}
use Rattle.image_contents.specs.HeadlessValues.{headless_in, least_of}
use Rattle.image_contents.proofs.NamedParts.{Leads}
use Rattle.image_contents.proofs.values.missing.least_in.Given as goal

-- The values that are left lead to where all lead.
abbrev pub invariant-loop-reference : goal.invariant-loop-reference
invariant-loop-reference l =
    (xs : List (ℕ × RowValue)) → StandIn l.fn.values xs
    → Leads l.rest (λ ys. least_of l.found (headless_in (nodes_of l.fn.space l.fn.tree) ys)) (least_of l.fn.least (headless_in (nodes_of l.fn.space l.fn.tree) xs))

abbrev pub decreases-loop-reference : goal.decreases-loop-reference
decreases-loop-reference l = length l.rest
