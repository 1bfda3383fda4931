use Rattle.std.proofs.Common.{ℕ, List, length}
use Rattle.column_set.specs.OtherValues.{StandIn}
use Rattle.column_set.specs.declared.rows.RowValue.{RowValue}
use Rattle.image_contents.proofs.CountedRows.{with_left}
use Rattle.image_contents.proofs.NamedParts.{Leads}
use Rattle.image_contents.proofs.values.counts.ReferenceCounts.add_values.Given as goal

-- Those that are counted and those of the values that are left are all.
abbrev pub invariant-loop-found : goal.invariant-loop-found
invariant-loop-found l = (xs : List (ℕ × RowValue)) → StandIn l.fn.values xs → Leads l.rest (with_left l.self) (with_left l.fn.self xs)

abbrev pub decreases-loop-found : goal.decreases-loop-found
decreases-loop-found l = length l.rest
