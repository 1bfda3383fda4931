use Rattle.std.proofs.Common.{ℕ, List, length}
use Rattle.std.specs.Prelude.{bytes_eq}
use Rattle.std.specs.List.{list_any}
use Rattle.column_set.specs.OtherValues.{StandIn}
use Rattle.column_set.specs.declared.rows.RowValue.{RowValue}
use Rattle.long_rows.specs.RowReferences.{named_by}
use Rattle.image_contents.proofs.NamedParts.{Leads}
use Rattle.image_contents.proofs.values.references.names.Given as goal

-- The values that are left name it where all do.
abbrev pub invariant-loop-found : goal.invariant-loop-found
invariant-loop-found l = (xs : List (ℕ × RowValue)) → StandIn l.fn.values xs → Leads l.rest (λ ys. list_any (bytes_eq l.fn.id) (named_by ys)) (list_any (bytes_eq l.fn.id) (named_by xs))

abbrev pub decreases-loop-found : goal.decreases-loop-found
decreases-loop-found l = length l.rest
