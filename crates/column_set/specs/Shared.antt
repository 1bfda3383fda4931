-- What records and lists of columns are that share their memory with copies.
use Rattle.std.specs.Prelude.{ℕ, List, [], Some, None}
use Rattle.std.specs.Arc.{arc_value}
use Rattle.column_set.specs.declared.columns.Column.{Column}
use Rattle.column_set.specs.declared.columns.Columns.TheInside as columns
use Rattle.column_set.specs.declared.records.Record.TheInside as records

abbrev pub record_fields : records.Inside → List (ℕ × List (List ℕ))
record_fields inside = elim inside.shared [ None ↦ [] | Some shared ↦ arc_value shared ]

abbrev pub column_list : columns.Inside → List Column
column_list inside = elim inside.shared [ None ↦ [] | Some shared ↦ arc_value shared ]
