-- Prepared updates of the code as the definitions see them.
use Rattle.std.specs.Prelude.{List, Option, Some, None, ◌≡◌}
use Rattle.column_set.specs.declared.columns.Column.{Column}
use Rattle.session_local.specs.declared.prepared.Purpose.{Purpose}
use Rattle.session_local.specs.declared.prepared.Purpose.TheVariants.{Insert, Replace}
use Rattle.session_local.specs.declared.prepared.Prepared.{Prepared}
use Rattle.session_local.specs.Local.{OpenCursor, PreparedFor, PreparedUpdate, inserting, replacing}

abbrev pub for_of : Purpose → PreparedFor
for_of (Insert copied) = inserting copied
for_of (Replace bookmark) = replacing bookmark

abbrev pub update_of : Prepared → PreparedUpdate
update_of prepared = record { for = for_of prepared.purpose; values = prepared.buffer.fields }

-- a prepared update has the columns of its table
abbrev pub HasColumns : List Column → Option Prepared → Type 0
HasColumns columns None = Unit {0}
HasColumns columns (Some prepared) = prepared.buffer.columns ≡ columns

-- the same of the table of a cursor, where there is one
abbrev pub FitsCursor : Option OpenCursor → Option Prepared → Type 0
FitsCursor None prepared = Unit {0}
FitsCursor (Some open_cursor) prepared = HasColumns open_cursor.schema.columns prepared
