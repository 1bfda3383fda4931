-- An open cursor of the code as the definitions see it.
use Rattle.std.specs.Prelude.{option_map}
use Rattle.session_local.specs.declared.open_cursor.OpenCursor.TheInside.{Inside}
use Rattle.session_local.specs.Local.{OpenCursor}
use Rattle.session_local.specs.Preparing.{update_of, HasColumns}

abbrev pub open_cursor : Inside → OpenCursor
open_cursor inside = record {
  label = inside.label.0;
  schema = inside.schema;
  cursor = inside.cursor;
  prepared = option_map update_of inside.prepared;
}

abbrev pub HasItsColumns : Inside → Type 0
HasItsColumns inside = HasColumns inside.schema.columns inside.prepared
