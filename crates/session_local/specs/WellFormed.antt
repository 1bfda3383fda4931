-- What a session's own state is like where the database is sound: its cursors have the columns and indexes of tables that
-- were made by lawful steps, and what is prepared on them may be stored.
use Rattle.std.specs.Prelude.{ℕ, Bool, true, not, ◌&&◌, ◌||◌, nat_le, length, List, map, filter, Option, Some, None, IsTrue}
use Rattle.std.specs.List.{list_all}
use Rattle.column_set.specs.declared.columns.Column.{Column}
use Rattle.column_set.specs.RecordValues.{RecordFields, record_size, stands_in}
use Rattle.index_derive.specs.declared.rules.IndexRule.{IndexRule}
use Rattle.index_derive.specs.declared.rules.Schema.{Schema}
use Rattle.database_state.specs.SchemaChanges.{is_type_long}
use Rattle.session_local.specs.declared.request.Request.{Request}
use Rattle.session_local.specs.declared.request.Request.TheVariants as call
use Rattle.session_local.specs.Local.{LocalState, OpenCursor, PreparedUpdate, cursor_labelled}
use Rattle.session_local.specs.SessionSide.{are_distinct}

-- ---- the schema of a table

abbrev pub number_of_column : Column → ℕ
number_of_column column = column.id.0

abbrev pub is_sum : Column → Bool
is_sum column = column.escrow

-- a sum is a Long
abbrev pub is_long_if_sum : Column → Bool
is_long_if_sum column = not column.escrow || is_type_long column.kind

abbrev pub has_short_keys : IndexRule → Bool
has_short_keys rule = nat_le rule.key_most 255

-- No two columns have one number; a sum is a Long, and there are 127 of them at most, since fixed columns have the numbers
-- from 1 to 127; and the keys of each index have 255 bytes at most.
abbrev pub is_well_formed_schema : Schema → Bool
is_well_formed_schema schema =
    are_distinct (map number_of_column schema.columns)
    && list_all is_long_if_sum schema.columns
    && nat_le (length (filter is_sum schema.columns)) 127
    && list_all has_short_keys schema.indexes

-- ---- prepared updates

-- each value stands under a column that takes it, and the record has 1,700 bytes at most
abbrev pub is_well_formed_record : List Column → RecordFields → Bool
is_well_formed_record columns fields = list_all (stands_in columns) fields && nat_le (record_size fields) 1700

abbrev pub is_well_formed_update : List Column → Option PreparedUpdate → Bool
is_well_formed_update columns None = true
is_well_formed_update columns (Some update) = is_well_formed_record columns update.values

-- ---- a session's own state

abbrev pub is_well_formed_cursor : OpenCursor → Bool
is_well_formed_cursor c = is_well_formed_schema c.schema && is_well_formed_update c.schema.columns c.prepared

abbrev pub IsWellFormed : LocalState → Type 0
IsWellFormed local = IsTrue (list_all is_well_formed_cursor local.cursors)

-- the same of a table that is opened
abbrev pub is_well_formed_table : Option (ℕ × Schema) → Bool
is_well_formed_table None = true
is_well_formed_table (Some table) = is_well_formed_schema table.1

-- the same of an update that is prepared on a cursor, where there is the cursor
abbrev pub is_well_formed_on : Option OpenCursor → Option PreparedUpdate → Bool
is_well_formed_on None update = true
is_well_formed_on (Some c) update = is_well_formed_update c.schema.columns update

-- the same of the update that a decision copied from a record
abbrev pub is_well_formed_copy : LocalState → Request → Option PreparedUpdate → Bool
is_well_formed_copy local (call.PrepareUpdate cursor how) update = is_well_formed_on (cursor_labelled local cursor.0) update
is_well_formed_copy local _ update = true
