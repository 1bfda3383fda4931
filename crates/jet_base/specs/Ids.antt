-- The identifiers of given numbers.
use Rattle.std.specs.Prelude.{ℕ}
use Rattle.jet_base.specs.declared.ids.Session.{Session}
use Rattle.jet_base.specs.declared.ids.CursorId.{CursorId}
use Rattle.jet_base.specs.declared.ids.TableId.{TableId}
use Rattle.jet_base.specs.declared.ids.ColumnId.{ColumnId}
use Rattle.jet_base.specs.declared.ids.IndexId.{IndexId}

-- the session of this label
abbrev pub session_id : ℕ → Session
session_id label = record { 0 = label }

-- the cursor of this label
abbrev pub cursor_id : ℕ → CursorId
cursor_id label = record { 0 = label }

-- the table of this number
abbrev pub table_id : ℕ → TableId
table_id number = record { 0 = number }

-- the column of this number
abbrev pub column_id : ℕ → ColumnId
column_id number = record { 0 = number }

-- the index of this number
abbrev pub index_id : ℕ → IndexId
index_id number = record { 0 = number }
