-- Records: prepared updates, columns, and changes.
use Rattle.std.specs.Prelude.{ℕ, ◌+◌, ◌-◌, ◌==◌, Bool, false, not, nat_lt, length, List, [], ◌∷◌, ◌++◌, filter, fold, take, slice_get, ℤ, pos, Option, Some, None, is_some, is_none, unwrap_or, if◌then◌else◌, bytes_eq}
use Rattle.jet_base.specs.declared.replies.Jet.TheVariants as jet
use Rattle.jet_base.specs.declared.words.Given.{Given}
use Rattle.jet_base.specs.declared.words.ColType.TheVariants as kind
use Rattle.jet_base.specs.ColumnType.{big_endian, is_number_type, number_of}
use Rattle.column_set.specs.declared.columns.Column.{Column}
use Rattle.column_set.specs.declared.changes.Change.{Change}
use Rattle.column_set.specs.declared.changes.Change.TheVariants as change
use Rattle.column_set.specs.RecordValues.{RecordFields, values_of, with_values, column_named, is_missing_a_value}
use Rattle.record_edit.specs.SetColumn.{set_refusals, size_refusals, fields_after}
use Rattle.index_derive.specs.declared.rules.IndexRule.{IndexRule}
use Rattle.index_derive.specs.declared.rules.Schema.{Schema}
use Rattle.index_derive.specs.Entries.{primary_key}
use Rattle.column_set.specs.Refusals.{Refusals}
use Rattle.database_state.specs.Table.{Rows, row_at}
use Rattle.index_derive.specs.Schemas.{primary_rule}
use Rattle.database_state.specs.Changes.{escrow_bytes}
use Rattle.database_state.specs.Conflicts.{has_write_conflict}
use Rattle.database_state.specs.Puts.{put_refusals}
use Rattle.session_local.specs.Answer.{Nothing, Number, Bytes}
use Rattle.session_local.specs.Local.{LocalState, OpenCursor, PreparedUpdate, PreparedFor, inserting, replacing, with_cursor, has_replace_of}
use Rattle.cursor_nav.specs.Places.{place_bookmark}
use Rattle.session_local.specs.Outcome.{CallInputs, Outcome, said, refused, done, unless, step_of_change, rows_seen, is_outside, number_refusals, current_refusals, span_refusals}
use Rattle.session_local.specs.CursorCalls.{whole}

-- ---- what a call asks of the record under the cursor

abbrev pub bookmark_at : OpenCursor → List ℕ
bookmark_at open_cursor = place_bookmark open_cursor.cursor.place

-- the record that the session sees under the cursor, with no value where there is none
abbrev pub record_at : CallInputs → OpenCursor → RecordFields
record_at asked open_cursor = unwrap_or (row_at (rows_seen asked open_cursor) (bookmark_at open_cursor)) []

abbrev pub current : CallInputs → OpenCursor → Refusals
current asked open_cursor = current_refusals (rows_seen asked open_cursor) open_cursor.cursor.place

-- a replace of the record is prepared on a cursor of this very session
abbrev pub own_refusals : CallInputs → OpenCursor → Refusals
own_refusals asked open_cursor = (has_replace_of asked.local open_cursor.cursor.table (bookmark_at open_cursor), jet.SessionWriteConflict) ∷ []

abbrev pub conflict_refusals : CallInputs → Change → Refusals
conflict_refusals asked made = (has_write_conflict asked.state asked.session made, jet.WriteConflict) ∷ []

abbrev pub transaction_refusals : CallInputs → Refusals
transaction_refusals asked = (is_outside asked, jet.NotInTransaction) ∷ []

abbrev pub drop_at : OpenCursor → Change
drop_at open_cursor = change.Drop (record { 0 = open_cursor.cursor.table }) (bookmark_at open_cursor)

abbrev pub hold_at : OpenCursor → Change
hold_at open_cursor = change.Hold (record { 0 = open_cursor.cursor.table }) (bookmark_at open_cursor)

-- ---- prepared updates

abbrev pub with_prepared : CallInputs → OpenCursor → Option PreparedUpdate → LocalState
with_prepared asked open_cursor prepared = with_cursor asked.local (record open_cursor { prepared = prepared })

abbrev pub prepared_refusals : OpenCursor → Refusals
prepared_refusals open_cursor = (is_some open_cursor.prepared, jet.AlreadyPrepared) ∷ []

-- The sums of a new record begin at 0, also in a copy.
abbrev pub with_sums_at_zero : List Column → RecordFields → RecordFields
with_sums_at_zero columns values =
    fold (λ fields column. with_values fields column.id.0 ((0 ∷ 0 ∷ 0 ∷ 0 ∷ []) ∷ [])) values (filter (λ c. c.escrow) columns)

abbrev pub prepare_insert : CallInputs → OpenCursor → Outcome
prepare_insert asked open_cursor =
    unless asked (prepared_refusals open_cursor)
    (λ _. done (with_prepared asked open_cursor (Some (record { for = inserting None; values = with_sums_at_zero open_cursor.schema.columns [] }))) Nothing None)

abbrev pub prepare_copy : CallInputs → OpenCursor → Outcome
prepare_copy asked open_cursor =
    unless asked (prepared_refusals open_cursor ++ current asked open_cursor)
    (λ _. done
    (with_prepared asked open_cursor (Some (record {
      for = inserting (Some (bookmark_at open_cursor));
      values = with_sums_at_zero open_cursor.schema.columns (record_at asked open_cursor);
    })))
    Nothing None)

-- A replace locks its record against the writes of others.
abbrev pub prepare_replace : CallInputs → OpenCursor → Outcome
prepare_replace asked open_cursor =
    unless asked
    (prepared_refusals open_cursor
    ++ transaction_refusals asked
    ++ current asked open_cursor
    ++ own_refusals asked open_cursor
    ++ conflict_refusals asked (hold_at open_cursor)
    ++ number_refusals asked
    ++ span_refusals asked (hold_at open_cursor))
    (λ _. done
    (with_prepared asked open_cursor (Some (record { for = replacing (bookmark_at open_cursor); values = record_at asked open_cursor })))
    Nothing
    (step_of_change asked (hold_at open_cursor)))

abbrev pub cancel_update : CallInputs → OpenCursor → Outcome
cancel_update asked open_cursor =
    unless asked ((is_none open_cursor.prepared, jet.UpdateNotPrepared) ∷ [])
    (λ _. done (with_prepared asked open_cursor None) Nothing None)

-- what follows with the prepared update and a column of the table
abbrev pub on_prepared : CallInputs → Option PreparedUpdate → (PreparedUpdate → Outcome) → Outcome
on_prepared asked None next = refused asked jet.UpdateNotPrepared
on_prepared asked (Some prepared) next = next prepared

abbrev pub on_column : CallInputs → Option Column → (Column → Outcome) → Outcome
on_column asked None next = refused asked jet.ColumnNotFound
on_column asked (Some column) next = next column

-- ---- columns

abbrev pub set_column_in : CallInputs → OpenCursor → PreparedUpdate → ℕ → Given → Column → Outcome
set_column_in asked open_cursor prepared sequence value column =
    unless asked (set_refusals column sequence value prepared.values)
    (λ _. unless asked (size_refusals column sequence value prepared.values)
    (λ _. done (with_prepared asked open_cursor (Some (record prepared { values = fields_after column sequence value prepared.values }))) Nothing None))

abbrev pub set_column : CallInputs → OpenCursor → List ℕ → ℕ → Given → Outcome
set_column asked open_cursor name sequence value =
    on_prepared asked open_cursor.prepared
    (λ prepared. on_column asked (column_named open_cursor.schema.columns name) (set_column_in asked open_cursor prepared sequence value))

-- a number as one, other bytes up to the most that was asked for
abbrev pub value_shown : CallInputs → Column → ℕ → Option (List ℕ) → Outcome
value_shown asked column most None = refused asked jet.ColumnNull
value_shown asked column most (Some value) =
    if is_number_type column.kind then said asked jet.Success (Number (number_of column.kind value))
    else said asked (if nat_lt most (length value) then jet.BufferTruncated else jet.Success) (Bytes (take most value) (length value))

-- Sequence 0 asks for the count of values.
abbrev pub column_shown : CallInputs → ℕ → ℕ → RecordFields → Column → Outcome
column_shown asked sequence most fields column =
    let values = values_of fields column.id.0 in
    if sequence == 0 then said asked jet.Success (Number (pos (length values)))
    else value_shown asked column most (slice_get values (sequence - 1))

abbrev pub retrieve_column : CallInputs → OpenCursor → List ℕ → ℕ → ℕ → Outcome
retrieve_column asked open_cursor name sequence most =
    unless asked (current asked open_cursor)
    (λ _. on_column asked (column_named open_cursor.schema.columns name) (column_shown asked sequence most (record_at asked open_cursor)))

abbrev pub retrieve_copy : CallInputs → OpenCursor → List ℕ → ℕ → ℕ → Outcome
retrieve_copy asked open_cursor name sequence most =
    on_prepared asked open_cursor.prepared
    (λ prepared. on_column asked (column_named open_cursor.schema.columns name) (column_shown asked sequence most prepared.values))

-- ---- Update

-- the number of the entry that the change will be: outside a transaction its begin comes before it
abbrev pub number_of_change : CallInputs → ℕ
number_of_change asked = asked.state.number + (if is_outside asked then 2 else 1)

abbrev pub inserted_bookmark : CallInputs → Schema → Option IndexRule → RecordFields → List ℕ
inserted_bookmark asked schema None values = big_endian 8 (number_of_change asked)
inserted_bookmark asked schema (Some rule) values = primary_key rule schema values

-- the record's primary key, or else the number of the entry that inserts it, in 8 bytes big-endian; a replace keeps it
abbrev pub bookmark_for : CallInputs → Schema → PreparedFor → RecordFields → List ℕ
bookmark_for asked schema (inserting copied) values = inserted_bookmark asked schema (primary_rule schema) values
bookmark_for asked schema (replacing bookmark) values = bookmark

abbrev pub replaced_by : PreparedFor → Option (List ℕ)
replaced_by (inserting copied) = None
replaced_by (replacing bookmark) = Some bookmark

abbrev pub is_other_key : Schema → List ℕ → RecordFields → Option IndexRule → Bool
is_other_key schema bookmark values None = false
is_other_key schema bookmark values (Some rule) = not (bytes_eq (primary_key rule schema values) bookmark)

-- whether a replace would change the record's key in the primary index
abbrev pub is_primary_changed : Schema → PreparedFor → RecordFields → Bool
is_primary_changed schema (inserting copied) values = false
is_primary_changed schema (replacing bookmark) values = is_other_key schema bookmark values (primary_rule schema)

-- the record that an insert was copied from, where the session still sees one under that bookmark
abbrev pub copied_in : Rows → PreparedFor → Option (List ℕ)
copied_in rows (inserting None) = None
copied_in rows (inserting (Some bookmark)) = if is_some (row_at rows bookmark) then Some bookmark else None
copied_in rows (replacing bookmark) = None

abbrev pub put_of : CallInputs → OpenCursor → PreparedUpdate → List ℕ → Change
put_of asked open_cursor prepared bookmark =
    change.Put (record { 0 = open_cursor.cursor.table }) bookmark (copied_in (rows_seen asked open_cursor) prepared.for) prepared.values

abbrev pub update_with : CallInputs → OpenCursor → PreparedUpdate → Outcome
update_with asked open_cursor prepared =
    let schema = open_cursor.schema in
    let bookmark = bookmark_for asked schema prepared.for prepared.values in
    let put = put_of asked open_cursor prepared bookmark in
    unless asked
    ((is_missing_a_value schema.columns prepared.values, jet.NullInvalid)
    ∷ (is_primary_changed schema prepared.for prepared.values, jet.RecordPrimaryChanged)
    ∷ put_refusals asked.state asked.session open_cursor.cursor.table schema (rows_seen asked open_cursor) (replaced_by prepared.for) prepared.values
    ++ number_refusals asked
    ++ span_refusals asked put)
    (λ _. done (with_prepared asked open_cursor None) (whole bookmark) (step_of_change asked put))

-- The prepared update ends with success, and stays with every refusal.
abbrev pub update : CallInputs → OpenCursor → Outcome
update asked open_cursor = on_prepared asked open_cursor.prepared (update_with asked open_cursor)

-- ---- the other changes

abbrev pub delete : CallInputs → OpenCursor → Outcome
delete asked open_cursor =
    unless asked
    (current asked open_cursor
    ++ own_refusals asked open_cursor
    ++ conflict_refusals asked (drop_at open_cursor)
    ++ number_refusals asked
    ++ span_refusals asked (drop_at open_cursor))
    (λ _. done asked.local Nothing (step_of_change asked (drop_at open_cursor)))

abbrev pub get_lock : CallInputs → OpenCursor → Outcome
get_lock asked open_cursor =
    unless asked
    (transaction_refusals asked
    ++ current asked open_cursor
    ++ conflict_refusals asked (hold_at open_cursor)
    ++ number_refusals asked
    ++ span_refusals asked (hold_at open_cursor))
    (λ _. done asked.local Nothing (step_of_change asked (hold_at open_cursor)))

abbrev pub sum_in : CallInputs → OpenCursor → ℤ → Column → Outcome
sum_in asked open_cursor amount column =
    let sum = change.Add (record { 0 = open_cursor.cursor.table }) (bookmark_at open_cursor) column.id amount in
    unless asked
    ((not column.escrow, jet.InvalidColumnType)
    ∷ own_refusals asked open_cursor
    ++ conflict_refusals asked sum
    ++ number_refusals asked
    ++ span_refusals asked sum)
    (λ _. done asked.local (Number (number_of kind.Long (escrow_bytes (record_at asked open_cursor) column.id.0))) (step_of_change asked sum))

-- The answer is the value in the session's own view, before the sum.
abbrev pub escrow_update : CallInputs → OpenCursor → List ℕ → ℤ → Outcome
escrow_update asked open_cursor name amount =
    unless asked (transaction_refusals asked ++ current asked open_cursor)
    (λ _. on_column asked (column_named open_cursor.schema.columns name) (sum_in asked open_cursor amount))
