-- What a session reads of the tables that the engine holds.
use Rattle.std.specs.Prelude.{◌≡◌, ◌≤◌, ℕ, ℤ, Bool, true, false, List, Option, Result, Ok, Err, is_some, unwrap_or, [], IsTrue, if◌then◌else◌}
use Rattle.jet_base.specs.declared.replies.Jet.{Jet}
use Rattle.jet_base.specs.declared.replies.Jet.TheVariants as jet
use Rattle.column_set.specs.RecordValues.{RecordFields, record_fits, record_size, values_of}
use Rattle.index_derive.specs.declared.entries.Place.{Place}
use Rattle.index_derive.specs.declared.entries.Place.TheVariants.{On}
use Rattle.index_derive.specs.declared.rules.Schema.{Schema}
use Rattle.index_derive.specs.Entries.{is_escrow_column}
use Rattle.cursor_nav.specs.Places.{Pair, place_bookmark}
use Rattle.database_state.specs.Table.{record_in}
use Rattle.session_local.specs.Local.{OpenCursor}
use Rattle.session_local.specs.Navigating.{EntriesOf, RecordsOf}
use Rattle.stored_variants.specs.StoredVersions.{seen_entries}
use Rattle.version_cleanup.specs.Cleaning.{reader_in}
use Rattle.version_store.specs.declared.calls.Reader.{Reader}
use Rattle.laws_versions.specs.EscrowNumbers.{holds_number}
use Rattle.laws_versions.specs.EscrowSums.{amounts_to, escrow_value, seen_value}
use Rattle.laws_engine.specs.HeldRecords.{seen_record}
use Rattle.laws_engine.specs.HeldSums.{unseen_sums}
use Rattle.laws_engine.specs.ViewedRecords.{viewed_record}
use Rattle.laws_engine.specs.VersionedTables.{VersionedTables}
use Rattle.laws_engine.specs.EngineState.{EngineState}

-- The record under a bookmark whose row a reader is shown. Its escrow columns may have sums of others that the reader does not
-- see.
abbrev pub shown_record : Reader → VersionedTables → ℕ → List ℕ → Option RecordFields
shown_record reader store table bookmark = seen_record table bookmark reader (record_in store.tables table bookmark) store.held

abbrev pub has_shown : Reader → VersionedTables → RecordsOf
has_shown reader store table bookmark = is_some (shown_record reader store table bookmark)

-- ---- a session of the engine

-- the entries of an index as the session sees its table
abbrev pub entries_for : EngineState → ℕ → EntriesOf
entries_for engine session = seen_entries (reader_in session engine.sessions) engine.store

-- the record whose row the session is shown
abbrev pub shown_for : EngineState → ℕ → ℕ → List ℕ → Option RecordFields
shown_for engine session = shown_record (reader_in session engine.sessions) engine.store

-- the record as the session sees it: without the sums of others that it does not see
abbrev pub record_for : EngineState → ℕ → ℕ → List ℕ → Option RecordFields
record_for engine session table bookmark = viewed_record table bookmark (reader_in session engine.sessions) (record_in engine.store.tables table bookmark) engine.store.held

-- the amounts of these sums in a column of the record
abbrev pub unseen_amounts : EngineState → ℕ → ℕ → List ℕ → ℕ → List ℤ
unseen_amounts engine session table bookmark column = amounts_to column (unseen_sums table bookmark (reader_in session engine.sessions) engine.store.held)

abbrev pub records_for : EngineState → ℕ → RecordsOf
records_for engine session = has_shown (reader_in session engine.sessions) engine.store

-- ---- rows, and the records that a session sees

-- The record of a row, and the record as a session sees it, which sees none of these amounts. The row's has room and fits its
-- columns. Both have the same values in each column but those of sums, where each holds a number.
pub record IsRowOf (schema : Schema) (amounts : ℕ → List ℤ) (row seen : RecordFields) : Type 0 where
  pub small : record_size row ≤ 1700
  pub fits : IsTrue (record_fits schema.columns row)
  pub plain : (column : ℕ) → is_escrow_column schema column ≡ false → values_of seen column ≡ values_of row column
  pub stored : (column : ℕ) → is_escrow_column schema column ≡ true → holds_number row column ≡ true
  pub held : (column : ℕ) → is_escrow_column schema column ≡ true → holds_number seen column ≡ true
  pub number : (column : ℕ) → is_escrow_column schema column ≡ true → escrow_value seen column ≡ seen_value (escrow_value row column) (amounts column)

-- the record that the session sees at a cursor, with no value where there is none
abbrev pub fields_at : EngineState → ℕ → OpenCursor → RecordFields
fields_at engine session c = unwrap_or (record_for engine session c.cursor.table (place_bookmark c.cursor.place)) []

-- the same of the row of the record at a cursor
abbrev pub IsRowAt : EngineState → ℕ → OpenCursor → RecordFields → Type 0
IsRowAt engine session c row =
    IsRowOf c.schema (unseen_amounts engine session c.cursor.table (place_bookmark c.cursor.place)) row (fields_at engine session c)

-- ---- the entry at a cursor

-- the entry at a place, whose record the table has
abbrev pub entry_at : (List ℕ → Bool) → Place → Result Pair Jet
entry_at has (On key bookmark) = if has bookmark then Ok (key, bookmark) else Err jet.RecordDeleted
entry_at has _ = Err jet.NoCurrentRecord

abbrev pub CurrentEntry : (List ℕ → Bool) → Place → Result Pair Jet → Type 0
CurrentEntry has place result = result ≡ entry_at has place
