-- Runs of three sessions, for worked examples.
use Rattle.std.specs.Prelude.{ℕ, ℤ, Bool, true, ◌&&◌, List, [], ◌∷◌, map, slice_get, unwrap_or, Option, None}
use Rattle.jet_base.specs.Ids.{table_id, column_id}
use Rattle.column_set.specs.declared.changes.Change.{Change}
use Rattle.column_set.specs.declared.changes.Change.TheVariants.{Drop, Hold, Add}
use Rattle.column_set.specs.RecordValues.{RecordFields}
use Rattle.index_derive.specs.declared.log.EntryKind.{EntryKind}
use Rattle.index_derive.specs.declared.rules.Schema.{Schema}
use Rattle.index_derive.specs.Entries.{key_list, derive}
use Rattle.cursor_nav.specs.Places.{Pair}
use Rattle.database_state.specs.Table.{Rows, schema_of, rows_of, table_with_id}
use Rattle.database_state.specs.State.{DatabaseState, LiveSession, Status, transaction_of}
use Rattle.database_state.specs.Conflicts.{is_concurrent, has_key_conflict}
use Rattle.database_state.specs.View.{newest, view}
use Rattle.database_state.specs.Step.{entry_by, state_after, state_after_all}
use Rattle.database_state.specs.Lawful.{is_lawful}
use Rattle.laws_versions.specs.Records.{records_of}
use Rattle.laws_versions.specs.Readers.{found_record}
use Rattle.laws_versions.specs.EscrowSums.{amounts_to, escrow_value, seen_value, unseen_sums}
use Rattle.laws_versions.specs.Variants.{is_key_held, is_variant_key, shown_entries}
use Rattle.examples_definitions.specs.States.{unique_rule, sample_table, fields, hidden_key}

-- records 3 and 4
abbrev pub first_rows : Rows
first_rows = (hidden_key 3, fields 1 7 0) ∷ (hidden_key 4, fields 2 8 0) ∷ []

abbrev idle : ℕ → LiveSession
idle label = record { label = label; open_tables = []; transaction = None }

-- sessions 1, 2 and 3 stand, and none is in a transaction
abbrev pub first_state : DatabaseState
first_state = record { number = 10; greatest_table = 1; tables = sample_table first_rows ∷ []; sessions = idle 1 ∷ idle 2 ∷ idle 3 ∷ []; past = [] }

-- the state after these entries, each with its session; the first is entry 11
abbrev pub after : List (ℕ × EntryKind) → DatabaseState
after made = state_after_all first_state (map (λ one. entry_by one.0 one.1) made)

abbrev pub lock : ℕ → Change
lock n = Hold (table_id 1) (hidden_key n)

abbrev pub delete : ℕ → Change
delete n = Drop (table_id 1) (hidden_key n)

abbrev pub add : ℕ → ℤ → Change
add n amount = Add (table_id 1) (hidden_key n) (column_id 3) amount

-- what a session sees of record n
abbrev pub shown : DatabaseState → ℕ → ℕ → Option RecordFields
shown state session n = records_of (view state session) 1 (hidden_key n)

-- what the newest state has of record n
abbrev pub latest : DatabaseState → ℕ → Option RecordFields
latest state n = records_of (newest state) 1 (hidden_key n)

-- what a session finds of record n among all past changes
abbrev pub found : DatabaseState → ℕ → ℕ → Option RecordFields
found state session n = found_record session (transaction_of state session) 1 (hidden_key n) (latest state n) state.past

-- the sums of record n that a session does not see in what it finds
abbrev pub unseen : DatabaseState → ℕ → ℕ → List (ℕ × ℤ)
unseen state session n = unseen_sums session (transaction_of state session) 1 (hidden_key n) state.past

-- the number in column 3 of what a session finds of record n, and without these sums
abbrev pub stored_number : DatabaseState → ℕ → ℕ → ℤ
stored_number state session n = escrow_value (unwrap_or (found state session n) []) 3

abbrev pub seen_number : DatabaseState → ℕ → ℕ → ℤ
seen_number state session n = seen_value (stored_number state session n) (amounts_to 3 (unseen state session n))

-- of each past change the record before and after it, its level and its state
abbrev pub befores : DatabaseState → List (Option RecordFields)
befores state = map (λ item. item.before) state.past

abbrev pub afters : DatabaseState → List (Option RecordFields)
afters state = map (λ item. item.after) state.past

abbrev pub levels_of : DatabaseState → List ℕ
levels_of state = map (λ item. item.level) state.past

abbrev pub statuses : DatabaseState → List Status
statuses state = map (λ item. item.status) state.past

-- whether each of these entries may come after those before it
abbrev pub are_lawful : DatabaseState → List (ℕ × EntryKind) → Bool
are_lawful state [] = true
are_lawful state (one ∷ made) = is_lawful state (entry_by one.0 one.1) && are_lawful (state_after state (entry_by one.0 one.1)) made

-- ---- keys of the unique index on column 2

abbrev pub sample_schema : Schema
sample_schema = schema_of (sample_table first_rows)

-- the key of a record with this number in column 2
abbrev pub key_of : ℕ → List ℕ
key_of n = unwrap_or (slice_get (key_list unique_rule sample_schema (fields 0 n 0)) 0) []

-- whether a session meets a key of a concurrent change, by the changes and by the variants
abbrev pub meets_key : DatabaseState → ℕ → ℕ → Bool
meets_key state session n = has_key_conflict state session 1 sample_schema unique_rule (key_of n)

abbrev pub meets_variant : DatabaseState → ℕ → ℕ → Bool
meets_variant state session n = is_key_held (is_concurrent session (transaction_of state session)) (records_of (newest state)) 1 unique_rule sample_schema (key_of n) state.past

-- whether some variant of record n has the key
abbrev pub has_variant : DatabaseState → ℕ → ℕ → Bool
has_variant state key n = is_variant_key (records_of (newest state)) state.past unique_rule sample_schema 1 (key_of key) (hidden_key n)

-- an entry of record n
abbrev pub entry_of : ℕ → ℕ → Pair
entry_of key n = (key_of key, hidden_key n)

-- of these entries those that a session is shown, and those derived of its view
abbrev pub shown_of : DatabaseState → ℕ → List Pair → List Pair
shown_of state session entries = shown_entries (records_of (view state session)) unique_rule sample_schema 1 entries

abbrev pub derived_of : DatabaseState → ℕ → List Pair
derived_of state session = derive unique_rule sample_schema (rows_of (table_with_id (view state session) 1))
