-- Key conflicts record by record, and keys that a record of the view has.
use Rattle.std.specs.Prelude.{◌≡◌, ℕ, Bool, true, false, not, ◌&&◌, ◌||◌, List, [], ◌∷◌, Option, Some, None, bytes_eq, find, slice_get, IfSome, if◌then◌else◌, option_map}
use Rattle.std.specs.List.{list_any}
use Rattle.column_set.specs.RecordValues.{RecordFields}
use Rattle.database_state.specs.Conflicts.{yields_key}
use Rattle.database_state.specs.Puts.{is_replaced, new_keys}
use Rattle.column_set.specs.Refusals.{Refusals}
use Rattle.database_state.specs.Table.{record_in}
use Rattle.index_derive.specs.declared.rules.IndexRule.{IndexRule}
use Rattle.index_derive.specs.declared.rules.Schema.{Schema}
use Rattle.index_derive.specs.Entries.{key_list}
use Rattle.jet_base.specs.declared.replies.Jet.TheVariants as jet
use Rattle.version_store.specs.declared.calls.Reader.{Reader}
use Rattle.version_store.specs.HeldChanges.{HeldChange, is_standing}
use Rattle.laws_engine.specs.HeldRecords.{HeldRecord, has_key_conflict, is_change_at, is_concurrent, is_standing_rewrite, seen_record}
use Rattle.laws_engine.specs.VersionedTables.{VersionedTables}
use Rattle.stored_variants.specs.RecordRows.{IsRecordRow, TableValues, record_of}
use Rattle.stored_variants.specs.StoredVersions.{seen_entries}

-- ---- conflicts

-- whether the record before a change has the key, or the newest one where there is no such change
abbrev pub yields_before : IndexRule → Schema → List ℕ → Bool → Option HeldRecord → Bool
yields_before rule schema key newest None = newest
yields_before rule schema key newest (Some held) = yields_key rule schema key held.before

-- whether the record before the next put or drop of it has the key, or the newest one, given whether that has it
abbrev pub next_yields : IndexRule → Schema → List ℕ → Bool → ℕ → List ℕ → List HeldRecord → Bool
next_yields rule schema key newest table bookmark changes = yields_before rule schema key newest (find (is_standing_rewrite table bookmark) changes)

-- A key conflict with the changes of one record: some concurrent one has the key in the record before it, or in the one after
-- it.
abbrev pub conflicts_under : Reader → IndexRule → Schema → List ℕ → Bool → ℕ → List ℕ → List HeldRecord → Bool
conflicts_under reader rule schema key newest table bookmark [] = false
conflicts_under reader rule schema key newest table bookmark (held ∷ changes) =
    (is_concurrent reader held && (is_change_at table bookmark held
    && (next_yields rule schema key newest table bookmark (held ∷ changes) || next_yields rule schema key newest table bookmark changes)))
    || conflicts_under reader rule schema key newest table bookmark changes

-- The rows before the puts and drops that stand are rows, and each long value that they name is there.
abbrev pub AreRowsBefore : TableValues → List HeldChange → Type 0
AreRowsBefore longs held = (place : ℕ) (h : HeldChange) → slice_get held place ≡ Some h → is_standing h ≡ true → IfSome h.before (IsRecordRow (longs h.table))

-- whether the row before the change has the key, where the change is a put or a drop that stands; any other leaves it as it is
abbrev pub yields_before_change : TableValues → IndexRule → Schema → List ℕ → Bool → HeldChange → Bool
yields_before_change longs rule schema key after h = if is_standing h then yields_key rule schema key (option_map (record_of (longs h.table)) h.before) else after

-- ---- double keys

-- whether some record that the reader sees has the key in an index, another than the one under the bookmark
abbrev pub is_taken_for : Reader → VersionedTables → ℕ → ℕ → Option (List ℕ) → List ℕ → Bool
is_taken_for reader store table index own key = list_any (λ entry. bytes_eq entry.0 key && not (is_replaced own entry.1)) (seen_entries reader store table index)

-- ---- what an update asks of a unique index

-- the record in whose place another comes, as the reader sees it
abbrev pub replaced_seen : Reader → VersionedTables → ℕ → Option (List ℕ) → Option RecordFields
replaced_seen reader store table None = None
replaced_seen reader store table (Some own) = seen_record table own reader (record_in store.tables table own) store.held

abbrev pub has_conflict_over : Reader → VersionedTables → ℕ → IndexRule → Schema → List ℕ → Bool
has_conflict_over reader store table rule schema key = has_key_conflict reader (record_in store.tables) table rule schema key store.held

-- First a conflict over a key that is new to the record, then a key that another record of the view has.
abbrev pub unique_refusals : Reader → VersionedTables → ℕ → Schema → IndexRule → Option (List ℕ) → RecordFields → Refusals
unique_refusals reader store table schema rule own values =
    (list_any (has_conflict_over reader store table rule schema) (new_keys rule schema (replaced_seen reader store table own) values), jet.WriteConflict)
    ∷ (list_any (is_taken_for reader store table rule.id.0 own) (key_list rule schema values), jet.KeyDuplicate) ∷ []
