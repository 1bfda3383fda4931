-- The keys of the unique indexes of an image.
use Rattle.std.specs.Prelude.{ℕ, Bool, true, not, ◌&&◌, ◌||◌, ◌==◌, nat_le, bytes_eq, List, [], ◌∷◌, length, map, filter, Option, Some, None, if◌then◌else◌}
use Rattle.std.specs.List.{list_all}
use Rattle.cursor_nav.specs.Places.{Pair}
use Rattle.column_set.specs.ChangedRecords.{changed_bookmark, changed_table}
use Rattle.database_state.specs.Conflicts.{yields_key}
use Rattle.database_state.specs.State.{PastChange, Transaction}
use Rattle.database_state.specs.Table.{Rows, Table, rows_of, schema_of, table_with_id}
use Rattle.index_derive.specs.declared.rules.IndexRule.{IndexRule}
use Rattle.index_derive.specs.declared.rules.Schema.{Schema}
use Rattle.index_derive.specs.Entries.{is_unique}
use Rattle.laws_versions.specs.History.{is_apart}
use Rattle.version_store.specs.HeldChanges.{HeldChange}
use Rattle.image_findings.specs.EntryFindings.{wanted_entries}
use Rattle.image_findings.specs.Images.{Finding, at_least_key, first_of}
use Rattle.image_findings.specs.Images.Finding.{Unique}
use Rattle.image_findings.specs.TableContents.{TableContents}

-- The records of all tables before the held changes, the held changes as past ones, and the transactions that stand.
pub record HeldHistory : Type 0 where
  pub first : List Table
  pub past : List PastChange
  pub transactions : ℕ → Option Transaction

-- ---- who has a key

abbrev pub holders : IndexRule → Schema → List ℕ → Rows → List (List ℕ)
holders rule schema key rows = map (λ row. row.0) (filter (λ row. yields_key rule schema key (Some row.1)) rows)

abbrev pub without_holder : List ℕ → List (List ℕ) → List (List ℕ)
without_holder bookmark list = filter (λ other. not (bytes_eq bookmark other)) list

abbrev pub holders_after : IndexRule → Schema → List ℕ → PastChange → List (List ℕ) → List (List ℕ)
holders_after rule schema key item list =
    if yields_key rule schema key item.after then changed_bookmark item.change ∷ without_holder (changed_bookmark item.change) list else without_holder (changed_bookmark item.change) list

-- ---- keys that changes bring

abbrev pub brings_key : IndexRule → Schema → List ℕ → PastChange → Bool
brings_key rule schema key item = yields_key rule schema key item.after && not (yields_key rule schema key item.before)

-- a change of another record had the key in the record before it
abbrev pub had_key : IndexRule → Schema → ℕ → List ℕ → PastChange → PastChange → Bool
had_key rule schema table key later earlier =
    (changed_table earlier.change == table) && (not (bytes_eq (changed_bookmark later.change) (changed_bookmark earlier.change)) && yields_key rule schema key earlier.before)

-- No other record has the key, and each earlier change that had it in another record is apart from this one.
abbrev pub may_bring : IndexRule → Schema → ℕ → List ℕ → (ℕ → Option Transaction) → List PastChange → List (List ℕ) → PastChange → Bool
may_bring rule schema table key transactions earlier list item =
    list_all (bytes_eq (changed_bookmark item.change)) list && list_all (λ e. not (had_key rule schema table key item e) || is_apart transactions e item) earlier

-- Whoever brings the key to a record may, of the changes of a table in turn.
abbrev pub is_free_through : IndexRule → Schema → ℕ → List ℕ → (ℕ → Option Transaction) → List PastChange → List (List ℕ) → List PastChange → Bool
is_free_through rule schema table key transactions earlier list [] = true
is_free_through rule schema table key transactions earlier list (item ∷ items) =
    if changed_table item.change == table
    then (not (brings_key rule schema key item) || may_bring rule schema table key transactions earlier list item)
    && is_free_through rule schema table key transactions (item ∷ earlier) (holders_after rule schema key item list) items
    else is_free_through rule schema table key transactions earlier list items

-- At first one record has the key at most, and it is free whenever a change brings it.
abbrev pub is_unique_key : HeldHistory → Table → IndexRule → List ℕ → Bool
is_unique_key history table rule key =
    let first = holders rule (schema_of table) key (rows_of (table_with_id history.first table.id)) in
    nat_le (length first) 1 && is_free_through rule (schema_of table) table.id key history.transactions [] first history.past

-- ---- findings

-- the least key of a unique index, of those that a variant has, that is not unique
abbrev pub unique_finding : HeldHistory → List HeldChange → TableContents → IndexRule → Option Finding
unique_finding history held t rule =
    if is_unique rule
    then at_least_key (Unique t.table.name rule.name) (filter (λ key. not (is_unique_key history t.table rule key)) (map (λ (p : Pair). p.0) (wanted_entries held t rule)))
    else None

-- the indexes of a table by rising number
abbrev pub key_finding : HeldHistory → List HeldChange → TableContents → Option Finding
key_finding history held t = first_of (map (λ index. unique_finding history held t index.0) t.indexes)
