-- What an update asks of a unique index, by the held changes and of the state.
use Rattle.std.proofs.Common.{◌≡◌, ℕ, true, not, ◌&&◌, List, [], ◌∷◌, Option, Some, None, filter, option_map, unwrap_or, refl, sym, ap, ◌∙◌}
use Rattle.std.specs.Prelude.{bytes_eq, is_some, IsSomeAnd}
use Rattle.std.specs.List.{AllByRecursion, list_any}
use Rattle.common_lemmas.proofs.Lists.{all_weaker}
use Rattle.common_lemmas.proofs.Booleans.{impossible}
use Rattle.column_set.specs.RecordValues.{RecordFields}
use Rattle.cursor_nav.specs.Places.{Pair}
use Rattle.database_state.specs.Conflicts.{has_key_conflict as has_key_conflict_in, yields_key}
use Rattle.database_state.specs.Puts.{is_replaced, is_taken, new_keys, replaced_record}
use Rattle.database_state.specs.State.{DatabaseState, PastChange, transaction_of}
use Rattle.database_state.specs.Table.{Table, index_entries, row_at, rows_of, schema_of, table_with_id}
use Rattle.database_state.specs.View.{view}
use Rattle.index_derive.specs.declared.rules.IndexRule.{IndexRule}
use Rattle.index_derive.specs.declared.rules.Schema.{Schema}
use Rattle.index_derive.specs.Entries.{key_list}
use Rattle.jet_base.specs.declared.replies.Jet.TheVariants as jet
use Rattle.laws_versions.specs.Records.{Records, records_of}
use Rattle.laws_versions.specs.History.{without_rows}
use Rattle.laws_versions.proofs.HistoryLemmas.Viewing.{same_there}
use Rattle.laws_versions.specs.KeySums.{HasKeyBefores, SeesNoSum}
use Rattle.version_store.specs.declared.calls.Reader.{Reader}
use Rattle.laws_engine.specs.HeldRecords.{has_key_conflict}
use Rattle.laws_engine.specs.Holding.{Holds, begin_of}
use Rattle.laws_engine.specs.VersionedTables.{VersionedTables, seen_tables}
use Rattle.laws_engine.proofs.TableLemmas.HeldSums.{keys_shown}
use Rattle.laws_engine.proofs.TableLemmas.Rising.{found_without}
use Rattle.laws_engine.proofs.TableLemmas.Views.{seen_defined, view_defined}
use Rattle.table_versions.specs.KeyConflicts.{has_conflict_over, replaced_seen, unique_refusals}
use Rattle.table_versions.specs.Shown.{FindsShown, ShowsEntries}
use Rattle.stored_variants.specs.StoredVersions.{entries_in}

-- the law that it rests on
abbrev pub TellsConflicts : Type 0
TellsConflicts =
    (base : Records) (dropped kept : List PastChange) (store : VersionedTables) (state : DatabaseState) → Holds base dropped kept store state
    → (reader : Reader) → reader.begin ≡ begin_of (transaction_of state reader.session.0) → (table : ℕ) (schema : Schema) (rule : IndexRule)
    → SeesNoSum rule table kept → HasKeyBefores rule schema table base kept → (key : List ℕ)
    → has_key_conflict reader (records_of store.tables) table rule schema key store.held ≡ has_key_conflict_in state reader.session.0 table schema rule key

-- ---- the table that is shown

some_table : (o : Option Table) (seen : Table) → option_map without_rows o ≡ Some (without_rows seen) → IsSomeAnd o (λ t. schema_of t ≡ schema_of seen)
some_table None seen e = impossible (ap is_some e)
some_table (Some t) seen e = ap (λ (o : Option Table). schema_of (unwrap_or o t)) e

-- it has the schema of the view's
schema_shown : (base : Records) (dropped kept : List PastChange) (store : VersionedTables) (state : DatabaseState) → Holds base dropped kept store state → (reader : Reader) (table : ℕ) (seen : Table)
    → table_with_id (view state reader.session.0) table ≡ Some seen → IsSomeAnd (table_with_id (seen_tables reader store) table) (λ t. schema_of t ≡ schema_of seen)
schema_shown base dropped kept store state h reader table seen found =
    some_table (table_with_id (seen_tables reader store) table) seen
    (sym (found_without (seen_tables reader store) table)
    ∙ ap (λ (tables : List Table). table_with_id tables table) (seen_defined reader store.held store.tables ∙ h.defined ∙ sym (view_defined base dropped kept store state h reader.session.0))
    ∙ found_without (view state reader.session.0) table
    ∙ ap (option_map without_rows) found)

entries_by : (index : ℕ) (o : Option Table) (schema : Schema) → IsSomeAnd o (λ t. schema_of t ≡ schema) → entries_in index o ≡ index_entries schema (rows_of o) index
entries_by index None schema has = absurd has
entries_by index (Some t) schema has = ap (λ (s : Schema). index_entries s t.rows index) has

-- ---- what is asked of one rule

asked_of_rule : TellsConflicts → ShowsEntries → FindsShown
    → (base : Records) (dropped kept : List PastChange) (store : VersionedTables) (state : DatabaseState) → Holds base dropped kept store state
    → (reader : Reader) → reader.begin ≡ begin_of (transaction_of state reader.session.0)
    → (table : ℕ) (seen : Table) → table_with_id (view state reader.session.0) table ≡ Some seen → AllByRecursion (λ rule. SeesNoSum rule table kept) (schema_of seen).indexes
    → (rule : IndexRule) → SeesNoSum rule table kept × HasKeyBefores rule (schema_of seen) table base kept → (own : Option (List ℕ)) (values : RecordFields)
    → unique_refusals reader store table (schema_of seen) rule own values
    ≡ (list_any (has_key_conflict_in state reader.session.0 table (schema_of seen) rule) (new_keys rule (schema_of seen) (replaced_record seen.rows own) values), jet.WriteConflict)
    ∷ (list_any (is_taken (schema_of seen) seen.rows rule own) (key_list rule (schema_of seen) values), jet.KeyDuplicate) ∷ []
asked_of_rule tells shows finds base dropped kept store state h reader e table seen found plain rule apart own values =
    λ i. (conflicts i, jet.WriteConflict) ∷ (taken i, jet.KeyDuplicate) ∷ []
  where
    there : is_some (table_with_id store.tables table) ≡ true
    there = sym (same_there (view state reader.session.0) store.tables (view_defined base dropped kept store state h reader.session.0 ∙ sym h.defined) table) ∙ ap is_some found

    over : (key : List ℕ) → has_conflict_over reader store table rule (schema_of seen) key ≡ has_key_conflict_in state reader.session.0 table (schema_of seen) rule key
    over key = tells base dropped kept store state h reader e table (schema_of seen) rule apart.0 apart.1 key

    replaced : (own : Option (List ℕ)) (key : List ℕ) → yields_key rule (schema_of seen) key (replaced_seen reader store table own) ≡ yields_key rule (schema_of seen) key (replaced_record seen.rows own)
    replaced None key = refl
    replaced (Some own) key =
        ap (yields_key rule (schema_of seen) key) (sym (finds reader store table own there))
        ∙ keys_shown base dropped kept store state h reader e table rule (schema_of seen) apart.0 key own
        ∙ ap (λ (o : Option Table). yields_key rule (schema_of seen) key (row_at (rows_of o) own)) found

    conflicts : list_any (has_conflict_over reader store table rule (schema_of seen)) (new_keys rule (schema_of seen) (replaced_seen reader store table own) values)
        ≡ list_any (has_key_conflict_in state reader.session.0 table (schema_of seen) rule) (new_keys rule (schema_of seen) (replaced_record seen.rows own) values)
    conflicts = λ i. list_any (λ key. over key i) (filter (λ key. not (replaced own key i)) (key_list rule (schema_of seen) values))

    entries : entries_in rule.id.0 (table_with_id (seen_tables reader store) table) ≡ index_entries (schema_of seen) seen.rows rule.id.0
    entries =
        entries_by rule.id.0 (table_with_id (seen_tables reader store) table) (schema_of seen) (schema_shown base dropped kept store state h reader table seen found)
        ∙ shows base dropped kept store state h reader e table (schema_of seen) plain rule.id.0
        ∙ ap (λ (o : Option Table). index_entries (schema_of seen) (rows_of o) rule.id.0) found

    taken : list_any (λ key. list_any (λ entry. bytes_eq entry.0 key && not (is_replaced own entry.1)) (entries_in rule.id.0 (table_with_id (seen_tables reader store) table))) (key_list rule (schema_of seen) values)
        ≡ list_any (is_taken (schema_of seen) seen.rows rule own) (key_list rule (schema_of seen) values)
    taken = ap (λ (l : List Pair). list_any (λ key. list_any (λ (entry : Pair). bytes_eq entry.0 key && not (is_replaced own entry.1)) l) (key_list rule (schema_of seen) values)) entries

-- ---- of each

pub asked_of_the_state : TellsConflicts → ShowsEntries → FindsShown
    → (base : Records) (dropped kept : List PastChange) (store : VersionedTables) (state : DatabaseState) → Holds base dropped kept store state
    → (reader : Reader) → reader.begin ≡ begin_of (transaction_of state reader.session.0)
    → (table : ℕ) (seen : Table) → table_with_id (view state reader.session.0) table ≡ Some seen
    → AllByRecursion (λ rule. SeesNoSum rule table kept × HasKeyBefores rule (schema_of seen) table base kept) (schema_of seen).indexes
    → AllByRecursion (λ rule. (own : Option (List ℕ)) (values : RecordFields)
    → unique_refusals reader store table (schema_of seen) rule own values
    ≡ (list_any (has_key_conflict_in state reader.session.0 table (schema_of seen) rule) (new_keys rule (schema_of seen) (replaced_record seen.rows own) values), jet.WriteConflict)
    ∷ (list_any (is_taken (schema_of seen) seen.rows rule own) (key_list rule (schema_of seen) values), jet.KeyDuplicate) ∷ []) (schema_of seen).indexes
asked_of_the_state tells shows finds base dropped kept store state h reader e table seen found apart =
    let IsApart : IndexRule → Type 0 = λ rule. SeesNoSum rule table kept × HasKeyBefores rule (schema_of seen) table base kept in
    all_weaker IsApart
    (λ rule. (own : Option (List ℕ)) (values : RecordFields)
    → unique_refusals reader store table (schema_of seen) rule own values
    ≡ (list_any (has_key_conflict_in state reader.session.0 table (schema_of seen) rule) (new_keys rule (schema_of seen) (replaced_record seen.rows own) values), jet.WriteConflict)
    ∷ (list_any (is_taken (schema_of seen) seen.rows rule own) (key_list rule (schema_of seen) values), jet.KeyDuplicate) ∷ [])
    (asked_of_rule tells shows finds base dropped kept store state h reader e table seen found
    (all_weaker IsApart (λ rule. SeesNoSum rule table kept) (λ rule both. both.0) (schema_of seen).indexes apart))
    (schema_of seen).indexes apart
