-- The keys of unique indexes: where they begin, and that entries and cleans keep them.
use Rattle.std.proofs.Common.{◌≡◌, inl, ℕ, true, false, not, List, [], ◌∷◌, Option, Some, None, refl, sym, ap, subst, ◌∙◌}
use Rattle.std.specs.Prelude.{if◌then◌else◌, is_none, IfSome}
use Rattle.std.specs.List.{AllByRecursion}
use Rattle.common_lemmas.proofs.Booleans.{and_left, and_right}
use Rattle.common_lemmas.proofs.Lists.{all_weaker}
use Rattle.index_derive.specs.declared.rules.IndexRule.{IndexRule}
use Rattle.index_derive.specs.declared.rules.Schema.{Schema}
use Rattle.index_derive.specs.declared.log.Entry.{Entry}
use Rattle.index_derive.specs.declared.log.EntryKind.{EntryKind}
use Rattle.index_derive.specs.declared.log.EntryKind.TheVariants as entry
use Rattle.index_derive.specs.declared.schema_calls.SchemaStep.{SchemaStep}
use Rattle.index_derive.specs.Entries.{has_double_key, is_unique}
use Rattle.database_state.specs.Table.{Table, row_at, rows_of, schema_of, table_with_id}
use Rattle.database_state.specs.Changes.{is_sum}
use Rattle.column_set.specs.ChangedRecords.{changed_table, changed_bookmark}
use Rattle.database_state.specs.State.{DatabaseState, PastChange, Status, Transaction, committed, is_undone, transaction_of, uncommitted, undone}
use Rattle.database_state.specs.Conflicts.{yields_key}
use Rattle.database_state.specs.SchemaChanges.{schema_refusal, tables_after_step}
use Rattle.database_state.specs.Step.{applied, state_after}
use Rattle.database_state.specs.Lawful.{has_next_numbers, has_number, is_lawful, is_lawful_kind}
use Rattle.laws_versions.specs.Records.{Records, after_item, record_after, records_after_items, records_of}
use Rattle.laws_versions.proofs.ChangeLemmas.Folds.{folded-cons, folded-same}
use Rattle.laws_versions.specs.History.{IsHistory, IsOpenIn, IsPlaced, IsPlacedBy}
use Rattle.laws_versions.specs.KeptSteps.{base_after, dropped_after, kept_after, with_next_number}
use Rattle.laws_versions.specs.Readers.{is_standing, was_committed, was_committed_status}
use Rattle.laws_versions.proofs.HistoryLemmas.LawfulEntries.{all_outside, keeps_lawful}
use Rattle.laws_versions.proofs.HistoryLemmas.Lists.{all_both}
use Rattle.laws_versions.proofs.HistoryLemmas.SeenRecords.{newest_records}
use Rattle.laws_versions.specs.UniqueKeys.{AreUnique, HasBookmarkKeys, HasFreeKeys, HasOwnKey, HasUniqueIndexes, HasUniqueKeys, IsSoundIndex, IsUniqueIndex, IsUniqueTable}
use Rattle.laws_versions.specs.KeySums.{IndexesSeeNoSum, SeesNoSum, adds_to_index}
use Rattle.laws_versions.proofs.KeyLemmas.KeySums.{seen_by}
use Rattle.laws_versions.proofs.KeyLemmas.BookmarkKeys.{HasOneEntry, newest_own}
use Rattle.laws_versions.proofs.KeyLemmas.Finding.{unique_newest}
use Rattle.laws_versions.proofs.KeyLemmas.SchemaKeys.{AreTableIndexes, IsTableIndex, step_keeps_indexes, unique_rows}
use Rattle.laws_versions.proofs.KeyLemmas.UniqueKept.{id_of, some_at, unique_by_kind, unique_changed}
use Rattle.laws_versions.proofs.KeyLemmas.UniqueThroughout.{unique_throughout}

-- ---- where no change is kept

-- the records of a table that was found
pub rows_found : (tables : List Table) (id : ℕ) (t : Table) → table_with_id tables id ≡ Some t → (bookmark : List ℕ) → records_of tables t.id bookmark ≡ row_at t.rows bookmark
rows_found tables id t found bookmark = ap (λ k. records_of tables k bookmark) (id_of tables id t found) ∙ ap (λ (o : Option Table). row_at (rows_of o) bookmark) found

pub from_rows : (tables : List Table) (transactions : ℕ → Option Transaction) → ((id : ℕ) → IfSome (table_with_id tables id) AreTableIndexes) → (id : ℕ) → IfSome (table_with_id tables id) (HasUniqueIndexes transactions (records_of tables) [])
from_rows tables transactions h id = some_at AreTableIndexes (HasUniqueIndexes transactions (records_of tables) []) (table_with_id tables id)
    (λ t found each. all_weaker (IsTableIndex t) (λ rule. IsSoundIndex t rule × IsUniqueIndex transactions (records_of tables) [] t rule)
    (λ rule is. (
      is.0,
      λ unique. let keys = is.1 unique in (
        record {
          at_first = λ one other key apart had also. keys.0 one other key apart
              (ap (yields_key rule (schema_of t) key) (sym (rows_found tables id t found one)) ∙ had) (ap (yields_key rule (schema_of t) key) (sym (rows_found tables id t found other)) ∙ also);
          free_keys = tt;
          key_order = tt;
        },
        λ primary. record { at_first = λ bookmark key had. keys.1 primary bookmark key (ap (yields_key rule (schema_of t) key) (sym (rows_found tables id t found bookmark)) ∙ had); changes = tt },
      ),
    )) t.indexes each) (h id)

pub keys_begin : (state : DatabaseState) → ((id : ℕ) → IfSome (table_with_id state.tables id) IsUniqueTable) → HasUniqueKeys (records_of state.tables) [] state
keys_begin state h = record {
  tables = from_rows state.tables (transaction_of state) (λ id. some_at IsUniqueTable AreTableIndexes (table_with_id state.tables id)
      (λ t found each. all_weaker (λ rule. IsSoundIndex t rule × (is_unique rule ≡ true → (has_double_key rule (schema_of t) t.rows ≡ false) × (rule.flags.primary ≡ true → (bookmark : List ℕ) → HasOwnKey rule (schema_of t) bookmark (row_at t.rows bookmark))))
      (IsTableIndex t) (λ rule is. (is.0, λ unique. (unique_rows rule (schema_of t) t.rows (is.1 unique).0, (is.1 unique).1))) t.indexes each) (h id));
}

-- ---- a schema step

-- outside all transactions every change that stands is committed
settled : (number : ℕ) (tables : List Table) (transactions : ℕ → Option Transaction) → ((x : ℕ) → transactions x ≡ None) → (item : PastChange) → IsPlaced number tables transactions item → was_committed None item ≡ is_standing item
settled number tables transactions none item placed = by item.status placed.2
  where
    by : (s : Status) → IsPlacedBy number transactions item s → was_committed_status None s ≡ not (is_undone s)
    by uncommitted h = absurd (subst (IsOpenIn item) (none item.session) h)
    by (committed at) h = refl
    by undone h = refl

all_committed_newest : (base : Records) (dropped kept : List PastChange) (state : DatabaseState) → IsHistory base dropped kept state → ((x : ℕ) → transaction_of state x ≡ None) → records_of state.tables ≡ records_after_items is_standing base kept
all_committed_newest base dropped kept state h none =
    h.keeps.committed ∙ folded-same (was_committed None) is_standing kept
    (all_weaker (IsPlaced state.number state.tables (transaction_of state)) (λ item. was_committed None item ≡ is_standing item) (settled state.number state.tables (transaction_of state) none) kept h.keeps.placed) base

pub to_rows : (base : Records) (dropped kept : List PastChange) (state : DatabaseState) → IsHistory base dropped kept state → IndexesSeeNoSum kept state → (records_of state.tables ≡ records_after_items is_standing base kept) → HasUniqueKeys base kept state
    → (id : ℕ) → IfSome (table_with_id state.tables id) AreTableIndexes
to_rows base dropped kept state h sees is unique id = some_at (HasUniqueIndexes (transaction_of state) base kept) AreTableIndexes (table_with_id state.tables id)
    (λ t found each. all_both (λ rule. IsSoundIndex t rule × IsUniqueIndex (transaction_of state) base kept t rule) (λ rule. SeesNoSum rule t.id kept) (IsTableIndex t)
    (λ rule both plain. (
      both.0,
      λ is_unique_rule. let keys = both.1 is_unique_rule in (
        (λ one other key apart had also.
            (subst (AreUnique rule (schema_of t) t.id) (newest_records base dropped kept state h ∙ sym is) (unique_newest base dropped kept state h rule (schema_of t) t.id plain keys.0)) one other key apart
            (ap (yields_key rule (schema_of t) key) (rows_found state.tables id t found one) ∙ had) (ap (yields_key rule (schema_of t) key) (rows_found state.tables id t found other) ∙ also)),
        λ primary bookmark key had.
            newest_own rule (schema_of t) t.id kept base h.keeps.befores plain (afters_of base dropped kept state h) (keys.1 primary) bookmark key
            (ap (yields_key rule (schema_of t) key) (ap (λ (r : Records). r t.id bookmark) (sym is) ∙ rows_found state.tables id t found bookmark) ∙ had),
      ),
    )) t.indexes each (seen_by kept state sees id t found)) (unique.tables id)
  where
    afters_of : (base : Records) (dropped kept : List PastChange) (state : DatabaseState) → IsHistory base dropped kept state → AllByRecursion (λ item. item.after ≡ record_after item.change item.before) kept
    afters_of base dropped kept state h = all_weaker (IsPlaced state.number state.tables (transaction_of state)) (λ item. item.after ≡ record_after item.change item.before) (λ item p. p.3) kept h.keeps.placed

unique_defined : (base : Records) (dropped kept : List PastChange) (state : DatabaseState) (label : ℕ) (made : SchemaStep) → IsHistory base dropped kept state → IndexesSeeNoSum kept state → is_none (schema_refusal state label made) ≡ true → has_next_numbers state made ≡ true
    → HasUniqueKeys base kept state → HasUniqueKeys (base_after state (entry.Schema made) base) (kept_after state label (entry.Schema made) kept) (applied label (entry.Schema made) (with_next_number state))
unique_defined base dropped kept state label made h sees free numbers unique = record {
  tables = from_rows (tables_after_step state.tables made) (transaction_of (applied label (entry.Schema made) (with_next_number state)))
      (step_keeps_indexes state label made free numbers (to_rows base dropped kept state h sees (all_committed_newest base dropped kept state h (all_outside base dropped kept state label made h free)) unique));
}

-- ---- any entry

by_kind : HasOneEntry → (base : Records) (dropped kept : List PastChange) (state : DatabaseState) (label : ℕ) (kind : EntryKind) → IsHistory base dropped kept state → IndexesSeeNoSum kept state → IndexesSeeNoSum (kept_after state label kind kept) state → is_lawful_kind state label kind ≡ true
    → IsHistory (base_after state kind base) (dropped_after kind dropped kept) (kept_after state label kind kept) (applied label kind (with_next_number state)) → HasUniqueKeys base kept state
    → HasUniqueKeys (base_after state kind base) (kept_after state label kind kept) (applied label kind (with_next_number state))
by_kind one base dropped kept state label entry.Enter h sees sees_after e after unique = unique_by_kind base dropped kept state label entry.Enter refl h sees e after unique
by_kind one base dropped kept state label entry.Leave h sees sees_after e after unique = unique_by_kind base dropped kept state label entry.Leave refl h sees e after unique
by_kind one base dropped kept state label (entry.Open table) h sees sees_after e after unique = unique_by_kind base dropped kept state label (entry.Open table) refl h sees e after unique
by_kind one base dropped kept state label (entry.Shut table) h sees sees_after e after unique = unique_by_kind base dropped kept state label (entry.Shut table) refl h sees e after unique
by_kind one base dropped kept state label entry.Begin h sees sees_after e after unique = unique_by_kind base dropped kept state label entry.Begin refl h sees e after unique
by_kind one base dropped kept state label entry.Save h sees sees_after e after unique = unique_by_kind base dropped kept state label entry.Save refl h sees e after unique
by_kind one base dropped kept state label (entry.Change change) h sees sees_after e after unique =
    unique_changed one base dropped kept state label change h sees sees_after e after unique
by_kind one base dropped kept state label entry.Release h sees sees_after e after unique = unique_by_kind base dropped kept state label entry.Release refl h sees e after unique
by_kind one base dropped kept state label entry.Undo h sees sees_after e after unique = unique_by_kind base dropped kept state label entry.Undo refl h sees e after unique
by_kind one base dropped kept state label entry.UndoAll h sees sees_after e after unique = unique_by_kind base dropped kept state label entry.UndoAll refl h sees e after unique
by_kind one base dropped kept state label entry.Commit h sees sees_after e after unique = unique_by_kind base dropped kept state label entry.Commit refl h sees e after unique
by_kind one base dropped kept state label (entry.Schema made) h sees sees_after e after unique =
    unique_defined base dropped kept state label made h sees (and_right _ _ (and_left _ _ e)) (and_right _ _ e) unique

pub keys_kept : HasOneEntry → (base : Records) (dropped kept : List PastChange) (state : DatabaseState) (made : Entry) → IsHistory base dropped kept state → is_lawful state made ≡ true → IndexesSeeNoSum kept state → IndexesSeeNoSum (kept_after state made.session.0 made.kind kept) state
    → HasUniqueKeys base kept state → HasUniqueKeys (base_after state made.kind base) (kept_after state made.session.0 made.kind kept) (state_after state made)
unfolding is_lawful state_after
keys_kept one base dropped kept state made h e sees sees_after unique =
    by_kind one base dropped kept state made.session.0 made.kind h sees sees_after (and_right (has_number state.number made.kind) _ e) (keeps_lawful base dropped kept state made h e) unique

-- ---- a clean

cleaned_free : (rule : IndexRule) (schema : Schema) (table : ℕ) (number : ℕ) (tables : List Table) (transactions : ℕ → Option Transaction) (base : Records) (item : PastChange) (kept : List PastChange) → (IsPlaced number tables transactions item)
    → (is_standing item ≡ true → is_sum item.change ≡ false → item.before ≡ base (changed_table item.change) (changed_bookmark item.change)) → (changed_table item.change ≡ table → adds_to_index rule item.change ≡ false)
    → HasFreeKeys rule schema table transactions base (item ∷ kept) → HasFreeKeys rule schema table transactions (if is_standing item then after_item base item else base) kept
cleaned_free rule schema table number tables transactions base item kept placed before sum h = record {
  at_first = subst (AreUnique rule schema table) (folded-cons is_standing base item [])
      (unique_throughout rule schema table is_standing (λ item standing. standing) (item ∷ []) base base (before, tt) (sum, tt) (placed.3, tt) (h.free_keys.0, tt) (tt, tt) (λ bookmark. inl (λ key. refl)) h.at_first);
  free_keys = h.free_keys.1;
  key_order = h.key_order.1;
}

cleaned_own : (rule : IndexRule) (schema : Schema) (table : ℕ) (number : ℕ) (tables : List Table) (transactions : ℕ → Option Transaction) (base : Records) (item : PastChange) (kept : List PastChange) → (IsPlaced number tables transactions item)
    → (is_standing item ≡ true → is_sum item.change ≡ false → item.before ≡ base (changed_table item.change) (changed_bookmark item.change)) → (changed_table item.change ≡ table → adds_to_index rule item.change ≡ false)
    → HasBookmarkKeys rule schema table base (item ∷ kept) → HasBookmarkKeys rule schema table (if is_standing item then after_item base item else base) kept
cleaned_own rule schema table number tables transactions base item kept placed before sum h = record {
  at_first = λ bookmark. subst (λ (r : Records). HasOwnKey rule schema bookmark (r table bookmark)) (folded-cons is_standing base item [])
      (newest_own rule schema table (item ∷ []) base (before, tt) (sum, tt) (placed.3, tt) (record { at_first = h.at_first; changes = (h.changes.0, tt) }) bookmark);
  changes = h.changes.1;
}

pub keys_cleaned : (base : Records) (dropped : List PastChange) (item : PastChange) (kept : List PastChange) (state : DatabaseState) → IsHistory base dropped (item ∷ kept) state → IndexesSeeNoSum (item ∷ kept) state
    → HasUniqueKeys base (item ∷ kept) state → HasUniqueKeys (if is_standing item then after_item base item else base) kept state
keys_cleaned base dropped item kept state h sees unique = record {
  tables = λ id. some_at (HasUniqueIndexes (transaction_of state) base (item ∷ kept)) (HasUniqueIndexes (transaction_of state) (if is_standing item then after_item base item else base) kept) (table_with_id state.tables id)
      (λ t found each. all_both (λ rule. IsSoundIndex t rule × IsUniqueIndex (transaction_of state) base (item ∷ kept) t rule) (λ rule. SeesNoSum rule t.id (item ∷ kept))
      (λ rule. IsSoundIndex t rule × IsUniqueIndex (transaction_of state) (if is_standing item then after_item base item else base) kept t rule)
      (λ rule both plain. (
        both.0,
        λ is. let keys = both.1 is in (
          cleaned_free rule (schema_of t) t.id state.number state.tables (transaction_of state) base item kept h.keeps.placed.0 h.keeps.befores.0 plain.0 keys.0,
          λ primary. cleaned_own rule (schema_of t) t.id state.number state.tables (transaction_of state) base item kept h.keeps.placed.0 h.keeps.befores.0 plain.0 (keys.1 primary),
        ),
      )) t.indexes each (seen_by (item ∷ kept) state sees id t found)) (unique.tables id);
}
