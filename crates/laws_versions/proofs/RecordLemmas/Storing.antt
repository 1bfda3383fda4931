-- Every record fits its row and its columns, after each entry.
use Rattle.std.proofs.Common.{◌≡◌, ℕ, ◌+◌, ◌≤◌, Bool, true, false, not, ◌&&◌, ◌||◌, cond, List, [], ◌∷◌, Option, Some, None, refl, sym, ap, subst, ◌∙◌, arith}
use Rattle.std.specs.Prelude.{◌==◌, filter, is_none, is_some, length, nat_le, nat_lt, option_map, sum_by, unwrap_or, IfSome}
use Rattle.std.specs.List.{list_all}
use Rattle.std.proofs.lemmas.Bool.Decides.{nat_tests}
use Rattle.std.proofs.lemmas.List.Filters.{sum_by-filter_both}
use Rattle.std.proofs.lemmas.Bool.{and_from, not-true}
use Rattle.common_lemmas.proofs.Booleans.{and_left, and_right, impossible}
use Rattle.common_lemmas.proofs.Lists.{all_stronger}
use Rattle.column_set.specs.declared.columns.Column.{Column}
use Rattle.column_set.specs.RecordValues.{RecordFields, column_of_id, has_value, is_kept_column, record_fits, record_size, remove_by_number, size_of_values, stands_in, values_fit, with_values, tagged_if_long}
use Rattle.index_derive.specs.declared.log.Entry.{Entry}
use Rattle.index_derive.specs.declared.log.EntryKind.{EntryKind}
use Rattle.index_derive.specs.declared.log.EntryKind.TheVariants as entry
use Rattle.index_derive.specs.declared.schema_calls.SchemaStep.{SchemaStep}
use Rattle.index_derive.specs.declared.schema_calls.SchemaStep.TheVariants as step
use Rattle.database_state.specs.Table.{Table, row_at, schema_of, table_with_id}
use Rattle.database_state.specs.Changes.{is_sum}
use Rattle.database_state.specs.SchemaChanges.{columns_with, new_table, schema_refusal, tables_after_step, with_column, with_index, without_column, without_index}
use Rattle.database_state.specs.State.{DatabaseState, PastChange, transaction_of}
use Rattle.database_state.specs.Step.{applied, state_after}
use Rattle.database_state.specs.Lawful.{has_number, is_lawful, is_lawful_kind}
use Rattle.database_state.proofs.Columns.{column_of_id-columns_with, list_all-columns_with}
use Rattle.laws_versions.specs.Records.{Records}
use Rattle.laws_versions.proofs.ChangeLemmas.Tests.{and_second}
use Rattle.laws_versions.specs.History.{IsHistory, IsPlaced}
use Rattle.laws_versions.specs.KeptSteps.{base_after, dropped_after, kept_after, new_change, with_next_number}
use Rattle.laws_versions.proofs.HistoryLemmas.EndEntries.{back}
use Rattle.laws_versions.proofs.HistoryLemmas.LawfulEntries.{keeps_lawful}
use Rattle.laws_versions.specs.Variants.{HasNoSums}
use Rattle.laws_versions.proofs.KeyLemmas.SchemaKeys.{at_found, at_table, mapped_row, no_rows, other_column, other_values, with_last, without_table}
use Rattle.laws_versions.specs.EachRecord.{EachRecordHas}
use Rattle.laws_versions.specs.StoredRecords.{IsStored, leaves_records_short, makes_kept_column}
use Rattle.laws_versions.proofs.RecordLemmas.EachRecord.{GoesOn, PutsHave, any_put, each_begun, each_by_kind, each_changed, each_row, no_sums_keep, plain_change_keeps}
use Rattle.laws_versions.proofs.RecordLemmas.Standing.{plain_sum}

pub stored_goes_on : GoesOn IsStored
stored_goes_on number schema bookmark values h = h

pub stored_puts : (state : DatabaseState) (label : ℕ) → PutsHave IsStored state label
stored_puts state label table rows bookmark copied values found had lawful = parts _ _ _ _ _ _ lawful
  where
    few : (a : ℕ) → nat_le a 1700 ≡ true → a ≤ 1700
    few a e = grind (arith, nat_tests)

    parts : (m i f b e c : Bool) → (record_fits table.columns values && m && nat_le (record_size values) 1700 && i && f && b && e && c) ≡ true → IsStored (state.number + 1) (schema_of table) bookmark values
    parts m i f b e c h =
        let front = and_left _ _ (and_left _ _ (and_left _ _ (and_left _ _ (and_left _ _ h)))) in
        (few (record_size values) (and_right (record_fits table.columns values && m) _ front), and_left _ _ (and_left _ _ front))

-- ---- tests of lists

all_left : {X : Type 0} (p q left : X → Bool) → ((x : X) → left x ≡ true → p x ≡ true → q x ≡ true) → (xs : List X) → list_all p xs ≡ true → list_all q (filter left xs) ≡ true
all_left p q left f [] h = refl
all_left p q left f (x ∷ xs) h = elim (left x) as (λ b. left x ≡ b → list_all q (cond b (x ∷ filter left xs) (filter left xs)) ≡ true) [
  | true ↦ λ e. and_from _ _ (f x e (and_left _ _ h)) (all_left p q left f xs (and_right (p x) _ h))
  | false ↦ λ e. all_left p q left f xs (and_right (p x) _ h)
] refl

-- ---- columns that come and go

column_there : (o : Option Column) (values : List (List ℕ)) → (elim o [ Some column ↦ values_fit column values | None ↦ false ]) ≡ true → is_some o ≡ true
column_there None values h = h
column_there (Some column) values h = refl

-- a record fits one column more
pub fits_with : (column : Column) (columns : List Column) (values : RecordFields) → is_kept_column column ≡ false → record_fits columns values ≡ true → record_fits (columns_with column columns) values ≡ true
fits_with column columns values plain h =
    and_from _ _
    (all_stronger (stands_in columns) (stands_in (columns_with column columns))
    (λ field e. ap (λ (o : Option Column). elim o [ Some c ↦ values_fit c field.1 | None ↦ false ]) (column_of_id-columns_with column field.0 columns (column_there (column_of_id columns field.0) field.1 e)) ∙ e) values (and_left _ _ h))
    (list_all-columns_with (λ c. not (is_kept_column c) || has_value values c.id.0) column columns (and_right (list_all (stands_in columns) values) _ h)
    (ap (λ b. not b || has_value values column.id.0) plain))

-- a record without the values of a column fits the other columns
pub fits_without : (column : ℕ) (table : Table) (values : RecordFields) → record_fits table.columns values ≡ true → record_fits (without_column column table).columns (remove_by_number column values) ≡ true
fits_without column table values h =
    and_from _ _
    (all_left (stands_in table.columns) (stands_in (without_column column table).columns) (λ field. not (field.0 == column))
    (λ field left e. ap (λ (o : Option Column). elim o [ Some c ↦ values_fit c field.1 | None ↦ false ]) (other_column column table field.0 (not-true (field.0 == column) left)) ∙ e) values (and_left _ _ h))
    (all_left (λ c. not (is_kept_column c) || has_value values c.id.0) (λ c. not (is_kept_column c) || has_value (remove_by_number column values) c.id.0) (λ c. not (c.id.0 == column))
    (λ c left e. ap (λ (v : Option (List (List ℕ))). not (is_kept_column c) || nat_lt 0 (length (unwrap_or v []))) (other_values values column c.id.0 (not-true (c.id.0 == column) left)) ∙ e) table.columns
    (and_right (list_all (stands_in table.columns) values) _ h))

smaller : (column : ℕ) (values : RecordFields) → record_size values ≤ 1700 → record_size (remove_by_number column values) ≤ 1700
smaller column values le =
    less (sum_by (λ field. size_of_values field.1) (filter (λ field. not (field.0 == column)) values)) (sum_by (λ field. size_of_values field.1) (filter (λ field. field.0 == column) values)) (sum_by (λ field. size_of_values field.1) values)
    (sum_by-filter_both (λ field. not (field.0 == column)) (λ field. field.0 == column) (λ field. twice (field.0 == column)) (λ field. size_of_values field.1) values) le
  where
    twice : (b : Bool) → b ≡ not (not b)
    twice true = refl
    twice false = refl

    less : (a b n : ℕ) → a + b ≡ n → 2 + n ≤ 1700 → 2 + a ≤ 1700
    less a b n e le = omega (arith, e, le)

-- ---- schema steps

abbrev pub Stores : Table → Type 0
Stores table = (bookmark : List ℕ) → IfSome (row_at table.rows bookmark) (IsStored 0 (schema_of table) bookmark)

stores_with : (column : Column) (table : Table) → (is_kept_column column ≡ true → (bookmark : List ℕ) → row_at table.rows bookmark ≡ None) → Stores table → Stores (with_column column table)
stores_with column table empty h bookmark = elim (is_kept_column column) as (λ b. is_kept_column column ≡ b → IfSome (row_at table.rows bookmark) (IsStored 0 (schema_of (with_column column table)) bookmark)) [
  | true ↦ λ e. subst (λ (o : Option RecordFields). IfSome o (IsStored 0 (schema_of (with_column column table)) bookmark)) (sym (empty e bookmark)) tt
  | false ↦ λ e. by e (row_at table.rows bookmark) (h bookmark)
] refl
  where
    by : is_kept_column column ≡ false → (o : Option RecordFields) → IfSome o (IsStored 0 (schema_of table) bookmark) → IfSome o (IsStored 0 (schema_of (with_column column table)) bookmark)
    by e None s = tt
    by e (Some values) s = (s.0, fits_with column table.columns values e s.1)

stores_without : (column : ℕ) (table : Table) → Stores table → Stores (without_column column table)
stores_without column table h bookmark =
    subst (λ (o : Option RecordFields). IfSome o (IsStored 0 (schema_of (without_column column table)) bookmark)) (sym (mapped_row (λ values. with_values values column []) table.rows bookmark)) (by (row_at table.rows bookmark) (h bookmark))
  where
    by : (o : Option RecordFields) → IfSome o (IsStored 0 (schema_of table) bookmark) → IfSome (option_map (λ values. with_values values column []) o) (IsStored 0 (schema_of (without_column column table)) bookmark)
    by None s = tt
    by (Some values) s = (smaller column values s.0, fits_without column table values s.1)

pub step_stores : (state : DatabaseState) (label : ℕ) (made : SchemaStep) → is_none (schema_refusal state label made) ≡ true → makes_kept_column made ≡ false → ((id : ℕ) → IfSome (table_with_id state.tables id) Stores)
    → (id : ℕ) → IfSome (table_with_id (tables_after_step state.tables made) id) Stores
step_stores state label (step.CreateTable table name) free short h id = with_last Stores (new_table table.0 name) (λ bookmark. tt) state.tables id (h id)
step_stores state label (step.DeleteTable table) free short h id = without_table Stores table.0 state.tables id (h id)
step_stores state label (step.AddColumn table column) free short h id =
    at_table Stores table.0 (with_column (tagged_if_long column)) (λ t. refl) state.tables
    (λ t found s. stores_with (tagged_if_long column) t (λ kept. no_rows t.rows (and_second column.escrow _ (sum column.escrow column.version column.auto kept short) (at_found state label (step.AddColumn table column) t free found).1.1.1.0)) s) h id
  where
    sum : (e v a : Bool) → (e || v || a) ≡ true → (v || a) ≡ false → e ≡ true
    sum true v a k s = refl
    sum false v a k s = impossible (sym s ∙ k)
step_stores state label (step.DeleteColumn table column) free short h id = at_table Stores table.0 (without_column column.0) (λ t. refl) state.tables (λ t found s. stores_without column.0 t s) h id
step_stores state label (step.CreateIndex table rule) free short h id = at_table Stores table.0 (with_index rule) (λ t. refl) state.tables (λ t found s. s) h id
step_stores state label (step.DeleteIndex table index) free short h id = at_table Stores table.0 (without_index index.0) (λ t. refl) state.tables (λ t found s. s) h id

-- ---- any entry

stored_by_kind : (base : Records) (dropped kept : List PastChange) (state : DatabaseState) (label : ℕ) (kind : EntryKind) → IsHistory base dropped kept state → HasNoSums kept → HasNoSums (kept_after state label kind kept) → leaves_records_short kind ≡ false
    → is_lawful_kind state label kind ≡ true → IsHistory (base_after state kind base) (dropped_after kind dropped kept) (kept_after state label kind kept) (applied label kind (with_next_number state)) → EachRecordHas IsStored base kept state
    → EachRecordHas IsStored (base_after state kind base) (kept_after state label kind kept) (applied label kind (with_next_number state))
stored_by_kind base dropped kept state label entry.Enter h none after_none short e after each = each_by_kind IsStored stored_goes_on base kept state label entry.Enter refl each
stored_by_kind base dropped kept state label entry.Leave h none after_none short e after each = each_by_kind IsStored stored_goes_on base kept state label entry.Leave refl each
stored_by_kind base dropped kept state label (entry.Open table) h none after_none short e after each = each_by_kind IsStored stored_goes_on base kept state label (entry.Open table) refl each
stored_by_kind base dropped kept state label (entry.Shut table) h none after_none short e after each = each_by_kind IsStored stored_goes_on base kept state label (entry.Shut table) refl each
stored_by_kind base dropped kept state label entry.Begin h none after_none short e after each = each_by_kind IsStored stored_goes_on base kept state label entry.Begin refl each
stored_by_kind base dropped kept state label entry.Save h none after_none short e after each = each_by_kind IsStored stored_goes_on base kept state label entry.Save refl each
stored_by_kind base dropped kept state label (entry.Change change) h none after_none short e after each =
    each_changed IsStored stored_goes_on base dropped kept state label change h (no_sums_keep IsStored state.number state.tables kept none)
    (plain_change_keeps IsStored (state.number + 1) state.tables change (plain_sum change (back (λ item. is_sum item.change ≡ false) kept _ after_none).0)) (and_right _ _ e) (any_put IsStored state label (stored_puts state label) change)
    (back (IsPlaced (state.number + 1) state.tables (transaction_of state)) kept (new_change label change (with_next_number state) ∷ []) after.keeps.placed).0.3 each
stored_by_kind base dropped kept state label entry.Release h none after_none short e after each = each_by_kind IsStored stored_goes_on base kept state label entry.Release refl each
stored_by_kind base dropped kept state label entry.Undo h none after_none short e after each = each_by_kind IsStored stored_goes_on base kept state label entry.Undo refl each
stored_by_kind base dropped kept state label entry.UndoAll h none after_none short e after each = each_by_kind IsStored stored_goes_on base kept state label entry.UndoAll refl each
stored_by_kind base dropped kept state label entry.Commit h none after_none short e after each = each_by_kind IsStored stored_goes_on base kept state label entry.Commit refl each
stored_by_kind base dropped kept state label (entry.Schema made) h none after_none short e after each =
    each_begun IsStored (applied label (entry.Schema made) (with_next_number state)) (step_stores state label made (and_right _ _ (and_left _ _ e)) short (each_row IsStored base dropped kept state h (no_sums_keep IsStored state.number state.tables kept none) each))

pub stored_kept : (base : Records) (dropped kept : List PastChange) (state : DatabaseState) (made : Entry) → IsHistory base dropped kept state → is_lawful state made ≡ true → HasNoSums kept → HasNoSums (kept_after state made.session.0 made.kind kept)
    → leaves_records_short made.kind ≡ false → EachRecordHas IsStored base kept state → EachRecordHas IsStored (base_after state made.kind base) (kept_after state made.session.0 made.kind kept) (state_after state made)
unfolding is_lawful state_after
stored_kept base dropped kept state made h e none after_none short each =
    stored_by_kind base dropped kept state made.session.0 made.kind h none after_none short (and_right (has_number state.number made.kind) _ e) (keeps_lawful base dropped kept state made h e) each
