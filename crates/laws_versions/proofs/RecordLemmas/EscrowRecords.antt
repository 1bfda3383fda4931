-- Every record holds numbers in its escrow columns, after each entry.
use Rattle.std.proofs.Common.{◌≡◌, ℕ, ◌+◌, suc, Bool, true, false, not, ◌&&◌, ◌||◌, cond, List, [], ◌∷◌, Option, Some, None, refl, sym, ap, subst, ◌∙◌, arith, bytes_eq, inl, inr}
use Rattle.std.specs.Prelude.{◌==◌, ◌⊎◌, filter, if◌then◌else◌, is_none, length, map, nat_le, nat_lt, option_map, slice_get, unwrap_or, IfSome}
use Rattle.std.specs.List.{AllByRecursion, list_all}
use Rattle.std.specs.Ordering.{nat_cmp}
use Rattle.std.specs.FinMap.Entries.{is_sorted-where_key}
use Rattle.std.proofs.lemmas.Bool.Decides.{nat_tests}
use Rattle.std.proofs.lemmas.Bool.{eqb-true}
use Rattle.column_set.specs.declared.changes.Change.{Change}
use Rattle.column_set.specs.declared.changes.Change.TheVariants.{Put, Drop, Hold, Add}
use Rattle.column_set.specs.declared.columns.Column.{Column}
use Rattle.column_set.specs.RecordValues.{RecordFields, column_of_id, has_value, is_kept_column, lookup_by_number, record_fits, remove_by_number, stands_in, values_fit, with_values, tagged_if_long}
use Rattle.index_derive.specs.declared.log.Entry.{Entry}
use Rattle.index_derive.specs.declared.log.EntryKind.{EntryKind}
use Rattle.index_derive.specs.declared.log.EntryKind.TheVariants as entry
use Rattle.index_derive.specs.declared.rules.Schema.{Schema}
use Rattle.index_derive.specs.declared.schema_calls.SchemaStep.{SchemaStep}
use Rattle.index_derive.specs.declared.schema_calls.SchemaStep.TheVariants as step
use Rattle.index_derive.specs.Entries.{is_escrow_column}
use Rattle.database_state.specs.Table.{Rows, Table, row_at, schema_of, table_with_id}
use Rattle.database_state.specs.Changes.{escrow_bytes}
use Rattle.column_set.specs.ChangedRecords.{changed_bookmark, changed_table}
use Rattle.database_state.specs.SchemaChanges.{columns_with, new_table, schema_refusal, tables_after_step, with_column, with_index, without_column, without_index}
use Rattle.database_state.specs.State.{DatabaseState, PastChange, levels, transaction_of}
use Rattle.database_state.specs.View.{view}
use Rattle.database_state.specs.Step.{applied, every_change, is_at_level, state_after}
use Rattle.database_state.specs.Lawful.{has_number, is_lawful, is_lawful_at, is_lawful_kind, is_lawful_put, keeps_escrow}
use Rattle.database_state.proofs.Columns.{list_all-columns_with}
use Rattle.common_lemmas.proofs.Found.{all_found, found_passes}
use Rattle.common_lemmas.proofs.Lists.{all_append, all_filtered, all_map, all_weaker}
use Rattle.common_lemmas.proofs.Booleans.{and_left, and_right, impossible}
use Rattle.common_lemmas.proofs.Numbers.{same_bytes}
use Rattle.laws_versions.specs.Records.{Records, after_item, records_of}
use Rattle.laws_versions.proofs.ChangeLemmas.Tests.{and_second}
use Rattle.laws_versions.specs.History.{IsHistory, IsPlaced, without_rows}
use Rattle.laws_versions.specs.KeptSteps.{base_after, committed_own, dropped_after, is_own_open, kept_after, lowered_own, new_change, undone_where, with_next_number}
use Rattle.laws_versions.specs.Readers.{is_standing}
use Rattle.laws_versions.proofs.HistoryLemmas.EndEntries.{back}
use Rattle.laws_versions.proofs.HistoryLemmas.LawfulEntries.{keeps_lawful}
use Rattle.laws_versions.specs.EscrowNumbers.{IsOfItsType, holds_number, is_number, is_one_number}
use Rattle.laws_versions.proofs.SumLemmas.Puts.{found_has}
use Rattle.laws_versions.proofs.SumLemmas.VeryRecords.{one_value, sum_holds, sum_rises}
use Rattle.laws_versions.proofs.KeyLemmas.KeysOfEntries.{changes_records}
use Rattle.laws_versions.proofs.KeyLemmas.SchemaKeys.{at_found, at_table, mapped_row, no_rows, other_column, other_values, with_last, without_table}
use Rattle.laws_versions.proofs.KeyLemmas.UniqueKept.{same_defined, same_tables}
use Rattle.laws_versions.specs.RecordNumbers.{AddsToEscrow, HasEscrowNumbers, HasItsType, HasSingleSums, HoldsNumbers}
use Rattle.laws_versions.proofs.RecordLemmas.EachRecord.{GoesOn, KeepsRecords, PutHas, RowsHave, SumKeeps, SumsKeep, commit_keeps, each_begun, each_by_kind, each_changed, each_cleaned_where, each_row, each_viewed, lower_keeps, undone_keeps}

numbers_go_on : GoesOn HoldsNumbers
numbers_go_on number schema bookmark values h = h

-- ---- sums

pub sum_keeps : (number : ℕ) (schema : Schema) (bookmark : List ℕ) (change : Change) → SumKeeps (HoldsNumbers number schema bookmark) change
sum_keeps number schema bookmark (Put table at copied values) = tt
sum_keeps number schema bookmark (Drop table at) = tt
sum_keeps number schema bookmark (Hold table at) = tt
sum_keeps number schema bookmark (Add table at column amount) = λ values h. (sum_rises values column.0 amount h.0, λ id escrow. sum_holds values column.0 id amount (h.1 id escrow))

sum_keeps_at : (number : ℕ) (tables : List Table) (change : Change) → IfSome (table_with_id tables (changed_table change)) (λ table. SumKeeps (HoldsNumbers number (schema_of table) (changed_bookmark change)) change)
sum_keeps_at number tables change = by (table_with_id tables (changed_table change))
  where
    by : (found : Option Table) → IfSome found (λ table. SumKeeps (HoldsNumbers number (schema_of table) (changed_bookmark change)) change)
    by None = tt
    by (Some table) = sum_keeps number (schema_of table) (changed_bookmark change) change

pub sums_keep_numbers : (number : ℕ) (tables : List Table) (items : List PastChange) → SumsKeep HoldsNumbers number tables items
sums_keep_numbers number tables [] = tt
sums_keep_numbers number tables (item ∷ items) = (sum_keeps_at number tables item.change, sums_keep_numbers number tables items)

-- ---- a put

abbrev is_escrow : Option Column → Bool
is_escrow found = elim found [ Some column ↦ column.escrow | None ↦ false ]

found_all : (p : Column → Bool) (columns : List Column) (id : ℕ) (c : Column) → list_all p columns ≡ true → column_of_id columns id ≡ Some c → (p c ≡ true) × (c.id.0 ≡ id)
found_all p columns id c h e =
    let at = λ (x : Column). x.id.0 == id in (all_found p at columns c h e, eqb-true c.id.0 id (found_passes at columns c e))

-- one value, which is that of the record in whose place it comes
one_of : (o : Option (List (List ℕ))) (stored : List ℕ) → is_number stored ≡ true → nat_lt 0 (length (unwrap_or o [])) ≡ true → ((values : List (List ℕ)) → o ≡ Some values → nat_le (length values) 1 ≡ true)
    → unwrap_or (slice_get (unwrap_or o []) 0) (0 ∷ 0 ∷ 0 ∷ 0 ∷ []) ≡ stored → is_one_number (unwrap_or o []) ≡ true
one_of None stored h some few e = impossible some
one_of (Some []) stored h some few e = impossible some
one_of (Some (value ∷ [])) stored h some few e = ap is_number e ∙ h
one_of (Some (value ∷ next ∷ values)) stored h some few e = impossible (sym (many (length values)) ∙ few (value ∷ next ∷ values) refl)
  where
    many : (n : ℕ) → nat_le (suc (suc n)) 1 ≡ false
    many n = grind (arith, nat_tests)

-- the bytes in the record that is seen, zeros where there is none
seen_number : (schema : Schema) (number column : ℕ) (bookmark : List ℕ) → is_escrow_column schema column ≡ true → (o : Option RecordFields) → IfSome o (HoldsNumbers number schema bookmark) → is_number (escrow_bytes (unwrap_or o []) column) ≡ true
seen_number schema number column bookmark escrow None h = refl
seen_number schema number column bookmark escrow (Some seen) h = (one_value seen column (h.1 column escrow)).1

parts_of_put : (a m s i f b e c : Bool) → (a && m && s && i && f && b && e && c) ≡ true → (a ≡ true) × (e ≡ true)
parts_of_put a m s i f b e c h = (and_left _ _ (and_left _ _ (and_left _ _ (and_left _ _ (and_left _ _ (and_left _ _ (and_left _ _ h)))))), and_right _ _ (and_left _ _ h))

numbers_of_put : (state : DatabaseState) (label : ℕ) (table : Table) (rows : Rows) (bookmark : List ℕ) (copied : Option (List ℕ)) (values : RecordFields) → HasSingleSums table
    → ((at : List ℕ) → IfSome (row_at rows at) (HoldsNumbers state.number (schema_of table) at)) → is_lawful_put state label table rows bookmark copied values ≡ true
    → (column : ℕ) → is_escrow_column (schema_of table) column ≡ true → holds_number values column ≡ true
numbers_of_put state label table rows bookmark copied values single had lawful column escrow = let parts = parts_of_put _ _ _ _ _ _ _ _ lawful in at parts.0 parts.1 (column_of_id table.columns column) refl escrow
  where
    at : record_fits table.columns values ≡ true → keeps_escrow table.columns (row_at rows bookmark) values ≡ true → (found : Option Column) → column_of_id table.columns column ≡ found → is_escrow found ≡ true → holds_number values column ≡ true
    at fits keeps None e h = impossible h
    at fits keeps (Some c) e h =
        let own = found_all (λ c. not c.escrow || bytes_eq (escrow_bytes values c.id.0) (escrow_bytes (unwrap_or (row_at rows bookmark) []) c.id.0)) table.columns column c keeps e in
        let kept = found_all (λ c. not (is_kept_column c) || has_value values c.id.0) table.columns column c (and_right (list_all (stands_in table.columns) values) _ fits) e in
        let one = found_all (λ c. not c.escrow || not c.multi) table.columns column c single e in
        one_of (lookup_by_number column values) (escrow_bytes (unwrap_or (row_at rows bookmark) []) column)
        (seen_number (schema_of table) state.number column bookmark escrow (row_at rows bookmark) (had bookmark))
        (ap (λ (id : ℕ). has_value values id) (sym own.1) ∙ is_there c.escrow c.version c.auto _ h kept.0)
        (λ found f. few c.multi (nat_le (length found) 1) (second c.escrow (not c.multi) h one.0)
        (and_left (c.multi || nat_le (length found) 1) _
        (ap (λ (o : Option Column). elim o [ Some x ↦ values_fit x found | None ↦ false ]) (sym e) ∙ found_has (stands_in table.columns) column found values (and_left (list_all (stands_in table.columns) values) _ fits) f)))
        (ap (escrow_bytes values) (sym own.1)
        ∙ same_bytes (escrow_bytes values c.id.0) (escrow_bytes (unwrap_or (row_at rows bookmark) []) c.id.0) (second c.escrow _ h own.0)
        ∙ ap (escrow_bytes (unwrap_or (row_at rows bookmark) [])) own.1)
      where
        second : (a b : Bool) → a ≡ true → (not a || b) ≡ true → b ≡ true
        second true b e f = f
        second false b e f = impossible e

        is_there : (a v u b : Bool) → a ≡ true → (not (a || v || u) || b) ≡ true → b ≡ true
        is_there true v u b e f = f
        is_there false v u b e f = impossible e

        few : (m b : Bool) → not m ≡ true → (m || b) ≡ true → b ≡ true
        few true b e f = impossible e
        few false b e f = f

pub put_numbers : (state : DatabaseState) (label : ℕ) (change : Change) → IsOfItsType change → ((id : ℕ) → IfSome (table_with_id state.tables id) HasSingleSums) → PutHas HoldsNumbers state label change
put_numbers state label (Put id bookmark copied values) rise single = λ table rows found had lawful. (
  rise,
  numbers_of_put state label table rows bookmark copied values (subst (λ (o : Option Table). IfSome o HasSingleSums) found (single table.id)) had lawful,
)
put_numbers state label (Drop id bookmark) rise single = tt
put_numbers state label (Hold id bookmark) rise single = tt
put_numbers state label (Add id bookmark column amount) rise single = tt

-- ---- columns that come and go

abbrev Numbers : Table → Type 0
Numbers table = (bookmark : List ℕ) → IfSome (row_at table.rows bookmark) (HoldsNumbers 0 (schema_of table) bookmark)

-- a column that is found among those with a new one is the new one, or was found before
found_old : (column : Column) (columns : List Column) (id : ℕ) → (column_of_id (columns_with column columns) id ≡ column_of_id columns id) ⊎ (column_of_id (columns_with column columns) id ≡ Some column)
found_old column [] id = at (column.id.0 == id)
  where
    at : (b : Bool) → (cond b (Some column) None ≡ None) ⊎ (cond b (Some column) None ≡ Some column)
    at true = inr refl
    at false = inl refl
found_old column (c ∷ columns) id =
    elim (list_all (λ x. nat_lt column.id.0 x.id.0) (c ∷ columns)) as (λ b. (column_of_id (cond b (column ∷ c ∷ columns) (c ∷ columns_with column columns)) id ≡ column_of_id (c ∷ columns) id) ⊎ (column_of_id (cond b (column ∷ c ∷ columns) (c ∷ columns_with column columns)) id ≡ Some column)) [
      | true ↦ new (column.id.0 == id)
      | false ↦ old (c.id.0 == id) (found_old column columns id)
    ]
  where
    new : (b : Bool) → (cond b (Some column) (column_of_id (c ∷ columns) id) ≡ column_of_id (c ∷ columns) id) ⊎ (cond b (Some column) (column_of_id (c ∷ columns) id) ≡ Some column)
    new true = inr refl
    new false = inl refl

    old : (b : Bool) → (column_of_id (columns_with column columns) id ≡ column_of_id columns id) ⊎ (column_of_id (columns_with column columns) id ≡ Some column)
        → (cond b (Some c) (column_of_id (columns_with column columns) id) ≡ cond b (Some c) (column_of_id columns id)) ⊎ (cond b (Some c) (column_of_id (columns_with column columns) id) ≡ Some column)
    old true rest = inl refl
    old false rest = rest

old_escrow : (column : Column) (columns : List Column) (id : ℕ) → column.escrow ≡ false → is_escrow (column_of_id (columns_with column columns) id) ≡ true → is_escrow (column_of_id columns id) ≡ true
old_escrow column columns id plain h = by (found_old column columns id)
  where
    by : (column_of_id (columns_with column columns) id ≡ column_of_id columns id) ⊎ (column_of_id (columns_with column columns) id ≡ Some column) → is_escrow (column_of_id columns id) ≡ true
    by (inl e) = ap is_escrow (sym e) ∙ h
    by (inr e) = impossible (sym plain ∙ ap is_escrow (sym e) ∙ h)

numbers_with : (column : Column) (table : Table) → (column.escrow ≡ true → (bookmark : List ℕ) → row_at table.rows bookmark ≡ None) → Numbers table → Numbers (with_column column table)
numbers_with column table empty h bookmark = elim (column.escrow) as (λ b. column.escrow ≡ b → IfSome (row_at table.rows bookmark) (HoldsNumbers 0 (schema_of (with_column column table)) bookmark)) [
  | true ↦ λ e. subst (λ (o : Option RecordFields). IfSome o (HoldsNumbers 0 (schema_of (with_column column table)) bookmark)) (sym (empty e bookmark)) tt
  | false ↦ λ e. by e (row_at table.rows bookmark) (h bookmark)
] refl
  where
    by : column.escrow ≡ false → (o : Option RecordFields) → IfSome o (HoldsNumbers 0 (schema_of table) bookmark) → IfSome o (HoldsNumbers 0 (schema_of (with_column column table)) bookmark)
    by e None s = tt
    by e (Some values) s = (s.0, λ id escrow. s.1 id (old_escrow column table.columns id e escrow))

-- the column that went is not found
gone : (column id : ℕ) (columns : List Column) → (id == column) ≡ true → column_of_id (filter (λ c. not (c.id.0 == column)) columns) id ≡ None
gone column id [] e = refl
gone column id (c ∷ columns) e = elim (c.id.0 == column) as (λ b. (c.id.0 == column) ≡ b → column_of_id (cond (not b) (c ∷ filter (λ c. not (c.id.0 == column)) columns) (filter (λ c. not (c.id.0 == column)) columns)) id ≡ None) [
  | true ↦ λ f. gone column id columns e
  | false ↦ λ f. ap (λ b. cond b (Some c) (column_of_id (filter (λ c. not (c.id.0 == column)) columns) id)) (ap (λ (k : ℕ). c.id.0 == k) (eqb-true id column e) ∙ f) ∙ gone column id columns e
] refl

numbers_without : (column : ℕ) (table : Table) → Numbers table → Numbers (without_column column table)
numbers_without column table h bookmark =
    subst (λ (o : Option RecordFields). IfSome o (HoldsNumbers 0 (schema_of (without_column column table)) bookmark)) (sym (mapped_row (λ values. with_values values column []) table.rows bookmark)) (by (row_at table.rows bookmark) (h bookmark))
  where
    left : (values : RecordFields) → ((id : ℕ) → is_escrow_column (schema_of table) id ≡ true → holds_number values id ≡ true) → (id : ℕ) → is_escrow_column (schema_of (without_column column table)) id ≡ true
        → holds_number (remove_by_number column values) id ≡ true
    left values had id escrow = elim (id == column) as (λ b. (id == column) ≡ b → holds_number (remove_by_number column values) id ≡ true) [
      | true ↦ λ e. impossible (sym (ap is_escrow (gone column id table.columns e)) ∙ escrow)
      | false ↦ λ e. ap (λ (o : Option (List (List ℕ))). is_one_number (unwrap_or o [])) (other_values values column id e) ∙ had id (ap is_escrow (sym (other_column column table id e)) ∙ escrow)
    ] refl

    by : (o : Option RecordFields) → IfSome o (HoldsNumbers 0 (schema_of table) bookmark) → IfSome (option_map (λ values. with_values values column []) o) (HoldsNumbers 0 (schema_of (without_column column table)) bookmark)
    by None s = tt
    by (Some values) s = (is_sorted-where_key nat_cmp (λ k. not (k == column)) values s.0, left values s.1)

-- ---- schema steps

step_numbers : (state : DatabaseState) (label : ℕ) (made : SchemaStep) → is_none (schema_refusal state label made) ≡ true → ((id : ℕ) → IfSome (table_with_id state.tables id) Numbers)
    → (id : ℕ) → IfSome (table_with_id (tables_after_step state.tables made) id) Numbers
step_numbers state label (step.CreateTable table name) free h id = with_last Numbers (new_table table.0 name) (λ bookmark. tt) state.tables id (h id)
step_numbers state label (step.DeleteTable table) free h id = without_table Numbers table.0 state.tables id (h id)
step_numbers state label (step.AddColumn table column) free h id =
    at_table Numbers table.0 (with_column (tagged_if_long column)) (λ t. refl) state.tables
    (λ t found s. numbers_with (tagged_if_long column) t (λ escrow. no_rows t.rows (and_second column.escrow _ escrow (at_found state label (step.AddColumn table column) t free found).1.1.1.0)) s) h id
step_numbers state label (step.DeleteColumn table column) free h id = at_table Numbers table.0 (without_column column.0) (λ t. refl) state.tables (λ t found s. numbers_without column.0 t s) h id
step_numbers state label (step.CreateIndex table rule) free h id = at_table Numbers table.0 (with_index rule) (λ t. refl) state.tables (λ t found s. s) h id
step_numbers state label (step.DeleteIndex table index) free h id = at_table Numbers table.0 (without_index index.0) (λ t. refl) state.tables (λ t found s. s) h id

step_single : (state : DatabaseState) (label : ℕ) (made : SchemaStep) → is_none (schema_refusal state label made) ≡ true → ((id : ℕ) → IfSome (table_with_id state.tables id) HasSingleSums)
    → (id : ℕ) → IfSome (table_with_id (tables_after_step state.tables made) id) HasSingleSums
step_single state label (step.CreateTable table name) free h id = with_last HasSingleSums (new_table table.0 name) refl state.tables id (h id)
step_single state label (step.DeleteTable table) free h id = without_table HasSingleSums table.0 state.tables id (h id)
step_single state label (step.AddColumn table column) free h id =
    at_table HasSingleSums table.0 (with_column (tagged_if_long column)) (λ t. refl) state.tables
    (λ t found s. list_all-columns_with (λ c. not c.escrow || not c.multi) (tagged_if_long column) t.columns s (single column.escrow _ column.tagged column.multi (at_found state label (step.AddColumn table column) t free found).1.1.0)) h id
  where
    single : (e l t m : Bool) → (e && (l || t || m)) ≡ false → (not e || not m) ≡ true
    single false l t m f = refl
    single true l t false f = refl
    single true true t true f = impossible (sym f)
    single true false true true f = impossible (sym f)
    single true false false true f = impossible (sym f)
step_single state label (step.DeleteColumn table column) free h id =
    at_table HasSingleSums table.0 (without_column column.0) (λ t. refl) state.tables (λ t found s. all_filtered (λ c. not c.escrow || not c.multi) (λ c. not (c.id.0 == column.0)) t.columns s) h id
step_single state label (step.CreateIndex table rule) free h id = at_table HasSingleSums table.0 (with_index rule) (λ t. refl) state.tables (λ t found s. s) h id
step_single state label (step.DeleteIndex table index) free h id = at_table HasSingleSums table.0 (without_index index.0) (λ t. refl) state.tables (λ t found s. s) h id

-- ---- the kept sums

abbrev pub AtSum : List Table → PastChange → Type 0
AtSum tables item = IfSome (table_with_id tables (changed_table item.change)) (λ table. AddsToEscrow (schema_of table) item.change)

sum_defined : (tables after : List Table) → map without_rows after ≡ map without_rows tables → (item : PastChange) → AtSum tables item → AtSum after item
sum_defined tables after e item h = same_defined (λ t. AddsToEscrow (schema_of t) item.change) (λ t p. p) (λ t p. p) after tables e (changed_table item.change) h

sums_mapped : (tables : List Table) (f : PastChange → PastChange) → KeepsRecords f → (kept : List PastChange) → AllByRecursion (AtSum tables) kept → AllByRecursion (AtSum tables) (map f kept)
sums_mapped tables f keeps kept h = all_map (AtSum tables) f kept
    (all_weaker (AtSum tables) (λ item. AtSum tables (f item)) (λ item s. subst (λ (c : Change). IfSome (table_with_id tables (changed_table c)) (λ table. AddsToEscrow (schema_of table) c)) (sym (keeps item).0) s) kept h)

sums_of_kind : (tables : List Table) (state : DatabaseState) (label : ℕ) (kind : EntryKind) (kept : List PastChange) → changes_records kind ≡ false → AllByRecursion (AtSum tables) kept → AllByRecursion (AtSum tables) (kept_after state label kind kept)
sums_of_kind tables state label entry.Enter kept plain h = h
sums_of_kind tables state label entry.Leave kept plain h = sums_mapped tables (undone_where (is_own_open label every_change)) (undone_keeps (is_own_open label every_change)) kept h
sums_of_kind tables state label (entry.Open table) kept plain h = h
sums_of_kind tables state label (entry.Shut table) kept plain h = h
sums_of_kind tables state label entry.Begin kept plain h = h
sums_of_kind tables state label entry.Save kept plain h = h
sums_of_kind tables state label (entry.Change change) kept plain h = impossible (sym plain)
sums_of_kind tables state label entry.Release kept plain h = sums_mapped tables (lowered_own label (levels state label)) (lower_keeps label (levels state label)) kept h
sums_of_kind tables state label entry.Undo kept plain h = sums_mapped tables (undone_where (is_own_open label (is_at_level (levels state label)))) (undone_keeps (is_own_open label (is_at_level (levels state label)))) kept h
sums_of_kind tables state label entry.UndoAll kept plain h = sums_mapped tables (undone_where (is_own_open label every_change)) (undone_keeps (is_own_open label every_change)) kept h
sums_of_kind tables state label entry.Commit kept plain h = sums_mapped tables (committed_own label (state.number + 1)) (commit_keeps label (state.number + 1)) kept h
sums_of_kind tables state label (entry.Schema made) kept plain h = impossible (sym plain)

new_sum : (state : DatabaseState) (label : ℕ) (change : Change) → IsOfItsType change → is_lawful_at state label (table_with_id state.tables (changed_table change)) change ≡ true → AtSum state.tables (new_change label change (with_next_number state))
new_sum state label (Put id bookmark copied values) type lawful = by (table_with_id state.tables id.0)
  where
    by : (found : Option Table) → IfSome found (λ table. Unit {0})
    by None = tt
    by (Some table) = tt
new_sum state label (Drop id bookmark) type lawful = by (table_with_id state.tables id.0)
  where
    by : (found : Option Table) → IfSome found (λ table. Unit {0})
    by None = tt
    by (Some table) = tt
new_sum state label (Hold id bookmark) type lawful = by (table_with_id state.tables id.0)
  where
    by : (found : Option Table) → IfSome found (λ table. Unit {0})
    by None = tt
    by (Some table) = tt
new_sum state label (Add id bookmark column amount) type lawful = by (table_with_id state.tables id.0) lawful
  where
    by : (found : Option Table) → is_lawful_at state label found (Add id bookmark column amount) ≡ true → IfSome found (λ table. AddsToEscrow (schema_of table) (Add id bookmark column amount))
    by None h = tt
    by (Some table) h = (and_right _ _ h, type)

-- ---- any entry

numbers_by_kind : (base : Records) (kept : List PastChange) (state : DatabaseState) (label : ℕ) (kind : EntryKind) → changes_records kind ≡ false → HasEscrowNumbers base kept state
    → HasEscrowNumbers base (kept_after state label kind kept) (applied label kind (with_next_number state))
numbers_by_kind base kept state label kind plain h = record {
  columns = λ id. same_defined HasSingleSums (λ t p. p) (λ t p. p) (applied label kind (with_next_number state)).tables state.tables (same_tables state label kind plain) id (h.columns id);
  sums = all_weaker (AtSum state.tables) (AtSum (applied label kind (with_next_number state)).tables) (sum_defined state.tables (applied label kind (with_next_number state)).tables (same_tables state label kind plain)) (kept_after state label kind kept)
      (sums_of_kind state.tables state label kind kept plain h.sums);
  records = each_by_kind HoldsNumbers numbers_go_on base kept state label kind plain h.records;
}

numbers_changed : (base : Records) (dropped kept : List PastChange) (state : DatabaseState) (label : ℕ) (change : Change) → IsHistory base dropped kept state → is_lawful_kind state label (entry.Change change) ≡ true → IsOfItsType change
    → IsHistory base dropped (kept_after state label (entry.Change change) kept) (applied label (entry.Change change) (with_next_number state)) → HasEscrowNumbers base kept state
    → HasEscrowNumbers base (kept_after state label (entry.Change change) kept) (applied label (entry.Change change) (with_next_number state))
numbers_changed base dropped kept state label change history e type after h = record {
  columns = h.columns;
  sums = all_append (AtSum state.tables) kept (new_change label change (with_next_number state) ∷ []) h.sums (new_sum state label change type (and_right _ _ e), tt);
  records = each_changed HoldsNumbers numbers_go_on base dropped kept state label change history (sums_keep_numbers state.number state.tables kept) (sum_keeps_at (state.number + 1) state.tables change) (and_right _ _ e)
      (put_numbers state label change type h.columns)
      (back (IsPlaced (state.number + 1) state.tables (transaction_of state)) kept (new_change label change (with_next_number state) ∷ []) after.keeps.placed).0.3 h.records;
}

numbers_defined : (base : Records) (dropped kept : List PastChange) (state : DatabaseState) (label : ℕ) (made : SchemaStep) → IsHistory base dropped kept state → is_none (schema_refusal state label made) ≡ true → HasEscrowNumbers base kept state
    → HasEscrowNumbers (base_after state (entry.Schema made) base) (kept_after state label (entry.Schema made) kept) (applied label (entry.Schema made) (with_next_number state))
numbers_defined base dropped kept state label made history free h = record {
  columns = step_single state label made free h.columns;
  sums = tt;
  records = each_begun HoldsNumbers (applied label (entry.Schema made) (with_next_number state)) (step_numbers state label made free (each_row HoldsNumbers base dropped kept state history (sums_keep_numbers state.number state.tables kept) h.records));
}

by_kind : (base : Records) (dropped kept : List PastChange) (state : DatabaseState) (label : ℕ) (kind : EntryKind) → IsHistory base dropped kept state → is_lawful_kind state label kind ≡ true → HasItsType kind
    → IsHistory (base_after state kind base) (dropped_after kind dropped kept) (kept_after state label kind kept) (applied label kind (with_next_number state)) → HasEscrowNumbers base kept state
    → HasEscrowNumbers (base_after state kind base) (kept_after state label kind kept) (applied label kind (with_next_number state))
by_kind base dropped kept state label entry.Enter h e type after numbers = numbers_by_kind base kept state label entry.Enter refl numbers
by_kind base dropped kept state label entry.Leave h e type after numbers = numbers_by_kind base kept state label entry.Leave refl numbers
by_kind base dropped kept state label (entry.Open table) h e type after numbers = numbers_by_kind base kept state label (entry.Open table) refl numbers
by_kind base dropped kept state label (entry.Shut table) h e type after numbers = numbers_by_kind base kept state label (entry.Shut table) refl numbers
by_kind base dropped kept state label entry.Begin h e type after numbers = numbers_by_kind base kept state label entry.Begin refl numbers
by_kind base dropped kept state label entry.Save h e type after numbers = numbers_by_kind base kept state label entry.Save refl numbers
by_kind base dropped kept state label (entry.Change change) h e type after numbers = numbers_changed base dropped kept state label change h e type after numbers
by_kind base dropped kept state label entry.Release h e type after numbers = numbers_by_kind base kept state label entry.Release refl numbers
by_kind base dropped kept state label entry.Undo h e type after numbers = numbers_by_kind base kept state label entry.Undo refl numbers
by_kind base dropped kept state label entry.UndoAll h e type after numbers = numbers_by_kind base kept state label entry.UndoAll refl numbers
by_kind base dropped kept state label entry.Commit h e type after numbers = numbers_by_kind base kept state label entry.Commit refl numbers
by_kind base dropped kept state label (entry.Schema made) h e type after numbers = numbers_defined base dropped kept state label made h (and_right _ _ (and_left _ _ e)) numbers

pub numbers_kept : (base : Records) (dropped kept : List PastChange) (state : DatabaseState) (made : Entry) → IsHistory base dropped kept state → is_lawful state made ≡ true → HasItsType made.kind → HasEscrowNumbers base kept state
    → HasEscrowNumbers (base_after state made.kind base) (kept_after state made.session.0 made.kind kept) (state_after state made)
unfolding is_lawful state_after
numbers_kept base dropped kept state made h e type numbers =
    by_kind base dropped kept state made.session.0 made.kind h (and_right (has_number state.number made.kind) _ e) type (keeps_lawful base dropped kept state made h e) numbers

-- ---- where it begins, a clean, and what is seen

pub numbers_begin : (state : DatabaseState) → ((id : ℕ) → IfSome (table_with_id state.tables id) HasSingleSums) → RowsHave HoldsNumbers state.number state.tables → HasEscrowNumbers (records_of state.tables) [] state
numbers_begin state single h = record { columns = single; sums = tt; records = each_begun HoldsNumbers state h }

pub numbers_cleaned : (base : Records) (dropped : List PastChange) (item : PastChange) (kept : List PastChange) (state : DatabaseState) → IsHistory base dropped (item ∷ kept) state → HasEscrowNumbers base (item ∷ kept) state
    → HasEscrowNumbers (if is_standing item then after_item base item else base) kept state
numbers_cleaned base dropped item kept state h numbers = record {
  columns = numbers.columns;
  sums = numbers.sums.1;
  records = each_cleaned_where HoldsNumbers base dropped item kept state h (sums_keep_numbers state.number state.tables (item ∷ kept)) numbers.records;
}

pub numbers_seen : (base : Records) (dropped kept : List PastChange) (state : DatabaseState) → IsHistory base dropped kept state → HasEscrowNumbers base kept state → (session id : ℕ)
    → IfSome (table_with_id state.tables id) (λ table. (bookmark : List ℕ) → IfSome (records_of (view state session) id bookmark) (HoldsNumbers state.number (schema_of table) bookmark))
numbers_seen base dropped kept state h numbers session id = each_viewed HoldsNumbers base dropped kept state h (sums_keep_numbers state.number state.tables kept) numbers.records session id
