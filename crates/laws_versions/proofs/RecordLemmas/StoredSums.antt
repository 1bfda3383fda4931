-- Every record fits its row and its columns, with sums of escrow columns among the changes.
use Rattle.std.proofs.Common.{◌≡◌, ℕ, ◌+◌, ◌≤◌, Bool, true, false, not, ◌&&◌, ◌||◌, cond, List, [], ◌∷◌, Option, Some, None, refl, sym, ap, subst, ◌∙◌, arith, bytes_eq}
use Rattle.std.specs.Prelude.{ℤ, ◌==◌, if◌then◌else◌, length, nat_le, nat_lt, sum_by, IfSome}
use Rattle.std.specs.List.{AllByRecursion, list_all}
use Rattle.std.proofs.lemmas.Bool.{and_from, eqb-true}
use Rattle.common_lemmas.proofs.Booleans.{and_left, and_right}
use Rattle.common_lemmas.proofs.Lists.{all_stronger, all_weaker}
use Rattle.common_lemmas.proofs.Numbers.{same_bytes}
use Rattle.jet_base.specs.declared.words.ColType.{ColType}
use Rattle.jet_base.specs.declared.words.ColType.TheVariants as type
use Rattle.jet_base.specs.ColumnType.{largest_value}
use Rattle.column_set.specs.declared.changes.Change.{Change}
use Rattle.column_set.specs.declared.changes.Change.TheVariants.{Put, Drop, Hold, Add}
use Rattle.column_set.specs.declared.columns.Column.{Column}
use Rattle.column_set.specs.RecordValues.{RecordFields, column_of_id, has_value, is_kept_column, lookup_by_number, record_fits, size_of_length, size_of_values, value_fits, values_fit, values_of}
use Rattle.index_derive.specs.declared.log.Entry.{Entry}
use Rattle.index_derive.specs.declared.log.EntryKind.{EntryKind}
use Rattle.index_derive.specs.declared.log.EntryKind.TheVariants as entry
use Rattle.index_derive.specs.declared.rules.Schema.{Schema}
use Rattle.index_derive.specs.Entries.{is_escrow_column}
use Rattle.database_state.specs.Table.{Table, row_at, schema_of, table_with_id}
use Rattle.database_state.specs.Changes.{escrow_bytes, escrow_sum, with_sum}
use Rattle.column_set.specs.ChangedRecords.{changed_bookmark, changed_table}
use Rattle.database_state.specs.State.{DatabaseState, PastChange, transaction_of}
use Rattle.database_state.specs.View.{view}
use Rattle.database_state.specs.Step.{applied, state_after}
use Rattle.database_state.specs.Lawful.{has_number, is_lawful, is_lawful_at, is_lawful_kind}
use Rattle.laws_versions.specs.Records.{Records, after_item, records_of}
use Rattle.laws_versions.specs.History.{IsHistory, IsPlaced}
use Rattle.laws_versions.specs.KeptSteps.{base_after, dropped_after, kept_after, new_change, with_next_number}
use Rattle.laws_versions.specs.Readers.{is_standing}
use Rattle.laws_versions.proofs.HistoryLemmas.EndEntries.{back}
use Rattle.laws_versions.proofs.HistoryLemmas.Keeping.{some_map}
use Rattle.laws_versions.proofs.HistoryLemmas.LawfulEntries.{keeps_lawful}
use Rattle.laws_versions.proofs.HistoryLemmas.Lists.{all_both}
use Rattle.laws_versions.specs.EscrowNumbers.{ColumnsRise, holds_number, is_number}
use Rattle.laws_versions.proofs.SumLemmas.Puts.{all_put, found_has, sum_put}
use Rattle.laws_versions.proofs.SumLemmas.StoredSums.{values_seen}
use Rattle.laws_versions.proofs.SumLemmas.VeryRecords.{one_value, sum_is_number}
use Rattle.laws_versions.specs.EachRecord.{EachRecordHas, HasBoth}
use Rattle.laws_versions.specs.RecordNumbers.{AddsToEscrow, HasEscrowNumbers, HasItsType, HoldsNumbers}
use Rattle.laws_versions.specs.StoredRecords.{IsStored, leaves_records_short}
use Rattle.laws_versions.proofs.RecordLemmas.EachRecord.{AtChange, AtFirst, GoesOn, PutHas, RowsHave, SumKeeps, SumsKeep, each_begun, each_by_kind, each_changed, each_cleaned_where, each_row, each_viewed}
use Rattle.laws_versions.proofs.RecordLemmas.EscrowRecords.{AtSum, put_numbers, sum_keeps}
use Rattle.laws_versions.proofs.RecordLemmas.Storing.{step_stores, stored_goes_on, stored_puts}

-- ---- a sum leaves the size and the fit of a record

size_one : (x y : List ℕ) → length x ≡ length y → size_of_values (x ∷ []) ≡ size_of_values (y ∷ [])
size_one x y e = ap (λ (n : ℕ). sum_by (λ (m : ℕ). 5 + size_of_length m) (n ∷ [])) e

other_length : (x y : List ℕ) → length x ≡ 4 → (length y == 1) ≡ true → bytes_eq x y ≡ true → ⊥
other_length x y four one same = apart (length x) four (ap length (same_bytes x y same) ∙ eqb-true (length y) 1 one)
  where
    apart : (n : ℕ) → n ≡ 4 → n ≡ 1 → ⊥
    apart n e f = omega (arith, e, f)

-- of two values of four bytes a type takes both
fits_four : (kind : ColType) (x y : List ℕ) → length x ≡ 4 → length x ≡ length y → value_fits kind x ≡ true → value_fits kind y ≡ true
fits_four type.Bit x y four e h = absurd (by (bytes_eq x (0 ∷ [])) refl h)
  where
    by : (b : Bool) → bytes_eq x (0 ∷ []) ≡ b → (b || bytes_eq x (1 ∷ [])) ≡ true → ⊥
    by true f g = other_length x (0 ∷ []) four refl f
    by false f g = other_length x (1 ∷ []) four refl g
fits_four type.UnsignedByte x y four e h = ap (λ (n : ℕ). n == 1) (sym e) ∙ h
fits_four type.Short x y four e h = ap (λ (n : ℕ). n == 2) (sym e) ∙ h
fits_four type.UnsignedShort x y four e h = ap (λ (n : ℕ). n == 2) (sym e) ∙ h
fits_four type.Long x y four e h = ap (λ (n : ℕ). n == 4) (sym e) ∙ h
fits_four type.UnsignedLong x y four e h = ap (λ (n : ℕ). n == 4) (sym e) ∙ h
fits_four type.LongLong x y four e h = ap (λ (n : ℕ). n == 8) (sym e) ∙ h
fits_four type.Currency x y four e h = ap (λ (n : ℕ). n == 8) (sym e) ∙ h
fits_four type.Guid x y four e h = ap (λ (n : ℕ). n == 16) (sym e) ∙ h
fits_four type.Binary x y four e h = ap (λ (n : ℕ). nat_le n (largest_value type.Binary)) (sym e) ∙ h
fits_four type.Text x y four e h = ap (λ (n : ℕ). nat_le n (largest_value type.Text)) (sym e) ∙ h
fits_four type.LongBinary x y four e h = ap (λ (n : ℕ). nat_le n (largest_value type.LongBinary)) (sym e) ∙ h
fits_four type.LongText x y four e h = ap (λ (n : ℕ). nat_le n (largest_value type.LongText)) (sym e) ∙ h

column_fits : (o : Option Column) (x y : List ℕ) → length x ≡ 4 → length x ≡ length y → (elim o [ Some column ↦ values_fit column (x ∷ []) | None ↦ false ]) ≡ true → (elim o [ Some column ↦ values_fit column (y ∷ []) | None ↦ false ]) ≡ true
column_fits None x y four e h = h
column_fits (Some column) x y four e h =
    and_from (column.multi || nat_le 1 1) (value_fits column.kind y && true) (and_left (column.multi || nat_le 1 1) (value_fits column.kind x && true) h)
    (and_from (value_fits column.kind y) true (fits_four column.kind x y four e (and_left (value_fits column.kind x) true (and_right (column.multi || nat_le 1 1) (value_fits column.kind x && true) h))) refl)

four_of : (bytes : List ℕ) → is_number bytes ≡ true → length bytes ≡ 4
four_of bytes e = eqb-true (length bytes) 4 (and_left (length bytes == 4) (list_all (λ b. nat_lt b 256) bytes) e)

-- a record that is stored, and holds numbers in its escrow columns
abbrev pub IsStoredWithNumbers : ℕ → Schema → List ℕ → RecordFields → Type 0
IsStoredWithNumbers number schema bookmark values = IsStored number schema bookmark values × HoldsNumbers number schema bookmark values

pub sum_fits : (schema : Schema) (column : ℕ) (amount : ℤ) (values : RecordFields) → ColumnsRise values → holds_number values column ≡ true → record_fits schema.columns values ≡ true → record_fits schema.columns (with_sum values column amount) ≡ true
sum_fits schema column amount values rise held h =
    and_from (list_all fits (with_sum values column amount)) (list_all (λ c. not (is_kept_column c) || has_value (with_sum values column amount) c.id.0) schema.columns)
    (all_put fits column (new ∷ []) (old ∷ []) (column_fits (column_of_id schema.columns column) old new four_old (four_old ∙ sym four_new) (found_has fits column (old ∷ []) values every one.0)) values rise one.0 every)
    (all_stronger (λ c. not (is_kept_column c) || has_value values c.id.0) (λ c. not (is_kept_column c) || has_value (with_sum values column amount) c.id.0) (λ c had. stays (is_kept_column c) c.id.0 had) schema.columns
    (and_right (list_all fits values) (list_all (λ c. not (is_kept_column c) || has_value values c.id.0) schema.columns) h))
  where
    old : List ℕ
    old = escrow_bytes values column

    new : List ℕ
    new = escrow_sum (escrow_bytes values column) amount

    fits : ℕ × List (List ℕ) → Bool
    fits field = elim (column_of_id schema.columns field.0) [ Some c ↦ values_fit c field.1 | None ↦ false ]

    one : (lookup_by_number column values ≡ Some (escrow_bytes values column ∷ [])) × (is_number (escrow_bytes values column) ≡ true)
    one = one_value values column held

    every : list_all fits values ≡ true
    every = and_left (list_all fits values) (list_all (λ c. not (is_kept_column c) || has_value values c.id.0) schema.columns) h

    four_old : length old ≡ 4
    four_old = four_of old one.1

    four_new : length new ≡ 4
    four_new = four_of new (sum_is_number (escrow_bytes values column) amount)

    stays : (kept : Bool) (id : ℕ) → (not kept || has_value values id) ≡ true → (not kept || has_value (with_sum values column amount) id) ≡ true
    stays false id had = refl
    stays true id had =
        ap (λ (found : List (List ℕ)). nat_lt 0 (length found)) (values_seen values column id amount)
        ∙ elim (id == column) as (λ b. nat_lt 0 (length (cond b (new ∷ []) (values_of values id))) ≡ true) [ true ↦ refl | false ↦ had ]

pub sum_stored : (number : ℕ) (schema : Schema) (bookmark : List ℕ) (column : ℕ) (amount : ℤ) → is_escrow_column schema column ≡ true → (values : RecordFields) → IsStoredWithNumbers number schema bookmark values → IsStored number schema bookmark (with_sum values column amount)
sum_stored number schema bookmark column amount escrow values h = (
  subst (λ (n : ℕ). n ≤ 1700) (sym (ap (λ (n : ℕ). 2 + n) (sum_put (λ field. size_of_values field.1) column (new ∷ []) (old ∷ []) (size_one new old (four_of new (sum_is_number old amount) ∙ sym (four_of old one.1))) values h.1.0 one.0))) h.0.0,
  sum_fits schema column amount values h.1.0 (h.1.1 column escrow) h.0.1,
)
  where
    old : List ℕ
    old = escrow_bytes values column

    new : List ℕ
    new = escrow_sum (escrow_bytes values column) amount

    one : (lookup_by_number column values ≡ Some (escrow_bytes values column ∷ [])) × (is_number (escrow_bytes values column) ≡ true)
    one = one_value values column (h.1.1 column escrow)

-- ---- all records

sum_at : (number : ℕ) (tables : List Table) (change : Change) → IfSome (table_with_id tables (changed_table change)) (λ table. AddsToEscrow (schema_of table) change)
    → IfSome (table_with_id tables (changed_table change)) (λ table. SumKeeps (IsStoredWithNumbers number (schema_of table) (changed_bookmark change)) change)
sum_at number tables change h = by change (table_with_id tables (changed_table change)) h
  where
    keeps : (schema : Schema) (bookmark : List ℕ) (c : Change) → AddsToEscrow schema c → SumKeeps (IsStoredWithNumbers number schema bookmark) c
    keeps schema bookmark (Put table at copied values) adds = tt
    keeps schema bookmark (Drop table at) adds = tt
    keeps schema bookmark (Hold table at) adds = tt
    keeps schema bookmark (Add table at column amount) adds =
        λ values had. (sum_stored number schema bookmark column.0 amount adds.0 values had, sum_keeps number schema bookmark (Add table at column amount) values had.1)

    by : (c : Change) (found : Option Table) → IfSome found (λ table. AddsToEscrow (schema_of table) c) → IfSome found (λ table. SumKeeps (IsStoredWithNumbers number (schema_of table) (changed_bookmark c)) c)
    by c None h = tt
    by c (Some table) h = keeps (schema_of table) (changed_bookmark c) c h

sums_keep : (number : ℕ) (tables : List Table) (items : List PastChange) → AllByRecursion (AtSum tables) items → SumsKeep IsStoredWithNumbers number tables items
sums_keep number tables items h =
    all_weaker (AtSum tables) (λ item. IfSome (table_with_id tables (changed_table item.change)) (λ table. SumKeeps (IsStoredWithNumbers number (schema_of table) (changed_bookmark item.change)) item.change)) (λ item s. sum_at number tables item.change s) items h

two : {X : Type 0} (P Q R : X → Type 0) → ((x : X) → P x → Q x → R x) → (o : Option X) → IfSome o P → IfSome o Q → IfSome o R
two P Q R f None p q = tt
two P Q R f (Some x) p q = f x p q

both : (base : Records) (kept : List PastChange) (state : DatabaseState) → EachRecordHas IsStored base kept state → EachRecordHas HoldsNumbers base kept state → EachRecordHas IsStoredWithNumbers base kept state
both base kept state h g = record {
  at_first = λ id. two (AtFirst IsStored state.number base id) (AtFirst HoldsNumbers state.number base id) (AtFirst IsStoredWithNumbers state.number base id)
      (λ t p q bookmark. joined (schema_of t) bookmark (base id bookmark) (p bookmark) (q bookmark)) (table_with_id state.tables id) (h.at_first id) (g.at_first id);
  changes = all_both (AtChange IsStored state.number state.tables) (AtChange HoldsNumbers state.number state.tables) (AtChange IsStoredWithNumbers state.number state.tables)
      (λ item p q. two (λ t. HasBoth IsStored state.number (schema_of t) item) (λ t. HasBoth HoldsNumbers state.number (schema_of t) item) (λ t. HasBoth IsStoredWithNumbers state.number (schema_of t) item)
      (λ t b c. (joined (schema_of t) (changed_bookmark item.change) item.before b.0 c.0, joined (schema_of t) (changed_bookmark item.change) item.after b.1 c.1)) (table_with_id state.tables (changed_table item.change)) p q) kept h.changes g.changes;
}
  where
    joined : (schema : Schema) (bookmark : List ℕ) (o : Option RecordFields) → IfSome o (IsStored state.number schema bookmark) → IfSome o (HoldsNumbers state.number schema bookmark) → IfSome o (IsStoredWithNumbers state.number schema bookmark)
    joined schema bookmark o p q = two (IsStored state.number schema bookmark) (HoldsNumbers state.number schema bookmark) (IsStoredWithNumbers state.number schema bookmark) (λ values a b. (a, b)) o p q

first_of : (number : ℕ) (schema : Schema) (bookmark : List ℕ) (o : Option RecordFields) → IfSome o (IsStoredWithNumbers number schema bookmark) → IfSome o (IsStored number schema bookmark)
first_of number schema bookmark o h = some_map (IsStoredWithNumbers number schema bookmark) (IsStored number schema bookmark) (λ values p. p.0) o h

alone : (base : Records) (kept : List PastChange) (state : DatabaseState) → EachRecordHas IsStoredWithNumbers base kept state → EachRecordHas IsStored base kept state
alone base kept state h = record {
  at_first = λ id. some_map (AtFirst IsStoredWithNumbers state.number base id) (AtFirst IsStored state.number base id) (λ t p bookmark. first_of state.number (schema_of t) bookmark (base id bookmark) (p bookmark)) (table_with_id state.tables id) (h.at_first id);
  changes = all_weaker (AtChange IsStoredWithNumbers state.number state.tables) (AtChange IsStored state.number state.tables)
      (λ item p. some_map (λ t. HasBoth IsStoredWithNumbers state.number (schema_of t) item) (λ t. HasBoth IsStored state.number (schema_of t) item)
      (λ t b. (first_of state.number (schema_of t) (changed_bookmark item.change) item.before b.0, first_of state.number (schema_of t) (changed_bookmark item.change) item.after b.1)) (table_with_id state.tables (changed_table item.change)) p) kept h.changes;
}

-- ---- any entry

goes_on : GoesOn IsStoredWithNumbers
goes_on number schema bookmark values h = h

put_stored : (state : DatabaseState) (label : ℕ) (change : Change) → PutHas HoldsNumbers state label change → PutHas IsStoredWithNumbers state label change
put_stored state label (Put id bookmark copied values) numbers = λ table rows found had lawful. (
  stored_puts state label table rows bookmark copied values found (λ at. first_of state.number (schema_of table) at (row_at rows at) (had at)) lawful,
  numbers table rows found (λ at. some_map (IsStoredWithNumbers state.number (schema_of table) at) (HoldsNumbers state.number (schema_of table) at) (λ values p. p.1) (row_at rows at) (had at)) lawful,
)
put_stored state label (Drop id bookmark) numbers = tt
put_stored state label (Hold id bookmark) numbers = tt
put_stored state label (Add id bookmark column amount) numbers = tt

-- a lawful sum is of an escrow column
lawful_sum : (number : ℕ) (state : DatabaseState) (label : ℕ) (change : Change) → is_lawful_at state label (table_with_id state.tables (changed_table change)) change ≡ true
    → IfSome (table_with_id state.tables (changed_table change)) (λ table. SumKeeps (IsStoredWithNumbers number (schema_of table) (changed_bookmark change)) change)
lawful_sum number state label change lawful = by change (table_with_id state.tables (changed_table change)) lawful
  where
    by : (c : Change) (found : Option Table) → is_lawful_at state label found c ≡ true → IfSome found (λ table. SumKeeps (IsStoredWithNumbers number (schema_of table) (changed_bookmark c)) c)
    by c None h = tt
    by (Put id bookmark copied values) (Some table) h = tt
    by (Drop id bookmark) (Some table) h = tt
    by (Hold id bookmark) (Some table) h = tt
    by (Add id bookmark column amount) (Some table) h = λ values had. (
      sum_stored number (schema_of table) bookmark column.0 amount (and_right _ _ h) values had,
      sum_keeps number (schema_of table) bookmark (Add id bookmark column amount) values had.1,
    )

stored_by_kind : (base : Records) (dropped kept : List PastChange) (state : DatabaseState) (label : ℕ) (kind : EntryKind) → IsHistory base dropped kept state → HasEscrowNumbers base kept state → HasItsType kind → leaves_records_short kind ≡ false
    → is_lawful_kind state label kind ≡ true → IsHistory (base_after state kind base) (dropped_after kind dropped kept) (kept_after state label kind kept) (applied label kind (with_next_number state)) → EachRecordHas IsStored base kept state
    → EachRecordHas IsStored (base_after state kind base) (kept_after state label kind kept) (applied label kind (with_next_number state))
stored_by_kind base dropped kept state label entry.Enter h numbers typed short e after each = each_by_kind IsStored stored_goes_on base kept state label entry.Enter refl each
stored_by_kind base dropped kept state label entry.Leave h numbers typed short e after each = each_by_kind IsStored stored_goes_on base kept state label entry.Leave refl each
stored_by_kind base dropped kept state label (entry.Open table) h numbers typed short e after each = each_by_kind IsStored stored_goes_on base kept state label (entry.Open table) refl each
stored_by_kind base dropped kept state label (entry.Shut table) h numbers typed short e after each = each_by_kind IsStored stored_goes_on base kept state label (entry.Shut table) refl each
stored_by_kind base dropped kept state label entry.Begin h numbers typed short e after each = each_by_kind IsStored stored_goes_on base kept state label entry.Begin refl each
stored_by_kind base dropped kept state label entry.Save h numbers typed short e after each = each_by_kind IsStored stored_goes_on base kept state label entry.Save refl each
stored_by_kind base dropped kept state label (entry.Change change) h numbers typed short e after each =
    alone base (kept_after state label (entry.Change change) kept) (applied label (entry.Change change) (with_next_number state))
    (each_changed IsStoredWithNumbers goes_on base dropped kept state label change h (sums_keep state.number state.tables kept numbers.sums)
    (lawful_sum (state.number + 1) state label change (and_right _ _ e)) (and_right _ _ e) (put_stored state label change (put_numbers state label change typed numbers.columns))
    (back (IsPlaced (state.number + 1) state.tables (transaction_of state)) kept (new_change label change (with_next_number state) ∷ []) after.keeps.placed).0.3 (both base kept state each numbers.records))
stored_by_kind base dropped kept state label entry.Release h numbers typed short e after each = each_by_kind IsStored stored_goes_on base kept state label entry.Release refl each
stored_by_kind base dropped kept state label entry.Undo h numbers typed short e after each = each_by_kind IsStored stored_goes_on base kept state label entry.Undo refl each
stored_by_kind base dropped kept state label entry.UndoAll h numbers typed short e after each = each_by_kind IsStored stored_goes_on base kept state label entry.UndoAll refl each
stored_by_kind base dropped kept state label entry.Commit h numbers typed short e after each = each_by_kind IsStored stored_goes_on base kept state label entry.Commit refl each
stored_by_kind base dropped kept state label (entry.Schema made) h numbers typed short e after each =
    each_begun IsStored (applied label (entry.Schema made) (with_next_number state)) (step_stores state label made (and_right _ _ (and_left _ _ e)) short rows)
  where
    rows : RowsHave IsStored state.number state.tables
    rows id = some_map (λ table. (bookmark : List ℕ) → IfSome (row_at table.rows bookmark) (IsStoredWithNumbers state.number (schema_of table) bookmark)) (λ table. (bookmark : List ℕ) → IfSome (row_at table.rows bookmark) (IsStored state.number (schema_of table) bookmark))
        (λ t p bookmark. first_of state.number (schema_of t) bookmark (row_at t.rows bookmark) (p bookmark)) (table_with_id state.tables id)
        (each_row IsStoredWithNumbers base dropped kept state h (sums_keep state.number state.tables kept numbers.sums) (both base kept state each numbers.records) id)

pub stored_kept_with_sums : (base : Records) (dropped kept : List PastChange) (state : DatabaseState) (made : Entry) → IsHistory base dropped kept state → is_lawful state made ≡ true → HasEscrowNumbers base kept state → HasItsType made.kind
    → leaves_records_short made.kind ≡ false → EachRecordHas IsStored base kept state → EachRecordHas IsStored (base_after state made.kind base) (kept_after state made.session.0 made.kind kept) (state_after state made)
unfolding is_lawful state_after
stored_kept_with_sums base dropped kept state made h e numbers typed short each =
    stored_by_kind base dropped kept state made.session.0 made.kind h numbers typed short (and_right (has_number state.number made.kind) _ e) (keeps_lawful base dropped kept state made h e) each

-- ---- a clean, and what is seen

pub stored_cleaned_with_sums : (base : Records) (dropped : List PastChange) (item : PastChange) (kept : List PastChange) (state : DatabaseState) → IsHistory base dropped (item ∷ kept) state → HasEscrowNumbers base (item ∷ kept) state
    → EachRecordHas IsStored base (item ∷ kept) state → EachRecordHas IsStored (if is_standing item then after_item base item else base) kept state
stored_cleaned_with_sums base dropped item kept state h numbers each =
    alone (if is_standing item then after_item base item else base) kept state
    (each_cleaned_where IsStoredWithNumbers base dropped item kept state h (sums_keep state.number state.tables (item ∷ kept) numbers.sums) (both base (item ∷ kept) state each numbers.records))

pub stored_seen_with_sums : (base : Records) (dropped kept : List PastChange) (state : DatabaseState) → IsHistory base dropped kept state → HasEscrowNumbers base kept state → EachRecordHas IsStored base kept state → (session id : ℕ)
    → IfSome (table_with_id state.tables id) (λ table. (bookmark : List ℕ) → IfSome (records_of (view state session) id bookmark) (IsStored state.number (schema_of table) bookmark))
stored_seen_with_sums base dropped kept state h numbers each session id =
    some_map (λ table. (bookmark : List ℕ) → IfSome (records_of (view state session) id bookmark) (IsStoredWithNumbers state.number (schema_of table) bookmark)) (λ table. (bookmark : List ℕ) → IfSome (records_of (view state session) id bookmark) (IsStored state.number (schema_of table) bookmark))
    (λ t p bookmark. first_of state.number (schema_of t) bookmark (records_of (view state session) id bookmark) (p bookmark)) (table_with_id state.tables id)
    (each_viewed IsStoredWithNumbers base dropped kept state h (sums_keep state.number state.tables kept numbers.sums) (both base kept state each numbers.records) session id)
