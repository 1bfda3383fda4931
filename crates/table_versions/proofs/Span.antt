-- What held changes cost, by the records before them.
use Rattle.std.proofs.Common.{◌≡◌, ℕ, ◌+◌, ◌*◌, ◌/◌, ◌≤◌, Bool, true, false, not, cond, List, [], ◌∷◌, length, Option, Some, None, map, option_map, refl, sym, ap, ◌∙◌, arith}
use Rattle.std.specs.Prelude.{IfSome, IsTrue, nat_lt, sum_by, unwrap_or}
use Rattle.std.proofs.lemmas.Bool.Decides.{nat_tests}
use Rattle.std.proofs.lemmas.List.Sums.{sum_by-cons}
use Rattle.column_set.specs.declared.changes.Change.{Change}
use Rattle.column_set.specs.declared.changes.Change.TheVariants.{Put, Drop, Hold, Add}
use Rattle.column_set.specs.RecordValues.{RecordFields, record_size}
use Rattle.column_set.specs.Rows.{RowFields, is_row_of, largest_row, row_bytes, row_size}
use Rattle.column_set.specs.RowReading.{row_in}
use Rattle.database_state.specs.Table.{record_in}
use Rattle.column_set.specs.ChangedRecords.{changed_bookmark, changed_table}
use Rattle.database_state.specs.VersionStore.{cost_of as cost_of_change}
use Rattle.version_store.specs.declared.calls.By.{By}
use Rattle.version_store.specs.declared.calls.ChangeKind.{ChangeKind}
use Rattle.version_store.specs.HeldChanges.{HeldChange, cost, cost_of, from_oldest_kept, has_room as has_room_for_row, is_kept, is_rewrite, kind_of, rounded_size, span}
use Rattle.laws_engine.specs.HeldRecords.{HeldRecord, from_oldest_kept as from_oldest_record, span as span_of_records}
use Rattle.laws_engine.specs.VersionedTables.{VersionedTables}
use Rattle.stored_variants.specs.RecordRows.{TableValues, IsRecordRow, held_record_in, record_of}
use Rattle.stored_variants.specs.StoredVersions.{has_room}
use Rattle.stored_variants.proofs.RowRecords.{row-stands}
use Rattle.long_value.specs.Values.{Values}

-- ---- the span

sum_same : (longs : TableValues) (held : List HeldChange) → sum_by cost_of held ≡ sum_by (λ (r : HeldRecord). r.cost) (map (held_record_in longs) held)
sum_same longs [] = refl
sum_same longs (h ∷ held) =
    sum_by-cons cost_of h held ∙ ap (λ n. cost_of h + n) (sum_same longs held)
    ∙ sym (sum_by-cons (λ (r : HeldRecord). r.cost) (held_record_in longs h) (map (held_record_in longs) held))

pub same_span : (longs : TableValues) (oldest : Option ℕ) (held : List HeldChange) → span oldest held ≡ span_of_records oldest (map (held_record_in longs) held)
same_span longs oldest [] = refl
same_span longs oldest (h ∷ held) = by (is_kept oldest h) (same_span longs oldest held)
  where
    by : (b : Bool) → span oldest held ≡ span_of_records oldest (map (held_record_in longs) held)
        → sum_by cost_of (cond b (h ∷ held) (from_oldest_kept oldest held)) ≡ sum_by (λ (r : HeldRecord). r.cost) (cond b (map (held_record_in longs) (h ∷ held)) (from_oldest_record oldest (map (held_record_in longs) held)))
    by true rest = sum_same longs (h ∷ held)
    by false rest = rest

-- ---- a row has the size of its record

-- laws of rows
pub record RowSizes : Type 0 where
  pub bytes : (row : RowFields) → length (row_bytes row) ≡ row_size row
  pub size : (row : RowFields) (fields : RecordFields) → IsTrue (is_row_of row fields) → row_size row ≡ record_size fields

pub size_of : (vals : Values) → RowSizes → (row : List ℕ) → IsRecordRow vals row → length row ≡ record_size (record_of vals row)
size_of vals sizes row is =
    ap (λ (bytes : List ℕ). length bytes) is.spelled ∙ sizes.bytes (row_in row) ∙ sizes.size (row_in row) (record_of vals row) (row-stands vals (row_in row) is.formed is.whole)

-- ---- the cost of a change

pub same_cost : (vals : Values) → RowSizes → (made : Change) (row : Option (List ℕ)) → IfSome row (IsRecordRow vals) → cost (kind_of made) row ≡ cost_of_change made (option_map (record_of vals) row)
same_cost vals sizes (Put table bookmark copied values) None is = refl
same_cost vals sizes (Put table bookmark copied values) (Some row) is = ap (λ n. 64 + (n + 7) / 8 * 8) (size_of vals sizes row is)
same_cost vals sizes (Drop table bookmark) None is = refl
same_cost vals sizes (Drop table bookmark) (Some row) is = ap (λ n. 64 + (n + 7) / 8 * 8) (size_of vals sizes row is)
same_cost vals sizes (Hold table bookmark) row is = refl
same_cost vals sizes (Add table bookmark column amount) row is = refl

-- the room for a change that holds a row is the room for one that holds its record
pub same_room : (longs : TableValues) → RowSizes → (by : By) (made : Change) (row : Option (List ℕ)) → IfSome row (IsRecordRow (longs (changed_table made))) → (held : List HeldChange) (store : VersionedTables) → map (held_record_in longs) held ≡ store.held
    → option_map (record_of (longs (changed_table made))) row ≡ record_in store.tables (changed_table made) (changed_bookmark made) → has_room_for_row by made row held ≡ has_room by made store
same_room longs sizes by made row is held store same before =
    ap (λ n. not (nat_lt by.limit (n + cost (kind_of made) row))) (same_span longs by.oldest held ∙ ap (span_of_records by.oldest) same)
    ∙ ap (λ n. not (nat_lt by.limit (span_of_records by.oldest store.held + n))) (same_cost (longs (changed_table made)) sizes made row is ∙ ap (cost_of_change made) before)

pub small_row : (vals : Values) (row : Option (List ℕ)) → IfSome row (IsRecordRow vals) → length (unwrap_or row []) ≤ 4096
small_row vals None is = omega arith
small_row vals (Some row) is = omega (arith, is.small)

-- ---- the longest row

cost_at_most : (vals : Values) (what : ChangeKind) (row : Option (List ℕ)) → IfSome row (IsRecordRow vals) → (longest : List ℕ) → length longest ≡ largest_row → cost what row ≤ cost what (Some longest)
cost_at_most vals what row is longest long = by (is_rewrite what) row is
  where
    by : (b : Bool) (row : Option (List ℕ)) → IfSome row (IsRecordRow vals) → cond b (64 + rounded_size row) 64 ≤ cond b (64 + rounded_size (Some longest)) 64
    by true None is = omega arith
    by true (Some row) is = omega (arith, is.small, long)
    by false row is = omega arith

within_limit : (limit span cost most : ℕ) → cost ≤ most → not (nat_lt limit (span + most)) ≡ true → not (nat_lt limit (span + cost)) ≡ true
within_limit limit span cost most less fits = grind (arith, nat_tests)

-- where there is room for the longest row there is room for any
pub longest_fits : (vals : Values) (by : By) (made : Change) (row : Option (List ℕ)) → IfSome row (IsRecordRow vals) → (longest : List ℕ) → length longest ≡ largest_row → (held : List HeldChange)
    → has_room_for_row by made (Some longest) held ≡ true → has_room_for_row by made row held ≡ true
longest_fits vals by made row is longest long held fits =
    within_limit by.limit (span by.oldest held) (cost (kind_of made) row) (cost (kind_of made) (Some longest)) (cost_at_most vals (kind_of made) row is longest long) fits
