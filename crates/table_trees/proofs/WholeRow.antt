-- The values of a whole row and of its record.
use Rattle.std.proofs.Common.{◌≡◌, ℕ, suc, ◌<◌, ◌^◌, ◌-◌, true, ◌&&◌, ◌==◌, List, [], ◌∷◌, ◌++◌, length, drop, take, map, refl, sym, ap, subst, ◌∙◌, arith, true≢false}
use Rattle.std.specs.Prelude.{IsTrue, nat_lt}
use Rattle.std.specs.List.{AllByRecursion, flat_map, list_all}
use Rattle.std.specs.Ordering.{nat_cmp}
use Rattle.std.specs.FinMap.Entries.{is_sorted}
use Rattle.std.proofs.lemmas.Bool.{and_parts, ltb-true}
use Rattle.std.proofs.lemmas.List.{take_all}
use Rattle.common_lemmas.proofs.Booleans.{and_left, and_right}
use Rattle.column_set.specs.declared.rows.RowValue.{RowValue}
use Rattle.column_set.specs.RecordValues.{RecordFields}
use Rattle.column_set.specs.Rows.{IsRowBytes, RowFields, field_fits_row, is_row, is_row_of, is_well_formed, record_values_in_order, row_bytes, stands_for, value_bytes, value_fits_row, values_in_order, values_stand_for}
use Rattle.column_set.specs.RowReading.{row_in}
use Rattle.long_value.specs.Values.{Values}
use Rattle.long_rows.specs.KeptRows.{MayTake, given_by, given_values, with_value_given}
use Rattle.column_set.specs.OtherValues.{MayStand, StandIn}
use Rattle.table_trees.specs.NamedValues.{given_of, values_left}
use Rattle.table_trees.proofs.TakingAll.{MayAll}

-- what the law of rows that are read back says
abbrev pub ReadLaw : Type 0
ReadLaw = (row : RowFields) → IsTrue (is_row row) → row_in (row_bytes row) ≡ row

fit_of_field : (column : ℕ) (values : List RowValue) (rest : List (ℕ × RowValue)) → column < 2 ^ 16 → list_all value_fits_row values ≡ true → AllByRecursion MayStand rest → AllByRecursion MayStand (map (λ value. (column, value)) values ++ rest)
fit_of_field column [] rest low fits all = all
fit_of_field column (value ∷ values) rest low fits all =
    ((low, and_left (value_fits_row value) (list_all value_fits_row values) fits), fit_of_field column values rest low (and_right (value_fits_row value) (list_all value_fits_row values) fits) all)

fit_of_fields : (fields : RowFields) → list_all field_fits_row fields ≡ true → AllByRecursion MayStand (values_in_order fields)
fit_of_fields [] fits = tt
fit_of_fields (field ∷ fields) fits =
    let own = and_parts (nat_lt field.0 (2 ^ 16) && nat_lt 0 (length field.1)) (list_all value_fits_row field.1) (and_left (field_fits_row field) (list_all field_fits_row fields) fits) in
    fit_of_field field.0 field.1 (values_in_order fields) (ltb-true field.0 (2 ^ 16) (and_left (nat_lt field.0 (2 ^ 16)) (nat_lt 0 (length field.1)) own.0)) own.1 (fit_of_fields fields (and_right (field_fits_row field) (list_all field_fits_row fields) fits))

stand_in : (fields : RowFields) → is_row fields ≡ true → StandIn (take (length (row_bytes fields) - 2) (drop 2 (row_bytes fields))) (values_in_order fields)
stand_in fields formed = record {
  fit = fit_of_fields fields (and_right (is_sorted nat_cmp fields) (list_all field_fits_row fields) (and_left (is_well_formed fields) (nat_lt (length (values_in_order fields)) (2 ^ 16)) formed));
  spelled = take_all (length (row_bytes fields) - 2) (flat_map value_bytes (values_in_order fields)) (omega arith);
}

pub row_stands : ReadLaw → (row : List ℕ) → IsRowBytes row → StandIn (take (length row - 2) (drop 2 row)) (values_in_order (row_in row))
row_stands law row is =
    let fields = is.0 in
    let back : row_in row ≡ fields = ap row_in is.2 ∙ law fields is.1 in
    subst (λ (r : List ℕ). StandIn (take (length r - 2) (drop 2 r)) (values_in_order (row_in row))) (sym is.2)
    (subst (λ (f : RowFields). StandIn (take (length (row_bytes fields) - 2) (drop 2 (row_bytes fields))) (values_in_order f)) (sym back) (stand_in fields is.1))

-- ---- the values of the record

abbrev second : ℕ × List ℕ → List ℕ
second v = v.1

given_same : (xs : List (ℕ × RowValue)) (vs : List (ℕ × List ℕ)) → given_of xs (map second vs) ≡ given_by xs vs
given_same [] [] = refl
given_same [] (v ∷ vs) = refl
given_same (x ∷ xs) [] = refl
given_same (x ∷ xs) (v ∷ vs) = ap (with_value_given x.1 v.1) (given_same xs vs)

column_left : (column : ℕ) (vs : List (List ℕ)) (ws : List (ℕ × List ℕ)) → map second (map (λ v. (column, v)) vs ++ ws) ≡ vs ++ map second ws
column_left column [] ws = refl
column_left column (v ∷ vs) ws = ap (λ (l : List (List ℕ)). v ∷ l) (column_left column vs ws)

pub all_left : (fields : RecordFields) → map second (record_values_in_order fields) ≡ values_left [] fields
all_left [] = refl
all_left ((column, vs) ∷ fields) = column_left column vs (record_values_in_order fields) ∙ ap (λ (l : List (List ℕ)). vs ++ l) (all_left fields)

pub given_left : (row : RowFields) (fields : RecordFields) → given_of (values_in_order row) (values_left [] fields) ≡ given_values row fields
given_left row fields = ap (given_of (values_in_order row)) (sym (all_left fields)) ∙ given_same (values_in_order row) (record_values_in_order fields)

same_count : (xs : List (ℕ × RowValue)) (vs : List (ℕ × List ℕ)) → values_stand_for xs vs ≡ true → length xs ≡ length (map second vs)
same_count [] [] e = refl
same_count [] (v ∷ vs) e = absurd (true≢false (sym e))
same_count (x ∷ xs) [] e = absurd (true≢false (sym e))
same_count (x ∷ xs) (v ∷ vs) e = ap suc (same_count xs vs (and_parts ((x.0 == v.0) && stands_for x.1 v.1) (values_stand_for xs vs) e).1)

pub count_left : (row : RowFields) (fields : RecordFields) → is_row_of row fields ≡ true → length (values_in_order row) ≡ length (values_left [] fields)
count_left row fields e = same_count (values_in_order row) (record_values_in_order fields) e ∙ ap length (all_left fields)

pub may_left : ReadLaw → (bytes : List ℕ) (fields : RecordFields) (values : Values) → IsRowBytes bytes → is_row_of (row_in bytes) fields ≡ true → AllByRecursion (MayTake values) (given_values (row_in bytes) fields)
    → MayAll (take (length bytes - 2) (drop 2 bytes)) (values_left [] fields) values
may_left law bytes fields values is form all =
    (values_in_order (row_in bytes), row_stands law bytes is, count_left (row_in bytes) fields form, subst (AllByRecursion (MayTake values)) (sym (given_left (row_in bytes) fields)) all)
