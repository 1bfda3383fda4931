-- The record of a row: its columns rise, each has a value, and the row is its in-page form.
use Rattle.std.proofs.Common.{◌≡◌, ℕ, suc, ◌&&◌, true, Option, List, [], ◌∷◌, ◌++◌, length, map, refl, sym, ap, subst, ◌∙◌, arith}
use Rattle.std.specs.Prelude.{◌^◌, ◌==◌, bytes_eq, ltb, nat_le, nat_lt}
use Rattle.std.specs.List.{list_all}
use Rattle.std.specs.Ordering.{nat_cmp, is_lt}
use Rattle.std.proofs.lemmas.Bool.Decides.{nat_tests}
use Rattle.std.specs.FinMap.Entries.{below_all, is_sorted}
use Rattle.std.proofs.lemmas.Bool.{and_from}
use Rattle.common_lemmas.proofs.Booleans.{and_left, and_right}
use Rattle.common_lemmas.proofs.Numbers.{equal_bytes, self_equal}
use Rattle.column_set.specs.declared.rows.RowValue.{RowValue}
use Rattle.column_set.specs.declared.rows.RowValue.TheVariants.{Here, Apart}
use Rattle.column_set.specs.Record.{is_record}
use Rattle.column_set.specs.Rows.{RowFields, field_fits_row, is_row, is_row_of, is_well_formed, record_values_in_order, stands_for, value_fits_row, values_in_order, values_stand_for}
use Rattle.long_rows.specs.RowReferences.{identifier}
use Rattle.long_rows.specs.WholeRows.{bytes_of_value, is_there, is_whole, record_in, whole_value}
use Rattle.long_rows.proofs.Keeping.{found_one}
use Rattle.long_rows.proofs.Kept.{and_four}
use Rattle.long_value.specs.Values.{LongValue, Values, value_of}

below-here : (longs : Values) (column : ℕ) (row : RowFields) → below_all nat_cmp column (record_in longs row) ≡ below_all nat_cmp column row
below-here longs column [] = refl
below-here longs column (field ∷ row) = ap (λ b. is_lt (nat_cmp column field.0) && b) (below-here longs column row)

sorted-here : (longs : Values) (row : RowFields) → is_sorted nat_cmp (record_in longs row) ≡ is_sorted nat_cmp row
sorted-here longs [] = refl
sorted-here longs (field ∷ row) = λ i. below-here longs field.0 row i && sorted-here longs row i

positive : (n : ℕ) → ltb 0 (suc n) ≡ true
positive n = grind (arith, nat_tests)

some-here : (longs : Values) (values : List RowValue) → nat_lt 0 (length values) ≡ true → ltb 0 (length (map (whole_value longs) values)) ≡ true
some-here longs [] h = h
some-here longs (value ∷ values) h = positive (length (map (whole_value longs) values))

all-here : (longs : Values) (row : RowFields) → list_all field_fits_row row ≡ true → list_all (λ field. ltb 0 (length field.1)) (record_in longs row) ≡ true
all-here longs [] h = refl
all-here longs (field ∷ row) h =
    let some = and_right (nat_lt field.0 (2 ^ 16)) (nat_lt 0 (length field.1)) (and_left (nat_lt field.0 (2 ^ 16) && nat_lt 0 (length field.1)) (list_all value_fits_row field.1) (and_left (field_fits_row field) (list_all field_fits_row row) h)) in
    and_from (ltb 0 (length (map (whole_value longs) field.1))) (list_all (λ field. ltb 0 (length field.1)) (record_in longs row)) (some-here longs field.1 some) (all-here longs row (and_right (field_fits_row field) (list_all field_fits_row row) h))

pub row-formed : (longs : Values) (row : RowFields) → is_row row ≡ true → is_record (record_in longs row) ≡ true
row-formed longs row h =
    let formed = and_left (is_well_formed row) (nat_lt (length (values_in_order row)) (2 ^ 16)) h in
    and_from (is_sorted nat_cmp (record_in longs row)) (list_all (λ field. ltb 0 (length field.1)) (record_in longs row)) (sorted-here longs row ∙ and_left (is_sorted nat_cmp row) (list_all field_fits_row row) formed)
    (all-here longs row (and_right (is_sorted nat_cmp row) (list_all field_fits_row row) formed))

pub row-fits : (row : RowFields) → is_row row ≡ true → list_all field_fits_row row ≡ true
row-fits row h = and_right (is_sorted nat_cmp row) (list_all field_fits_row row) (and_left (is_well_formed row) (nat_lt (length (values_in_order row)) (2 ^ 16)) h)

-- ---- the in-page form

stands : (longs : Values) (x : RowValue) → value_fits_row x ≡ true → is_there longs x ≡ true → stands_for x (whole_value longs x) ≡ true
stands longs (Here bytes) fits there = and_from (bytes_eq bytes bytes) (nat_le (length bytes) 255) (equal_bytes bytes bytes refl) fits
stands longs (Apart entry place size) fits there =
    let found = found_one size (value_of (identifier entry place) longs) there in
    let least = (and_four (nat_lt entry (2 ^ 64)) (nat_lt place (2 ^ 32)) (nat_le 256 size) (nat_le size 1048576) fits).2 in
    subst (λ (o : Option LongValue). (nat_lt 255 (length (bytes_of_value o)) && (size == length (bytes_of_value o))) ≡ true) (sym found.1) (longer size (length found.0.bytes) least found.2)
  where
    longer : (n m : ℕ) → nat_le 256 n ≡ true → (n == m) ≡ true → (nat_lt 255 m && (n == m)) ≡ true
    longer n m least same = and_from (nat_lt 255 m) (n == m) (above n m least same) same
      where
        above : (n m : ℕ) → nat_le 256 n ≡ true → (n == m) ≡ true → nat_lt 255 m ≡ true
        above n m least same = grind (arith, nat_tests)

values-stand : (longs : Values) (column : ℕ) (xs : List RowValue) (ys : List (ℕ × RowValue)) (vs : List (ℕ × List ℕ)) → list_all value_fits_row xs ≡ true → list_all (is_there longs) xs ≡ true → values_stand_for ys vs ≡ true
    → values_stand_for (map (λ x. (column, x)) xs ++ ys) (map (λ v. (column, v)) (map (whole_value longs) xs) ++ vs) ≡ true
values-stand longs column [] ys vs fits there rest = rest
values-stand longs column (x ∷ xs) ys vs fits there rest =
    let later = values-stand longs column xs ys vs (and_right (value_fits_row x) (list_all value_fits_row xs) fits) (and_right (is_there longs x) (list_all (is_there longs) xs) there) rest in
    let own = stands longs x (and_left (value_fits_row x) (list_all value_fits_row xs) fits) (and_left (is_there longs x) (list_all (is_there longs) xs) there) in
    and_from ((column == column) && stands_for x (whole_value longs x)) (values_stand_for (map (λ x. (column, x)) xs ++ ys) (map (λ v. (column, v)) (map (whole_value longs) xs) ++ vs))
    (and_from (column == column) (stands_for x (whole_value longs x)) (self_equal column) own) later

fields-stand : (longs : Values) (row : RowFields) → list_all field_fits_row row ≡ true → is_whole longs row ≡ true → is_row_of row (record_in longs row) ≡ true
fields-stand longs [] fits whole = refl
fields-stand longs ((column, xs) ∷ row) fits whole =
    values-stand longs column xs (values_in_order row) (record_values_in_order (record_in longs row))
    (and_right (nat_lt column (2 ^ 16) && nat_lt 0 (length xs)) (list_all value_fits_row xs) (and_left (field_fits_row (column, xs)) (list_all field_fits_row row) fits))
    (and_left (list_all (is_there longs) xs) (is_whole longs row) whole)
    (fields-stand longs row (and_right (field_fits_row (column, xs)) (list_all field_fits_row row) fits) (and_right (list_all (is_there longs) xs) (is_whole longs row) whole))

-- a row whose values are there is the in-page form of its record
pub row-stands : (longs : Values) (row : RowFields) → is_row row ≡ true → is_whole longs row ≡ true → is_row_of row (record_in longs row) ≡ true
row-stands longs row h whole = fields-stand longs row (row-fits row h) whole
