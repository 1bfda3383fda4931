-- The bytes of a row, and what the values of a row in order have.
use Rattle.std.proofs.Common.{◌≡◌, ℕ, ◌+◌, ◌*◌, ◌^◌, ◌<◌, ◌≤◌, true, ltb, List, [], ◌∷◌, ◌++◌, length, take, get_or, refl, sym, ap, ◌∙◌, arith, All}
use Rattle.std.specs.Prelude.{sum_by}
use Rattle.std.specs.List.{flat_map, AllByRecursion}
use Rattle.std.specs.Int.{w16, to_le_bytes}
use Rattle.std.proofs.lemmas.Bool.{and_parts, and_from, lt-ltb, ltb-true}
use Rattle.std.proofs.lemmas.List.{length-append, take_more}
use Rattle.std.proofs.lemmas.List.Sums.{sum_by-cons, sum_by-take-le, sum_by_push}
use Rattle.std.proofs.lemmas.List.Elements.{All-from_recursion}
use Rattle.column_set.specs.declared.rows.RowValue.{RowValue}
use Rattle.column_set.specs.declared.rows.RowValue.TheVariants.{Here, Apart}
use Rattle.column_set.specs.Rows.{RowFields, values_in_order, value_fits_row, room_in_row, value_bytes, is_row, is_well_formed, row_bytes, row_size}
use Rattle.column_set.specs.RowReading.{are_in_order, size_of_values}
use Rattle.column_set.proofs.Grouping.{in_order_parts}

each_fits : (least : ℕ) (values : List (ℕ × RowValue)) → are_in_order least values ≡ true → AllByRecursion (λ value. value_fits_row value.1 ≡ true) values
each_fits least [] h = tt
each_fits least (value ∷ values) h =
    let parts = in_order_parts least value values h in
    (parts.fits, each_fits value.0 values parts.rest)

pub values_fit : (values : List (ℕ × RowValue)) → are_in_order 0 values ≡ true → All (λ value. value_fits_row value.1 ≡ true) values
values_fit values h = All-from_recursion (λ value. value_fits_row value.1 ≡ true) values (each_fits 0 values h)

-- each value takes five bytes at least
sum-length : (values : List (ℕ × RowValue)) → 5 * length values ≤ sum_by (λ value. 5 + room_in_row value.1) values
sum-length [] = omega arith
sum-length (value ∷ values) = omega (arith, sum-length values, sum_by-cons (λ (v : ℕ × RowValue). 5 + room_in_row v.1) value values)

pub size-length : (values : List (ℕ × RowValue)) → 5 * length values + 2 ≤ size_of_values values
size-length values = omega (arith, sum-length values)

pub size-take : (values : List (ℕ × RowValue)) (i : ℕ) → size_of_values (take i values) ≤ size_of_values values
size-take values i = omega (arith, sum_by-take-le (λ (v : ℕ × RowValue). 5 + room_in_row v.1) values i)

length-value_bytes : (value : ℕ × RowValue) → length (value_bytes value) ≡ 5 + room_in_row value.1
length-value_bytes (column, Here bytes) = omega arith
length-value_bytes (column, Apart entry place size) = refl

pub length-values : (values : List (ℕ × RowValue)) → 2 + length (flat_map value_bytes values) ≡ size_of_values values
length-values [] = refl
length-values (value ∷ values) =
    omega (arith, length-values values, length-append (value_bytes value) (flat_map value_bytes values), length-value_bytes value, sum_by-cons (λ (v : ℕ × RowValue). 5 + room_in_row v.1) value values)

-- the bytes of a row are as many as its size
pub length-row_bytes : (row : RowFields) → length (row_bytes row) ≡ row_size row
length-row_bytes row =
    let values = values_in_order row in
    omega (arith, length-values values, length-append (to_le_bytes w16 (length values)) (flat_map value_bytes values))

pub length-small : (row : RowFields) (bytes : List ℕ) → row_size row ≤ 1700 → bytes ≡ row_bytes row → length bytes ≤ 1700
length-small row bytes small e = omega (arith, ap length e, length-row_bytes row)

pub is_row-from : (row : RowFields) → is_well_formed row ≡ true → length (values_in_order row) < 2 ^ 16 → is_row row ≡ true
is_row-from row formed few = and_from (is_well_formed row) (ltb (length (values_in_order row)) (2 ^ 16)) formed (lt-ltb _ _ few)

pub record IsCountedRow (row : RowFields) : Type 0 where
  pub formed : is_well_formed row ≡ true
  pub few : length (values_in_order row) < 2 ^ 16

pub is_row-parts : (row : RowFields) → is_row row ≡ true → IsCountedRow row
is_row-parts row h =
    let parts = and_parts (is_well_formed row) (ltb (length (values_in_order row)) (2 ^ 16)) h in
    record { formed = parts.0; few = ltb-true _ _ parts.1 }

-- a row that fits a page has few values
pub few_from_size : (row : RowFields) → row_size row ≤ 1700 → length (values_in_order row) < 2 ^ 16
few_from_size row small = omega (arith, size-length (values_in_order row))

-- one value more
pub size-more : (values : List (ℕ × RowValue)) (i : ℕ) (value : ℕ × RowValue) → i < length values → value ≡ get_or values i value → size_of_values (take (i + 1) values) ≡ size_of_values (take i values) + (5 + room_in_row value.1)
size-more values i value lt is =
    let one = take_more values i value lt in
    let e : size_of_values (take (i + 1) values) ≡ size_of_values (take i values ++ value ∷ []) = ap size_of_values (one ∙ ap (λ (v : ℕ × RowValue). take i values ++ v ∷ []) (sym is)) in
    e ∙ omega (arith, sum_by_push (λ (v : ℕ × RowValue). 5 + room_in_row v.1) (take i values) value)
