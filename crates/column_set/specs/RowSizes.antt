-- A row that keeps each value of more than 255 bytes of a record apart has the record's size.
use Rattle.std.proofs.Common.{◌≡◌, ℕ, ◌+◌, Bool, true, false, cond, ltb, leb, eqb, ◌&&◌, List, [], ◌∷◌, ◌++◌, length, map, refl, sym, ap, ◌∙◌, arith}
use Rattle.std.specs.Prelude.{bytes_eq, sum_by}
use Rattle.std.proofs.lemmas.Bool.{and_parts, leb-true, le-ltb}
use Rattle.std.proofs.lemmas.Slice.Eq.{bytes_eq-Decides}
use Rattle.std.proofs.lemmas.List.Sums.{sum_by-cons}
use Rattle.column_set.specs.declared.rows.RowValue.{RowValue}
use Rattle.column_set.specs.declared.rows.RowValue.TheVariants.{Here, Apart}
use Rattle.column_set.specs.Rows.{RowFields, is_row_of, record_values_in_order, room_in_row, row_size, stands_for, values_in_order, values_stand_for}
use Rattle.column_set.specs.RecordValues.{RecordFields, record_size, size_of_value}

size_of_value-stands : (x : RowValue) (value : List ℕ) → stands_for x value ≡ true → room_in_row x ≡ size_of_value value
size_of_value-stands (Here bytes) value h =
    let parts = and_parts (bytes_eq bytes value) (leb (length value) 255) h in
    let same : bytes ≡ value = (bytes_eq-Decides bytes value).0 parts.0 in
    let short : ltb 255 (length value) ≡ false = le-ltb _ _ (leb-true _ _ parts.1) in
    ap length same ∙ sym (ap (λ (b : Bool). cond b 16 (length value)) short)
size_of_value-stands (Apart entry place size) value h =
    let parts = and_parts (ltb 255 (length value)) (eqb size (length value)) h in
    sym (ap (λ (b : Bool). cond b 16 (length value)) parts.0)

sizes-stand : (xs : List (ℕ × RowValue)) (values : List (ℕ × List ℕ)) → values_stand_for xs values ≡ true → sum_by (λ x. 5 + room_in_row x.1) xs ≡ sum_by (λ value. 5 + size_of_value value.1) values
sizes-stand [] [] h = refl
sizes-stand [] (value ∷ values) h = absurd cc
sizes-stand (x ∷ xs) [] h = absurd cc
sizes-stand (x ∷ xs) (value ∷ values) h =
    let a = and_parts (eqb x.0 value.0 && stands_for x.1 value.1) (values_stand_for xs values) h in
    let b = and_parts (eqb x.0 value.0) (stands_for x.1 value.1) a.0 in
    omega (arith, sum_by-cons (λ (v : ℕ × RowValue). 5 + room_in_row v.1) x xs, sum_by-cons (λ (v : ℕ × List ℕ). 5 + size_of_value v.1) value values, size_of_value-stands x.1 value.1 b.1, sizes-stand xs values a.1)

sum-field : (column : ℕ) (values : List (List ℕ)) (rest : List (ℕ × List ℕ)) → sum_by (λ value. 5 + size_of_value value.1) (map (λ value. (column, value)) values ++ rest) ≡ sum_by (λ value. 5 + size_of_value value) values + sum_by (λ value. 5 + size_of_value value.1) rest
sum-field column [] rest = omega arith
sum-field column (value ∷ values) rest =
    omega (arith, sum_by-cons (λ (v : ℕ × List ℕ). 5 + size_of_value v.1) (column, value) (map (λ v. (column, v)) values ++ rest), sum_by-cons (λ (v : List ℕ). 5 + size_of_value v) value values, sum-field column values rest)

sum-record : (fields : RecordFields) → sum_by (λ value. 5 + size_of_value value.1) (record_values_in_order fields) ≡ sum_by (λ field. sum_by (λ value. 5 + size_of_value value) field.1) fields
sum-record [] = refl
sum-record (field ∷ fields) =
    omega (arith, sum-field field.0 field.1 (record_values_in_order fields), sum-record fields, sum_by-cons (λ (f : ℕ × List (List ℕ)). sum_by (λ v. 5 + size_of_value v) f.1) field fields)

pub row_size-record_size : (row : RowFields) (fields : RecordFields) → is_row_of row fields ≡ true → row_size row ≡ record_size fields
row_size-record_size row fields h = ap (λ (n : ℕ). 2 + n) (sizes-stand (values_in_order row) (record_values_in_order fields) h ∙ sum-record fields)
