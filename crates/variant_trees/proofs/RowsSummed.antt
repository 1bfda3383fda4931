-- Rows in which the one value of a column is another, of at most 255 bytes.
use Rattle.std.proofs.Common.{◌≡◌, ℕ, Bool, true, false, ◌&&◌, cond, Some, List, [], ◌∷◌, ◌++◌, length, map, refl, sym, ap, ◌∙◌, arith}
use Rattle.std.specs.Prelude.{◌==◌, ◌^◌, nat_le, nat_lt, unwrap_or}
use Rattle.std.specs.List.{list_all}
use Rattle.std.specs.Ordering.{eq_by_cmp, is_eq, nat_cmp}
use Rattle.std.specs.FinMap.Entries.{by_order}
use Rattle.std.specs.declared.cmp.Ordering.{Ordering}
use Rattle.std.specs.declared.cmp.Ordering.TheVariants.{Less, Equal, Greater}
use Rattle.std.proofs.lemmas.Bool.Decides.{nat_tests}
use Rattle.std.proofs.lemmas.Bool.{and_from}
use Rattle.common_lemmas.proofs.Booleans.{and_left, and_right, impossible}
use Rattle.column_set.specs.declared.rows.RowValue.{RowValue}
use Rattle.column_set.specs.declared.rows.RowValue.TheVariants.{Here, Apart}
use Rattle.column_set.specs.RecordValues.{lookup_by_number, put_by_number, values_of}
use Rattle.column_set.specs.Rows.{RowFields, field_fits_row, row_values_of, value_fits_row, values_in_order}
use Rattle.long_rows.specs.RowReferences.{identifier, identifiers, named_by, with_named}
use Rattle.long_rows.specs.WholeRows.{bytes_of_value, is_there, is_whole, record_in, whole_value}
use Rattle.long_rows.proofs.Keeping.{found_one}
use Rattle.long_rows.proofs.Kept.{and_four}
use Rattle.long_value.specs.Values.{Values, value_of}

-- ---- the values of a column

pub values_read : (vals : Values) (row : RowFields) (column : ℕ) → values_of (record_in vals row) column ≡ map (whole_value vals) (row_values_of row column)
values_read vals [] column = refl
values_read vals (field ∷ row) column = by (eq_by_cmp nat_cmp column field.0) (values_read vals row column)
  where
    by : (b : Bool) → values_of (record_in vals row) column ≡ map (whole_value vals) (row_values_of row column)
        → unwrap_or (cond b (Some (map (whole_value vals) field.1)) (lookup_by_number column (record_in vals row))) [] ≡ map (whole_value vals) (unwrap_or (cond b (Some field.1) (lookup_by_number column row)) [])
    by true rest = refl
    by false rest = rest

values_pass : (test : RowValue → Bool) (row : RowFields) (column : ℕ) → list_all (λ (field : ℕ × List RowValue). list_all test field.1) row ≡ true → list_all test (row_values_of row column) ≡ true
values_pass test [] column all = refl
values_pass test (field ∷ row) column all = by (eq_by_cmp nat_cmp column field.0) (values_pass test row column (and_right (list_all test field.1) _ all))
  where
    by : (b : Bool) → list_all test (row_values_of row column) ≡ true → list_all test (unwrap_or (cond b (Some field.1) (lookup_by_number column row)) []) ≡ true
    by true rest = and_left (list_all test field.1) _ all
    by false rest = rest

values_fit : (row : RowFields) → list_all field_fits_row row ≡ true → list_all (λ (field : ℕ × List RowValue). list_all value_fits_row field.1) row ≡ true
values_fit [] all = refl
values_fit (field ∷ row) all =
    and_from (list_all value_fits_row field.1) (list_all (λ (field : ℕ × List RowValue). list_all value_fits_row field.1) row)
    (and_right (nat_lt field.0 (2 ^ 16) && nat_lt 0 (length field.1)) (list_all value_fits_row field.1) (and_left (field_fits_row field) (list_all field_fits_row row) all))
    (values_fit row (and_right (field_fits_row field) (list_all field_fits_row row) all))

first_or : List (List ℕ) → List ℕ
first_or [] = []
first_or (v ∷ vs) = v

is_single : List (List ℕ) → Bool
is_single [] = false
is_single (v ∷ []) = true
is_single (v ∷ w ∷ vs) = false

too_short : (size n : ℕ) → nat_le 256 size ≡ true → (size == n) ≡ true → n ≡ 4 → ⊥
too_short size n least same four = grind (arith, nat_tests)

-- one value of four bytes stands in the row
single_here : (vals : Values) (xs : List RowValue) (old : List ℕ) → map (whole_value vals) xs ≡ old ∷ [] → length old ≡ 4 → list_all value_fits_row xs ≡ true → list_all (is_there vals) xs ≡ true → xs ≡ Here old ∷ []
unfolding is_single first_or
single_here vals [] old e four fits there = impossible (ap is_single e)
single_here vals (Here bytes ∷ []) old e four fits there = ap (λ (vs : List (List ℕ)). Here (first_or vs) ∷ []) e
single_here vals (Apart entry place size ∷ []) old e four fits there =
    let found = found_one size (value_of (identifier entry place) vals) (and_left (is_there vals (Apart entry place size)) true there) in
    let least = (and_four (nat_lt entry (2 ^ 64)) (nat_lt place (2 ^ 32)) (nat_le 256 size) (nat_le size 1048576) (and_left (value_fits_row (Apart entry place size)) true fits)).2 in
    let is : found.0.bytes ≡ old = sym (ap bytes_of_value found.1) ∙ ap first_or e in
    absurd (too_short size (length found.0.bytes) least found.2 (ap (λ (bytes : List ℕ). length bytes) is ∙ four))
single_here vals (x ∷ y ∷ xs) old e four fits there = impossible (ap is_single e)

pub stands_here : (vals : Values) (row : RowFields) (column : ℕ) (old : List ℕ) → list_all field_fits_row row ≡ true → is_whole vals row ≡ true → values_of (record_in vals row) column ≡ old ∷ [] → length old ≡ 4 → row_values_of row column ≡ Here old ∷ []
stands_here vals row column old fits whole one four =
    single_here vals (row_values_of row column) old (sym (values_read vals row column) ∙ one) four (values_pass value_fits_row row column (values_fit row fits)) (values_pass (is_there vals) row column whole)

-- ---- another value

pub record_put : (vals : Values) (row : RowFields) (column : ℕ) (new : List ℕ) → record_in vals (put_by_number column (Here new ∷ []) row) ≡ put_by_number column (new ∷ []) (record_in vals row)
record_put vals [] column new = refl
record_put vals (field ∷ row) column new = by (nat_cmp column field.0) (record_put vals row column new)
  where
    by : (o : Ordering) → record_in vals (put_by_number column (Here new ∷ []) row) ≡ put_by_number column (new ∷ []) (record_in vals row)
        → record_in vals (by_order o ((column, Here new ∷ []) ∷ field ∷ row) ((field.0, Here new ∷ []) ∷ row) (field ∷ put_by_number column (Here new ∷ []) row))
        ≡ by_order o ((column, new ∷ []) ∷ record_in vals (field ∷ row)) ((field.0, new ∷ []) ∷ record_in vals row) ((field.0, map (whole_value vals) field.1) ∷ put_by_number column (new ∷ []) (record_in vals row))
    by Less rest = refl
    by Equal rest = refl
    by Greater rest = λ i. (field.0, map (whole_value vals) field.1) ∷ rest i

pub whole_put : (vals : Values) (row : RowFields) (column : ℕ) (new : List ℕ) → is_whole vals row ≡ true → is_whole vals (put_by_number column (Here new ∷ []) row) ≡ true
whole_put vals [] column new whole = refl
whole_put vals (field ∷ row) column new whole = by (nat_cmp column field.0) (whole_put vals row column new (and_right (list_all (is_there vals) field.1) (is_whole vals row) whole))
  where
    by : (o : Ordering) → is_whole vals (put_by_number column (Here new ∷ []) row) ≡ true → is_whole vals (by_order o ((column, Here new ∷ []) ∷ field ∷ row) ((field.0, Here new ∷ []) ∷ row) (field ∷ put_by_number column (Here new ∷ []) row)) ≡ true
    by Less rest = whole
    by Equal rest = and_right (list_all (is_there vals) field.1) (is_whole vals row) whole
    by Greater rest = and_from (list_all (is_there vals) field.1) (is_whole vals (put_by_number column (Here new ∷ []) row)) (and_left (list_all (is_there vals) field.1) (is_whole vals row) whole) rest

named_behind : (column : ℕ) (vs : List RowValue) (xs ys : List (ℕ × RowValue)) → named_by xs ≡ named_by ys → named_by (map (λ v. (column, v)) vs ++ xs) ≡ named_by (map (λ v. (column, v)) vs ++ ys)
named_behind column [] xs ys same = same
named_behind column (v ∷ vs) xs ys same = ap (with_named v) (named_behind column vs xs ys same)

-- it names the same long values
pub names_put : (row : RowFields) (column : ℕ) (old new : List ℕ) → row_values_of row column ≡ Here old ∷ [] → identifiers (Some (put_by_number column (Here new ∷ []) row)) ≡ identifiers (Some row)
names_put [] column old new e = impossible (ap is_none e)
  where
    is_none : List RowValue → Bool
    is_none [] = false
    is_none (x ∷ xs) = true
names_put (field ∷ row) column old new e = by (nat_cmp column field.0) e (names_put row column old new)
  where
    by : (o : Ordering) → unwrap_or (cond (is_eq o) (Some field.1) (lookup_by_number column row)) [] ≡ Here old ∷ [] → (row_values_of row column ≡ Here old ∷ [] → identifiers (Some (put_by_number column (Here new ∷ []) row)) ≡ identifiers (Some row))
        → named_by (values_in_order (by_order o ((column, Here new ∷ []) ∷ field ∷ row) ((field.0, Here new ∷ []) ∷ row) (field ∷ put_by_number column (Here new ∷ []) row))) ≡ named_by (values_in_order (field ∷ row))
    by Less e rest = refl
    by Equal e rest = sym (ap (λ (vs : List RowValue). named_by (map (λ v. (field.0, v)) vs ++ values_in_order row)) e)
    by Greater e rest = named_behind field.0 field.1 (values_in_order (put_by_number column (Here new ∷ []) row)) (values_in_order row) (rest e)
