-- The values of one column.
use Rattle.std.proofs.Common.{◌≡◌, ℕ, zero, suc, ◌<◌, ◌≤◌, Bool, true, false, cond, eqb, List, [], ◌∷◌, ◌++◌, length, get_or, Some, None, refl, sym, ap, subst, ◌∙◌, arith, inl, inr}
use Rattle.std.specs.Prelude.{map, filter, option_map, slice_get, unwrap_or}
use Rattle.std.specs.List.{list_all}
use Rattle.std.specs.Ordering.{nat_cmp, is_lt, eq_by_cmp}
use Rattle.std.specs.FinMap.Entries.{is_sorted, below_all, find}
use Rattle.std.proofs.lemmas.Bool.{and_parts, cases_Bool, cases_lt, eqb-true, eqb-false, eq-eqb, ne_eqb, ltb-true}
use Rattle.std.proofs.lemmas.Bool.Decides.{nat_tests}
use Rattle.std.proofs.lemmas.List.{length-map}
use Rattle.std.proofs.lemmas.Option.{get_or_from_slice_get, slice_get-map, slice_get_within}
use Rattle.column_set.specs.declared.rows.RowValue.{RowValue}
use Rattle.column_set.specs.Reading.{IsFront}
use Rattle.column_set.specs.RecordValues.{values_of}
use Rattle.column_set.specs.Rows.{RowFields, values_in_order, field_fits_row, is_well_formed, row_values_of, here_fields, bytes_here}
use Rattle.column_set.specs.RowReading.{are_in_order, of_column}
use Rattle.column_set.proofs.Grouping.{in_order_parts, is_lt-nat_cmp}

pub of_column-same : (column : ℕ) (value : ℕ × RowValue) (values : List (ℕ × RowValue)) → value.0 ≡ column → of_column column (value ∷ values) ≡ value.1 ∷ of_column column values
of_column-same column value values e = ap (λ (b : Bool). map (λ (v : ℕ × RowValue). v.1) (cond b (value ∷ filter (λ v. eqb v.0 column) values) (filter (λ v. eqb v.0 column) values))) (eq-eqb value.0 column e)

pub of_column-other : (column : ℕ) (value : ℕ × RowValue) (values : List (ℕ × RowValue)) → (value.0 ≡ column → ⊥) → of_column column (value ∷ values) ≡ of_column column values
of_column-other column value values ne = ap (λ (b : Bool). map (λ (v : ℕ × RowValue). v.1) (cond b (value ∷ filter (λ v. eqb v.0 column) values) (filter (λ v. eqb v.0 column) values))) (ne_eqb value.0 column ne)

pub of_column-above : (column least : ℕ) (values : List (ℕ × RowValue)) → column < least → are_in_order least values ≡ true → of_column column values ≡ []
of_column-above column least [] lt order = refl
of_column-above column least (value ∷ values) lt order =
    let parts = in_order_parts least value values order in
    let le : least ≤ value.0 = parts.least in
    of_column-other column value values (λ e. omega (arith, e)) ∙ of_column-above column value.0 values (omega arith) parts.rest

-- ---- in a row

column_field : (column : ℕ) (values : List RowValue) (rest : List (ℕ × RowValue)) → of_column column (map (λ x. (column, x)) values ++ rest) ≡ values ++ of_column column rest
column_field column [] rest = refl
column_field column (value ∷ values) rest = of_column-same column (column, value) (map (λ x. (column, x)) values ++ rest) refl ∙ ap (λ (xs : List RowValue). value ∷ xs) (column_field column values rest)

other_field : (column other : ℕ) (values : List RowValue) (rest : List (ℕ × RowValue)) → (other ≡ column → ⊥) → of_column column (map (λ x. (other, x)) values ++ rest) ≡ of_column column rest
other_field column other [] rest ne = refl
other_field column other (value ∷ values) rest ne = of_column-other column (other, value) (map (λ x. (other, x)) values ++ rest) ne ∙ other_field column other values rest ne

none_below : (column : ℕ) (row : RowFields) → below_all nat_cmp column row ≡ true → of_column column (values_in_order row) ≡ []
none_below column [] h = refl
none_below column (field ∷ row) h =
    let parts = and_parts (is_lt (nat_cmp column field.0)) (below_all nat_cmp column row) h in
    let lt : column < field.0 = ltb-true column field.0 (sym (is_lt-nat_cmp column field.0) ∙ parts.0) in
    other_field column field.0 field.1 (values_in_order row) (λ e. omega (arith, e)) ∙ none_below column row parts.1

pub eq_by_cmp-eqb : (x y : ℕ) → eq_by_cmp nat_cmp x y ≡ eqb x y
eq_by_cmp-eqb x y = grind (arith, nat_tests)

append_none : (xs : List RowValue) → xs ++ [] ≡ xs
append_none [] = refl
append_none (x ∷ xs) = ap (λ (ys : List RowValue). x ∷ ys) (append_none xs)

row_column : (column : ℕ) (row : RowFields) → is_sorted nat_cmp row ≡ true → row_values_of row column ≡ of_column column (values_in_order row)
row_column column [] h = refl
row_column column (field ∷ row) h =
    let parts = and_parts (below_all nat_cmp field.0 row) (is_sorted nat_cmp row) h in
    let tested = λ (b : Bool). unwrap_or (cond b (Some field.1) (find nat_cmp column row)) [] in
    elim (cases_Bool (eqb column field.0)) [
      | inl same ↦
          let e : column ≡ field.0 = eqb-true _ _ same in
          let here : of_column column (values_in_order (field ∷ row)) ≡ field.1 ++ [] =
          subst (λ (c : ℕ). of_column column (map (λ (x : RowValue). (c, x)) field.1 ++ values_in_order row) ≡ field.1 ++ []) e
          (column_field column field.1 (values_in_order row) ∙ ap (λ (xs : List RowValue). field.1 ++ xs) (none_below column row (subst (λ (c : ℕ). below_all nat_cmp c row ≡ true) (sym e) parts.0))) in
          ap tested (eq_by_cmp-eqb column field.0 ∙ same) ∙ sym (here ∙ append_none field.1)
      | inr other ↦
          let ne = eqb-false column field.0 other in
          ap tested (eq_by_cmp-eqb column field.0 ∙ other) ∙ row_column column row parts.1 ∙ sym (other_field column field.0 field.1 (values_in_order row) (λ e. ne (sym e)))
    ]

pub row_values_of-column : (column : ℕ) (row : RowFields) → is_well_formed row ≡ true → row_values_of row column ≡ of_column column (values_in_order row)
row_values_of-column column row h = row_column column row ((and_parts (is_sorted nat_cmp row) (list_all field_fits_row row) h).0)

-- ---- the record that it stands for

none_is_no_value : (values : List RowValue) (at : ℕ) → at < length values → slice_get values at ≡ None → ⊥
none_is_no_value [] at lt e = absurd (omega arith)
none_is_no_value (value ∷ values) zero lt e = absurd cc
none_is_no_value (value ∷ values) (suc at) lt e = none_is_no_value values at (omega arith) e

pub values_of-here_fields : (row : RowFields) (column : ℕ) → values_of (here_fields row) column ≡ map bytes_here (row_values_of row column)
values_of-here_fields [] column = refl
values_of-here_fields (field ∷ row) column =
    elim (eq_by_cmp nat_cmp column field.0) as (λ b. unwrap_or (cond b (Some (map bytes_here field.1)) (find nat_cmp column (here_fields row))) [] ≡ map bytes_here (unwrap_or (cond b (Some field.1) (find nat_cmp column row)) [])) [
      | true ↦ refl
      | false ↦ values_of-here_fields row column
    ]

pub value_in_place : (row : RowFields) (column at : ℕ) (value : RowValue) → slice_get (row_values_of row column) at ≡ Some value
    → (at < length (values_of (here_fields row) column)) × IsFront (bytes_here value) (get_or (values_of (here_fields row) column) at [])
value_in_place row column at value e =
    let values = row_values_of row column in
    let is = values_of-here_fields row column in
    let got : slice_get (map bytes_here values) at ≡ Some (bytes_here value) = slice_get-map bytes_here values at ∙ ap (option_map bytes_here) e in
    let read : get_or (map bytes_here values) at [] ≡ bytes_here value = get_or_from_slice_get (map bytes_here values) at (bytes_here value) [] got in
    let within : at < length (map bytes_here values) = slice_get_within (map bytes_here values) at (bytes_here value) got in
    (omega (arith, within, ap length is), inl (sym (ap (λ (xs : List (List ℕ)). get_or xs at []) is ∙ read)))

pub no_value : (row : RowFields) (column at : ℕ) → slice_get (row_values_of row column) at ≡ None → length (values_of (here_fields row) column) ≤ at
no_value row column at e =
    let values = row_values_of row column in
    let is = values_of-here_fields row column in
    elim (cases_lt at (length values)) [
      | inl lt ↦ absurd (none_is_no_value values at lt e)
      | inr le ↦ omega (arith, ap length is, length-map values bytes_here)
    ]
