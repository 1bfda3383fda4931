-- A row without the values of a column.
use Rattle.std.proofs.Common.{◌≡◌, ℕ, ◌<◌, ◌≤◌, ◌^◌, Bool, true, false, not, ltb, cond, List, [], ◌∷◌, ◌++◌, length, map, refl, sym, ap, subst, ◌∙◌, arith}
use Rattle.std.specs.Prelude.{◌==◌, T, filter}
use Rattle.std.specs.List.{flat_map, list_all}
use Rattle.std.specs.Ordering.{nat_cmp}
use Rattle.std.specs.FinMap.Entries.{is_sorted, is_sorted-where_key}
use Rattle.std.proofs.lemmas.Bool.{and_parts, and_from, ltb-true, lt-ltb}
use Rattle.std.proofs.lemmas.List.{length-append}
use Rattle.common_lemmas.proofs.Lists.{all_filtered, length-filter}
use Rattle.common_lemmas.proofs.Booleans.{is_true}
use Rattle.column_set.specs.declared.rows.RowValue.{RowValue}
use Rattle.column_set.specs.declared.rows.RowValue.TheVariants.{Here}
use Rattle.column_set.specs.RecordValues.{RecordFields, remove_by_number}
use Rattle.column_set.specs.Rows.{RowFields, all_here, bytes_here, field_fits_row, here_fields, is_row, is_well_formed, row_bytes, value_bytes, values_in_order}
use Rattle.column_set.specs.OtherValues.{other_values}

-- ---- its values

values_of_field : (column number : ℕ) (values : List RowValue) (rest : List (ℕ × RowValue)) (b : Bool) → (number == column) ≡ b
    → other_values column (map (λ value. (number, value)) values ++ rest) ≡ cond b (other_values column rest) (map (λ value. (number, value)) values ++ other_values column rest)
values_of_field column number [] rest true e = refl
values_of_field column number [] rest false e = refl
values_of_field column number (value ∷ values) rest true e =
    ap (λ b. cond (not b) ((number, value) ∷ other_values column (map (λ x. (number, x)) values ++ rest)) (other_values column (map (λ x. (number, x)) values ++ rest))) e
    ∙ values_of_field column number values rest true e
values_of_field column number (value ∷ values) rest false e =
    ap (λ b. cond (not b) ((number, value) ∷ other_values column (map (λ x. (number, x)) values ++ rest)) (other_values column (map (λ x. (number, x)) values ++ rest))) e
    ∙ ap (λ (xs : List (ℕ × RowValue)). (number, value) ∷ xs) (values_of_field column number values rest false e)

pub values_without : (column : ℕ) (fields : RowFields) → values_in_order (remove_by_number column fields) ≡ other_values column (values_in_order fields)
values_without column [] = refl
values_without column (field ∷ fields) = by (field.0 == column) refl (values_without column fields)
  where
    by : (b : Bool) → (field.0 == column) ≡ b → values_in_order (remove_by_number column fields) ≡ other_values column (values_in_order fields)
        → values_in_order (cond (not b) (field ∷ remove_by_number column fields) (remove_by_number column fields)) ≡ other_values column (map (λ value. (field.0, value)) field.1 ++ values_in_order fields)
    by true e rest = rest ∙ sym (values_of_field column field.0 field.1 (values_in_order fields) true e)
    by false e rest =
        ap (λ (xs : List (ℕ × RowValue)). map (λ value. (field.0, value)) field.1 ++ xs) rest
        ∙ sym (values_of_field column field.0 field.1 (values_in_order fields) false e)

-- ---- it is a row

pub formed : (fields : RowFields) (column : ℕ) → is_row fields ≡ true → is_row (remove_by_number column fields) ≡ true
formed fields column h =
    let parts = and_parts (is_well_formed fields) (ltb (length (values_in_order fields)) (2 ^ 16)) h in
    let well = and_parts (is_sorted nat_cmp fields) (list_all field_fits_row fields) parts.0 in
    let few : length (values_in_order (remove_by_number column fields)) < 2 ^ 16 = few_left parts.1 in
    and_from (is_well_formed (remove_by_number column fields)) (ltb (length (values_in_order (remove_by_number column fields))) (2 ^ 16))
    (and_from (is_sorted nat_cmp (remove_by_number column fields)) (list_all field_fits_row (remove_by_number column fields))
    (is_true (is_sorted nat_cmp (remove_by_number column fields)) (is_sorted-where_key nat_cmp (λ number. not (number == column)) fields (subst T (sym well.0) tt))) (all_filtered field_fits_row (λ field. not (field.0 == column)) fields well.1))
    (lt-ltb _ _ few)
  where
    few_left : ltb (length (values_in_order fields)) (2 ^ 16) ≡ true → length (values_in_order (remove_by_number column fields)) < 2 ^ 16
    few_left h = omega (arith, ltb-true _ _ h, ap length (values_without column fields), length-filter (λ (value : ℕ × RowValue). not (value.0 == column)) (values_in_order fields))

-- ---- it is no longer

shorter_values : (kept : ℕ × RowValue → Bool) (values : List (ℕ × RowValue)) → length (flat_map value_bytes (filter kept values)) ≤ length (flat_map value_bytes values)
shorter_values kept [] = omega arith
shorter_values kept (value ∷ values) = by (kept value) (shorter_values kept values)
  where
    by : (b : Bool) → length (flat_map value_bytes (filter kept values)) ≤ length (flat_map value_bytes values)
        → length (flat_map value_bytes (cond b (value ∷ filter kept values) (filter kept values))) ≤ length (value_bytes value ++ flat_map value_bytes values)
    by true h = omega (arith, length-append (value_bytes value) (flat_map value_bytes values), length-append (value_bytes value) (flat_map value_bytes (filter kept values)))
    by false h = omega (arith, length-append (value_bytes value) (flat_map value_bytes values))

pub shorter : (fields : RowFields) (column : ℕ) → length (row_bytes (remove_by_number column fields)) ≤ length (row_bytes fields)
shorter fields column =
    let is = ap (λ (values : List (ℕ × RowValue)). length (flat_map value_bytes values)) (values_without column fields) in
    let low = shorter_values (λ value. not (value.0 == column)) (values_in_order fields) in
    omega (arith, is, low)

-- ---- the record that it stands for

pub shown : (fields : RowFields) (column : ℕ) → here_fields (remove_by_number column fields) ≡ remove_by_number column (here_fields fields)
shown [] column = refl
shown (field ∷ fields) column = by (field.0 == column) (shown fields column)
  where
    by : (b : Bool) → here_fields (remove_by_number column fields) ≡ remove_by_number column (here_fields fields)
        → here_fields (cond (not b) (field ∷ remove_by_number column fields) (remove_by_number column fields)) ≡ cond (not b) ((field.0, map bytes_here field.1) ∷ remove_by_number column (here_fields fields)) (remove_by_number column (here_fields fields))
    by true e = e
    by false e = ap (λ (r : RecordFields). (field.0, map bytes_here field.1) ∷ r) e

pub whole : (fields : RecordFields) (column : ℕ) → remove_by_number column (all_here fields) ≡ all_here (remove_by_number column fields)
whole [] column = refl
whole (field ∷ fields) column = by (field.0 == column) (whole fields column)
  where
    by : (b : Bool) → remove_by_number column (all_here fields) ≡ all_here (remove_by_number column fields)
        → cond (not b) ((field.0, map (λ value. Here value) field.1) ∷ remove_by_number column (all_here fields)) (remove_by_number column (all_here fields)) ≡ all_here (cond (not b) (field ∷ remove_by_number column fields) (remove_by_number column fields))
    by true e = e
    by false e = ap (λ (r : RowFields). (field.0, map (λ value. Here value) field.1) ∷ r) e
