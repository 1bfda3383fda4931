-- A row and its values one after the other say the same.
use Rattle.std.proofs.Common.{◌≡◌, ℕ, ◌^◌, ◌<◌, ◌≤◌, Bool, true, false, cond, ltb, leb, eqb, ◌&&◌, List, [], ◌∷◌, ◌++◌, length, refl, sym, ap, subst, ◌∙◌, arith, inl, inr}
use Rattle.std.specs.Prelude.{map}
use Rattle.std.specs.List.{list_all}
use Rattle.std.specs.Ordering.{nat_cmp, is_lt}
use Rattle.std.specs.FinMap.Entries.{is_sorted, below_all}
use Rattle.std.proofs.lemmas.Bool.{and_parts, and_from, eqb-true, eqb-false, eq-eqb, ne_eqb, leb-true, le-leb, ltb-true, lt-ltb, cases_Bool}
use Rattle.std.proofs.lemmas.Bool.Decides.{nat_tests}
use Rattle.column_set.specs.declared.rows.RowValue.{RowValue}
use Rattle.column_set.specs.Rows.{RowFields, values_in_order, value_fits_row, field_fits_row, is_well_formed}
use Rattle.column_set.specs.RowReading.{in_front, grouped, are_in_order}

-- ---- the values of the row that values make

values_in_order-in_front : (value : ℕ × RowValue) (row : RowFields) → values_in_order (in_front value row) ≡ value ∷ values_in_order row
values_in_order-in_front value [] = refl
values_in_order-in_front value (field ∷ row) =
    elim (cases_Bool (eqb value.0 field.0)) [
      | inl same ↦
          let there : field.0 ≡ value.0 = sym (eqb-true value.0 field.0 same) in
          ap (λ (b : Bool). values_in_order (cond b ((value.0, value.1 ∷ field.1) ∷ row) ((value.0, value.1 ∷ []) ∷ field ∷ row))) same
          ∙ ap (λ (c : ℕ). value ∷ (map (λ x. (c, x)) field.1 ++ values_in_order row)) (sym there)
      | inr other ↦ ap (λ (b : Bool). values_in_order (cond b ((value.0, value.1 ∷ field.1) ∷ row) ((value.0, value.1 ∷ []) ∷ field ∷ row))) other
    ]

pub values_in_order-grouped : (values : List (ℕ × RowValue)) → values_in_order (grouped values) ≡ values
values_in_order-grouped [] = refl
values_in_order-grouped (value ∷ values) =
    values_in_order-in_front value (grouped values) ∙ ap (λ (xs : List (ℕ × RowValue)). value ∷ xs) (values_in_order-grouped values)

-- ---- tests on keys

pub is_lt-nat_cmp : (x y : ℕ) → is_lt (nat_cmp x y) ≡ ltb x y
is_lt-nat_cmp x y = grind (arith, nat_tests)

-- each column of the row is `least` or more
abbrev pub are_from : ℕ → RowFields → Bool
are_from least row = list_all (λ field. leb least field.0) row

below_all-from : (x : ℕ) (row : RowFields) → below_all nat_cmp x row ≡ true → are_from x row ≡ true
below_all-from x [] h = refl
below_all-from x (field ∷ row) h =
    let parts = and_parts (is_lt (nat_cmp x field.0)) (below_all nat_cmp x row) h in
    let lt : x < field.0 = ltb-true x field.0 (sym (is_lt-nat_cmp x field.0) ∙ parts.0) in
    and_from (leb x field.0) (are_from x row) (le-leb x field.0 (omega arith)) (below_all-from x row parts.1)

below_all-lower : (x y : ℕ) (row : RowFields) → x ≤ y → below_all nat_cmp y row ≡ true → below_all nat_cmp x row ≡ true
below_all-lower x y [] le h = refl
below_all-lower x y (field ∷ row) le h =
    let parts = and_parts (is_lt (nat_cmp y field.0)) (below_all nat_cmp y row) h in
    let lt : y < field.0 = ltb-true y field.0 (sym (is_lt-nat_cmp y field.0) ∙ parts.0) in
    and_from (is_lt (nat_cmp x field.0)) (below_all nat_cmp x row) (is_lt-nat_cmp x field.0 ∙ lt-ltb x field.0 (omega arith)) (below_all-lower x y row le parts.1)

are_from-lower : (x y : ℕ) (row : RowFields) → x ≤ y → are_from y row ≡ true → are_from x row ≡ true
are_from-lower x y [] le h = refl
are_from-lower x y (field ∷ row) le h =
    let parts = and_parts (leb y field.0) (are_from y row) h in
    let from : y ≤ field.0 = leb-true y field.0 parts.0 in
    and_from (leb x field.0) (are_from x row) (le-leb x field.0 (omega arith)) (are_from-lower x y row le parts.1)

-- ---- the row of a row's values

grouped-below : (column : ℕ) (value : RowValue) (row : RowFields) → below_all nat_cmp column row ≡ true → in_front (column, value) row ≡ (column, value ∷ []) ∷ row
grouped-below column value [] h = refl
grouped-below column value (field ∷ row) h =
    let parts = and_parts (is_lt (nat_cmp column field.0)) (below_all nat_cmp column row) h in
    let lt : column < field.0 = ltb-true column field.0 (sym (is_lt-nat_cmp column field.0) ∙ parts.0) in
    ap (λ (b : Bool). cond b ((column, value ∷ field.1) ∷ row) ((column, value ∷ []) ∷ field ∷ row)) (ne_eqb column field.0 (λ e. omega (arith, e)))

grouped-field : (column : ℕ) (value : RowValue) (values : List RowValue) (rest : List (ℕ × RowValue)) (row : RowFields) → grouped rest ≡ row → below_all nat_cmp column row ≡ true
    → grouped (map (λ x. (column, x)) (value ∷ values) ++ rest) ≡ (column, value ∷ values) ∷ row
grouped-field column value [] rest row e below = ap (in_front (column, value)) e ∙ grouped-below column value row below
grouped-field column value (next ∷ values) rest row e below =
    ap (in_front (column, value)) (grouped-field column next values rest row e below)
    ∙ ap (λ (b : Bool). cond b ((column, value ∷ next ∷ values) ∷ row) ((column, value ∷ []) ∷ (column, next ∷ values) ∷ row)) (eq-eqb column column refl)

pub grouped-values_in_order : (row : RowFields) → is_well_formed row ≡ true → grouped (values_in_order row) ≡ row
grouped-values_in_order [] h = refl
grouped-values_in_order ((column, []) ∷ row) h =
    let both = and_parts (is_sorted nat_cmp ((column, []) ∷ row)) (list_all field_fits_row ((column, []) ∷ row)) h in
    let fits = and_parts (field_fits_row (column, [])) (list_all field_fits_row row) both.1 in
    let shown = and_parts (ltb column (2 ^ 16) && false) true fits.0 in
    let never = and_parts (ltb column (2 ^ 16)) false shown.0 in
    absurd (let e : false ≡ true = never.1 in cc)
grouped-values_in_order ((column, value ∷ values) ∷ row) h =
    let both = and_parts (is_sorted nat_cmp ((column, value ∷ values) ∷ row)) (list_all field_fits_row ((column, value ∷ values) ∷ row)) h in
    let sorted = and_parts (below_all nat_cmp column row) (is_sorted nat_cmp row) both.0 in
    let fits = and_parts (field_fits_row (column, value ∷ values)) (list_all field_fits_row row) both.1 in
    grouped-field column value values (values_in_order row) row (grouped-values_in_order row (and_from _ _ sorted.1 fits.1)) sorted.0

-- ---- which values make a row

-- a row of values in order: well formed, and from the least column on
record IsRowFrom (least : ℕ) (row : RowFields) : Type 0 where
  sorted : is_sorted nat_cmp row ≡ true
  fits : list_all field_fits_row row ≡ true
  from : are_from least row ≡ true

in_front_is_row : (least : ℕ) (value : ℕ × RowValue) (row : RowFields) → least ≤ value.0 → value.0 < 2 ^ 16 → value_fits_row value.1 ≡ true → IsRowFrom value.0 row → IsRowFrom least (in_front value row)
in_front_is_row least value [] le lt fits h = record {
  sorted = refl;
  fits = and_from (field_fits_row (value.0, value.1 ∷ [])) true (and_from (ltb value.0 (2 ^ 16) && true) (value_fits_row value.1 && true) (and_from (ltb value.0 (2 ^ 16)) true (lt-ltb _ _ lt) refl) (and_from (value_fits_row value.1) true fits refl)) refl;
  from = and_from (leb least value.0) true (le-leb _ _ le) refl;
}
in_front_is_row least value (field ∷ row) le lt fits h =
    let sorted = and_parts (below_all nat_cmp field.0 row) (is_sorted nat_cmp row) h.sorted in
    let fit = and_parts (field_fits_row field) (list_all field_fits_row row) h.fits in
    let field_fit = and_parts (ltb field.0 (2 ^ 16) && ltb 0 (length field.1)) (list_all value_fits_row field.1) fit.0 in
    let froms = and_parts (leb value.0 field.0) (are_from value.0 row) h.from in
    let above : value.0 ≤ field.0 = leb-true _ _ froms.0 in
    let least_row = are_from-lower least value.0 row le froms.1 in
    let here : leb least value.0 ≡ true = le-leb _ _ le in
    elim (cases_Bool (eqb value.0 field.0)) [
      | inl same ↦
          let e : value.0 ≡ field.0 = eqb-true _ _ same in
          let made : IsRowFrom least ((value.0, value.1 ∷ field.1) ∷ row) = record {
            sorted = and_from (below_all nat_cmp value.0 row) (is_sorted nat_cmp row) (below_all-lower value.0 field.0 row above sorted.0) sorted.1;
            fits = and_from (field_fits_row (value.0, value.1 ∷ field.1)) (list_all field_fits_row row) (and_from (ltb value.0 (2 ^ 16) && ltb 0 (length (value.1 ∷ field.1))) (value_fits_row value.1 && list_all value_fits_row field.1) (and_from (ltb value.0 (2 ^ 16)) (ltb 0 (length (value.1 ∷ field.1))) (lt-ltb _ _ lt) (lt-ltb 0 (length (value.1 ∷ field.1)) (omega arith))) (and_from (value_fits_row value.1) (list_all value_fits_row field.1) fits field_fit.1)) fit.1;
            from = and_from (leb least value.0) (are_from least row) here least_row;
          } in
          subst (λ (b : Bool). IsRowFrom least (cond b ((value.0, value.1 ∷ field.1) ∷ row) ((value.0, value.1 ∷ []) ∷ field ∷ row))) (sym same) made
      | inr other ↦
          let ne : value.0 < field.0 = omega (arith, eqb-false _ _ other) in
          let made : IsRowFrom least ((value.0, value.1 ∷ []) ∷ field ∷ row) = record {
            sorted = and_from (below_all nat_cmp value.0 (field ∷ row)) (is_sorted nat_cmp (field ∷ row)) (and_from (is_lt (nat_cmp value.0 field.0)) (below_all nat_cmp value.0 row) (is_lt-nat_cmp _ _ ∙ lt-ltb _ _ ne) (below_all-lower value.0 field.0 row above sorted.0)) h.sorted;
            fits = and_from (field_fits_row (value.0, value.1 ∷ [])) (list_all field_fits_row (field ∷ row)) (and_from (ltb value.0 (2 ^ 16) && true) (value_fits_row value.1 && true) (and_from (ltb value.0 (2 ^ 16)) true (lt-ltb _ _ lt) refl) (and_from (value_fits_row value.1) true fits refl)) h.fits;
            from = and_from (leb least value.0) (are_from least (field ∷ row)) here (and_from (leb least field.0) (are_from least row) (le-leb _ _ (omega arith)) least_row);
          } in
          subst (λ (b : Bool). IsRowFrom least (cond b ((value.0, value.1 ∷ field.1) ∷ row) ((value.0, value.1 ∷ []) ∷ field ∷ row))) (sym other) made
    ]

pub record InOrder (low : ℕ) (value : ℕ × RowValue) (values : List (ℕ × RowValue)) : Type 0 where
  pub least : low ≤ value.0
  pub column : value.0 < 2 ^ 16
  pub fits : value_fits_row value.1 ≡ true
  pub rest : are_in_order value.0 values ≡ true

pub in_order_parts : (least : ℕ) (value : ℕ × RowValue) (values : List (ℕ × RowValue)) → are_in_order least (value ∷ values) ≡ true → InOrder least value values
in_order_parts least value values h =
    let a = and_parts (leb least value.0 && ltb value.0 (2 ^ 16) && value_fits_row value.1) (are_in_order value.0 values) h in
    let b = and_parts (leb least value.0 && ltb value.0 (2 ^ 16)) (value_fits_row value.1) a.0 in
    let c = and_parts (leb least value.0) (ltb value.0 (2 ^ 16)) b.0 in
    record { least = leb-true _ _ c.0; column = ltb-true _ _ c.1; fits = b.1; rest = a.1 }

pub in_order_from : (least : ℕ) (value : ℕ × RowValue) (values : List (ℕ × RowValue)) → InOrder least value values → are_in_order least (value ∷ values) ≡ true
in_order_from least value values h =
    and_from (leb least value.0 && ltb value.0 (2 ^ 16) && value_fits_row value.1) (are_in_order value.0 values) (and_from (leb least value.0 && ltb value.0 (2 ^ 16)) (value_fits_row value.1) (and_from (leb least value.0) (ltb value.0 (2 ^ 16)) (le-leb _ _ h.least) (lt-ltb _ _ h.column)) h.fits) h.rest

grouped_is_row : (least : ℕ) (values : List (ℕ × RowValue)) → are_in_order least values ≡ true → IsRowFrom least (grouped values)
grouped_is_row least [] h = record { sorted = refl; fits = refl; from = refl }
grouped_is_row least (value ∷ values) h =
    let parts = in_order_parts least value values h in
    in_front_is_row least value (grouped values) parts.least parts.column parts.fits (grouped_is_row value.0 values parts.rest)

pub is_well_formed-grouped : (values : List (ℕ × RowValue)) → are_in_order 0 values ≡ true → is_well_formed (grouped values) ≡ true
is_well_formed-grouped values h =
    let made = grouped_is_row 0 values h in
    and_from (is_sorted nat_cmp (grouped values)) (list_all field_fits_row (grouped values)) made.sorted made.fits

-- ---- the values of a row are in order

field_in_order : (column : ℕ) (values : List RowValue) (rest : List (ℕ × RowValue)) → column < 2 ^ 16 → list_all value_fits_row values ≡ true → are_in_order column rest ≡ true → are_in_order column (map (λ x. (column, x)) values ++ rest) ≡ true
field_in_order column [] rest lt fits h = h
field_in_order column (value ∷ values) rest lt fits h =
    let parts = and_parts (value_fits_row value) (list_all value_fits_row values) fits in
    in_order_from column (column, value) (map (λ x. (column, x)) values ++ rest) (record { least = omega arith; column = lt; fits = parts.0; rest = field_in_order column values rest lt parts.1 h })

pub in_order-lower : (x y : ℕ) (values : List (ℕ × RowValue)) → x ≤ y → are_in_order y values ≡ true → are_in_order x values ≡ true
in_order-lower x y [] le h = refl
in_order-lower x y (value ∷ values) le h =
    let parts = in_order_parts y value values h in
    let from : y ≤ value.0 = parts.least in
    in_order_from x value values (record { least = omega arith; column = parts.column; fits = parts.fits; rest = parts.rest })

row_in_order : (least : ℕ) (row : RowFields) → are_from least row ≡ true → is_sorted nat_cmp row ≡ true → list_all field_fits_row row ≡ true → are_in_order least (values_in_order row) ≡ true
row_in_order least [] from sorted fits = refl
row_in_order least (field ∷ row) from sorted fits =
    let s = and_parts (below_all nat_cmp field.0 row) (is_sorted nat_cmp row) sorted in
    let f = and_parts (field_fits_row field) (list_all field_fits_row row) fits in
    let g = and_parts (ltb field.0 (2 ^ 16) && ltb 0 (length field.1)) (list_all value_fits_row field.1) f.0 in
    let k = and_parts (ltb field.0 (2 ^ 16)) (ltb 0 (length field.1)) g.0 in
    let a = and_parts (leb least field.0) (are_from least row) from in
    in_order-lower least field.0 _ (leb-true _ _ a.0) (field_in_order field.0 field.1 (values_in_order row) (ltb-true _ _ k.0) g.1 (row_in_order field.0 row (below_all-from field.0 row s.0) s.1 f.1))

are_from_zero : (row : RowFields) → are_from 0 row ≡ true
are_from_zero [] = refl
are_from_zero (field ∷ row) = and_from (leb 0 field.0) (are_from 0 row) (le-leb 0 field.0 (omega arith)) (are_from_zero row)

pub values_are_in_order : (row : RowFields) → is_well_formed row ≡ true → are_in_order 0 (values_in_order row) ≡ true
values_are_in_order row h =
    let both = and_parts (is_sorted nat_cmp row) (list_all field_fits_row row) h in
    row_in_order 0 row (are_from_zero row) both.0 both.1

-- ---- one value more

pub push_in_order : (least : ℕ) (values : List (ℕ × RowValue)) (value : ℕ × RowValue) → least ≤ value.0 → value.0 < 2 ^ 16 → value_fits_row value.1 ≡ true → are_in_order least values ≡ true → list_all (λ old. leb old.0 value.0) values ≡ true → are_in_order least (values ++ value ∷ []) ≡ true
push_in_order least [] value le lt fits order behind = in_order_from least value [] (record { least = le; column = lt; fits = fits; rest = refl })
push_in_order least (first ∷ values) value le lt fits order behind =
    let parts = in_order_parts least first values order in
    let back = and_parts (leb first.0 value.0) (list_all (λ old. leb old.0 value.0) values) behind in
    in_order_from least first (values ++ value ∷ []) (record { least = parts.least; column = parts.column; fits = parts.fits; rest = push_in_order first.0 values value (leb-true _ _ back.0) lt fits parts.rest back.1 })

pub pushed_in_order : (old new : List (ℕ × RowValue)) (done : Bool) (value : ℕ × RowValue) (row : RowFields) → new ≡ cond done (old ++ value ∷ []) old → grouped old ≡ row → value.0 < 2 ^ 16 → value_fits_row value.1 ≡ true → are_in_order 0 old ≡ true → list_all (λ x. leb x.0 value.0) (values_in_order row) ≡ true → are_in_order 0 new ≡ true
pushed_in_order old new true value row e is lt fits order behind =
    let behind_old : list_all (λ x. leb x.0 value.0) old ≡ true = ap (λ (xs : List (ℕ × RowValue)). list_all (λ x. leb x.0 value.0) xs) (sym (values_in_order-grouped old) ∙ ap values_in_order is) ∙ behind in
    ap (are_in_order 0) e ∙ push_in_order 0 old value (omega arith) lt fits order behind_old
pushed_in_order old new false value row e is lt fits order behind = ap (are_in_order 0) e ∙ order

pub pushed_values : (old new : List (ℕ × RowValue)) (done : Bool) (value : ℕ × RowValue) (row : RowFields) → new ≡ cond done (old ++ value ∷ []) old → grouped old ≡ row → values_in_order (grouped new) ≡ cond done (values_in_order row ++ value ∷ []) (values_in_order row)
pushed_values old new done value row e is =
    let before : old ≡ values_in_order row = sym (values_in_order-grouped old) ∙ ap values_in_order is in
    values_in_order-grouped new ∙ e ∙ ap (λ (xs : List (ℕ × RowValue)). cond done (xs ++ value ∷ []) xs) before
