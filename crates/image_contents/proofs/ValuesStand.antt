-- The values of a row one after another stand under columns that take them where its fields do.
use Rattle.std.proofs.Common.{◌≡◌, ℕ, zero, suc, ◌<◌, ◌^◌, ◌-◌, Bool, true, false, ◌&&◌, ◌||◌, ◌==◌, Option, Some, None, List, [], ◌∷◌, ◌++◌, drop, length, map, take, refl, sym, ap, subst, ◌∙◌, arith}
use Rattle.std.specs.Prelude.{IsTrue, get_or, nat_eq, nat_le, nat_lt, not}
use Rattle.std.specs.List.{AllByRecursion, flat_map, list_all}
use Rattle.std.specs.Ordering.{is_lt, nat_cmp}
use Rattle.std.specs.FinMap.Entries.{below_all, is_sorted}
use Rattle.std.specs.Int.{from_le_bytes, w16}
use Rattle.std.proofs.lemmas.Bool.{and_parts, eqb-true, ltb-true}
use Rattle.std.proofs.lemmas.Bool.Decides.{nat_tests}
use Rattle.std.proofs.lemmas.Cmp.{nat_cmp_total, tied_itself}
use Rattle.std.specs.declared.cmp.Ordering.TheVariants.{Equal}
use Rattle.std.proofs.lemmas.Nat.{from_le_bytes-to_le_bytes_2}
use Rattle.std.proofs.lemmas.List.{take_all}
use Rattle.column_set.specs.declared.columns.Column.{Column}
use Rattle.column_set.specs.declared.rows.RowValue.{RowValue}
use Rattle.column_set.specs.declared.rows.RowValue.TheVariants.{Here, Apart}
use Rattle.column_set.specs.OtherValues.{MayStand, StandIn}
use Rattle.column_set.specs.RecordValues.{column_of_id, is_kept_column, values_of}
use Rattle.column_set.specs.RowReading.{row_in}
use Rattle.column_set.specs.Rows.{IsRowBytes, RowFields, field_fits_row, here_fields, is_row, is_well_formed, row_bytes, row_values_of, value_bytes, value_fits_row, values_in_order}
use Rattle.common_lemmas.proofs.Booleans.{and_false, and_left, and_right, by_test, impossible}
use Rattle.common_lemmas.proofs.Numbers.{self_equal}
use Rattle.image_findings.specs.TableContents.{field_fits, row_fits, row_value_fits}
use Rattle.image_contents.proofs.ReadRows.{count_here}
use Rattle.image_contents.specs.FoundValues.{Told, here_of, is_another, told_of, value_stands, values_stand}

-- what the law of rows that are read back says
abbrev pub ReadLaw : Type 0
ReadLaw = (row : RowFields) → IsTrue (is_row row) → row_in (row_bytes row) ≡ row

and_assoc : (a b c : Bool) → ((a && b) && c) ≡ (a && (b && c))
and_assoc true b c = refl
and_assoc false b c = refl

and_true : (a : Bool) → (a && true) ≡ a
and_true true = refl
and_true false = refl

-- ---- one value

abbrev stands_by : Option Column → Bool → RowValue → Bool
stands_by o another v = elim o [ Some column ↦ (column.multi || another) && row_value_fits column.kind v | None ↦ false ]

value_is : (columns : List Column) (last : Option ℕ) (column : ℕ) (v : RowValue) → value_stands columns last (told_of (column, v)) ≡ stands_by (column_of_id columns column) (is_another last column) v
value_is columns last column (Here bytes) = refl
value_is columns last column (Apart entry place size) = refl

-- ---- one field

abbrev field_by : Option Column → List RowValue → Bool
field_by o vs = elim o [ Some column ↦ (column.multi || nat_le (length vs) 1) && list_all (row_value_fits column.kind) vs | None ↦ false ]

two_more : (n : ℕ) → nat_le (suc (suc n)) 1 ≡ false
two_more n = grind (arith, nat_tests)

many : (m : Bool) (fits : RowValue → Bool) (v : RowValue) (vs : List RowValue) (rest : Bool)
    → (((m || true) && fits v) && (list_all (λ w. (m || false) && fits w) vs && rest)) ≡ (((m || nat_le (suc (length vs)) 1) && (fits v && list_all fits vs)) && rest)
many true fits v vs rest = sym (and_assoc (fits v) (list_all fits vs) rest)
many false fits v [] rest = ap (λ b. b && rest) (sym (and_true (fits v)))
many false fits v (w ∷ vs) rest = and_false (fits v) ∙ sym (ap (λ b. (b && (fits v && list_all fits (w ∷ vs))) && rest) (two_more (length vs)))

field_is : (o : Option Column) (v : RowValue) (vs : List RowValue) (rest : Bool) → (stands_by o true v && (list_all (stands_by o false) vs && rest)) ≡ (field_by o (v ∷ vs) && rest)
field_is None v vs rest = refl
field_is (Some column) v vs rest = many column.multi (row_value_fits column.kind) v vs rest

behind : (columns : List Column) (column : ℕ) (vs : List RowValue) (rest : List (ℕ × RowValue))
    → values_stand columns (Some column) (map (λ v. (column, v)) vs ++ rest) ≡ (list_all (stands_by (column_of_id columns column) false) vs && values_stand columns (Some column) rest)
behind columns column [] rest = refl
behind columns column (v ∷ vs) rest =
    ap (λ b. b && values_stand columns (Some column) (map (λ v. (column, v)) vs ++ rest)) (value_is columns (Some column) column v ∙ ap (λ b. stands_by (column_of_id columns column) (not b) v) (self_equal column))
    ∙ ap (λ b. stands_by (column_of_id columns column) false v && b) (behind columns column vs rest)
    ∙ sym (and_assoc (stands_by (column_of_id columns column) false v) (list_all (stands_by (column_of_id columns column) false) vs) (values_stand columns (Some column) rest))

field_stands : (columns : List Column) (last : Option ℕ) (column : ℕ) (v : RowValue) (vs : List RowValue) (rest : List (ℕ × RowValue)) (b : Bool) → is_another last column ≡ true → values_stand columns (Some column) rest ≡ b
    → values_stand columns last (map (λ v. (column, v)) (v ∷ vs) ++ rest) ≡ (field_fits columns (column, v ∷ vs) && b)
field_stands columns last column v vs rest b other is =
    ap (λ c. c && values_stand columns (Some column) (map (λ v. (column, v)) vs ++ rest)) (value_is columns last column v ∙ ap (λ c. stands_by (column_of_id columns column) c v) other)
    ∙ ap (λ c. stands_by (column_of_id columns column) true v && c) (behind columns column vs rest ∙ ap (λ c. list_all (stands_by (column_of_id columns column) false) vs && c) is)
    ∙ field_is (column_of_id columns column) v vs b

-- ---- all fields

equal_itself : (n : ℕ) → nat_cmp n n ≡ Equal
equal_itself n = tied_itself nat_cmp_total n

apart : (m n : ℕ) → is_lt (nat_cmp m n) ≡ true → not (m == n) ≡ true
apart m n h = by_test (m == n) (λ t. impossible (sym (ap is_lt (subst (λ k. nat_cmp m k ≡ Equal) (eqb-true m n t) (equal_itself m))) ∙ h)) (λ f. ap not f)

others : (column : ℕ) (row : RowFields) → below_all nat_cmp column row ≡ true → AllByRecursion (λ (f : ℕ × List RowValue). is_another (Some column) f.0 ≡ true) row
others column [] h = tt
others column (field ∷ row) h =
    (apart column field.0 (and_left (is_lt (nat_cmp column field.0)) (below_all nat_cmp column row) h), others column row (and_right (is_lt (nat_cmp column field.0)) (below_all nat_cmp column row) h))

pub fields_stand : (columns : List Column) (last : Option ℕ) (row : RowFields) → is_sorted nat_cmp row ≡ true → list_all field_fits_row row ≡ true → AllByRecursion (λ (f : ℕ × List RowValue). is_another last f.0 ≡ true) row
    → values_stand columns last (values_in_order row) ≡ list_all (field_fits columns) row
fields_stand columns last [] sorted fits other = refl
fields_stand columns last ((column, []) ∷ row) sorted fits other =
    impossible (sym (ap (λ b. b && true) (and_false (nat_lt column (2 ^ 16)))) ∙ and_left (field_fits_row (column, [])) (list_all field_fits_row row) fits)
fields_stand columns last ((column, v ∷ vs) ∷ row) sorted fits other =
    field_stands columns last column v vs (values_in_order row) (list_all (field_fits columns) row) other.0
    (fields_stand columns (Some column) row (and_right (below_all nat_cmp column row) (is_sorted nat_cmp row) sorted) (and_right (field_fits_row (column, v ∷ vs)) (list_all field_fits_row row) fits)
    (others column row (and_left (below_all nat_cmp column row) (is_sorted nat_cmp row) sorted)))

none_before : (row : RowFields) → AllByRecursion (λ (f : ℕ × List RowValue). is_another None f.0 ≡ true) row
none_before [] = tt
none_before (f ∷ row) = (refl, none_before row)

-- the values of a row, from the first on
pub row_stands : (columns : List Column) (row : RowFields) → is_row row ≡ true → values_stand columns None (values_in_order row) ≡ list_all (field_fits columns) row
row_stands columns row formed =
    let well = and_left (is_well_formed row) (nat_lt (length (values_in_order row)) (2 ^ 16)) formed in
    fields_stand columns None row (and_left (is_sorted nat_cmp row) (list_all field_fits_row row) well) (and_right (is_sorted nat_cmp row) (list_all field_fits_row row) well) (none_before row)

-- ---- they stand in its bytes

fit_of_field : (column : ℕ) (values : List RowValue) (rest : List (ℕ × RowValue)) → column < 2 ^ 16 → list_all value_fits_row values ≡ true → AllByRecursion MayStand rest → AllByRecursion MayStand (map (λ value. (column, value)) values ++ rest)
fit_of_field column [] rest low fits all = all
fit_of_field column (value ∷ values) rest low fits all =
    ((low, and_left (value_fits_row value) (list_all value_fits_row values) fits), fit_of_field column values rest low (and_right (value_fits_row value) (list_all value_fits_row values) fits) all)

fit_of_fields : (fields : RowFields) → list_all field_fits_row fields ≡ true → AllByRecursion MayStand (values_in_order fields)
fit_of_fields [] fits = tt
fit_of_fields (field ∷ fields) fits =
    let own = and_parts (nat_lt field.0 (2 ^ 16) && nat_lt 0 (length field.1)) (list_all value_fits_row field.1) (and_left (field_fits_row field) (list_all field_fits_row fields) fits) in
    fit_of_field field.0 field.1 (values_in_order fields) (ltb-true field.0 (2 ^ 16) (and_left (nat_lt field.0 (2 ^ 16)) (nat_lt 0 (length field.1)) own.0)) own.1 (fit_of_fields fields (and_right (field_fits_row field) (list_all field_fits_row fields) fits))

stand_in : (fields : RowFields) → is_row fields ≡ true → StandIn (take (length (row_bytes fields) - 2) (drop 2 (row_bytes fields))) (values_in_order fields)
stand_in fields formed = record {
  fit = fit_of_fields fields (and_right (is_sorted nat_cmp fields) (list_all field_fits_row fields) (and_left (is_well_formed fields) (nat_lt (length (values_in_order fields)) (2 ^ 16)) formed));
  spelled = take_all (length (row_bytes fields) - 2) (flat_map value_bytes (values_in_order fields)) (omega arith);
}

pub values_stand_in : ReadLaw → (row : List ℕ) → IsRowBytes row → StandIn (take (length row - 2) (drop 2 row)) (values_in_order (row_in row))
values_stand_in law row is =
    let fields = is.0 in
    let back : row_in row ≡ fields = ap row_in is.2 ∙ law fields is.1 in
    subst (λ (r : List ℕ). StandIn (take (length r - 2) (drop 2 r)) (values_in_order (row_in row))) (sym is.2)
    (subst (λ (f : RowFields). StandIn (take (length (row_bytes fields) - 2) (drop 2 (row_bytes fields))) (values_in_order f)) (sym back) (stand_in fields is.1))

pub formed : ReadLaw → (row : List ℕ) → IsRowBytes row → is_row (row_in row) ≡ true
formed law row is = ap is_row (ap row_in is.2 ∙ law is.0 is.1) ∙ is.1

-- ---- the bytes of a value

pub column_is : (value : List ℕ) (column : ℕ) (x : ℕ × RowValue) → MayStand x → value ≡ value_bytes x → column ≡ from_le_bytes w16 (get_or value 0 0 ∷ get_or value 1 0 ∷ []) → column ≡ x.0
column_is value column (own, Here bytes) may is read = read ∙ ap (λ (v : List ℕ). from_le_bytes w16 (get_or v 0 0 ∷ get_or v 1 0 ∷ [])) is ∙ from_le_bytes-to_le_bytes_2 own may.0
column_is value column (own, Apart entry place size) may is read = read ∙ ap (λ (v : List ℕ). from_le_bytes w16 (get_or v 0 0 ∷ get_or v 1 0 ∷ [])) is ∙ from_le_bytes-to_le_bytes_2 own may.0

no_form : (n : ℕ) → n ≡ 0 → n ≡ 1 → ⊥
no_form n e f = omega (arith, e, f)

pub here_is : (value : List ℕ) (x : ℕ × RowValue) → value ≡ value_bytes x → get_or value 2 0 ≡ 0 → Some (take (length value - 5) (drop 5 value)) ≡ here_of x.1
here_is value (own, Here bytes) is form =
    ap (λ (v : List ℕ). Some (take (length v - 5) (drop 5 v))) is ∙ ap (λ (b : List ℕ). Some b) (take_all (length (value_bytes (own, Here bytes)) - 5) bytes (omega arith))
here_is value (own, Apart entry place size) is form = absurd (no_form (get_or value 2 0) form (ap (λ (v : List ℕ). get_or v 2 0) is))

pub apart_is : (value : List ℕ) (x : ℕ × RowValue) → value ≡ value_bytes x → (get_or value 2 0 ≡ 0 → ⊥) → None ≡ here_of x.1
apart_is value (own, Here bytes) is other = absurd (other (ap (λ (v : List ℕ). get_or v 2 0) is))
apart_is value (own, Apart entry place size) is other = refl

-- ---- what a row fits

pub row_is : ReadLaw → (bytes : List ℕ) (row : RowFields) → IsRowBytes bytes → ((r : RowFields) → IsTrue (is_row r) → bytes ≡ row_bytes r → row ≡ r) → row ≡ row_in bytes
row_is law bytes row is only = only is.0 is.1 is.2 ∙ sym (ap row_in is.2 ∙ law is.0 is.1)

abbrev kept : List Column → RowFields → Bool
kept columns row = list_all (λ (column : Column). not (is_kept_column column) || nat_lt 0 (length (row_values_of row column.id.0))) columns

pub fits_then : ReadLaw → (columns : List Column) (bytes : List ℕ) (row : RowFields) (a b : Bool) → IsRowBytes bytes → row ≡ row_in bytes → a ≡ values_stand columns None (values_in_order (row_in bytes)) → a ≡ true → b ≡ kept columns row → b ≡ row_fits columns (row_in bytes)
fits_then law columns bytes row a b is own stand holds keeps =
    keeps ∙ ap (kept columns) own
    ∙ ap (λ c. c && kept columns (row_in bytes)) (sym holds ∙ stand ∙ row_stands columns (row_in bytes) (formed law bytes is))

pub fits_else : ReadLaw → (columns : List Column) (bytes : List ℕ) (a : Bool) → IsRowBytes bytes → a ≡ values_stand columns None (values_in_order (row_in bytes)) → a ≡ false → a ≡ row_fits columns (row_in bytes)
fits_else law columns bytes a is stand fails =
    fails ∙ ap (λ c. c && kept columns (row_in bytes)) (sym fails ∙ stand ∙ row_stands columns (row_in bytes) (formed law bytes is))

pub has_kept : (row : RowFields) (column count : ℕ) → count ≡ length (values_of (here_fields row) column) → nat_lt 0 count ≡ nat_lt 0 (length (row_values_of row column))
has_kept row column count is = ap (nat_lt 0) (is ∙ count_here row column)

-- ---- one value after another

-- what is told of the first value where one is read
abbrev pub IsTold : List ℕ → Told → List ℕ → Type 0
IsTold values told rest = (value : ℕ × RowValue) (left : List ℕ) → MayStand value → values ≡ value_bytes value ++ left → (told.0 ≡ value.0) × (told.1 ≡ here_of value.1) × (rest ≡ left)

pub stand_first : (columns : List Column) (last : Option ℕ) (values rest : List ℕ) (told : Told) (b : Bool) → (values ≡ [] → ⊥) → IsTold values told rest
    → ((xs : List (ℕ × RowValue)) → StandIn rest xs → b ≡ (value_stands columns last told && values_stand columns (Some told.0) xs)) → (xs : List (ℕ × RowValue)) → StandIn values xs → b ≡ values_stand columns last xs
stand_first columns last values rest told b some is later [] stand = absurd (some stand.spelled)
stand_first columns last values rest told b some is later (x ∷ xs) stand =
    let first = is x (flat_map value_bytes xs) stand.fit.0 stand.spelled in
    later xs (record { fit = stand.fit.1; spelled = first.2 })
    ∙ (λ i. value_stands columns last (first.0 i, first.1 i) && values_stand columns (Some (first.0 i)) xs)

pub stand_none : (columns : List Column) (last : Option ℕ) (values : List ℕ) → ((value : ℕ × RowValue) (left : List ℕ) → MayStand value → values ≡ value_bytes value ++ left → ⊥) → (xs : List (ℕ × RowValue)) → StandIn values xs → true ≡ values_stand columns last xs
stand_none columns last values none [] stand = refl
stand_none columns last values none (x ∷ xs) stand = absurd (none x (flat_map value_bytes xs) stand.fit.0 stand.spelled)
