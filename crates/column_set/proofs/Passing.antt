-- Walking over the values of a row.
use Rattle.std.proofs.Common.{◌≡◌, ℕ, ◌<◌, ◌^◌, ◌-◌, true, not, ◌&&◌, cond, List, [], ◌∷◌, ◌++◌, length, drop, take, map, refl, sym, ap, subst, ◌∙◌, append_assoc, arith}
use Rattle.std.specs.Prelude.{nat_lt}
use Rattle.std.specs.List.{AllByRecursion, flat_map, list_all}
use Rattle.std.specs.Int.{w16, to_le_bytes}
use Rattle.std.specs.Ordering.{nat_cmp}
use Rattle.std.specs.FinMap.Entries.{is_sorted}
use Rattle.std.proofs.lemmas.Bool.{and_parts, eq-eqb, ltb-true, ne_eqb}
use Rattle.std.proofs.lemmas.List.{append-nil, take_all}
use Rattle.std.proofs.lemmas.List.Concat.{flat_map-append}
use Rattle.column_set.specs.declared.rows.RowValue.{RowValue}
use Rattle.column_set.specs.RecordValues.{remove_by_number}
use Rattle.column_set.specs.Rows.{RowFields, field_fits_row, is_row, is_well_formed, row_bytes, value_bytes, value_fits_row, values_in_order}
use Rattle.column_set.specs.OtherValues.{MayStand, StandIn, other_values}
use Rattle.column_set.proofs.OtherFields.{values_without}

abbrev pub Values : Type 0
Values = List (ℕ × RowValue)

-- Of the values that the walk has passed those of other columns are told by the test, and the bytes of the values that are
-- left are still to come.
pub record HasPassed (column : ℕ) (all : Values) (rest : List ℕ) (Tells : Values → Type 0) : Type 0 where
  pub passed : Values
  pub left : Values
  pub stand : StandIn rest left
  pub others : other_values column all ≡ passed ++ other_values column left
  pub tells : Tells passed

-- whatever values stand in the bytes
abbrev pub Walk : ℕ → List ℕ → List ℕ → (Values → Type 0) → Type 0
Walk column bytes rest Tells = (all : Values) → StandIn bytes all → HasPassed column all rest Tells

pub starts : (column : ℕ) (bytes : List ℕ) (Tells : Values → Type 0) → Tells [] → Walk column bytes bytes Tells
starts column bytes Tells none all stand = record { passed = []; left = all; stand = stand; others = refl; tells = none }

-- what was read of the first value that is left
abbrev pub IsRead : List ℕ → ℕ → List ℕ → List ℕ → Type 0
IsRead rest number bytes after = (value : ℕ × RowValue) (behind : List ℕ) → MayStand value → rest ≡ value_bytes value ++ behind → (number ≡ value.0) × (bytes ≡ value_bytes value) × (after ≡ behind)

kept : (column : ℕ) (value : ℕ × RowValue) (others : Values) → (value.0 ≡ column → ⊥) → other_values column (value ∷ others) ≡ value ∷ other_values column others
kept column value others ne = ap (λ b. cond (not b) (value ∷ other_values column others) (other_values column others)) (ne_eqb value.0 column ne)

dropped : (column : ℕ) (value : ℕ × RowValue) (others : Values) → value.0 ≡ column → other_values column (value ∷ others) ≡ other_values column others
dropped column value others e = ap (λ b. cond (not b) (value ∷ other_values column others) (other_values column others)) (eq-eqb value.0 column e)

-- a value of another column
pub passes : (column : ℕ) (bytes rest : List ℕ) (Tells Tells_then : Values → Type 0) (number : ℕ) (text after : List ℕ) → (number ≡ column → ⊥) → (rest ≡ [] → ⊥) → IsRead rest number text after
    → ((passed : Values) (value : ℕ × RowValue) → text ≡ value_bytes value → Tells passed → Tells_then (passed ++ value ∷ [])) → Walk column bytes rest Tells → Walk column bytes after Tells_then
passes column bytes rest Tells Tells_then number text after ne some read more walk all stand = let h = walk all stand in by h h.left refl
  where
    by : (h : HasPassed column all rest Tells) (left : Values) → h.left ≡ left → HasPassed column all after Tells_then
    by h [] e = absurd (some (h.stand.spelled ∙ ap (flat_map value_bytes) e))
    by h (value ∷ others) e =
        let stand_here : StandIn rest (value ∷ others) = subst (StandIn rest) e h.stand in
        let is = read value (flat_map value_bytes others) stand_here.fit.0 stand_here.spelled in
        record {
          passed = h.passed ++ value ∷ [];
          left = others;
          stand = record { fit = stand_here.fit.1; spelled = is.2 };
          others =
              h.others ∙ ap (λ (xs : Values). h.passed ++ other_values column xs) e
              ∙ ap (λ (xs : Values). h.passed ++ xs) (kept column value others (λ same. ne (is.0 ∙ same)))
              ∙ sym (append_assoc h.passed (value ∷ []) (other_values column others));
          tells = more h.passed value is.1 h.tells;
        }

-- a value of the column
pub skips : (column : ℕ) (bytes rest : List ℕ) (Tells : Values → Type 0) (number : ℕ) (text after : List ℕ) → number ≡ column → (rest ≡ [] → ⊥) → IsRead rest number text after → Walk column bytes rest Tells → Walk column bytes after Tells
skips column bytes rest Tells number text after same some read walk all stand = let h = walk all stand in by h h.left refl
  where
    by : (h : HasPassed column all rest Tells) (left : Values) → h.left ≡ left → HasPassed column all after Tells
    by h [] e = absurd (some (h.stand.spelled ∙ ap (flat_map value_bytes) e))
    by h (value ∷ others) e =
        let stand_here : StandIn rest (value ∷ others) = subst (StandIn rest) e h.stand in
        let is = read value (flat_map value_bytes others) stand_here.fit.0 stand_here.spelled in
        record {
          passed = h.passed;
          left = others;
          stand = record { fit = stand_here.fit.1; spelled = is.2 };
          others =
              h.others ∙ ap (λ (xs : Values). h.passed ++ other_values column xs) e
              ∙ ap (λ (xs : Values). h.passed ++ xs) (dropped column value others (sym is.0 ∙ same));
          tells = h.tells;
        }

-- no value is left where none is read
pub ends : (column : ℕ) (bytes rest : List ℕ) (Tells : Values → Type 0) → ((value : ℕ × RowValue) (behind : List ℕ) → MayStand value → rest ≡ value_bytes value ++ behind → ⊥)
    → Walk column bytes rest Tells → (all : Values) → StandIn bytes all → Tells (other_values column all)
ends column bytes rest Tells none walk all stand = let h = walk all stand in by h h.left refl
  where
    by : (h : HasPassed column all rest Tells) (left : Values) → h.left ≡ left → Tells (other_values column all)
    by h [] e = subst Tells (sym (h.others ∙ ap (λ (xs : Values). h.passed ++ other_values column xs) e ∙ append-nil h.passed)) h.tells
    by h (value ∷ others) e =
        let stand_here : StandIn rest (value ∷ others) = subst (StandIn rest) e h.stand in
        absurd (none value (flat_map value_bytes others) stand_here.fit.0 stand_here.spelled)

-- ---- what the loops know

pub none_empty : (rest text after : List ℕ) → (text ++ after ≡ rest) × (0 < length text) → rest ≡ [] → ⊥
none_empty rest [] after h e = omega (arith, h.1)
none_empty rest (byte ∷ text) after h e = no (h.0 ∙ e)
  where
    no : byte ∷ text ++ after ≡ [] → ⊥
    no f = absurd cc

pub one_more : (was now : List ℕ) (passed : Values) (value : ℕ × RowValue) (text : List ℕ) → text ≡ value_bytes value → now ≡ was ++ flat_map value_bytes passed → now ++ text ≡ was ++ flat_map value_bytes (passed ++ value ∷ [])
one_more was now passed value text is told =
    (λ i. told i ++ is i)
    ∙ append_assoc was (flat_map value_bytes passed) (value_bytes value)
    ∙ ap (λ (xs : List ℕ). was ++ xs) (ap (λ (xs : List ℕ). flat_map value_bytes passed ++ xs) (sym (append-nil (value_bytes value))) ∙ sym (flat_map-append value_bytes passed (value ∷ [])))

-- ---- the values of a row

fit_of_field : (column : ℕ) (values : List RowValue) (rest : Values) → column < 2 ^ 16 → list_all value_fits_row values ≡ true → AllByRecursion MayStand rest → AllByRecursion MayStand (map (λ value. (column, value)) values ++ rest)
fit_of_field column [] rest low fits all = all
fit_of_field column (value ∷ values) rest low fits all =
    let parts = and_parts (value_fits_row value) (list_all value_fits_row values) fits in
    ((low, parts.0), fit_of_field column values rest low parts.1 all)

fit_of_fields : (fields : RowFields) → list_all field_fits_row fields ≡ true → AllByRecursion MayStand (values_in_order fields)
fit_of_fields [] h = tt
fit_of_fields (field ∷ fields) h =
    let parts = and_parts (field_fits_row field) (list_all field_fits_row fields) h in
    let own = and_parts (nat_lt field.0 (2 ^ 16) && nat_lt 0 (length field.1)) (list_all value_fits_row field.1) parts.0 in
    let low = and_parts (nat_lt field.0 (2 ^ 16)) (nat_lt 0 (length field.1)) own.0 in
    fit_of_field field.0 field.1 (values_in_order fields) (ltb-true _ _ low.0) own.1 (fit_of_fields fields parts.1)

-- the values of a row stand behind its count
pub stand_in_row : (row : List ℕ) (fields : RowFields) → is_row fields ≡ true → row ≡ row_bytes fields → StandIn (take (length row - 2) (drop 2 row)) (values_in_order fields)
stand_in_row row fields formed spelled = record {
  fit = fit_of_fields fields (and_parts (is_sorted nat_cmp fields) (list_all field_fits_row fields) (and_parts (is_well_formed fields) (nat_lt (length (values_in_order fields)) (2 ^ 16)) formed).0).1;
  spelled = ap (λ (r : List ℕ). take (length r - 2) (drop 2 r)) spelled ∙ take_all (length (row_bytes fields) - 2) (flat_map value_bytes (values_in_order fields)) (omega arith);
}

-- a count of the values of other columns, and these
pub written : (column : ℕ) (fields : RowFields) (count : ℕ) (bytes : List ℕ) → count ≡ length (other_values column (values_in_order fields))
    → bytes ≡ to_le_bytes w16 count ++ flat_map value_bytes (other_values column (values_in_order fields)) → bytes ≡ row_bytes (remove_by_number column fields)
written column fields count bytes counted is =
    is ∙ ap (λ (n : ℕ). to_le_bytes w16 n ++ flat_map value_bytes (other_values column (values_in_order fields))) counted
    ∙ ap (λ (values : Values). to_le_bytes w16 (length values) ++ flat_map value_bytes values) (sym (values_without column fields))
