-- What a put makes of a record is a row.
use Rattle.std.proofs.Common.{◌≡◌, ◌⊎◌, inl, inr, ℕ, suc, ◌+◌, ◌*◌, ◌<◌, ◌≤◌, ◌^◌, Bool, true, ◌&&◌, List, [], ◌∷◌, length, map, refl, ap, ◌∙◌, arith, length-append}
use Rattle.std.specs.Prelude.{nat_le, nat_lt, ltb, sum_by}
use Rattle.std.specs.List.{list_all}
use Rattle.std.specs.Ordering.{is_lt, nat_cmp}
use Rattle.std.specs.FinMap.Entries.{below_all, is_sorted}
use Rattle.std.proofs.lemmas.Bool.{and_from, le-leb, lt-ltb, ltb-true}
use Rattle.std.proofs.lemmas.List.{length-map}
use Rattle.std.proofs.lemmas.List.Sums.{sum_by-cons}
use Rattle.common_lemmas.proofs.Booleans.{and_left, and_right}
use Rattle.column_set.specs.declared.rows.RowValue.{RowValue}
use Rattle.column_set.specs.declared.rows.RowValue.TheVariants.{Here, Apart}
use Rattle.column_set.specs.RecordValues.{RecordFields, record_size}
use Rattle.column_set.specs.Rows.{field_fits_row, is_row, is_well_formed, largest_row, record_values_in_order, room_in_row, row_size, value_fits_row, values_in_order}
use Rattle.long_rows.specs.KeptRows.{Found, MayKeep, are_values, kept_fields, kept_row, kept_value, kept_values, next_place, place_after}
use Rattle.long_rows.proofs.Kept.{AreKept, IsKept, IsNew, IsShared, fields_kept, is_kept, three_and}
use Rattle.long_rows.proofs.Given.{next_bound}

-- ---- columns

keys_below : (found : Found) (place x : ℕ) (fields : RecordFields) → below_all nat_cmp x fields ≡ true → below_all nat_cmp x (kept_fields found place fields) ≡ true
keys_below found place x [] e = refl
keys_below found place x ((column, vs) ∷ fields) e =
    let behind = place_after found column 0 place vs in
    and_from (is_lt (nat_cmp x column)) (below_all nat_cmp x (kept_fields found behind fields)) (and_left (is_lt (nat_cmp x column)) (below_all nat_cmp x fields) e) (keys_below found behind x fields (and_right (is_lt (nat_cmp x column)) (below_all nat_cmp x fields) e))

keys_rise : (found : Found) (place : ℕ) (fields : RecordFields) → is_sorted nat_cmp fields ≡ true → is_sorted nat_cmp (kept_fields found place fields) ≡ true
keys_rise found place [] e = refl
keys_rise found place ((column, vs) ∷ fields) e =
    let behind = place_after found column 0 place vs in
    and_from (below_all nat_cmp column (kept_fields found behind fields)) (is_sorted nat_cmp (kept_fields found behind fields))
    (keys_below found behind column fields (and_left (below_all nat_cmp column fields) (is_sorted nat_cmp fields) e)) (keys_rise found behind fields (and_right (below_all nat_cmp column fields) (is_sorted nat_cmp fields) e))

-- ---- values

four_and : (a b c d : Bool) → a ≡ true → b ≡ true → c ≡ true → d ≡ true → (a && b && c && d) ≡ true
four_and a b c d e f g h = and_from (a && b && c) d (three_and a b c e f g) h

one_fits : (found : Found) → found.number < 2 ^ 64 → list_all is_row found.rows ≡ true → (at behind : ℕ) (x : RowValue) (v : List ℕ) → IsKept found at x v behind → nat_le (length v) 1048576 ≡ true → at < 2 ^ 32 → value_fits_row x ≡ true
one_fits found number rows at behind (Here own) v is short small = ap (λ (b : List ℕ). nat_le (length b) 255) is.0 ∙ is.1
one_fits found number rows at behind (Apart entry place size) v is short small =
    four_and (nat_lt entry (2 ^ 64)) (nat_lt place (2 ^ 32)) (nat_le 256 size) (nat_le size 1048576)
    (lt-ltb entry (2 ^ 64) (range is.2).0) (lt-ltb place (2 ^ 32) (range is.2).1)
    (let more = ltb-true 255 (length v) is.0 in let same = is.1 in le-leb 256 size (omega (arith, more, same)))
    (ap (λ (n : ℕ). nat_le n 1048576) is.1 ∙ short)
  where
    range : (IsShared found.values found.rows entry place v × (behind ≡ at)) ⊎ IsNew found at behind entry place → (entry < 2 ^ 64) × (place < 2 ^ 32)
    range (inl old) = old.0.range rows
    range (inr new) = let e = new.number in let f = new.first in (omega (arith, e, number), omega (arith, f, small))

pub behind_values : (found : Found) (column at place : ℕ) (vs : List (List ℕ)) → place_after found column at place vs ≤ place + length vs
behind_values found column at place [] = omega arith
behind_values found column at place (v ∷ vs) =
    let bound = next_bound found place (next_place found column at place v) (kept_value found column at place v) v (is_kept found column at place v) in
    let rest = behind_values found column (suc at) (next_place found column at place v) vs in
    omega (arith, bound, rest)

values_fit : (found : Found) → found.number < 2 ^ 64 → list_all is_row found.rows ≡ true → (column at place : ℕ) (vs : List (List ℕ)) → are_values vs ≡ true → place + length vs < 2 ^ 32 → list_all value_fits_row (kept_values found column at place vs) ≡ true
values_fit found number rows column at place [] short small = refl
values_fit found number rows column at place (v ∷ vs) short small =
    let next = next_place found column at place v in
    let x = kept_value found column at place v in
    let bound = next_bound found place next x v (is_kept found column at place v) in
    and_from (value_fits_row x) (list_all value_fits_row (kept_values found column (suc at) next vs))
    (one_fits found number rows place next x v (is_kept found column at place v) (and_left (nat_le (length v) 1048576) (are_values vs) short) (omega (arith, small)))
    (values_fit found number rows column (suc at) next vs (and_right (nat_le (length v) 1048576) (are_values vs) short) (omega (arith, small, bound)))

some_values : (found : Found) (column at place : ℕ) (vs : List (List ℕ)) → nat_lt 0 (length vs) ≡ true → nat_lt 0 (length (kept_values found column at place vs)) ≡ true
some_values found column at place [] e = e
some_values found column at place (v ∷ vs) e = let xs = kept_values found column (suc at) (next_place found column at place v) vs in lt-ltb 0 (suc (length xs)) (omega arith)

-- how many values a record has
abbrev pub count_of : RecordFields → ℕ
count_of fields = length (record_values_in_order fields)

count-cons : (column : ℕ) (vs : List (List ℕ)) (fields : RecordFields) → count_of ((column, vs) ∷ fields) ≡ length vs + count_of fields
count-cons column vs fields = length-append (map (λ v. (column, v)) vs) (record_values_in_order fields) ∙ ap (λ (n : ℕ). n + count_of fields) (length-map vs (λ v. (column, v)))

fields_fit : (found : Found) → found.number < 2 ^ 64 → list_all is_row found.rows ≡ true → (place : ℕ) (fields : RecordFields) → list_all (λ field. nat_lt field.0 (2 ^ 16)) fields ≡ true → list_all (λ field. ltb 0 (length field.1)) fields ≡ true
    → list_all (λ field. are_values field.1) fields ≡ true → place + count_of fields < 2 ^ 32 → list_all field_fits_row (kept_fields found place fields) ≡ true
fields_fit found number rows place [] columns some short small = refl
fields_fit found number rows place ((column, vs) ∷ fields) columns some short small =
    let behind = place_after found column 0 place vs in
    let bound = behind_values found column 0 place vs in
    let count = count-cons column vs fields in
    and_from (field_fits_row (column, kept_values found column 0 place vs)) (list_all field_fits_row (kept_fields found behind fields))
    (three_and (nat_lt column (2 ^ 16)) (nat_lt 0 (length (kept_values found column 0 place vs))) (list_all value_fits_row (kept_values found column 0 place vs))
    (and_left (nat_lt column (2 ^ 16)) (list_all (λ field. nat_lt field.0 (2 ^ 16)) fields) columns)
    (some_values found column 0 place vs (and_left (ltb 0 (length vs)) (list_all (λ field. ltb 0 (length field.1)) fields) some))
    (values_fit found number rows column 0 place vs (and_left (are_values vs) (list_all (λ field. are_values field.1) fields) short) (omega (arith, small, count))))
    (fields_fit found number rows behind fields (and_right (nat_lt column (2 ^ 16)) (list_all (λ field. nat_lt field.0 (2 ^ 16)) fields) columns) (and_right (ltb 0 (length vs)) (list_all (λ field. ltb 0 (length field.1)) fields) some)
    (and_right (are_values vs) (list_all (λ field. are_values field.1) fields) short) (omega (arith, small, count, bound)))

-- ---- their count

five_each : (xs : List (ℕ × RowValue)) → 5 * length xs ≤ sum_by (λ value. 5 + room_in_row value.1) xs
five_each [] = omega arith
five_each (x ∷ xs) =
    let more = sum_by-cons (λ (value : ℕ × RowValue). 5 + room_in_row value.1) x xs in
    let rest = five_each xs in
    omega (arith, more, rest)

same_count : (found : Found) (at : ℕ) (xs : List (ℕ × RowValue)) (vs : List (ℕ × List ℕ)) → AreKept found at xs vs → length xs ≡ length vs
same_count found at [] [] kept = refl
same_count found at (x ∷ xs) (v ∷ vs) kept = ap suc (same_count found kept.0 xs vs kept.1.2)
same_count found at [] (v ∷ vs) kept = absurd kept
same_count found at (x ∷ xs) [] kept = absurd kept

pub few_values : (found : Found) (fields : RecordFields) → row_size (kept_row found fields) ≡ record_size fields → record_size fields ≤ largest_row → length (values_in_order (kept_row found fields)) ≤ 340
few_values found fields size small = let each = five_each (values_in_order (kept_row found fields)) in omega (arith, size, small, each)

pub same_values : (found : Found) (fields : RecordFields) → length (values_in_order (kept_row found fields)) ≡ count_of fields
same_values found fields = same_count found 0 (values_in_order (kept_row found fields)) (record_values_in_order fields) (fields_kept found 0 fields)

pub row_formed : (found : Found) (fields : RecordFields) → MayKeep found fields → row_size (kept_row found fields) ≡ record_size fields → is_row (kept_row found fields) ≡ true
row_formed found fields may size =
    let few = few_values found fields size may.small in
    let count = same_values found fields in
    let row = kept_row found fields in
    and_from (is_well_formed row) (nat_lt (length (values_in_order row)) (2 ^ 16))
    (and_from (is_sorted nat_cmp row) (list_all field_fits_row row)
    (keys_rise found 0 fields (and_left (is_sorted nat_cmp fields) (list_all (λ field. ltb 0 (length field.1)) fields) may.formed))
    (fields_fit found may.number may.rows 0 fields may.columns (and_right (is_sorted nat_cmp fields) (list_all (λ field. ltb 0 (length field.1)) fields) may.formed) may.short (omega (arith, few, count))))
    (lt-ltb (length (values_in_order row)) (2 ^ 16) (omega (arith, few)))
