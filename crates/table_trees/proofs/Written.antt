-- The row that is written value by value.
use Rattle.std.proofs.Common.{◌≡◌, ℕ, suc, ◌+◌, ◌-◌, ◌≤◌, ◌^◌, min, List, [], ◌∷◌, ◌++◌, length, map, refl, sym, ap, ◌∙◌, arith}
use Rattle.std.specs.Prelude.{IfOk, Result, Ok, Err, sum_by}
use Rattle.std.specs.Int.{w16, to_le_bytes}
use Rattle.std.specs.List.{flat_map}
use Rattle.std.proofs.lemmas.Grind.{flat_map-append}
use Rattle.std.proofs.lemmas.List.{append_assoc}
use Rattle.std.proofs.lemmas.List.Sums.{sum_by-cons}
use Rattle.column_set.specs.declared.rows.RowValue.{RowValue}
use Rattle.column_set.specs.RecordValues.{RecordFields, record_size, size_of_value, size_of_values}
use Rattle.column_set.specs.Rows.{row_bytes, value_bytes, values_in_order}
use Rattle.long_rows.specs.KeptRows.{Found, kept_fields, kept_row, kept_values, next_place, place_after}

pub if_ok : {X Y : Type 0} {A B : X → Type 0} (r : Result X Y) → ((x : X) → A x → B x) → IfOk r A → IfOk r B
if_ok (Ok x) f a = f x a
if_ok (Err y) f a = tt

-- ---- one value

-- ---- the values of a column

abbrev pub column_bytes : ℕ → List RowValue → List ℕ
column_bytes column vs = flat_map value_bytes (map (λ (v : RowValue). (column, v)) vs)

-- ---- all columns

pub fields_written : (found : Found) (place next : ℕ) (field : ℕ × List (List ℕ)) (later fields : RecordFields) (old mid new : List ℕ) → fields ≡ field ∷ later → next ≡ place_after found field.0 0 place field.1
    → mid ≡ old ++ column_bytes field.0 (kept_values found field.0 0 place field.1) → new ≡ mid ++ flat_map value_bytes (values_in_order (kept_fields found next later))
    → new ≡ old ++ flat_map value_bytes (values_in_order (kept_fields found place fields))
fields_written found place next field later fields old mid new split is first rest =
    let own = map (λ (v : RowValue). (field.0, v)) (kept_values found field.0 0 place field.1) in
    let behind : ℕ → List (ℕ × RowValue) = λ n. values_in_order (kept_fields found n later) in
    rest
    ∙ ap (λ (l : List ℕ). l ++ flat_map value_bytes (behind next)) first
    ∙ append_assoc old (flat_map value_bytes own) (flat_map value_bytes (behind next))
    ∙ ap (λ (l : List ℕ). old ++ l) (sym (flat_map-append value_bytes own (behind next)))
    ∙ ap (λ (n : ℕ). old ++ flat_map value_bytes (own ++ behind n)) is
    ∙ ap (λ (l : RecordFields). old ++ flat_map value_bytes (values_in_order (kept_fields found place l))) (sym split)

pub fields_written_from : (found : Found) (place next column : ℕ) (vs : List (List ℕ)) (field : ℕ × List (List ℕ)) (later fields : RecordFields) (old mid new : List ℕ) → fields ≡ field ∷ later → column ≡ field.0 → vs ≡ field.1
    → next ≡ place_after found column 0 place vs → mid ≡ old ++ column_bytes column (kept_values found column 0 place vs) → new ≡ mid ++ flat_map value_bytes (values_in_order (kept_fields found next later))
    → new ≡ old ++ flat_map value_bytes (values_in_order (kept_fields found place fields))
fields_written_from found place next column vs field later fields old mid new split named own is first rest =
    fields_written found place next field later fields old mid new split
    (is ∙ ap (λ (c : ℕ). place_after found c 0 place vs) named ∙ ap (place_after found field.0 0 place) own)
    (first ∙ ap (λ (c : ℕ). old ++ column_bytes c (kept_values found c 0 place vs)) named ∙ ap (λ (v : List (List ℕ)). old ++ column_bytes field.0 (kept_values found field.0 0 place v)) own)
    rest

-- ---- how many they are

count_column : (found : Found) (column at place : ℕ) (vs : List (List ℕ)) (xs : List (ℕ × RowValue)) → length (map (λ (v : RowValue). (column, v)) (kept_values found column at place vs) ++ xs) ≡ length vs + length xs
count_column found column at place [] xs = omega arith
count_column found column at place (v ∷ vs) xs = let rest = count_column found column (suc at) (next_place found column at place v) vs xs in omega (arith, rest)

abbrev pub count_of : RecordFields → ℕ
count_of fields = sum_by (λ (field : ℕ × List (List ℕ)). length field.1) fields

pub count_kept : (found : Found) (place : ℕ) (fields : RecordFields) → length (values_in_order (kept_fields found place fields)) ≡ count_of fields
count_kept found place [] = refl
count_kept found place ((column, vs) ∷ fields) =
    count_column found column 0 place vs (values_in_order (kept_fields found (place_after found column 0 place vs) fields))
    ∙ ap (λ (n : ℕ). length vs + n) (count_kept found (place_after found column 0 place vs) fields)
    ∙ sym (sum_by-cons (λ (field : ℕ × List (List ℕ)). length field.1) (column, vs) fields)

few_values : (vs : List (List ℕ)) → length vs ≤ size_of_values vs
few_values [] = omega arith
few_values (v ∷ vs) =
    let rest = few_values vs in
    let more = sum_by-cons (λ (value : List ℕ). 5 + size_of_value value) v vs in
    omega (arith, rest, more)

few_fields : (fields : RecordFields) → count_of fields ≤ sum_by (λ (field : ℕ × List (List ℕ)). size_of_values field.1) fields
few_fields [] = omega arith
few_fields (field ∷ fields) =
    let rest = few_fields fields in
    let own = few_values field.1 in
    let counts = sum_by-cons (λ (f : ℕ × List (List ℕ)). length f.1) field fields in
    let sizes = sum_by-cons (λ (f : ℕ × List (List ℕ)). size_of_values f.1) field fields in
    omega (arith, rest, own, counts, sizes)

pub few : (own fields : RecordFields) (size : ℕ) → own ≡ fields → size ≡ min (record_size fields) (2 ^ 64 - 1) → size ≤ 1700 → count_of own ≤ 1700
few own fields size is sized small =
    let counted = few_fields fields in
    let same : count_of own ≡ count_of fields = ap count_of is in
    omega (arith, counted, same, sized, small)

pub row_done : (found : Found) (own fields : RecordFields) (count : ℕ) (head all : List ℕ) → own ≡ fields → count ≡ count_of own → head ≡ to_le_bytes w16 count
    → all ≡ head ++ flat_map value_bytes (values_in_order (kept_fields found 0 own)) → all ≡ row_bytes (kept_row found fields)
row_done found own fields count head all same is first rest =
    rest
    ∙ ap (λ (l : List ℕ). l ++ flat_map value_bytes (values_in_order (kept_fields found 0 own))) (first ∙ ap (to_le_bytes w16) (is ∙ sym (count_kept found 0 own)))
    ∙ ap (λ (f : RecordFields). row_bytes (kept_row found f)) same
