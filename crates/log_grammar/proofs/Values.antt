-- The values of a record, one after the other.
use Rattle.std.proofs.Common.{◌≡◌, ℕ, ◌+◌, ◌^◌, ◌<◌, ◌≤◌, true, ltb, ◌&&◌, List, [], ◌∷◌, ◌++◌, length, take, map, get_or, refl, sym, ap, subst, ◌∙◌, append_assoc, arith, All}
use Rattle.std.specs.Prelude.{sum_by}
use Rattle.std.specs.Int.{w16, to_le_bytes}
use Rattle.std.specs.List.{flat_map, list_all, AllByRecursion}
use Rattle.std.proofs.lemmas.Bool.{and_parts, and_from, ltb-true}
use Rattle.std.proofs.lemmas.List.{length-append, length-map, append-nil, take_all, take_more, map-append}
use Rattle.std.proofs.lemmas.List.Concat.{flat_map-append}
use Rattle.std.proofs.lemmas.List.Folds.{list_all-append}
use Rattle.std.proofs.lemmas.List.Sums.{sum_by-cons, sum_by-take-le, sum_by_push}
use Rattle.std.proofs.lemmas.List.Elements.{All-from_recursion}
use Rattle.column_set.specs.Record.{is_record}
use Rattle.column_set.specs.RecordValues.{RecordFields}
use Rattle.column_set.specs.Rows.{record_values_in_order}
use Rattle.log_grammar.specs.EntryBytes.{are_short, record_bytes, record_fits, value_bytes, value_fits}

-- the values of one column, each with it
abbrev pub of_column : ℕ → List (List ℕ) → List (ℕ × List ℕ)
of_column column values = map (λ value. (column, value)) values

pub value_more : (column : ℕ) (values : List (List ℕ)) (i : ℕ) (value : List ℕ) → i < length values → value ≡ get_or values i value
    → flat_map value_bytes (of_column column (take (i + 1) values)) ≡ flat_map value_bytes (of_column column (take i values)) ++ value_bytes (column, value)
value_more column values i value lt is =
    ap (λ (vs : List (List ℕ)). flat_map value_bytes (of_column column vs)) (take_more values i value lt ∙ ap (λ (v : List ℕ). take i values ++ v ∷ []) (sym is))
    ∙ ap (flat_map value_bytes) (map-append (λ v. (column, v)) (take i values) (value ∷ []))
    ∙ flat_map-append value_bytes (of_column column (take i values)) ((column, value) ∷ [])
    ∙ ap (λ (r : List ℕ). flat_map value_bytes (of_column column (take i values)) ++ r) (append-nil (value_bytes (column, value)))

pub in_order-push : (fields : RecordFields) (field : ℕ × List (List ℕ)) → record_values_in_order (fields ++ field ∷ []) ≡ record_values_in_order fields ++ of_column field.0 field.1
in_order-push fields field =
    flat_map-append (λ (f : ℕ × List (List ℕ)). of_column f.0 f.1) fields (field ∷ [])
    ∙ ap (λ (r : List (ℕ × List ℕ)). record_values_in_order fields ++ r) (append-nil (of_column field.0 field.1))

pub field_more : (fields : RecordFields) (i : ℕ) (field : ℕ × List (List ℕ)) → i < length fields → field ≡ get_or fields i field
    → flat_map value_bytes (record_values_in_order (take (i + 1) fields)) ≡ flat_map value_bytes (record_values_in_order (take i fields)) ++ flat_map value_bytes (of_column field.0 field.1)
field_more fields i field lt is =
    ap (λ (fs : RecordFields). flat_map value_bytes (record_values_in_order fs)) (take_more fields i field lt ∙ ap (λ (f : ℕ × List (List ℕ)). take i fields ++ f ∷ []) (sym is))
    ∙ ap (flat_map value_bytes) (in_order-push (take i fields) field)
    ∙ flat_map-append value_bytes (record_values_in_order (take i fields)) (of_column field.0 field.1)

-- what a loop over the fields has written
pub field_written : (fields : RecordFields) (i : ℕ) (field : ℕ × List (List ℕ)) (column : ℕ) (values : List (List ℕ)) (head before after : List ℕ)
    → i < length fields → field ≡ get_or fields i field → column ≡ field.0 → values ≡ field.1
    → before ≡ head ++ flat_map value_bytes (record_values_in_order (take i fields)) → after ≡ before ++ flat_map value_bytes (of_column column values)
    → after ≡ head ++ flat_map value_bytes (record_values_in_order (take (i + 1) fields))
field_written fields i field column values head before after lt is column_is values_are so_far written =
    let done = flat_map value_bytes (record_values_in_order (take i fields)) in
    written
    ∙ (λ k. so_far k ++ flat_map value_bytes (of_column (column_is k) (values_are k)))
    ∙ append_assoc head done (flat_map value_bytes (of_column field.0 field.1))
    ∙ ap (λ (r : List ℕ). head ++ r) (sym (field_more fields i field lt is))

-- ---- their number

pub count_of : (fields : RecordFields) → length (record_values_in_order fields) ≡ sum_by (λ field. length field.1) fields
count_of [] = refl
count_of (field ∷ fields) =
    let under : List ℕ → ℕ × List ℕ = λ value. (field.0, value) in
    omega (arith, length-append (map under field.1) (record_values_in_order fields), length-map field.1 under, count_of fields, sum_by-cons (λ (f : ℕ × List (List ℕ)). length f.1) field fields)

pub count_more : (fields : RecordFields) (i : ℕ) (field : ℕ × List (List ℕ)) → i < length fields → field ≡ get_or fields i field
    → sum_by (λ field. length field.1) (take (i + 1) fields) ≡ sum_by (λ field. length field.1) (take i fields) + length field.1
count_more fields i field lt is =
    ap (sum_by (λ (f : ℕ × List (List ℕ)). length f.1)) (take_more fields i field lt ∙ ap (λ (f : ℕ × List (List ℕ)). take i fields ++ f ∷ []) (sym is))
    ∙ sum_by_push (λ (f : ℕ × List (List ℕ)). length f.1) (take i fields) field

pub count_within : (fields : RecordFields) (i : ℕ) → sum_by (λ field. length field.1) (take i fields) ≤ sum_by (λ field. length field.1) fields
count_within fields i = sum_by-take-le (λ (f : ℕ × List (List ℕ)). length f.1) fields i

-- ---- which fit

pub record RecordParts (fields : RecordFields) : Type 0 where
  pub formed : is_record fields ≡ true
  pub count : length (record_values_in_order fields) < 2 ^ 16
  pub values : list_all value_fits (record_values_in_order fields) ≡ true

pub record_parts : (fields : RecordFields) → record_fits fields ≡ true → RecordParts fields
record_parts fields h =
    let count = ltb (length (record_values_in_order fields)) (2 ^ 16) in
    let all = list_all value_fits (record_values_in_order fields) in
    let a = and_parts (is_record fields) (count && all) h in
    let b = and_parts count all a.1 in
    record { formed = a.0; count = ltb-true _ _ b.0; values = b.1 }

column_short : (column : ℕ) (values : List (List ℕ)) → list_all value_fits (of_column column values) ≡ true → are_short values ≡ true
column_short column [] h = refl
column_short column (value ∷ values) h =
    let a = and_parts (value_fits (column, value)) (list_all value_fits (of_column column values)) h in
    let b = and_parts (ltb column (2 ^ 16)) (ltb (length value) (2 ^ 32)) a.0 in
    and_from (ltb (length value) (2 ^ 32)) (are_short values) b.1 (column_short column values a.1)

fields_short : (fields : RecordFields) → list_all value_fits (record_values_in_order fields) ≡ true → AllByRecursion (λ field. are_short field.1 ≡ true) fields
fields_short [] h = tt
fields_short (field ∷ fields) h =
    let a = and_parts (list_all value_fits (of_column field.0 field.1)) (list_all value_fits (record_values_in_order fields)) (sym (list_all-append value_fits (of_column field.0 field.1) (record_values_in_order fields)) ∙ h) in
    (column_short field.0 field.1 a.0, fields_short fields a.1)

pub each_field_short : (fields : RecordFields) → record_fits fields ≡ true → All (λ field. are_short field.1 ≡ true) fields
each_field_short fields h = All-from_recursion (λ field. are_short field.1 ≡ true) fields (fields_short fields (record_parts fields h).values)

pub sum_fits : (fields : RecordFields) → record_fits fields ≡ true → sum_by (λ field. length field.1) fields < 2 ^ 16
sum_fits fields h = subst (λ n. n < 2 ^ 16) (count_of fields) (record_parts fields h).count

pub record_done : (seen fields : RecordFields) (i : ℕ) (old now : List ℕ) → seen ≡ fields → length seen ≤ i
    → now ≡ (old ++ to_le_bytes w16 (length (record_values_in_order seen))) ++ flat_map value_bytes (record_values_in_order (take i seen)) → now ≡ old ++ record_bytes fields
record_done seen fields i old now is past written =
    written
    ∙ ap (λ (fs : RecordFields). (old ++ to_le_bytes w16 (length (record_values_in_order seen))) ++ flat_map value_bytes (record_values_in_order fs)) (take_all i seen past)
    ∙ append_assoc old (to_le_bytes w16 (length (record_values_in_order seen))) (flat_map value_bytes (record_values_in_order seen))
    ∙ ap (λ (fs : RecordFields). old ++ record_bytes fs) is
