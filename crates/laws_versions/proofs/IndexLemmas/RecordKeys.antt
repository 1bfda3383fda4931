-- The keys of a record are those of values of its columns.
use Rattle.std.proofs.Common.{◌≡◌, ℕ, Bool, true, false, ◌||◌, not, List, [], ◌∷◌, map, filter, Result, Ok, Err, refl, sym, subst, true≢false, bytes_eq}
use Rattle.std.specs.List.{list_any, AllByRecursion}
use Rattle.std.specs.Cmp.Lexicographic.{bytes_decides}
use Rattle.common_lemmas.proofs.Lists.{all_filter, all_map}
use Rattle.column_set.specs.RecordValues.{RecordFields}
use Rattle.key_normal.specs.KeyBytes.{cut_key}
use Rattle.index_derive.specs.declared.rules.IndexRule.{IndexRule}
use Rattle.index_derive.specs.declared.rules.Schema.{Schema}
use Rattle.index_derive.specs.Entries.{KeyValues, KeyRefusal, NullKeyDisallowed, KeyTruncated, entries, meets_conditions, all_key_values, is_ignored, whole_key, keys_of, keys_or_none, key_list, sorted_keys}
use Rattle.index_derive.specs.RisingKeys.{all_insert_key}

abbrev KeysPass : (List ℕ → Type 0) → Result (List (List ℕ)) KeyRefusal → Type 0
KeysPass P (Ok keys) = AllByRecursion P keys
KeysPass P (Err refusal) = Unit {0}

all_sorted_keys : (P : List ℕ → Type 0) (keys : List (List ℕ)) → AllByRecursion P keys → AllByRecursion P (sorted_keys keys)
all_sorted_keys P [] h = tt
all_sorted_keys P (key ∷ keys) h = all_insert_key P key (sorted_keys keys) h.0 (all_sorted_keys P keys h.1)

taken : (P : List ℕ → Type 0) (a b : Bool) (keys : List (List ℕ)) → AllByRecursion P keys
    → KeysPass P (elim a [ true ↦ Err NullKeyDisallowed | false ↦ elim b [ true ↦ Err KeyTruncated | false ↦ Ok keys ] ])
taken P true b keys h = tt
taken P false true keys h = tt
taken P false false keys h = h

pass_keys_of : (P : List ℕ → Type 0) (rule : IndexRule) (schema : Schema) (all : List KeyValues) → AllByRecursion (λ values. P (cut_key rule.key_most (whole_key rule schema values))) all
    → KeysPass P (keys_of rule schema all)
pass_keys_of P rule schema all h =
    taken P _ _ (sorted_keys (map (cut_key rule.key_most) (map (whole_key rule schema) all)))
    (all_sorted_keys P (map (cut_key rule.key_most) (map (whole_key rule schema) all))
    (all_map P (cut_key rule.key_most) (map (whole_key rule schema) all) (all_map (λ key. P (cut_key rule.key_most key)) (whole_key rule schema) all h)))

pass_entries : (P : List ℕ → Type 0) (rule : IndexRule) (schema : Schema) (fields : RecordFields)
    → AllByRecursion (λ values. P (cut_key rule.key_most (whole_key rule schema values))) (all_key_values rule schema fields) → KeysPass P (entries rule schema fields)
unfolding entries
pass_entries P rule schema fields h =
    let kept = filter (λ values. not (is_ignored rule.flags values)) (all_key_values rule schema fields) in
    elim (meets_conditions rule fields) as (λ b. KeysPass P (elim b [ true ↦ keys_of rule schema kept | false ↦ Ok [] ])) [
      | true ↦ pass_keys_of P rule schema kept (all_filter (λ values. P (cut_key rule.key_most (whole_key rule schema values))) (λ values. not (is_ignored rule.flags values)) (all_key_values rule schema fields) h)
      | false ↦ tt
    ]

pass_list : (P : List ℕ → Type 0) (keys : Result (List (List ℕ)) KeyRefusal) → KeysPass P keys → AllByRecursion P (keys_or_none keys)
pass_list P (Ok keys) h = h
pass_list P (Err refusal) h = tt

-- what holds of the keys of all values of a record holds of its keys in the index
pub all_keys : (P : List ℕ → Type 0) (rule : IndexRule) (schema : Schema) (fields : RecordFields)
    → AllByRecursion (λ values. P (cut_key rule.key_most (whole_key rule schema values))) (all_key_values rule schema fields) → AllByRecursion P (key_list rule schema fields)
all_keys P rule schema fields h = pass_list P (entries rule schema fields) (pass_entries P rule schema fields h)

-- what holds of all holds of one that stands among them
pub one_of_all : (P : List ℕ → Type 0) (key : List ℕ) (keys : List (List ℕ)) → AllByRecursion P keys → list_any (bytes_eq key) keys ≡ true → P key
one_of_all P key [] h e = absurd (true≢false (sym e))
one_of_all P key (k ∷ keys) h e = elim (bytes_eq key k) as (λ b. bytes_eq key k ≡ b → (b || list_any (bytes_eq key) keys) ≡ true → P key) [
  | true ↦ λ same _. subst P (sym ((bytes_decides key k).0 same)) h.0
  | false ↦ λ _ rest. one_of_all P key keys h.1 rest
] refl e
