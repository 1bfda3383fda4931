-- The entries of a record by the walk over its values.
use Rattle.std.proofs.Common.{◌≡◌, ℕ, ◌+◌, ◌-◌, ◌≤◌, suc, Bool, true, false, ◌||◌, ◌&&◌, not, cond, List, [], ◌∷◌, ◌++◌, length, take, map, filter, refl, sym, ap, ◌∙◌, subst, arith, count_by}
use Rattle.std.specs.Prelude.{Option, Some, None, Result, Ok, Err, IsOk, is_some, fold, nat_le}
use Rattle.std.specs.List.{list_any}
use Rattle.std.specs.Result.{IsErrAnd}
use Rattle.std.proofs.lemmas.List.Recursion.{is_count_by}
use Rattle.std.proofs.lemmas.Bool.{and_parts, leb-true}
use Rattle.column_set.specs.RecordValues.{RecordFields, values_of}
use Rattle.key_normal.specs.KeyBytes.{key_bytes, cut_key, is_cut}
use Rattle.index_derive.specs.declared.faults.DeriveFault.{DeriveFault}
use Rattle.index_derive.specs.declared.faults.DeriveFault.TheVariants as fault
use Rattle.index_derive.specs.declared.rules.IndexRule.{IndexRule}
use Rattle.index_derive.specs.declared.rules.Schema.{Schema}
use Rattle.index_derive.specs.declared.rules.Segment.{Segment}
use Rattle.index_derive.specs.declared.walk.Candidate.{Candidate}
use Rattle.index_derive.specs.Entries.{KeyValues, KeyRefusal, NullKeyDisallowed, KeyTruncated, entries, is_legal, meets_conditions, all_key_values, parts_of_columns, parts_of_texts, product, is_multi_column, is_escrow_column, is_ignored, has_double_number, is_legal_primary, is_legal_tuples, condition_columns, values_or_null, key_columns, whole_key, keys_of, keys_or_none, key_list, sorted_keys}
use Rattle.index_derive.specs.Walks.{plan_of, planned_column, key_column, candidate_of, candidates_left, values_left, rest_of_rows, rows_from, row_count, row_length, values_in, text_count, text_part, part_count, combination_of, multi_count, behind_first_multi}
use Rattle.index_derive.specs.Derived.{all_candidates, refusal_of, fault_of, IsDerived}
use Rattle.index_derive.proofs.Combining.{lists_of, multis, plain_rows, crossed_rows}
use Rattle.index_derive.proofs.Lists.{list_any_map}
use Rattle.index_derive.proofs.Least.{rising_none}
use Rattle.index_derive.proofs.Rows.{rest-fresh}
use Rattle.index_derive.proofs.Texts.{text_rows}
use Rattle.index_derive.specs.RisingKeys.{AreRisingKeys, rising_sorted}

-- ---- what a legal rule says

-- the second and the ninth of ten
two_of : (a b c d e f g h i j : Bool) → (a && b && c && d && e && f && g && h && i && j) ≡ true → (b ≡ true) × (i ≡ true)
two_of a b c d e f g h i j t =
    let t9 = and_parts (a && b && c && d && e && f && g && h && i) j t in
    let t8 = and_parts (a && b && c && d && e && f && g && h) i t9.0 in
    let t7 = and_parts (a && b && c && d && e && f && g) h t8.0 in
    let t6 = and_parts (a && b && c && d && e && f) g t7.0 in
    let t5 = and_parts (a && b && c && d && e) f t6.0 in
    let t4 = and_parts (a && b && c && d) e t5.0 in
    let t3 = and_parts (a && b && c) d t4.0 in
    let t2 = and_parts (a && b) c t3.0 in
    ((and_parts a b t2.0).1, t8.1)

legal_parts : (rule : IndexRule) (schema : Schema) → is_legal rule schema ≡ true
    → (nat_le (length rule.segments) 12 ≡ true) × ((not rule.flags.crossproduct || nat_le (count_by (is_multi_column schema) (key_columns rule)) 2) ≡ true)
unfolding is_legal
legal_parts rule schema h = two_of
    (nat_le 1 (length rule.segments)) (nat_le (length rule.segments) 12) (not (has_double_number (key_columns rule)))
    (nat_le (length rule.conditions) 12) (not (list_any (is_escrow_column schema) (key_columns rule ++ condition_columns rule)))
    (nat_le 255 rule.key_most) (nat_le rule.key_most 500)
    (not rule.flags.primary || is_legal_primary rule schema)
    (not rule.flags.crossproduct || nat_le (count_by (is_multi_column schema) (key_columns rule)) 2)
    (not rule.flags.tuples || is_legal_tuples rule schema) h

pub few_columns : (rule : IndexRule) (schema : Schema) → is_legal rule schema ≡ true → length rule.segments ≤ 12
few_columns rule schema h = leb-true (length rule.segments) 12 (legal_parts rule schema h).0

multis_are : (schema : Schema) (segments : List Segment) → multis (map (planned_column schema) segments) ≡ count_by (λ (segment : Segment). is_multi_column schema segment.column.0) segments
multis_are schema segments = is_count_by (λ ss. multis (map (planned_column schema) ss)) (λ (segment : Segment). is_multi_column schema segment.column.0) refl (λ x xs. let n = multis (map (planned_column schema) xs) in let e : suc n ≡ 1 + n = omega arith in ap (λ m. cond (is_multi_column schema x.column.0) m n) e) segments

counted : (p : ℕ → Bool) (n : ℕ) (segments : List Segment) → fold (λ a (segment : Segment). a + cond (p segment.column.0) 1 0) n segments ≡ fold (λ a id. a + cond (p id) 1 0) n (map (λ (segment : Segment). segment.column.0) segments)
counted p n [] = refl
counted p n (segment ∷ segments) = counted p (n + cond (p segment.column.0) 1 0) segments

multis_map : (schema : Schema) (segments : List Segment) → count_by (λ (segment : Segment). is_multi_column schema segment.column.0) segments ≡ count_by (is_multi_column schema) (map (λ segment. segment.column.0) segments)
multis_map schema segments = counted (is_multi_column schema) 0 segments

-- ---- the values of all entries

lists_are : (rule : IndexRule) (schema : Schema) (fields : RecordFields) (earlier : Bool) (segments : List Segment)
    → parts_of_columns rule schema fields earlier (map (λ segment. segment.column.0) segments) ≡ lists_of rule.flags.crossproduct fields earlier (map (planned_column schema) segments)
lists_are rule schema fields earlier [] = refl
lists_are rule schema fields earlier (segment ∷ segments) =
    ap (λ r. cond (is_multi_column schema segment.column.0 && (rule.flags.crossproduct || not earlier)) (values_or_null (values_of fields segment.column.0)) (take 1 (values_or_null (values_of fields segment.column.0))) ∷ r)
    (lists_are rule schema fields (earlier || is_multi_column schema segment.column.0) segments)

combinations_are : (rule : IndexRule) (schema : Schema) (fields : RecordFields) → is_legal rule schema ≡ true
    → product (parts_of_columns rule schema fields false (key_columns rule))
    ≡ rows_from (λ r k. combination_of (plan_of rule schema) fields r k) (λ _. cond rule.flags.crossproduct (multi_count (behind_first_multi (plan_of rule schema)) fields) 1) 0 (multi_count (plan_of rule schema) fields)
combinations_are rule schema fields legal =
    let parts = plan_of rule schema in
    ap product (lists_are rule schema fields false rule.segments)
    ∙ elim rule.flags.crossproduct as (λ cross. (not cross || nat_le (count_by (is_multi_column schema) (key_columns rule)) 2) ≡ true
    → product (lists_of cross fields false parts) ≡ rows_from (λ r k. combination_of parts fields r k) (λ _. cond cross (multi_count (behind_first_multi parts) fields) 1) 0 (multi_count parts fields)) [
      | true ↦ λ few.
          let e = multis_are schema rule.segments ∙ multis_map schema rule.segments in
          let two : multis parts ≤ 2 = subst (λ n. n ≤ 2) (sym e) (leb-true _ 2 few) in
          crossed_rows fields false parts two
      | false ↦ λ _. plain_rows fields parts
    ] (legal_parts rule schema legal).1

texts_are : (rule : IndexRule) (schema : Schema) (fields : RecordFields) → parts_of_texts fields (key_columns rule)
    ≡ rows_from (λ r k. text_part (plan_of rule schema) fields r k) (λ r. part_count (plan_of rule schema) fields r) 0 (text_count (plan_of rule schema) fields)
texts_are rule schema fields = texts_of rule.segments
  where
    texts_of : (segments : List Segment) → parts_of_texts fields (map (λ segment. segment.column.0) segments)
        ≡ rows_from (λ r k. text_part (map (planned_column schema) segments) fields r k) (λ r. part_count (map (planned_column schema) segments) fields r) 0 (text_count (map (planned_column schema) segments) fields)
    texts_of [] = refl
    texts_of (segment ∷ segments) = text_rows (values_of fields segment.column.0)

pub all_values_are : (rule : IndexRule) (schema : Schema) (fields : RecordFields) → is_legal rule schema ≡ true
    → all_key_values rule schema fields ≡ values_left rule (plan_of rule schema) fields (record { row = 0; at = 0 })
all_values_are rule schema fields legal =
    let parts = plan_of rule schema in
    let all = row_count rule.flags parts fields in
    let none_yet : all ≡ all - 0 = omega arith in
    elim rule.flags.tuples as (λ tuples. elim tuples [ true ↦ parts_of_texts fields (key_columns rule) | false ↦ product (parts_of_columns rule schema fields false (key_columns rule)) ]
    ≡ rows_from (λ row at. cond tuples (text_part parts fields row at) (combination_of parts fields row at))
    (λ row. cond tuples (part_count parts fields row) (cond rule.flags.crossproduct (multi_count (behind_first_multi parts) fields) 1)) 0 (cond tuples (text_count parts fields) (multi_count parts fields))) [
      | true ↦ texts_are rule schema fields
      | false ↦ combinations_are rule schema fields legal
    ]
    ∙ rest-fresh (values_in rule.flags parts fields) (row_length rule.flags parts fields) 0 all
    ∙ ap (rest_of_rows (values_in rule.flags parts fields) (row_length rule.flags parts fields) 0 0) none_yet

-- ---- their keys

columns_are : (schema : Schema) (segments : List Segment) → map key_column (map (planned_column schema) segments) ≡ map (λ segment. record { kind = (planned_column schema segment).kind; descending = segment.descending }) segments
columns_are schema [] = refl
columns_are schema (segment ∷ segments) = ap (λ r. key_column (planned_column schema segment) ∷ r) (columns_are schema segments)

key_is : (rule : IndexRule) (schema : Schema) (values : KeyValues) → key_bytes (map key_column (plan_of rule schema)) rule.flags.sortnullshigh values ≡ whole_key rule schema values
key_is rule schema values = ap (λ columns. key_bytes columns rule.flags.sortnullshigh values) (columns_are schema rule.segments)

any_cut : (rule : IndexRule) (schema : Schema) (all : List KeyValues)
    → list_any (is_cut rule.key_most) (map (whole_key rule schema) all) ≡ list_any (λ candidate. candidate.cut) (map (candidate_of rule (plan_of rule schema)) all)
any_cut rule schema [] = refl
any_cut rule schema (values ∷ all) = λ i. is_cut rule.key_most (sym (key_is rule schema values) i) || any_cut rule schema all i

keys_are : (rule : IndexRule) (schema : Schema) (all : List KeyValues)
    → map (cut_key rule.key_most) (map (whole_key rule schema) all) ≡ map (λ candidate. candidate.key) (map (candidate_of rule (plan_of rule schema)) all)
keys_are rule schema [] = refl
keys_are rule schema (values ∷ all) = λ i. cut_key rule.key_most (sym (key_is rule schema values) i) ∷ keys_are rule schema all i

-- ---- whether they are refused

abbrev kept_keys : Bool → Bool → List (List ℕ) → Result (List (List ℕ)) KeyRefusal
kept_keys a b keys = elim a [ true ↦ Err NullKeyDisallowed | false ↦ elim b [ true ↦ Err KeyTruncated | false ↦ Ok keys ] ]

refused : (a b : Bool) (keys : List (List ℕ)) → fault_of (kept_keys a b keys) ≡ cond a (Some fault.NullKeyDisallowed) (cond b (Some fault.KeyTruncated) None)
refused true b keys = refl
refused false true keys = refl
refused false false keys = refl

taken : (a b : Bool) (keys : List (List ℕ)) → cond a (Some fault.NullKeyDisallowed) (cond b (Some fault.KeyTruncated) None) ≡ None
    → kept_keys a b keys ≡ Ok keys
taken true b keys h = cc
taken false true keys h = cc
taken false false keys h = refl

-- ---- the entries

pub unmet : (rule : IndexRule) (schema : Schema) (fields : RecordFields) → meets_conditions rule fields ≡ false → entries rule schema fields ≡ Ok []
unfolding entries
unmet rule schema fields h =
    ap (λ b. elim b [ true ↦ keys_of rule schema (filter (λ values. not (is_ignored rule.flags values)) (all_key_values rule schema fields)) | false ↦ Ok [] ]) h

-- the values of the entries that no flag leaves out
abbrev kept_values : IndexRule → Schema → RecordFields → List KeyValues
kept_values rule schema fields = filter (λ values. not (is_ignored rule.flags values)) (all_key_values rule schema fields)

met : (rule : IndexRule) (schema : Schema) (fields : RecordFields) → meets_conditions rule fields ≡ true → entries rule schema fields ≡ keys_of rule schema (kept_values rule schema fields)
unfolding entries
met rule schema fields h = ap (λ b. elim b [ true ↦ keys_of rule schema (kept_values rule schema fields) | false ↦ Ok [] ]) h

candidates_are : (rule : IndexRule) (schema : Schema) (fields : RecordFields) → is_legal rule schema ≡ true
    → map (candidate_of rule (plan_of rule schema)) (kept_values rule schema fields) ≡ all_candidates rule (plan_of rule schema) fields
unfolding candidates_left
candidates_are rule schema fields legal =
    ap (λ all. map (candidate_of rule (plan_of rule schema)) (filter (λ values. not (is_ignored rule.flags values)) all)) (all_values_are rule schema fields legal)

-- the keys of the walk's entries
abbrev keys_by_walk : IndexRule → Schema → RecordFields → List (List ℕ)
keys_by_walk rule schema fields = map (λ candidate. candidate.key) (all_candidates rule (plan_of rule schema) fields)

keys_of-is : (rule : IndexRule) (schema : Schema) (fields : RecordFields) → is_legal rule schema ≡ true
    → keys_of rule schema (kept_values rule schema fields)
    ≡ kept_keys (rule.flags.disallownull && list_any (λ candidate. candidate.has_null) (all_candidates rule (plan_of rule schema) fields))
    (rule.flags.disallowtruncation && list_any (λ candidate. candidate.cut) (all_candidates rule (plan_of rule schema) fields)) (sorted_keys (keys_by_walk rule schema fields))
keys_of-is rule schema fields legal =
    let all = kept_values rule schema fields in
    let is = candidates_are rule schema fields legal in
    let null = sym (list_any_map (λ (candidate : Candidate). candidate.has_null) (candidate_of rule (plan_of rule schema)) all) ∙ ap (list_any (λ candidate. candidate.has_null)) is in
    let cut = any_cut rule schema all ∙ ap (list_any (λ candidate. candidate.cut)) is in
    let keys = keys_are rule schema all ∙ ap (map (λ candidate. candidate.key)) is in
    λ i. kept_keys (rule.flags.disallownull && null i) (rule.flags.disallowtruncation && cut i) (sorted_keys (keys i))

pub fault_is : (rule : IndexRule) (schema : Schema) (fields : RecordFields) → is_legal rule schema ≡ true → meets_conditions rule fields ≡ true
    → fault_of (entries rule schema fields) ≡ refusal_of rule.flags (all_candidates rule (plan_of rule schema) fields)
fault_is rule schema fields legal meets =
    ap fault_of (met rule schema fields meets ∙ keys_of-is rule schema fields legal) ∙ refused _ _ _

pub entries_are : (rule : IndexRule) (schema : Schema) (fields : RecordFields) → is_legal rule schema ≡ true → meets_conditions rule fields ≡ true
    → refusal_of rule.flags (all_candidates rule (plan_of rule schema) fields) ≡ None
    → entries rule schema fields ≡ Ok (sorted_keys (map (λ candidate. candidate.key) (all_candidates rule (plan_of rule schema) fields)))
entries_are rule schema fields legal meets kept =
    met rule schema fields meets ∙ keys_of-is rule schema fields legal ∙ taken _ _ (sorted_keys (keys_by_walk rule schema fields)) kept

-- ---- what the calls answer

pub told : (derived : Result (List (List ℕ)) KeyRefusal) (answer : DeriveFault) → fault_of derived ≡ Some answer → IsDerived derived (Err answer)
told (Ok keys) answer h = cc
told (Err NullKeyDisallowed) fault.NullKeyDisallowed h = refl
told (Err NullKeyDisallowed) fault.KeyTruncated h = cc
told (Err NullKeyDisallowed) fault.OutOfMemory h = cc
told (Err KeyTruncated) fault.NullKeyDisallowed h = cc
told (Err KeyTruncated) fault.KeyTruncated h = refl
told (Err KeyTruncated) fault.OutOfMemory h = cc

pub none_of_refused : (derived : Result (List (List ℕ)) KeyRefusal) → is_some (fault_of derived) ≡ true → keys_or_none derived ≡ []
none_of_refused (Ok keys) h = cc
none_of_refused (Err refusal) h = refl

pub none_is : (answer : Option DeriveFault) → is_some answer ≡ false → answer ≡ None
none_is None h = refl
none_is (Some answer) h = cc

pub is_kept : (derived : Result (List (List ℕ)) KeyRefusal) → fault_of derived ≡ None → IsOk derived
is_kept (Ok keys) h = refl
is_kept (Err NullKeyDisallowed) h = cc
is_kept (Err KeyTruncated) h = cc

pub none_of_kept : (derived : Result (List (List ℕ)) KeyRefusal) → IsOk derived → fault_of derived ≡ None
none_of_kept (Ok keys) h = refl
none_of_kept (Err refusal) h = cc

pub out_of_memory : (derived : Result (List (List ℕ)) KeyRefusal) (answer : Result (List (List ℕ)) DeriveFault) → IsErrAnd answer (λ f. f ≡ fault.OutOfMemory) → IsOk derived → IsDerived derived answer
out_of_memory derived (Ok keys) h kept = absurd h
out_of_memory derived (Err answer) h kept = subst (λ (f : DeriveFault). IsDerived derived (Err f)) (sym h) kept

-- ---- laws

rising_kept : (a b : Bool) (keys : List (List ℕ)) → AreRisingKeys (keys_or_none (kept_keys a b (sorted_keys keys)))
rising_kept true b keys = rising_none
rising_kept false true keys = rising_none
rising_kept false false keys = rising_sorted keys

pub rising_list : (rule : IndexRule) (schema : Schema) (fields : RecordFields) → AreRisingKeys (key_list rule schema fields)
unfolding entries
rising_list rule schema fields = elim (meets_conditions rule fields) as (λ m. AreRisingKeys (keys_or_none (elim m [ true ↦ keys_of rule schema (kept_values rule schema fields) | false ↦ Ok [] ]))) [
  | true ↦ rising_kept _ _ (map (cut_key rule.key_most) (map (whole_key rule schema) (kept_values rule schema fields)))
  | false ↦ rising_none
]
