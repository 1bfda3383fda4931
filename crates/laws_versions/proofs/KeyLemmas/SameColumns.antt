-- An index does not read the columns that its rule does not name.
use Rattle.std.proofs.Common.{◌≡◌, ℕ, ◌+◌, Bool, true, false, not, ◌&&◌, ◌||◌, cond, List, [], ◌∷◌, ◌++◌, take, length, Option, Some, None, Result, Ok, Err, refl, sym, ap, ◌∙◌}
use Rattle.std.specs.Prelude.{◌==◌, count_by, filter, flat_map, fold, is_none, map, nat_le, nat_lt, bytes_eq}
use Rattle.std.specs.List.{AllByRecursion, list_all, list_any}
use Rattle.common_lemmas.proofs.Lists.{all_parted, all_weaker}
use Rattle.column_set.specs.declared.columns.Column.{Column}
use Rattle.column_set.specs.RecordValues.{RecordFields, column_of_id, has_value, values_of}
use Rattle.jet_base.specs.declared.words.ColType.TheVariants.{Binary}
use Rattle.key_normal.specs.KeyBytes.{KeyColumn, cut_key, is_cut, key_bytes}
use Rattle.index_derive.specs.declared.rules.Condition.{Condition}
use Rattle.index_derive.specs.declared.rules.IndexRule.{IndexRule}
use Rattle.index_derive.specs.declared.rules.Schema.{Schema}
use Rattle.index_derive.specs.declared.rules.Segment.{Segment}
use Rattle.index_derive.specs.Entries.{KeyRefusal, KeyTruncated, KeyValues, NullKeyDisallowed, all_key_values, columns_of_key, condition_columns, entries, first_or_null, has_double_number, has_ignore_flag, is_escrow_column, is_ignored, is_legal, is_multi_column, is_text_type, is_tuples_key, key_columns, keys_or_none, meets_conditions, parts_of_columns, parts_of_text, parts_of_texts, primary_key, product, sorted_keys, type_of_column, values_or_null}
use Rattle.database_state.specs.Conflicts.{yields_key}
use Rattle.database_state.specs.SchemaChanges.{rule_columns}

-- the column is the same, and the values in it
abbrev pub SameAt : Schema → Schema → RecordFields → RecordFields → ℕ → Type 0
SameAt one other left right id = (column_of_id one.columns id ≡ column_of_id other.columns id) × (values_of left id ≡ values_of right id)

multi_same : (one other : Schema) (id : ℕ) → column_of_id one.columns id ≡ column_of_id other.columns id → is_multi_column one id ≡ is_multi_column other id
multi_same one other id e = ap (λ (found : Option Column). elim found [ Some column ↦ column.multi | None ↦ false ]) e

escrow_same : (one other : Schema) (id : ℕ) → column_of_id one.columns id ≡ column_of_id other.columns id → is_escrow_column one id ≡ is_escrow_column other id
escrow_same one other id e = ap (λ (found : Option Column). elim found [ Some column ↦ column.escrow | None ↦ false ]) e

type_same : (one other : Schema) (id : ℕ) → column_of_id one.columns id ≡ column_of_id other.columns id → type_of_column one id ≡ type_of_column other id
type_same one other id e = ap (λ (found : Option Column). elim found [ Some column ↦ column.kind | None ↦ Binary ]) e

parts_same : (rule : IndexRule) (one other : Schema) (left right : RecordFields) (earlier : Bool) (columns : List ℕ) → AllByRecursion (SameAt one other left right) columns
    → parts_of_columns rule one left earlier columns ≡ parts_of_columns rule other right earlier columns
parts_same rule one other left right earlier [] h = refl
parts_same rule one other left right earlier (column ∷ columns) h =
    let m = multi_same one other column h.0.0 in
    let rest = ap (λ b. parts_of_columns rule one left (earlier || b) columns) m ∙ parts_same rule one other left right (earlier || is_multi_column other column) columns h.1 in
    λ i. cond (m i && (rule.flags.crossproduct || not earlier)) (values_or_null (h.0.1 i)) (take 1 (values_or_null (h.0.1 i))) ∷ rest i

texts_same : (one other : Schema) (left right : RecordFields) (columns : List ℕ) → AllByRecursion (SameAt one other left right) columns → parts_of_texts left columns ≡ parts_of_texts right columns
texts_same one other left right [] h = refl
texts_same one other left right (column ∷ columns) h = λ i. flat_map (λ value. map (λ part. Some part ∷ []) (parts_of_text (take 1024 value))) (h.0.1 i)

key_values_same : (rule : IndexRule) (one other : Schema) (left right : RecordFields) → AllByRecursion (SameAt one other left right) (key_columns rule) → all_key_values rule one left ≡ all_key_values rule other right
key_values_same rule one other left right h =
    elim (rule.flags.tuples) as (λ b. elim b [ true ↦ parts_of_texts left (key_columns rule) | false ↦ product (parts_of_columns rule one left false (key_columns rule)) ]
    ≡ elim b [ true ↦ parts_of_texts right (key_columns rule) | false ↦ product (parts_of_columns rule other right false (key_columns rule)) ]) [
      | true ↦ texts_same one other left right (key_columns rule) h
      | false ↦ ap product (parts_same rule one other left right false (key_columns rule) h)
    ]

abbrev key_columns_in : Schema → List Segment → List KeyColumn
key_columns_in schema segments = map (λ segment. record { kind = type_of_column schema segment.column.0; descending = segment.descending }) segments

columns_same : (one other : Schema) (left right : RecordFields) (segments : List Segment) → AllByRecursion (SameAt one other left right) (map (λ segment. segment.column.0) segments)
    → key_columns_in one segments ≡ key_columns_in other segments
columns_same one other left right [] h = refl
columns_same one other left right (segment ∷ segments) h =
    let t = type_same one other segment.column.0 h.0.0 in
    let rest = columns_same one other left right segments h.1 in
    λ i. record { kind = t i; descending = segment.descending } ∷ rest i

conditions_same : (one other : Schema) (left right : RecordFields) (conditions : List Condition) → AllByRecursion (SameAt one other left right) (map (λ condition. condition.column.0) conditions)
    → list_all (λ condition. cond condition.must_be_null (not (has_value left condition.column.0)) (has_value left condition.column.0)) conditions
    ≡ list_all (λ condition. cond condition.must_be_null (not (has_value right condition.column.0)) (has_value right condition.column.0)) conditions
conditions_same one other left right [] h = refl
conditions_same one other left right (condition ∷ conditions) h =
    let rest = conditions_same one other left right conditions h.1 in
    λ i. cond condition.must_be_null (not (nat_lt 0 (length (h.0.1 i)))) (nat_lt 0 (length (h.0.1 i))) && rest i

-- the entries, by what is read of the columns
abbrev entries_with : IndexRule → List KeyColumn → List KeyValues → Bool → Result (List (List ℕ)) KeyRefusal
entries_with rule columns all_values meets = elim meets [
  | true ↦ keys_with (filter (λ values. not (is_ignored rule.flags values)) all_values)
  | false ↦ Ok []
]
  where
    keys_with : List KeyValues → Result (List (List ℕ)) KeyRefusal
    keys_with values = elim (rule.flags.disallownull && list_any (list_any is_none) values) [
      | true ↦ Err NullKeyDisallowed
      | false ↦ elim (rule.flags.disallowtruncation && list_any (is_cut rule.key_most) (map (key_bytes columns rule.flags.sortnullshigh) values)) [
        | true ↦ Err KeyTruncated
        | false ↦ Ok (sorted_keys (map (cut_key rule.key_most) (map (key_bytes columns rule.flags.sortnullshigh) values)))
      ]
    ]

entries_are : (rule : IndexRule) (schema : Schema) (fields : RecordFields) → entries rule schema fields ≡ entries_with rule (columns_of_key rule schema) (all_key_values rule schema fields) (meets_conditions rule fields)
unfolding entries
entries_are rule schema fields = refl

-- the entries of a record, or why it is refused
pub entries_same : (rule : IndexRule) (one other : Schema) (left right : RecordFields) → AllByRecursion (SameAt one other left right) (rule_columns rule) → entries rule one left ≡ entries rule other right
entries_same rule one other left right h =
    let both = all_parted (SameAt one other left right) (key_columns rule) (condition_columns rule) h in
    entries_are rule one left
    ∙ (λ i. entries_with rule (columns_same one other left right rule.segments both.0 i) (key_values_same rule one other left right both.0 i) (conditions_same one other left right rule.conditions both.1 i))
    ∙ sym (entries_are rule other right)

-- the keys of a record
pub yields_same : (rule : IndexRule) (one other : Schema) (key : List ℕ) (left right : RecordFields) → AllByRecursion (SameAt one other left right) (rule_columns rule) → yields_key rule one key (Some left) ≡ yields_key rule other key (Some right)
yields_same rule one other key left right h = ap (λ found. list_any (bytes_eq key) (keys_or_none found)) (entries_same rule one other left right h)

firsts_same : (one other : Schema) (left right : RecordFields) (columns : List ℕ) → AllByRecursion (SameAt one other left right) columns → map (λ column. first_or_null (values_of left column)) columns ≡ map (λ column. first_or_null (values_of right column)) columns
firsts_same one other left right [] h = refl
firsts_same one other left right (column ∷ columns) h = λ i. first_or_null (h.0.1 i) ∷ firsts_same one other left right columns h.1 i

-- its bookmark
pub primary_key_same : (rule : IndexRule) (one other : Schema) (left right : RecordFields) → AllByRecursion (SameAt one other left right) (rule_columns rule) → primary_key rule one left ≡ primary_key rule other right
unfolding primary_key
primary_key_same rule one other left right h =
    let both = all_parted (SameAt one other left right) (key_columns rule) (condition_columns rule) h in
    λ i. cut_key rule.key_most (key_bytes (columns_same one other left right rule.segments both.0 i) rule.flags.sortnullshigh (firsts_same one other left right (key_columns rule) both.0 i))

-- ---- which rules are legal

any_same : (p q : ℕ → Bool) (xs : List ℕ) → AllByRecursion (λ x. p x ≡ q x) xs → list_any p xs ≡ list_any q xs
any_same p q [] h = refl
any_same p q (x ∷ xs) h = λ i. h.0 i || any_same p q xs h.1 i

count_same : (p q : ℕ → Bool) (xs : List ℕ) → AllByRecursion (λ x. p x ≡ q x) xs → count_by p xs ≡ count_by q xs
count_same p q xs h = from 0 xs h
  where
    from : (n : ℕ) (xs : List ℕ) → AllByRecursion (λ x. p x ≡ q x) xs → fold (λ a x. a + cond (p x) 1 0) n xs ≡ fold (λ a x. a + cond (q x) 1 0) n xs
    from n [] h = refl
    from n (x ∷ xs) h = ap (λ b. fold (λ a x. a + cond (p x) 1 0) (n + cond b 1 0) xs) h.0 ∙ from (n + cond (q x) 1 0) xs h.1

tuples_same : (one other : Schema) (segments : List Segment) → AllByRecursion (λ id. column_of_id one.columns id ≡ column_of_id other.columns id) (map (λ segment. segment.column.0) segments) → is_tuples_key one segments ≡ is_tuples_key other segments
tuples_same one other [] h = refl
tuples_same one other (segment ∷ []) h = ap (λ kind. not segment.descending && is_text_type kind) (type_same one other segment.column.0 h.0)
tuples_same one other (segment ∷ next ∷ segments) h = refl

-- whether a rule is legal, by what is read of the columns
abbrev is_legal_with : IndexRule → Bool → Bool → ℕ → Bool → Bool
is_legal_with rule escrow multi count tuples =
    nat_le 1 (length rule.segments) && nat_le (length rule.segments) 12 && not (has_double_number (key_columns rule))
    && nat_le (length rule.conditions) 12 && not escrow
    && nat_le 255 rule.key_most && nat_le rule.key_most 500
    && (not rule.flags.primary || (not multi && length rule.conditions == 0 && not (has_ignore_flag rule.flags) && not rule.flags.tuples && not rule.flags.crossproduct && rule.key_most == 255))
    && (not rule.flags.crossproduct || nat_le count 2)
    && (not rule.flags.tuples || (tuples && not (rule.flags.primary || rule.flags.unique || rule.flags.crossproduct)))

legal_is : (rule : IndexRule) (schema : Schema) → is_legal rule schema
    ≡ is_legal_with rule (list_any (is_escrow_column schema) (key_columns rule ++ condition_columns rule)) (list_any (is_multi_column schema) (key_columns rule)) (count_by (is_multi_column schema) (key_columns rule)) (is_tuples_key schema rule.segments)
unfolding is_legal
legal_is rule schema = refl

pub legal_same : (rule : IndexRule) (one other : Schema) → AllByRecursion (λ id. column_of_id one.columns id ≡ column_of_id other.columns id) (rule_columns rule) → is_legal rule one ≡ is_legal rule other
legal_same rule one other h =
    let both = all_parted (λ id. column_of_id one.columns id ≡ column_of_id other.columns id) (key_columns rule) (condition_columns rule) h in
    let multi = all_weaker (λ id. column_of_id one.columns id ≡ column_of_id other.columns id) (λ id. is_multi_column one id ≡ is_multi_column other id) (multi_same one other) (key_columns rule) both.0 in
    legal_is rule one
    ∙ (λ i. is_legal_with rule
    (any_same (is_escrow_column one) (is_escrow_column other) (key_columns rule ++ condition_columns rule) (all_weaker (λ id. column_of_id one.columns id ≡ column_of_id other.columns id) (λ id. is_escrow_column one id ≡ is_escrow_column other id) (escrow_same one other) (rule_columns rule) h) i)
    (any_same (is_multi_column one) (is_multi_column other) (key_columns rule) multi i) (count_same (is_multi_column one) (is_multi_column other) (key_columns rule) multi i) (tuples_same one other rule.segments both.0 i))
    ∙ sym (legal_is rule other)
