-- A key of the first values of a record.
use Rattle.std.proofs.Common.{◌≡◌, ℕ, ◌+◌, ◌<◌, ◌≤◌, Bool, List, [], ◌∷◌, ◌++◌, length, get_or, take, map, refl, sym, ap, subst, ◌∙◌, add-one}
use Rattle.std.specs.Prelude.{Option}
use Rattle.std.specs.Option.{option_map}
use Rattle.std.specs.List.{slice_get}
use Rattle.jet_base.specs.declared.words.ColType.{ColType}
use Rattle.std.proofs.lemmas.List.{take_all}
use Rattle.column_set.specs.RecordValues.{RecordFields, values_of}
use Rattle.key_normal.specs.KeyBytes.{KeyColumn, key_bytes, segment_bytes, cut_key}
use Rattle.key_normal.specs.KeySoFar.{KeySoFar, key_so_far}
use Rattle.index_derive.specs.declared.rules.IndexRule.{IndexRule}
use Rattle.index_derive.specs.declared.rules.Schema.{Schema}
use Rattle.index_derive.specs.declared.rules.Segment.{Segment}
use Rattle.index_derive.specs.Entries.{type_of_column, first_or_null, whole_key, primary_key}
use Rattle.index_derive.specs.Walks.{value_at}
use Rattle.index_derive.proofs.Keys.{key_more}

-- ---- the bytes of the columns

abbrev column_of_segment : Schema → Segment → KeyColumn
column_of_segment schema segment = record { kind = type_of_column schema segment.column.0; descending = segment.descending }

abbrev value_of_segment : RecordFields → Segment → Option (List ℕ)
value_of_segment fields segment = first_or_null (values_of fields segment.column.0)

-- those of the first values of some columns
abbrev pub first_bytes : Schema → RecordFields → Bool → List Segment → List ℕ
first_bytes schema fields high segments = key_bytes (map (column_of_segment schema) segments) high (map (value_of_segment fields) segments)

values_of_segments : (fields : RecordFields) (segments : List Segment) → map (λ column. first_or_null (values_of fields column)) (map (λ (segment : Segment). segment.column.0) segments) ≡ map (value_of_segment fields) segments
values_of_segments fields [] = refl
values_of_segments fields (segment ∷ segments) = ap (λ values. value_of_segment fields segment ∷ values) (values_of_segments fields segments)

primary_key-is : (rule : IndexRule) (schema : Schema) (fields : RecordFields) → primary_key rule schema fields ≡ cut_key rule.key_most (first_bytes schema fields rule.flags.sortnullshigh rule.segments)
unfolding primary_key
primary_key-is rule schema fields = ap (λ values. cut_key rule.key_most (whole_key rule schema values)) (values_of_segments fields rule.segments)

-- ---- one more column

first_is : (fields : RecordFields) (column : ℕ) → value_at fields column 0 ≡ first_or_null (values_of fields column)
first_is fields column = seen_first (values_of fields column)
  where
    seen_first : (values : List (List ℕ)) → option_map (take 255) (slice_get values 0) ≡ first_or_null values
    seen_first [] = refl
    seen_first (value ∷ values) = refl

pub column_more : (schema : Schema) (fields : RecordFields) (high : Bool) (most : ℕ) (segments : List Segment) (n : ℕ) (segment : Segment) (kind : ColType) (value : Option (List ℕ)) (before after : KeySoFar)
    → n < length segments → segment ≡ get_or segments n segment → kind ≡ type_of_column schema segment.column.0 → value ≡ value_at fields segment.column.0 0
    → before ≡ key_so_far most (first_bytes schema fields high (take n segments))
    → ((given : List ℕ) → before ≡ key_so_far before.most given → after ≡ key_so_far before.most (given ++ segment_bytes kind value segment.descending high))
    → after ≡ key_so_far most (first_bytes schema fields high (take (n + 1) segments))
column_more schema fields high most segments n segment kind value before after lt is kind_is value_is so_far add =
    let given = first_bytes schema fields high (take n segments) in
    let P : ℕ → Type 0 = λ m. before ≡ key_so_far m given → after ≡ key_so_far m (given ++ segment_bytes kind value segment.descending high) in
    let added : after ≡ key_so_far most (given ++ segment_bytes kind value segment.descending high) = subst P (ap (λ (k : KeySoFar). k.most) so_far) (add given) so_far in
    let first = value_is ∙ first_is fields segment.column.0 in
    let more = key_more (column_of_segment schema) (value_of_segment fields) high segments segments n segment segment lt lt is is in
    added
    ∙ (λ i. key_so_far most (given ++ segment_bytes (kind_is i) (first i) segment.descending high))
    ∙ ap (key_so_far most) (sym more)
    ∙ ap (λ k. key_so_far most (first_bytes schema fields high (take k segments))) (sym (add-one n))

-- ---- all columns

pub key_made : (rule : IndexRule) (schema : Schema) (fields : RecordFields) (segments : List Segment) (n : ℕ) (maker : KeySoFar) (key : List ℕ)
    → segments ≡ rule.segments → length segments ≤ n → maker ≡ key_so_far rule.key_most (first_bytes schema fields rule.flags.sortnullshigh (take n segments)) → key ≡ maker.bytes
    → key ≡ primary_key rule schema fields
key_made rule schema fields segments n maker key all past made is =
    is ∙ ap (λ (k : KeySoFar). k.bytes) made
    ∙ ap (λ (ss : List Segment). cut_key rule.key_most (first_bytes schema fields rule.flags.sortnullshigh ss)) (take_all n segments past ∙ all)
    ∙ sym (primary_key-is rule schema fields)
