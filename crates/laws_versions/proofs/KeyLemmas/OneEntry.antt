-- A record has one entry in a primary index, or is refused there.
use Rattle.std.proofs.Common.{◌≡◌, ℕ, Bool, true, false, ◌||◌, ◌&&◌, not, cond, eqb, List, [], ◌∷◌, ◌++◌, length, take, map, filter, refl, sym, ap, ◌∙◌, count_by, arith}
use Rattle.std.specs.Prelude.{Option, Result, Ok, Err, is_none, nat_le, nat_lt, flat_map}
use Rattle.std.specs.List.{list_any, list_all}
use Rattle.std.proofs.Math.Bool.{or-false}
use Rattle.std.proofs.lemmas.Bool.{and_parts, or_parts, not-true, not_from_true, eqb-true, lt-ltb}
use Rattle.std.proofs.lemmas.List.{nil_from_length}
use Rattle.column_set.specs.RecordValues.{RecordFields, values_of, has_value}
use Rattle.key_normal.specs.KeyBytes.{is_cut}
use Rattle.index_derive.specs.declared.rules.Condition.{Condition}
use Rattle.index_derive.specs.declared.rules.IndexFlags.{IndexFlags}
use Rattle.index_derive.specs.declared.rules.IndexRule.{IndexRule}
use Rattle.index_derive.specs.declared.rules.Schema.{Schema}
use Rattle.index_derive.specs.Entries.{KeyValues, KeyRefusal, NullKeyDisallowed, KeyTruncated, entries, is_legal, is_legal_primary, is_legal_tuples, has_ignore_flag, has_double_number, is_multi_column, is_escrow_column, key_columns, condition_columns, meets_conditions, all_key_values, parts_of_columns, parts_of_texts, product, values_or_null, first_or_null, is_ignored, is_first_null, whole_key, keys_of, primary_key}
use Rattle.index_derive.specs.Primary.{first_values, primary_entries}
use Rattle.laws_versions.proofs.KeyLemmas.BookmarkKeys.{HasOneEntry}

-- ---- what a legal primary rule says

record IsPrimaryRule (rule : IndexRule) (schema : Schema) : Type 0 where
  pub no_multi : list_any (is_multi_column schema) (key_columns rule) ≡ false
  pub no_conditions : rule.conditions ≡ []
  pub no_ignore : has_ignore_flag rule.flags ≡ false
  pub no_tuples : rule.flags.tuples ≡ false

from_test : (rule : IndexRule) (schema : Schema) → is_legal_primary rule schema ≡ true → IsPrimaryRule rule schema
from_test rule schema h =
    let no_multi = not (list_any (is_multi_column schema) (key_columns rule)) in
    let no_conditions = eqb (length rule.conditions) 0 in
    let no_ignore = not (has_ignore_flag rule.flags) in
    let no_tuples = not rule.flags.tuples in
    let no_cross = not rule.flags.crossproduct in
    let a = and_parts (no_multi && no_conditions && no_ignore && no_tuples && no_cross) (eqb rule.key_most 255) h in
    let b = and_parts (no_multi && no_conditions && no_ignore && no_tuples) no_cross a.0 in
    let c = and_parts (no_multi && no_conditions && no_ignore) no_tuples b.0 in
    let d = and_parts (no_multi && no_conditions) no_ignore c.0 in
    let e = and_parts no_multi no_conditions d.0 in
    record {
      no_multi = not-true (list_any (is_multi_column schema) (key_columns rule)) e.0;
      no_conditions = nil_from_length rule.conditions (eqb-true (length rule.conditions) 0 e.1);
      no_ignore = not-true (has_ignore_flag rule.flags) d.1;
      no_tuples = not-true rule.flags.tuples c.1;
    }

-- the eighth of ten
eighth : (a b c d e f g h i j : Bool) → (a && b && c && d && e && f && g && h && i && j) ≡ true → h ≡ true
eighth a b c d e f g h i j t =
    (and_parts (a && b && c && d && e && f && g) h
    (and_parts (a && b && c && d && e && f && g && h) i
    (and_parts (a && b && c && d && e && f && g && h && i) j t).0).0).1

asked : (a b : Bool) → a ≡ true → (not a || b) ≡ true → b ≡ true
asked true b h t = t
asked false b h t = absurd cc

primary_rule : (rule : IndexRule) (schema : Schema) → is_legal rule schema ≡ true → rule.flags.primary ≡ true → IsPrimaryRule rule schema
unfolding is_legal
primary_rule rule schema legal primary =
    from_test rule schema (asked rule.flags.primary (is_legal_primary rule schema) primary (eighth
    (nat_le 1 (length rule.segments)) (nat_le (length rule.segments) 12) (not (has_double_number (key_columns rule)))
    (nat_le (length rule.conditions) 12) (not (list_any (is_escrow_column schema) (key_columns rule ++ condition_columns rule)))
    (nat_le 255 rule.key_most) (nat_le rule.key_most 500)
    (not rule.flags.primary || is_legal_primary rule schema)
    (not rule.flags.crossproduct || nat_le (count_by (is_multi_column schema) (key_columns rule)) 2)
    (not rule.flags.tuples || is_legal_tuples rule schema) legal))

-- ---- its values

first_one : (values : List (List ℕ)) → take 1 (values_or_null values) ≡ first_or_null values ∷ []
first_one [] = refl
first_one (value ∷ values) = refl

abbrev fronted : List (Option (List ℕ)) → List KeyValues → List KeyValues
fronted xs rest = flat_map (λ x. map (λ ys. x ∷ ys) rest) xs

one_list : (rule : IndexRule) (schema : Schema) (fields : RecordFields) (earlier : Bool) (columns : List ℕ) → list_any (is_multi_column schema) columns ≡ false
    → product (parts_of_columns rule schema fields earlier columns) ≡ map (λ column. first_or_null (values_of fields column)) columns ∷ []
one_list rule schema fields earlier [] h = refl
one_list rule schema fields earlier (column ∷ columns) h =
    let parts = or_parts (is_multi_column schema column) (list_any (is_multi_column schema) columns) h in
    let values = values_or_null (values_of fields column) in
    let first : cond (is_multi_column schema column && (rule.flags.crossproduct || not earlier)) values (take 1 values) ≡ first_or_null (values_of fields column) ∷ [] =
    ap (λ multi. cond (multi && (rule.flags.crossproduct || not earlier)) values (take 1 values)) parts.0 ∙ first_one (values_of fields column) in
    λ i. fronted (first i) (one_list rule schema fields (earlier || is_multi_column schema column) columns parts.1 i)

values_are : (rule : IndexRule) (schema : Schema) (fields : RecordFields) → IsPrimaryRule rule schema → all_key_values rule schema fields ≡ first_values rule fields ∷ []
values_are rule schema fields h =
    ap (λ tuples. elim tuples [ true ↦ parts_of_texts fields (key_columns rule) | false ↦ product (parts_of_columns rule schema fields false (key_columns rule)) ]) h.no_tuples
    ∙ one_list rule schema fields false (key_columns rule) h.no_multi

-- ---- none is left out

none_ignored : (flags : IndexFlags) (values : KeyValues) → has_ignore_flag flags ≡ false → is_ignored flags values ≡ false
none_ignored flags values h =
    let a = or_parts (flags.ignorenull || flags.ignoreanynull) flags.ignorefirstnull h in
    let b = or_parts flags.ignorenull flags.ignoreanynull a.0 in
    λ i. b.0 i && list_all is_none values || b.1 i && list_any is_none values || a.1 i && is_first_null values

kept : (rule : IndexRule) (schema : Schema) (fields : RecordFields) → IsPrimaryRule rule schema
    → filter (λ values. not (is_ignored rule.flags values)) (all_key_values rule schema fields) ≡ first_values rule fields ∷ []
kept rule schema fields h =
    ap (filter (λ values. not (is_ignored rule.flags values))) (values_are rule schema fields h)
    ∙ ap (λ ignored. cond (not ignored) (first_values rule fields ∷ []) []) (none_ignored rule.flags (first_values rule fields) h.no_ignore)

all_met : (rule : IndexRule) (fields : RecordFields) → rule.conditions ≡ [] → meets_conditions rule fields ≡ true
all_met rule fields h =
    ap (list_all (λ (condition : Condition). cond condition.must_be_null (not (has_value fields condition.column.0)) (has_value fields condition.column.0))) h

-- ---- its key

null_is : (values : List (List ℕ)) → is_none (first_or_null values) ≡ not (nat_lt 0 (length values))
null_is [] = refl
null_is (value ∷ values) = sym (not_from_true (nat_lt 0 (length (value ∷ values))) (lt-ltb 0 (length (value ∷ values)) (omega arith)))

has_null : (fields : RecordFields) (columns : List ℕ) → list_any is_none (map (λ column. first_or_null (values_of fields column)) columns) ≡ list_any (λ column. not (has_value fields column)) columns
has_null fields [] = refl
has_null fields (column ∷ columns) = λ i. null_is (values_of fields column) i || has_null fields columns i

abbrev one_key : Bool → Bool → List ℕ → Result (List (List ℕ)) KeyRefusal
one_key null cut key = elim null [ true ↦ Err NullKeyDisallowed | false ↦ elim cut [ true ↦ Err KeyTruncated | false ↦ Ok (key ∷ []) ] ]

keys_are : (rule : IndexRule) (schema : Schema) (fields : RecordFields) → keys_of rule schema (first_values rule fields ∷ []) ≡ primary_entries rule schema fields
unfolding primary_key
keys_are rule schema fields =
    let null = or-false (list_any is_none (first_values rule fields)) ∙ has_null fields (key_columns rule) in
    let cut = or-false (is_cut rule.key_most (whole_key rule schema (first_values rule fields))) in
    λ i. one_key (rule.flags.disallownull && null i) (rule.flags.disallowtruncation && cut i) (primary_key rule schema fields)

pub one_entry : HasOneEntry
unfolding entries
one_entry rule schema fields legal primary =
    let h = primary_rule rule schema legal primary in
    ap (λ met. elim met [ true ↦ keys_of rule schema (filter (λ values. not (is_ignored rule.flags values)) (all_key_values rule schema fields)) | false ↦ Ok [] ]) (all_met rule fields h.no_conditions)
    ∙ ap (keys_of rule schema) (kept rule schema fields h)
    ∙ keys_are rule schema fields
