-- The keys of records in an index are no longer than its rule says, and none begins another.
use Rattle.std.proofs.Common.{◌≡◌, ℕ, Bool, true, List, [], ◌∷◌, ◌++◌, length, take, refl, sym, ap, ◌∙◌, arith, length-take, bytes_eq, nat_le}
use Rattle.std.specs.List.{list_any, list_all, AllByRecursion}
use Rattle.std.proofs.lemmas.Bool.Decides.{nat_tests}
use Rattle.std.proofs.lemmas.Bool.{and_from}
use Rattle.common_lemmas.proofs.Lists.{all_each, all_weaker}
use Rattle.column_set.specs.RecordValues.{RecordFields, record_fits}
use Rattle.index_derive.specs.declared.rules.IndexRule.{IndexRule}
use Rattle.index_derive.specs.declared.rules.Schema.{Schema}
use Rattle.index_derive.specs.Entries.{KeyValues, key_list, is_legal, whole_key, all_key_values, columns_of_key}
use Rattle.laws_versions.proofs.IndexLemmas.WholeKeys.{AreOfTypes, apart_keys}
use Rattle.laws_versions.proofs.IndexLemmas.RecordKeys.{all_keys, one_of_all}
use Rattle.laws_versions.proofs.IndexLemmas.ColumnValues.{types-all}

-- a key of values of the columns' types
record IsKey (rule : IndexRule) (schema : Schema) (key : List ℕ) : Type 0 where
  values : KeyValues
  types : AreOfTypes (columns_of_key rule schema) values
  is : key ≡ take rule.key_most (whole_key rule schema values)

key_of_record : (rule : IndexRule) (schema : Schema) (fields : RecordFields) (key : List ℕ) → is_legal rule schema ≡ true → record_fits schema.columns fields ≡ true
    → list_any (bytes_eq key) (key_list rule schema fields) ≡ true → IsKey rule schema key
key_of_record rule schema fields key legal fits stands =
    one_of_all (IsKey rule schema) key (key_list rule schema fields)
    (all_keys (IsKey rule schema) rule schema fields
    (all_weaker (AreOfTypes (columns_of_key rule schema)) (λ values. IsKey rule schema (take rule.key_most (whole_key rule schema values)))
    (λ values types. record { values = values; types = types; is = refl }) (all_key_values rule schema fields) (types-all rule schema fields legal fits)))
    stands

pub apart : (rule : IndexRule) (schema : Schema) (one other : RecordFields) (key rest : List ℕ) → is_legal rule schema ≡ true
    → record_fits schema.columns one ≡ true → record_fits schema.columns other ≡ true
    → list_any (bytes_eq key) (key_list rule schema one) ≡ true → list_any (bytes_eq (key ++ rest)) (key_list rule schema other) ≡ true → rest ≡ []
apart rule schema one other key rest legal fits others_fit stands longer_stands =
    let first = key_of_record rule schema one key legal fits stands in
    let second = key_of_record rule schema other (key ++ rest) legal others_fit longer_stands in
    apart_keys (columns_of_key rule schema) rule.flags.sortnullshigh rule.key_most first.values second.values rest first.types second.types
    (sym second.is ∙ ap (λ k. k ++ rest) first.is)

within : (most : ℕ) (bytes : List ℕ) → nat_le (length (take most bytes)) most ≡ true
within most bytes = grind (arith, nat_tests, length-take most bytes)

all_true : (p : List ℕ → Bool) (keys : List (List ℕ)) → AllByRecursion (λ key. p key ≡ true) keys → list_all p keys ≡ true
all_true p [] h = refl
all_true p (key ∷ keys) h = and_from (p key) _ h.0 (all_true p keys h.1)

pub short : (rule : IndexRule) (schema : Schema) (fields : RecordFields) → list_all (λ key. nat_le (length key) rule.key_most) (key_list rule schema fields) ≡ true
short rule schema fields =
    all_true (λ key. nat_le (length key) rule.key_most) (key_list rule schema fields)
    (all_keys (λ key. nat_le (length key) rule.key_most ≡ true) rule schema fields
    (all_each (λ values. nat_le (length (take rule.key_most (whole_key rule schema values))) rule.key_most ≡ true) (λ values. within rule.key_most (whole_key rule schema values)) (all_key_values rule schema fields)))
