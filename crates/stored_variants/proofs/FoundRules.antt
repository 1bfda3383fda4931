-- Indexes that are found by their numbers.
use Rattle.std.proofs.Common.{◌≡◌, Bool, true, false, cond, List, [], ◌∷◌, Option, Some, find, ap, subst, ℕ, None, refl, sym, ◌∙◌, not, ◌&&◌, ◌||◌, map}
use Rattle.std.specs.Prelude.{unwrap_or, ◌==◌}
use Rattle.std.specs.List.{AllByRecursion, list_any}
use Rattle.std.proofs.lemmas.Bool.{eqb-true}
use Rattle.common_lemmas.proofs.Booleans.{impossible}
use Rattle.index_derive.specs.Schemas.{rule_with_id}
use Rattle.index_derive.specs.declared.rules.IndexRule.{IndexRule}
use Rattle.index_derive.specs.declared.rules.Schema.{Schema}
use Rattle.stored_variants.specs.VersionsKept.{only_secondary}
use Rattle.column_set.specs.RecordValues.{RecordFields}
use Rattle.database_state.specs.Conflicts.{yields_key}
use Rattle.table_trees.specs.StoredTables.{StoredIndex, is_index}
use Rattle.stored_variants.specs.PutRecords.{HasKeysOf, record_keys}

found_rule : (index : ℕ) (rules : List IndexRule) (rule : IndexRule) → find (λ (r : IndexRule). r.id.0 == index) rules ≡ Some rule → rule.id.0 ≡ index
found_rule index [] rule e = cc
found_rule index (r ∷ rules) rule e = by (r.id.0 == index) refl e (found_rule index rules rule)
  where
    by : (b : Bool) → (r.id.0 == index) ≡ b → cond b (Some r) (find (λ (r : IndexRule). r.id.0 == index) rules) ≡ Some rule → (find (λ (r : IndexRule). r.id.0 == index) rules ≡ Some rule → rule.id.0 ≡ index) → rule.id.0 ≡ index
    by true h e rest = ap (λ (o : Option IndexRule). (unwrap_or o rule).id.0) (sym e) ∙ eqb-true r.id.0 index h
    by false h e rest = rest e

pub secondary_found : (index : ℕ) (schema : Schema) (rule : IndexRule) → only_secondary (rule_with_id schema index) ≡ Some rule → (rule_with_id schema rule.id.0 ≡ Some rule) × (rule.id.0 ≡ index)
secondary_found index schema rule e = by (rule_with_id schema index) refl e
  where
    none : (r : IndexRule) (b : Bool) → cond b None (Some r) ≡ Some rule → Some r ≡ Some rule
    none r true e = cc
    none r false e = e

    by : (o : Option IndexRule) → rule_with_id schema index ≡ o → only_secondary o ≡ Some rule → (rule_with_id schema rule.id.0 ≡ Some rule) × (rule.id.0 ≡ index)
    by None found e = cc
    by (Some r) found e =
        let is : rule_with_id schema index ≡ Some rule = found ∙ none r r.flags.primary e in
        let same = found_rule index schema.indexes rule is in
        (ap (rule_with_id schema) same ∙ is, same)

pub list_any_numbers : (index : ℕ) (indexes : List StoredIndex) → list_any (is_index index) indexes ≡ list_any (λ n. n == index) (map (λ (x : StoredIndex). x.0) indexes)
list_any_numbers index [] = refl
list_any_numbers index (x ∷ indexes) = ap (λ b. (x.0 == index) || b) (list_any_numbers index indexes)

same_rule : (one other : IndexRule) → Some one ≡ Some other → one ≡ other
same_rule one other e = ap (λ (o : Option IndexRule). unwrap_or o one) e

-- an index has a number of its own
pub record_yields : (schema : Schema) (values : RecordFields) (rules : List IndexRule) (rule : IndexRule) → AllByRecursion (HasKeysOf schema values) rules → rule_with_id schema rule.id.0 ≡ Some rule → (k : List ℕ) → record_keys rules schema values rule.id.0 k ≡ true
    → yields_key rule schema k (Some values) ≡ true
record_yields schema values [] rule all found k e = impossible e
record_yields schema values (r ∷ rules) rule all found k e = by r.flags.primary (r.id.0 == rule.id.0) refl (yields_key r schema k (Some values)) refl e (record_yields schema values rules rule all.1 found k)
  where
    by : (a b : Bool) → (r.id.0 == rule.id.0) ≡ b → (c : Bool) → yields_key r schema k (Some values) ≡ c → ((not a && (b && c)) || record_keys rules schema values rule.id.0 k) ≡ true
        → (record_keys rules schema values rule.id.0 k ≡ true → yields_key rule schema k (Some values) ≡ true) → yields_key rule schema k (Some values) ≡ true
    by false true e true y is rest =
        subst (λ (x : IndexRule). yields_key x schema k (Some values) ≡ true) (same_rule r rule (sym all.0.found ∙ ap (rule_with_id schema) (eqb-true r.id.0 rule.id.0 e) ∙ found)) y
    by false true e false y is rest = rest is
    by false false e c y is rest = rest is
    by true b e c y is rest = rest is
