-- The key of a record in the primary index of its table.
use Rattle.std.proofs.Common.{◌≡◌, ℕ, true, false, cond, List, [], ◌∷◌, Option, Some, None, find, refl, sym, ap, ◌∙◌}
use Rattle.std.specs.Prelude.{◌==◌, is_some, option_map, unwrap_or}
use Rattle.std.proofs.lemmas.Bool.{eqb-true}
use Rattle.jet_base.specs.ColumnType.{big_endian}
use Rattle.column_set.specs.RecordValues.{RecordFields}
use Rattle.common_lemmas.proofs.Booleans.{impossible}
use Rattle.index_derive.specs.declared.rules.IndexRule.{IndexRule}
use Rattle.index_derive.specs.declared.rules.Schema.{Schema}
use Rattle.index_derive.specs.Entries.{primary_key}
use Rattle.index_derive.specs.Schemas.{primary_rule, rule_with_id}
use Rattle.record_decisions.specs.Updating.{HasLegalRules, IsLegalRule, new_bookmark, own_key}
use Rattle.record_decisions.proofs.RuleByRule.{found-has}

-- the key that is made
pub key-made : (schema own : Schema) (values fields : RecordFields) (rule : IndexRule) (key : List ℕ) → own ≡ schema → fields ≡ values → Some rule ≡ primary_rule own → key ≡ primary_key rule own fields → Some key ≡ own_key schema values
key-made schema own values fields rule key same alike first made =
    ap (λ k. Some k) made ∙ ap (option_map (λ (r : IndexRule). primary_key r own fields)) first ∙ (λ i. own_key (same i) (alike i))

-- it is that in the primary index
pub key-of-rule : (schema : Schema) (values : RecordFields) (rule : IndexRule) (key : List ℕ) → primary_rule schema ≡ Some rule → Some key ≡ own_key schema values → key ≡ primary_key rule schema values
key-of-rule schema values rule key first is = ap (λ (o : Option (List ℕ)). unwrap_or o key) (is ∙ ap (option_map (λ (r : IndexRule). primary_key r schema values)) first)

-- a new record stands under it, or else under its number
pub new-bookmark : (number : ℕ) (schema : Schema) (values : RecordFields) → unwrap_or (own_key schema values) (big_endian 8 number) ≡ new_bookmark number schema values (primary_rule schema)
new-bookmark number schema values = by (primary_rule schema)
  where
    by : (o : Option IndexRule) → unwrap_or (option_map (λ (r : IndexRule). primary_key r schema values) o) (big_endian 8 number) ≡ new_bookmark number schema values o
    by None = refl
    by (Some rule) = refl

-- the index with the number of the primary one is that one
pub primary-again : (schema : Schema) (primary rule : IndexRule) → HasLegalRules schema → Some primary ≡ primary_rule schema → rule_with_id schema rule.id.0 ≡ Some rule → (primary.id.0 == rule.id.0) ≡ true → primary_rule schema ≡ Some rule
primary-again schema primary rule rules first found same =
    sym first ∙ sym (found-has (IsLegalRule schema) (λ (r : IndexRule). r.flags.primary) schema.indexes primary rules (sym first)).0 ∙ ap (rule_with_id schema) (eqb-true primary.id.0 rule.id.0 same) ∙ found

-- and it is flagged so
pub is-flagged : (schema : Schema) (rule : IndexRule) → primary_rule schema ≡ Some rule → rule.flags.primary ≡ true
is-flagged schema rule first = flagged schema.indexes first
  where
    flagged : (rules : List IndexRule) → find (λ (r : IndexRule). r.flags.primary) rules ≡ Some rule → rule.flags.primary ≡ true
    flagged [] e = impossible (ap is_some e)
    flagged (r ∷ rules) e = elim r.flags.primary as (λ b. r.flags.primary ≡ b → cond b (Some r) (find (λ (r : IndexRule). r.flags.primary) rules) ≡ Some rule → rule.flags.primary ≡ true) [
      | true ↦ λ is f. sym (ap (λ (o : Option IndexRule). (unwrap_or o r).flags.primary) f) ∙ is
      | false ↦ λ is f. flagged rules f
    ] refl e
