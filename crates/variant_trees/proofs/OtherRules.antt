-- A table whose indexes change, and the records that stand in it.
use Rattle.std.proofs.Common.{◌≡◌, ◌≤◌, ℕ, Bool, true, false, cond, List, [], ◌∷◌, Option, Some, None, length, refl, sym, ap, subst, ◌∙◌}
use Rattle.std.specs.Prelude.{MatchOption, is_none}
use Rattle.std.specs.List.{AllByRecursion, list_all}
use Rattle.common_lemmas.proofs.Lists.{all_each, all_weaker}
use Rattle.common_lemmas.proofs.Booleans.{impossible}
use Rattle.column_set.specs.RecordValues.{RecordFields, column_of_id}
use Rattle.database_state.specs.Conflicts.{yields_key}
use Rattle.database_state.specs.Lawful.{is_indexable}
use Rattle.database_state.specs.Puts.{is_cut_refusal, is_null_refusal}
use Rattle.column_set.specs.Refusals.{first_refusal}
use Rattle.database_state.specs.SchemaChanges.{has_column, rule_columns}
use Rattle.database_state.specs.Table.{Table, primary_first, schema_of}
use Rattle.index_derive.specs.Schemas.{primary_rule, rule_with_id}
use Rattle.index_derive.specs.declared.rules.IndexRule.{IndexRule}
use Rattle.index_derive.specs.declared.rules.Schema.{Schema}
use Rattle.index_derive.specs.Entries.{entries, is_legal, primary_key}
use Rattle.jet_base.specs.declared.replies.Jet.TheVariants as jet
use Rattle.laws_versions.proofs.KeyLemmas.FreeKeys.{in_any_order}
use Rattle.laws_versions.proofs.KeyLemmas.IndexNumbers.{all_primary_first}
use Rattle.laws_versions.proofs.KeyLemmas.SameColumns.{SameAt, entries_same, legal_same, primary_key_same, yields_same}
use Rattle.stored_variants.specs.VersionsKept.{IsRowUnder, IsStoredRule}
use Rattle.stored_variants.specs.RecordRows.{record_of}
use Rattle.long_value.specs.Values.{Values}
use Rattle.stored_variants.proofs.TakenRecords.{refusals_in}

abbrev pub with_rules : List IndexRule → Table → Table
with_rules rules t = record t { indexes = rules }

-- ---- the same columns

same_at : (t : Table) (rules : List IndexRule) (values : RecordFields) (ids : List ℕ) → AllByRecursion (SameAt (schema_of (with_rules rules t)) (schema_of t) values values) ids
same_at t rules values ids = all_each (SameAt (schema_of (with_rules rules t)) (schema_of t) values values) (λ id. (refl, refl)) ids

pub entries_as : (t : Table) (rules : List IndexRule) (rule : IndexRule) (values : RecordFields) → entries rule (schema_of (with_rules rules t)) values ≡ entries rule (schema_of t) values
entries_as t rules rule values = entries_same rule (schema_of (with_rules rules t)) (schema_of t) values values (same_at t rules values (rule_columns rule))

pub legal_as : (t : Table) (rules : List IndexRule) (rule : IndexRule) → is_legal rule (schema_of (with_rules rules t)) ≡ is_legal rule (schema_of t)
legal_as t rules rule = legal_same rule (schema_of (with_rules rules t)) (schema_of t) (all_each (λ id. column_of_id t.columns id ≡ column_of_id t.columns id) (λ id. refl) (rule_columns rule))

pub yields_as : (t : Table) (rules : List IndexRule) (rule : IndexRule) (key : List ℕ) (found : Option RecordFields) → yields_key rule (schema_of (with_rules rules t)) key found ≡ yields_key rule (schema_of t) key found
yields_as t rules rule key None = refl
yields_as t rules rule key (Some values) = yields_same rule (schema_of (with_rules rules t)) (schema_of t) key values values (same_at t rules values (rule_columns rule))

-- ---- which indexes take a record

-- the index refuses it neither for a NULL nor for a cut key
abbrev pub Takes : Schema → RecordFields → IndexRule → Type 0
Takes schema values rule = (is_null_refusal (entries rule schema values) ≡ false) × (is_cut_refusal (entries rule schema values) ≡ false)

each_takes : (schema : Schema) (values : RecordFields) (rules : List IndexRule) → is_none (first_refusal (refusals_in schema values rules)) ≡ true → AllByRecursion (Takes schema values) rules
each_takes schema values [] h = tt
each_takes schema values (rule ∷ rules) h = by (is_null_refusal (entries rule schema values)) refl (is_cut_refusal (entries rule schema values)) refl h (each_takes schema values rules)
  where
    by : (a : Bool) → is_null_refusal (entries rule schema values) ≡ a → (b : Bool) → is_cut_refusal (entries rule schema values) ≡ b
        → is_none (cond a (Some jet.NullKeyDisallowed) (cond b (Some jet.KeyTruncated) (first_refusal (refusals_in schema values rules)))) ≡ true
        → (is_none (first_refusal (refusals_in schema values rules)) ≡ true → AllByRecursion (Takes schema values) rules) → AllByRecursion (Takes schema values) (rule ∷ rules)
    by true e b f h rest = impossible h
    by false e true f h rest = impossible h
    by false e false f h rest = ((e, f), rest h)

all_take : (schema : Schema) (values : RecordFields) (rules : List IndexRule) → AllByRecursion (Takes schema values) rules → is_none (first_refusal (refusals_in schema values rules)) ≡ true
all_take schema values [] h = refl
all_take schema values (rule ∷ rules) h =
    (λ i. is_none (cond (h.0.0 i) (Some jet.NullKeyDisallowed) (cond (h.0.1 i) (Some jet.KeyTruncated) (first_refusal (refusals_in schema values rules))))) ∙ all_take schema values rules h.1

-- a record that may be indexed is one that each index takes
pub takes_of : (t : Table) (values : RecordFields) → is_indexable (schema_of t) values ≡ true → AllByRecursion (Takes (schema_of t) values) t.indexes
takes_of t values h = in_any_order (Takes (schema_of t) values) t.indexes (each_takes (schema_of t) values (primary_first t.indexes) h)

pub indexable_of : (t : Table) (values : RecordFields) → AllByRecursion (Takes (schema_of t) values) t.indexes → is_indexable (schema_of t) values ≡ true
indexable_of t values h = all_take (schema_of t) values (primary_first t.indexes) (all_primary_first (Takes (schema_of t) values) t.indexes h)

pub takes_as : (t : Table) (rules : List IndexRule) (values : RecordFields) (rule : IndexRule) → Takes (schema_of t) values rule → Takes (schema_of (with_rules rules t)) values rule
takes_as t rules values rule h = (ap is_null_refusal (entries_as t rules rule values) ∙ h.0, ap is_cut_refusal (entries_as t rules rule values) ∙ h.1)

-- ---- a row that stands

pub row_as : (vals : Values) (t : Table) (rules : List IndexRule) (bookmark bytes : List ℕ) → primary_rule (schema_of (with_rules rules t)) ≡ primary_rule (schema_of t)
    → (AllByRecursion (Takes (schema_of t) (record_of vals bytes)) t.indexes → AllByRecursion (Takes (schema_of t) (record_of vals bytes)) rules)
    → IsRowUnder vals t bookmark bytes → IsRowUnder vals (with_rules rules t) bookmark bytes
row_as vals t rules bookmark bytes primary takes is = record {
  fits = record { row = is.fits.row; columns = is.fits.columns; numbers = is.fits.numbers };
  indexable =
      indexable_of (with_rules rules t) (record_of vals bytes)
      (all_weaker (Takes (schema_of t) (record_of vals bytes)) (Takes (schema_of (with_rules rules t)) (record_of vals bytes)) (takes_as t rules (record_of vals bytes)) rules
      (takes (takes_of t (record_of vals bytes) is.indexable)));
  own = subst (λ (o : Option IndexRule). MatchOption o (length bookmark ≡ 8) (λ rule. bookmark ≡ primary_key rule (schema_of (with_rules rules t)) (record_of vals bytes))) (sym primary) (by (primary_rule (schema_of t)) is.own);
}
  where
    by : (o : Option IndexRule) → MatchOption o (length bookmark ≡ 8) (λ rule. bookmark ≡ primary_key rule (schema_of t) (record_of vals bytes))
        → MatchOption o (length bookmark ≡ 8) (λ rule. bookmark ≡ primary_key rule (schema_of (with_rules rules t)) (record_of vals bytes))
    by None h = h
    by (Some rule) h = h ∙ sym (primary_key_same rule (schema_of (with_rules rules t)) (schema_of t) (record_of vals bytes) (record_of vals bytes) (same_at t rules (record_of vals bytes) (rule_columns rule)))

-- a rule of the table, found as before
pub rule_as : (t : Table) (rules : List IndexRule) (rule : IndexRule) → rule_with_id (schema_of (with_rules rules t)) rule.id.0 ≡ Some rule → (rule.flags.primary ≡ true → primary_rule (schema_of (with_rules rules t)) ≡ Some rule)
    → is_legal rule (schema_of t) ≡ true → list_all (has_column t) (rule_columns rule) ≡ true → rule.key_most ≤ 255 → IsStoredRule (with_rules rules t) rule
rule_as t rules rule found primary legal columns short = record {
  found = found;
  primary = primary;
  legal = legal_as t rules rule ∙ legal;
  columns = columns;
  short = short;
}
