-- Indexes that take a record, one after another.
use Rattle.std.proofs.Common.{◌≡◌, ℕ, zero, suc, ◌+◌, ◌<◌, ◌≤◌, Bool, true, false, ◌&&◌, cond, List, [], ◌∷◌, length, drop, get_or, Option, Some, None, Result, Ok, Err, filter, find, refl, sym, ap, subst, ◌∙◌}
use Rattle.std.specs.Prelude.{is_none, is_ok, not, slice_get}
use Rattle.std.specs.List.{flat_map, list_all}
use Rattle.std.proofs.lemmas.List.{at_drop_all, at_drop_more}
use Rattle.std.proofs.lemmas.Option.{slice_get_read}
use Rattle.column_set.specs.RecordValues.{RecordFields}
use Rattle.column_set.specs.Refusals.{Refusals, first_refusal}
use Rattle.database_state.specs.Lawful.{is_indexable}
use Rattle.database_state.specs.Puts.{is_cut_refusal, is_null_refusal}
use Rattle.image_contents.specs.LegalRules.{HasLegalRules, IsLegalRule}
use Rattle.index_derive.specs.declared.rules.IndexRule.{IndexRule}
use Rattle.index_derive.specs.declared.rules.Schema.{Schema}
use Rattle.index_derive.specs.Entries.{KeyRefusal, KeyValues, NullKeyDisallowed, KeyTruncated, all_key_values, entries, is_ignored, keys_of, meets_conditions}
use Rattle.index_derive.specs.Schemas.{primary_rule}
use Rattle.jet_base.specs.declared.replies.Jet.TheVariants as jet

-- ---- all indexes

abbrev takes : Schema → RecordFields → IndexRule → Bool
takes schema values rule = is_ok (entries rule schema values)

abbrev pub all_take : Schema → RecordFields → List IndexRule → Bool
all_take schema values rules = list_all (takes schema values) rules

abbrev refusals : Schema → RecordFields → List IndexRule → Refusals
refusals schema values rules = flat_map (λ rule. (is_null_refusal (entries rule schema values), jet.NullKeyDisallowed) ∷ (is_cut_refusal (entries rule schema values), jet.KeyTruncated) ∷ []) rules

none_refuses : (schema : Schema) (values : RecordFields) (rules : List IndexRule) → is_none (first_refusal (refusals schema values rules)) ≡ all_take schema values rules
none_refuses schema values [] = refl
none_refuses schema values (rule ∷ rules) = by (entries rule schema values) (none_refuses schema values rules)
  where
    by : (keys : Result (List (List ℕ)) KeyRefusal) → is_none (first_refusal (refusals schema values rules)) ≡ all_take schema values rules → is_none (first_refusal ((is_null_refusal keys, jet.NullKeyDisallowed) ∷ (is_cut_refusal keys, jet.KeyTruncated) ∷ refusals schema values rules)) ≡ (is_ok keys && all_take schema values rules)
    by (Ok keys) rest = rest
    by (Err NullKeyDisallowed) rest = refl
    by (Err KeyTruncated) rest = refl

-- ---- one after another

-- the rules before a place take the record
abbrev pub PassedTo : Schema → RecordFields → List IndexRule → ℕ → Type 0
PassedTo schema values rules i = all_take schema values (drop i rules) ≡ all_take schema values rules

at_rule : (schema : Schema) (values : RecordFields) (rules : List IndexRule) (i : ℕ) (rule : IndexRule) → i < length rules → rule ≡ get_or rules i rule
    → all_take schema values (drop i rules) ≡ (takes schema values rule && all_take schema values (drop (i + 1) rules))
at_rule schema values rules i rule low is =
    at_drop_more (all_take schema values) rules i rule low ∙ ap (λ r. takes schema values r && all_take schema values (drop (i + 1) rules)) (sym is)

pub passes_one : (schema : Schema) (values : RecordFields) (rules : List IndexRule) (i : ℕ) (rule : IndexRule) → PassedTo schema values rules i → i < length rules → rule ≡ get_or rules i rule → true ≡ is_ok (entries rule schema values)
    → PassedTo schema values rules (i + 1)
passes_one schema values rules i rule passed low is told =
    ap (λ b. b && all_take schema values (drop (i + 1) rules)) told ∙ sym (at_rule schema values rules i rule low is) ∙ passed

pub refused_at : (schema : Schema) (values : RecordFields) (rules : List IndexRule) (i : ℕ) (rule : IndexRule) → rules ≡ schema.indexes → PassedTo schema values rules i → i < length rules → rule ≡ get_or rules i rule → false ≡ is_ok (entries rule schema values)
    → false ≡ is_indexable schema values
refused_at schema values rules i rule same passed low is told =
    ap (λ b. b && all_take schema values (drop (i + 1) rules)) told ∙ sym (at_rule schema values rules i rule low is) ∙ passed ∙ ap (all_take schema values) same ∙ sym (none_refuses schema values schema.indexes)

pub passed_all : (schema : Schema) (values : RecordFields) (rules : List IndexRule) (i : ℕ) → rules ≡ schema.indexes → PassedTo schema values rules i → length rules ≤ i → true ≡ is_indexable schema values
passed_all schema values rules i same passed end =
    sym (at_drop_all (all_take schema values) rules i end) ∙ passed ∙ ap (all_take schema values) same ∙ sym (none_refuses schema values schema.indexes)

-- the rule at a place of a walk over the rules
pub placed : (items rules : List IndexRule) (i : ℕ) (rule : IndexRule) → items ≡ rules → i < length items → rule ≡ get_or items i rule → slice_get rules i ≡ Some rule
placed items rules i rule same low is = subst (λ l. slice_get l i ≡ Some rule) same (slice_get_read items (length items) i rule refl low is)

-- ---- an index that disallows nothing

keys_allowed : (rule : IndexRule) (schema : Schema) (all : List KeyValues) → rule.flags.disallownull ≡ false → rule.flags.disallowtruncation ≡ false → is_ok (keys_of rule schema all) ≡ true
keys_allowed rule schema all no_null no_cut = rw (no_null, no_cut) refl

pub allowed : (rule : IndexRule) (schema : Schema) (values : RecordFields) → rule.flags.disallownull ≡ false → rule.flags.disallowtruncation ≡ false → true ≡ is_ok (entries rule schema values)
unfolding entries
allowed rule schema values no_null no_cut = by (meets_conditions rule values)
  where
    all : List KeyValues
    all = filter (λ (v : KeyValues). not (is_ignored rule.flags v)) (all_key_values rule schema values)

    by : (b : Bool) → true ≡ is_ok (elim b [ true ↦ keys_of rule schema all | false ↦ Ok [] ])
    by true = sym (keys_allowed rule schema all no_null no_cut)
    by false = refl

-- ---- the primary one

-- what each rule has, the first one has that passes a test
pub found_has : (P : IndexRule → Type 0) (test : IndexRule → Bool) (rules : List IndexRule) (rule : IndexRule) → ((place : ℕ) (r : IndexRule) → slice_get rules place ≡ Some r → P r) → find test rules ≡ Some rule → P rule
found_has P test [] rule each e = cc
found_has P test (r ∷ rules) rule each e = elim (test r) as (λ b. cond b (Some r) (find test rules) ≡ Some rule → P rule) [
  | true ↦ λ f. each 0 rule f
  | false ↦ λ f. found_has P test rules rule (λ place x is. each (suc place) x is) f
] e

pub primary_short : (schema : Schema) (rule : IndexRule) → HasLegalRules schema → primary_rule schema ≡ Some rule → rule.key_most ≤ 255
primary_short schema rule legal is = (found_has (IsLegalRule schema) (λ r. r.flags.primary) schema.indexes rule legal is).1
