-- A record that no index refuses has keys in each.
use Rattle.std.proofs.Common.{◌≡◌, ℕ, Bool, true, false, cond, List, [], ◌∷◌, Some, Result, Ok, Err, refl, sym}
use Rattle.std.specs.Prelude.{IsOk, flat_map, is_none}
use Rattle.std.specs.List.{AllByRecursion}
use Rattle.common_lemmas.proofs.Booleans.{impossible}
use Rattle.column_set.specs.RecordValues.{RecordFields}
use Rattle.column_set.specs.Refusals.{Refusals, first_refusal}
use Rattle.database_state.specs.Puts.{is_cut_refusal, is_null_refusal}
use Rattle.index_derive.specs.declared.rules.IndexRule.{IndexRule}
use Rattle.index_derive.specs.declared.rules.Schema.{Schema}
use Rattle.index_derive.specs.Entries.{KeyRefusal, NullKeyDisallowed, KeyTruncated, entries}
use Rattle.jet_base.specs.declared.replies.Jet.TheVariants as jet

pub no_refusal : (r : Result (List (List ℕ)) KeyRefusal) → is_null_refusal r ≡ false → is_cut_refusal r ≡ false → IsOk r
no_refusal (Ok keys) a b = refl
no_refusal (Err NullKeyDisallowed) a b = impossible (sym a)
no_refusal (Err KeyTruncated) a b = impossible (sym b)

abbrev pub refusals_in : Schema → RecordFields → List IndexRule → Refusals
refusals_in schema values rules = flat_map (λ rule. (is_null_refusal (entries rule schema values), jet.NullKeyDisallowed) ∷ (is_cut_refusal (entries rule schema values), jet.KeyTruncated) ∷ []) rules

pub record_taken : (schema : Schema) (values : RecordFields) (rules : List IndexRule) → is_none (first_refusal (refusals_in schema values rules)) ≡ true → AllByRecursion (λ rule. IsOk (entries rule schema values)) rules
record_taken schema values [] e = tt
record_taken schema values (rule ∷ rules) e = by (is_null_refusal (entries rule schema values)) (is_cut_refusal (entries rule schema values)) refl refl e (record_taken schema values rules)
  where
    rest : Refusals
    rest = refusals_in schema values rules

    by : (a b : Bool) → is_null_refusal (entries rule schema values) ≡ a → is_cut_refusal (entries rule schema values) ≡ b
        → is_none (cond a (Some jet.NullKeyDisallowed) (cond b (Some jet.KeyTruncated) (first_refusal rest))) ≡ true
        → (is_none (first_refusal rest) ≡ true → AllByRecursion (λ r. IsOk (entries r schema values)) rules) → IsOk (entries rule schema values) × AllByRecursion (λ r. IsOk (entries r schema values)) rules
    by true b f g e next = impossible e
    by false true f g e next = impossible e
    by false false f g e next = (no_refusal (entries rule schema values) f g, next e)
