-- The key of a record in the primary index.
use Rattle.std.proofs.Common.{◌≡◌, Bool, true, false, not, ◌&&◌, ◌||◌, List, [], ◌∷◌, Ok, Err, refl, sym, ap, ◌∙◌, bytes_eq}
use Rattle.std.specs.Prelude.{flat_map}
use Rattle.std.specs.List.{AllByRecursion, list_any}
use Rattle.common_lemmas.proofs.Booleans.{impossible}
use Rattle.jet_base.specs.declared.replies.Jet.TheVariants as jet
use Rattle.column_set.specs.RecordValues.{RecordFields, has_value}
use Rattle.key_normal.specs.KeyBytes.{is_cut}
use Rattle.index_derive.specs.declared.rules.IndexRule.{IndexRule}
use Rattle.index_derive.specs.declared.rules.Schema.{Schema}
use Rattle.index_derive.specs.Entries.{KeyTruncated, NullKeyDisallowed, entries, is_legal, key_columns, key_list, keys_or_none, primary_key, whole_key}
use Rattle.index_derive.specs.Primary.{first_values}
use Rattle.column_set.specs.Refusals.{Refusals}
use Rattle.database_state.specs.Puts.{is_cut_refusal, is_null_refusal}
use Rattle.common_lemmas.proofs.Numbers.{equal_bytes}
use Rattle.laws_versions.proofs.KeyLemmas.BookmarkKeys.{HasOneEntry}

abbrev pub AreUnrefused : Refusals → Type 0
AreUnrefused refusals = AllByRecursion (λ refusal. refusal.0 ≡ false) refusals

-- no index refuses the record
pub each_null : (schema : Schema) (values : RecordFields) (rules : List IndexRule)
    → AreUnrefused (flat_map (λ rule. (is_null_refusal (entries rule schema values), jet.NullKeyDisallowed) ∷ (is_cut_refusal (entries rule schema values), jet.KeyTruncated) ∷ []) rules)
    → AllByRecursion (λ rule. (is_null_refusal (entries rule schema values) ≡ false) × (is_cut_refusal (entries rule schema values) ≡ false)) rules
each_null schema values [] h = tt
each_null schema values (rule ∷ rules) h = ((h.0, h.1.0), each_null schema values rules h.1.1)

pub primary_listed : HasOneEntry → (rule : IndexRule) (schema : Schema) (values : RecordFields) → is_legal rule schema ≡ true → rule.flags.primary ≡ true → is_null_refusal (entries rule schema values) ≡ false → is_cut_refusal (entries rule schema values) ≡ false
    → list_any (bytes_eq (primary_key rule schema values)) (key_list rule schema values) ≡ true
primary_listed one rule schema values legal primary whole uncut =
    ap (λ found. list_any (bytes_eq (primary_key rule schema values)) (keys_or_none found)) (one rule schema values legal primary)
    ∙ by (rule.flags.disallownull && list_any (λ column. not (has_value values column)) (key_columns rule)) (rule.flags.disallowtruncation && is_cut rule.key_most (whole_key rule schema (first_values rule values)))
    (ap is_null_refusal (sym (one rule schema values legal primary)) ∙ whole) (ap is_cut_refusal (sym (one rule schema values legal primary)) ∙ uncut)
  where
    by : (a b : Bool) → is_null_refusal (elim a [ true ↦ Err NullKeyDisallowed | false ↦ elim b [ true ↦ Err KeyTruncated | false ↦ Ok (primary_key rule schema values ∷ []) ] ]) ≡ false
        → is_cut_refusal (elim a [ true ↦ Err NullKeyDisallowed | false ↦ elim b [ true ↦ Err KeyTruncated | false ↦ Ok (primary_key rule schema values ∷ []) ] ]) ≡ false
        → list_any (bytes_eq (primary_key rule schema values)) (keys_or_none (elim a [ true ↦ Err NullKeyDisallowed | false ↦ elim b [ true ↦ Err KeyTruncated | false ↦ Ok (primary_key rule schema values ∷ []) ] ])) ≡ true
    by true b h k = impossible (sym h)
    by false true h k = impossible (sym k)
    by false false h k = ap (λ b. b || false) (equal_bytes (primary_key rule schema values) (primary_key rule schema values) refl)
