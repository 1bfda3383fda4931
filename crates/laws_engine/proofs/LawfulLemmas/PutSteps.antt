-- The step of an update.
use Rattle.std.proofs.Common.{◌≡◌, ℕ, Bool, true, false, not, ◌&&◌, ◌||◌, cond, List, [], ◌∷◌, Option, Some, None, refl, sym, ap, ◌∙◌, bytes_eq}
use Rattle.std.specs.Prelude.{filter, flat_map, is_none}
use Rattle.std.specs.List.{AllByRecursion, list_all, list_any}
use Rattle.std.proofs.lemmas.Bool.{and_from}
use Rattle.common_lemmas.proofs.Lists.{all_parted}
use Rattle.jet_base.specs.declared.replies.Jet.TheVariants as jet
use Rattle.column_set.specs.RecordValues.{RecordFields}
use Rattle.index_derive.specs.declared.rules.IndexRule.{IndexRule}
use Rattle.index_derive.specs.declared.rules.Schema.{Schema}
use Rattle.index_derive.specs.Entries.{is_unique, key_list}
use Rattle.column_set.specs.Refusals.{Refusals, first_refusal}
use Rattle.database_state.specs.Table.{Rows, index_entries, row_at}
use Rattle.database_state.specs.Puts.{is_taken, key_refusals, new_keys, null_refusals, put_refusals, replaced_record}
use Rattle.database_state.specs.State.{DatabaseState}
use Rattle.database_state.specs.Conflicts.{has_key_conflict, yields_key}
use Rattle.laws_versions.proofs.ChangeLemmas.Tests.{contradicted, or_first, or_second}
use Rattle.laws_versions.proofs.RecordLemmas.PrimaryKeys.{AreUnrefused}

-- ---- lists

pub no_first : (refusals : Refusals) → AreUnrefused refusals → is_none (first_refusal refusals) ≡ true
no_first [] h = refl
no_first (refusal ∷ refusals) h = ap (λ b. is_none (cond b (Some refusal.1) (first_refusal refusals))) h.0 ∙ no_first refusals h.1

-- ---- the keys that are free

any_less : {X : Type 0} (p q : X → Bool) → ((x : X) → p x ≡ true → q x ≡ true) → (xs : List X) → list_any q xs ≡ false → list_any p xs ≡ false
any_less p q f [] h = refl
any_less p q f (x ∷ xs) h =
    ap (λ b. b || list_any p xs) (contradicted (p x) (λ e. sym (f x e) ∙ or_first (q x) _ h)) ∙ any_less p q f xs (or_second (q x) _ h)

keys_pass : (meets taken other new asked : List ℕ → Bool) → ((key : List ℕ) → new key ≡ true → asked key ≡ true) → ((key : List ℕ) → other key ≡ false → taken key ≡ false) → (keys : List (List ℕ))
    → list_any meets (filter asked keys) ≡ false → list_any other keys ≡ false → list_all (λ key. not (meets key || taken key)) (filter new keys) ≡ true
keys_pass meets taken other new asked f g [] h k = refl
keys_pass meets taken other new asked f g (key ∷ keys) h k =
    elim (new key) as (λ b. new key ≡ b → list_all (λ key. not (meets key || taken key)) (cond b (key ∷ filter new keys) (filter new keys)) ≡ true) [
      | true ↦ λ e.
          let split : (meets key || list_any meets (filter asked keys)) ≡ false = sym (ap (λ b. list_any meets (cond b (key ∷ filter asked keys) (filter asked keys))) (f key e)) ∙ h in
          and_from (not (meets key || taken key)) (list_all (λ key. not (meets key || taken key)) (filter new keys))
          (ap (λ b. not (b || taken key)) (or_first (meets key) _ split) ∙ ap not (g key (or_first (other key) _ k)))
          (keys_pass meets taken other new asked f g keys (or_second (meets key) _ split) (or_second (other key) _ k))
      | false ↦ λ e. keys_pass meets taken other new asked f g keys (tail (asked key) h) (or_second (other key) _ k)
    ] refl
  where
    tail : (b : Bool) → list_any meets (cond b (key ∷ filter asked keys) (filter asked keys)) ≡ false → list_any meets (filter asked keys) ≡ false
    tail true h = or_second (meets key) _ h
    tail false h = h

-- of each unique index: no new key is a concurrent change's, and no key another record's
abbrev pub IsFreeIn : DatabaseState → ℕ → ℕ → Schema → Rows → Option (List ℕ) → RecordFields → IndexRule → Type 0
IsFreeIn state session table schema rows own values rule =
    (list_any (has_key_conflict state session table schema rule) (new_keys rule schema (replaced_record rows own) values) ≡ false) × (list_any (is_taken schema rows rule own) (key_list rule schema values) ≡ false)

each_rule : (state : DatabaseState) (session table : ℕ) (schema : Schema) (rows : Rows) (own : Option (List ℕ)) (values : RecordFields) (rules : List IndexRule)
    → AreUnrefused (flat_map (λ rule. (list_any (has_key_conflict state session table schema rule) (new_keys rule schema (replaced_record rows own) values), jet.WriteConflict) ∷ (list_any (is_taken schema rows rule own) (key_list rule schema values), jet.KeyDuplicate) ∷ []) rules)
    → AllByRecursion (IsFreeIn state session table schema rows own values) rules
each_rule state session table schema rows own values [] h = tt
each_rule state session table schema rows own values (rule ∷ rules) h = ((h.0, h.1.0), each_rule state session table schema rows own values rules h.1.1)

pub parts_of_put : (state : DatabaseState) (session table : ℕ) (schema : Schema) (rows : Rows) (own : Option (List ℕ)) (values : RecordFields) → AreUnrefused (put_refusals state session table schema rows own values)
    → AreUnrefused (null_refusals schema values) × AllByRecursion (IsFreeIn state session table schema rows own values) (filter is_unique schema.indexes)
unfolding put_refusals
parts_of_put state session table schema rows own values h =
    let both = all_parted (λ refusal. refusal.0 ≡ false) (null_refusals schema values) (key_refusals state session table schema rows own values) h in
    (both.0, each_rule state session table schema rows own values (filter is_unique schema.indexes) both.1)

-- the record in whose place a put comes: another, or that under its own bookmark
abbrev pub IsOwn : List ℕ → Option (List ℕ) → Type 0
IsOwn bookmark None = Unit {0}
IsOwn bookmark (Some own) = own ≡ bookmark

pub free_rules : (state after : DatabaseState) (session table : ℕ) (schema : Schema) (rows : Rows) (bookmark : List ℕ) (own : Option (List ℕ)) → IsOwn bookmark own → (values : RecordFields)
    → ((rule : IndexRule) (key : List ℕ) → has_key_conflict after session table schema rule key ≡ has_key_conflict state session table schema rule key) → (rules : List IndexRule) → AllByRecursion (IsFreeIn state session table schema rows own values) rules
    → list_all (λ rule. list_all (λ key. not (has_key_conflict after session table schema rule key || is_taken schema rows rule (Some bookmark) key)) (new_keys rule schema (row_at rows bookmark) values)) rules ≡ true
free_rules state after session table schema rows bookmark own is values same [] h = refl
free_rules state after session table schema rows bookmark own is values same (rule ∷ rules) h =
    and_from _ _
    ((λ i. list_all (λ key. not (same rule key i || is_taken schema rows rule (Some bookmark) key)) (new_keys rule schema (row_at rows bookmark) values))
    ∙ keys_pass (has_key_conflict state session table schema rule) (is_taken schema rows rule (Some bookmark)) (is_taken schema rows rule own) (λ key. not (yields_key rule schema key (row_at rows bookmark)))
    (λ key. not (yields_key rule schema key (replaced_record rows own))) (new_ones own is) (other_ones own is) (key_list rule schema values) h.0.0 h.0.1)
    (free_rules state after session table schema rows bookmark own is values same rules h.1)
  where
    new_ones : (own : Option (List ℕ)) → IsOwn bookmark own → (key : List ℕ) → not (yields_key rule schema key (row_at rows bookmark)) ≡ true → not (yields_key rule schema key (replaced_record rows own)) ≡ true
    new_ones None is key e = refl
    new_ones (Some own) is key e = ap (λ (b : List ℕ). not (yields_key rule schema key (row_at rows b))) is ∙ e

    other_ones : (own : Option (List ℕ)) → IsOwn bookmark own → (key : List ℕ) → is_taken schema rows rule own key ≡ false → is_taken schema rows rule (Some bookmark) key ≡ false
    other_ones None is key e = any_less (λ entry. bytes_eq entry.0 key && not (bytes_eq bookmark entry.1)) (λ entry. bytes_eq entry.0 key && true) (λ entry f. weaker (bytes_eq entry.0 key) (not (bytes_eq bookmark entry.1)) f) (index_entries schema rows rule.id.0) e
      where
        weaker : (a b : Bool) → (a && b) ≡ true → (a && true) ≡ true
        weaker true b f = refl
        weaker false b f = f
    other_ones (Some own) is key e = ap (λ (b : List ℕ). is_taken schema rows rule (Some b) key) (sym is) ∙ e
