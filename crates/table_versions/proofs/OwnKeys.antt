-- What a unique index refuses of a record that has one key there.
use Rattle.std.proofs.Common.{◌≡◌, ℕ, Bool, true, false, not, ◌&&◌, ◌||◌, cond, filter, List, [], ◌∷◌, Option, Ok, Err, refl, sym, ap, subst, ◌∙◌}
use Rattle.std.specs.Prelude.{IsOk}
use Rattle.std.specs.List.{list_any}
use Rattle.common_lemmas.proofs.Booleans.{and_false, impossible}
use Rattle.jet_base.specs.declared.replies.Jet.TheVariants as jet
use Rattle.column_set.specs.RecordValues.{RecordFields, has_value}
use Rattle.column_set.specs.Refusals.{first_refusal}
use Rattle.database_state.specs.Conflicts.{yields_key}
use Rattle.database_state.specs.Table.{record_in}
use Rattle.key_normal.specs.KeyBytes.{is_cut}
use Rattle.index_derive.specs.declared.rules.IndexRule.{IndexRule}
use Rattle.index_derive.specs.declared.rules.Schema.{Schema}
use Rattle.index_derive.specs.Entries.{NullKeyDisallowed, KeyTruncated, entries, is_legal, key_columns, key_list, keys_or_none, primary_key, whole_key}
use Rattle.index_derive.specs.Primary.{first_values}
use Rattle.version_store.specs.declared.calls.Reader.{Reader}
use Rattle.laws_engine.specs.HeldRecords.{is_change_at}
use Rattle.laws_engine.specs.VersionedTables.{VersionedTables}
use Rattle.table_versions.specs.KeyConflicts.{conflicts_under, has_conflict_over, is_taken_for, replaced_seen, unique_refusals}
use Rattle.table_versions.proofs.UntouchedRecords.{no_conflict}
use Rattle.laws_versions.proofs.KeyLemmas.BookmarkKeys.{HasOneEntry}

or_false : (b : Bool) → (b || false) ≡ b
or_false true = refl
or_false false = refl

-- the key of a record that a primary index does not refuse
alone : HasOneEntry → (rule : IndexRule) (schema : Schema) (values : RecordFields) (key : List ℕ) → is_legal rule schema ≡ true → rule.flags.primary ≡ true → IsOk (entries rule schema values) → key ≡ primary_key rule schema values → key_list rule schema values ≡ key ∷ []
alone law rule schema values key legal primary taken is =
    ap keys_or_none (law rule schema values legal primary)
    ∙ by (rule.flags.disallownull && list_any (λ column. not (has_value values column)) (key_columns rule)) (rule.flags.disallowtruncation && is_cut rule.key_most (whole_key rule schema (first_values rule values)))
    (subst IsOk (law rule schema values legal primary) taken)
    ∙ ap (λ (own : List ℕ). own ∷ []) (sym is)
  where
    by : (b c : Bool)
        → IsOk (elim b [ true ↦ Err NullKeyDisallowed | false ↦ elim c [ true ↦ Err KeyTruncated | false ↦ Ok (primary_key rule schema values ∷ []) ] ])
        → keys_or_none (elim b [ true ↦ Err NullKeyDisallowed | false ↦ elim c [ true ↦ Err KeyTruncated | false ↦ Ok (primary_key rule schema values ∷ []) ] ]) ≡ primary_key rule schema values ∷ []
    by true c h = impossible h
    by false true h = impossible h
    by false false h = refl

-- of one key a conflict is asked where it is new
asked_of_one : (found : List ℕ → Bool) (is_new : List ℕ → Bool) (key : List ℕ) → list_any found (filter is_new (key ∷ [])) ≡ (is_new key && found key)
asked_of_one found is_new key = by (is_new key)
  where
    by : (b : Bool) → list_any found (cond b (key ∷ []) []) ≡ (b && found key)
    by true = or_false (found key)
    by false = refl

-- what the primary index refuses of the record, by that key
pub refused_by_key : HasOneEntry → (reader : Reader) (store : VersionedTables) (table : ℕ) (schema : Schema) (rule : IndexRule) (own : Option (List ℕ)) (key : List ℕ) → is_legal rule schema ≡ true → rule.flags.primary ≡ true → (met taken : Bool)
    → met ≡ (not (yields_key rule schema key (replaced_seen reader store table own)) && has_conflict_over reader store table rule schema key) → taken ≡ is_taken_for reader store table rule.id.0 own key
    → (values : RecordFields) → IsOk (entries rule schema values) → key ≡ primary_key rule schema values
    → first_refusal ((met, jet.WriteConflict) ∷ (taken, jet.KeyDuplicate) ∷ []) ≡ first_refusal (unique_refusals reader store table schema rule own values)
refused_by_key law reader store table schema rule own key legal primary met taken is_met is_taken values refuses_nothing is =
    let one : key_list rule schema values ≡ key ∷ [] = alone law rule schema values key legal primary refuses_nothing is in
    let is_new : List ℕ → Bool = λ k. not (yields_key rule schema k (replaced_seen reader store table own)) in
    let first : met ≡ list_any (has_conflict_over reader store table rule schema) (filter is_new (key_list rule schema values)) =
    is_met ∙ sym (asked_of_one (has_conflict_over reader store table rule schema) is_new key) ∙ ap (λ (keys : List (List ℕ)). list_any (has_conflict_over reader store table rule schema) (filter is_new keys)) (sym one) in
    let second : taken ≡ list_any (is_taken_for reader store table rule.id.0 own) (key_list rule schema values) =
    is_taken ∙ sym (or_false (is_taken_for reader store table rule.id.0 own key)) ∙ ap (list_any (is_taken_for reader store table rule.id.0 own)) (sym one) in
    λ i. first_refusal ((first i, jet.WriteConflict) ∷ (second i, jet.KeyDuplicate) ∷ [])

-- and where no change of the record under the key is held: then none is in conflict with it
pub refused_untouched : HasOneEntry → (reader : Reader) (store : VersionedTables) (table : ℕ) (schema : Schema) (rule : IndexRule) (own : Option (List ℕ)) (key : List ℕ) → is_legal rule schema ≡ true → rule.flags.primary ≡ true
    → list_any (is_change_at table key) store.held ≡ false → conflicts_under reader rule schema key (yields_key rule schema key (record_in store.tables table key)) table key store.held ≡ has_conflict_over reader store table rule schema key
    → (taken : Bool) → taken ≡ is_taken_for reader store table rule.id.0 own key → (values : RecordFields) → IsOk (entries rule schema values) → key ≡ primary_key rule schema values
    → first_refusal ((false, jet.WriteConflict) ∷ (taken, jet.KeyDuplicate) ∷ []) ≡ first_refusal (unique_refusals reader store table schema rule own values)
refused_untouched law reader store table schema rule own key legal primary untouched by_record taken is_taken =
    let new = not (yields_key rule schema key (replaced_seen reader store table own)) in
    let none : has_conflict_over reader store table rule schema key ≡ false = sym by_record ∙ no_conflict reader rule schema key (yields_key rule schema key (record_in store.tables table key)) table key store.held untouched in
    refused_by_key law reader store table schema rule own key legal primary false taken (sym (ap (λ b. new && b) none ∙ and_false new)) is_taken
