-- Whether another record has a key, by the entries with it.
use Rattle.std.proofs.Common.{◌≡◌, ℕ, Bool, true, false, not, ◌&&◌, ◌||◌, cond, if◌then◌else◌, List, [], ◌∷◌, Option, Some, None, is_some, refl, ap, ◌∙◌, bytes_eq}
use Rattle.std.specs.List.{list_any}
use Rattle.std.specs.Ordering.{nat_cmp, eq_by_cmp}
use Rattle.std.specs.Cmp.Lexicographic.{slice_cmp, nat_list_eq_equiv, texts_ties}
use Rattle.common_lemmas.proofs.Booleans.{and_false}
use Rattle.index_derive.specs.declared.rules.IndexRule.{IndexRule}
use Rattle.index_derive.specs.declared.rules.Schema.{Schema}
use Rattle.index_derive.specs.Entries.{derive, own_order}
use Rattle.cursor_nav.specs.Places.{Pair}
use Rattle.database_state.specs.Table.{Rows, row_at, entries_of_rule, index_entries}
use Rattle.index_derive.specs.Schemas.{rule_with_id}
use Rattle.database_state.specs.Puts.{is_taken, is_replaced}
use Rattle.laws_versions.specs.KeptEntries.{has_key, without_entries}
use Rattle.laws_versions.proofs.IndexLemmas.Tests.{and_true}

abbrev is_taken_in : List Pair → Option (List ℕ) → List ℕ → Bool
is_taken_in entries own key = list_any (λ entry. bytes_eq entry.0 key && not (is_replaced own entry.1)) entries

-- to an insert every record is another one
taken-new : (key : List ℕ) (es : List Pair) → is_taken_in es None key ≡ has_key key es
taken-new key [] = refl
taken-new key (e ∷ es) = λ i. and_true (bytes_eq e.0 key) i || taken-new key es i

-- to a replace all but its own are
taken-replaced : (own key : List ℕ) (es : List Pair) → is_taken_in es (Some own) key ≡ has_key key (without_entries own es)
taken-replaced own key [] = refl
taken-replaced own key (e ∷ es) =
    ap (λ b. (bytes_eq e.0 key && not b) || is_taken_in es (Some own) key) (nat_list_eq_equiv.symm own e.1)
    ∙ kept (not (bytes_eq e.1 own)) (taken-replaced own key es)
  where
    kept : (b : Bool) → is_taken_in es (Some own) key ≡ has_key key (without_entries own es)
        → ((bytes_eq e.0 key && b) || is_taken_in es (Some own) key) ≡ has_key key (cond b (e ∷ without_entries own es) (without_entries own es))
    kept true rest = λ i. and_true (bytes_eq e.0 key) i || rest i
    kept false rest = λ i. and_false (bytes_eq e.0 key) i || rest i

entries_are : (schema : Schema) (rows : Rows) (rule : IndexRule) (primary : Bool) → rule_with_id schema rule.id.0 ≡ Some rule → rule.flags.primary ≡ primary
    → index_entries schema rows rule.id.0 ≡ (if primary then own_order rows else derive rule schema rows)
unfolding index_entries
entries_are schema rows rule primary here e =
    ap (entries_of_rule schema rows) here ∙ ap (λ b. if b then own_order rows else derive rule schema rows) e

pub taken_new : (schema : Schema) (rows : Rows) (rule : IndexRule) (key : List ℕ) → rule_with_id schema rule.id.0 ≡ Some rule → rule.flags.primary ≡ false
    → is_taken schema rows rule None key ≡ has_key key (derive rule schema rows)
taken_new schema rows rule key here e = ap (λ es. is_taken_in es None key) (entries_are schema rows rule false here e) ∙ taken-new key (derive rule schema rows)

pub taken_replaced : (schema : Schema) (rows : Rows) (rule : IndexRule) (own key : List ℕ) → rule_with_id schema rule.id.0 ≡ Some rule → rule.flags.primary ≡ false
    → is_taken schema rows rule (Some own) key ≡ has_key key (without_entries own (derive rule schema rows))
taken_replaced schema rows rule own key here e = ap (λ es. is_taken_in es (Some own) key) (entries_are schema rows rule false here e) ∙ taken-replaced own key (derive rule schema rows)

-- ---- the primary index, whose entries are the records themselves

same_test : (key other : List ℕ) → bytes_eq other key ≡ eq_by_cmp (slice_cmp nat_cmp) key other
same_test key other = nat_list_eq_equiv.symm other key ∙ texts_ties key other

has_key-own : (key : List ℕ) (rows : Rows) → has_key key (own_order rows) ≡ is_some (row_at rows key)
has_key-own key [] = refl
has_key-own key (place ∷ rows) =
    ap (λ b. b || has_key key (own_order rows)) (same_test key place.0) ∙ found (eq_by_cmp (slice_cmp nat_cmp) key place.0) (has_key-own key rows)
  where
    found : (b : Bool) → has_key key (own_order rows) ≡ is_some (row_at rows key) → (b || has_key key (own_order rows)) ≡ is_some (cond b (Some place.1) (row_at rows key))
    found true rest = refl
    found false rest = rest

pub taken_primary : (schema : Schema) (rows : Rows) (rule : IndexRule) (key : List ℕ) → rule_with_id schema rule.id.0 ≡ Some rule → rule.flags.primary ≡ true
    → is_taken schema rows rule None key ≡ is_some (row_at rows key)
taken_primary schema rows rule key here e = ap (λ es. is_taken_in es None key) (entries_are schema rows rule true here e) ∙ taken-new key (own_order rows) ∙ has_key-own key rows
