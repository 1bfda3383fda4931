-- An entry stands in the index exactly where its record has its key.
use Rattle.std.proofs.Common.{◌≡◌, ℕ, Bool, true, false, ◌&&◌, ◌||◌, cond, List, [], ◌∷◌, Option, Some, None, refl, sym, ap, ◌∙◌, bytes_eq}
use Rattle.std.specs.List.{list_any, AllByRecursion}
use Rattle.std.specs.Ordering.{nat_cmp, is_eq, eq_by_cmp}
use Rattle.std.specs.Cmp.Lexicographic.{slice_cmp, nat_list_eq_equiv, texts_ties, bytes_decides}
use Rattle.std.proofs.lemmas.List.Folds.{list_any-append}
use Rattle.common_lemmas.proofs.Booleans.{and_false, or_false}
use Rattle.column_set.specs.RecordValues.{RecordFields, lookup_by_key}
use Rattle.index_derive.specs.declared.rules.IndexRule.{IndexRule}
use Rattle.index_derive.specs.declared.rules.Schema.{Schema}
use Rattle.index_derive.specs.Entries.{derive, key_list, own_order}
use Rattle.cursor_nav.specs.Places.{are_sorted}
use Rattle.database_state.specs.Conflicts.{yields_key}
use Rattle.laws_versions.specs.KeptEntries.{has_entry}
use Rattle.laws_versions.proofs.IndexLemmas.Tests.{and_true}
use Rattle.index_derive.specs.RisingKeys.{key_cmp}
use Rattle.laws_versions.proofs.IndexLemmas.Rows.{entries_of, all_entries, RowsRise, rise-sorted, not_equal_below}
use Rattle.laws_versions.proofs.IndexLemmas.Adding.{any_derived}

-- whether a record, where there is one, has the key
abbrev has_key_of : {X : Type 0} → (X → List (List ℕ)) → List ℕ → Option X → Bool
has_key_of keys key None = false
has_key_of keys key (Some x) = list_any (bytes_eq key) (keys x)

-- ---- in one record

in_own : (key bookmark other : List ℕ) (keys : List (List ℕ)) → bytes_eq other bookmark ≡ true → has_entry key bookmark (entries_of other keys) ≡ list_any (bytes_eq key) keys
in_own key bookmark other [] e = refl
in_own key bookmark other (k ∷ ks) e =
    let first : (bytes_eq k key && bytes_eq other bookmark) ≡ bytes_eq key k = ap (λ b. bytes_eq k key && b) e ∙ and_true (bytes_eq k key) ∙ nat_list_eq_equiv.symm k key in
    λ i. first i || in_own key bookmark other ks e i

in_another : (key bookmark other : List ℕ) (keys : List (List ℕ)) → bytes_eq other bookmark ≡ false → has_entry key bookmark (entries_of other keys) ≡ false
in_another key bookmark other [] e = refl
in_another key bookmark other (k ∷ ks) e =
    let first : (bytes_eq k key && bytes_eq other bookmark) ≡ false = ap (λ b. bytes_eq k key && b) e ∙ and_false (bytes_eq k key) in
    λ i. first i || in_another key bookmark other ks e i

-- the tests of a bookmark by the order and by its bytes
pub same_test : (bookmark other : List ℕ) → bytes_eq other bookmark ≡ eq_by_cmp (slice_cmp nat_cmp) bookmark other
same_test bookmark other = nat_list_eq_equiv.symm other bookmark ∙ texts_ties bookmark other

-- ---- in all of them

in_none : {X : Type 0} (keys : X → List (List ℕ)) (key bookmark : List ℕ) (rows : List (List ℕ × X)) → AllByRecursion (λ place. is_eq (key_cmp bookmark place.0) ≡ false) rows
    → has_entry key bookmark (all_entries keys rows) ≡ false
in_none keys key bookmark [] h = refl
in_none keys key bookmark (place ∷ rows) h =
    list_any-append (λ entry. bytes_eq entry.0 key && bytes_eq entry.1 bookmark) (entries_of place.0 (keys place.1)) (all_entries keys rows)
    ∙ ap (λ b. b || has_entry key bookmark (all_entries keys rows)) (in_another key bookmark place.0 (keys place.1) (same_test bookmark place.0 ∙ h.0))
    ∙ in_none keys key bookmark rows h.1

in_all : {X : Type 0} (keys : X → List (List ℕ)) (key bookmark : List ℕ) (rows : List (List ℕ × X)) → RowsRise rows
    → has_entry key bookmark (all_entries keys rows) ≡ has_key_of keys key (lookup_by_key bookmark rows)
in_all keys key bookmark [] h = refl
in_all keys key bookmark (place ∷ rows) h =
    let here = entries_of place.0 (keys place.1) in
    let rest = all_entries keys rows in
    list_any-append (λ entry. bytes_eq entry.0 key && bytes_eq entry.1 bookmark) here rest
    ∙ elim (eq_by_cmp (slice_cmp nat_cmp) bookmark place.0) as (λ b. eq_by_cmp (slice_cmp nat_cmp) bookmark place.0 ≡ b
    → (has_entry key bookmark here || has_entry key bookmark rest) ≡ has_key_of keys key (cond b (Some place.1) (lookup_by_key bookmark rows))) [
      | true ↦ λ e.
          let tied : bytes_eq place.0 bookmark ≡ true = same_test bookmark place.0 ∙ e in
          let same : place.0 ≡ bookmark = (bytes_decides place.0 bookmark).0 tied in
          let none : has_entry key bookmark rest ≡ false = ap (λ (b : List ℕ). has_entry key b rest) (sym same) ∙ in_none keys key place.0 rows (not_equal_below place.0 rows h.0) in
          ap (λ b. has_entry key bookmark here || b) none ∙ or_false (has_entry key bookmark here) ∙ in_own key bookmark place.0 (keys place.1) tied
      | false ↦ λ e.
          ap (λ b. b || has_entry key bookmark rest) (in_another key bookmark place.0 (keys place.1) (same_test bookmark place.0 ∙ e)) ∙ in_all keys key bookmark rows h.1
    ] refl

of_record : (rule : IndexRule) (schema : Schema) (key : List ℕ) (found : Option RecordFields) → has_key_of (key_list rule schema) key found ≡ yields_key rule schema key found
of_record rule schema key None = refl
of_record rule schema key (Some fields) = refl

pub stands : (rule : IndexRule) (schema : Schema) (rows : List (List ℕ × RecordFields)) (key bookmark : List ℕ) → are_sorted (own_order rows) ≡ true
    → has_entry key bookmark (derive rule schema rows) ≡ yields_key rule schema key (lookup_by_key bookmark rows)
stands rule schema rows key bookmark sorted =
    any_derived (λ entry. bytes_eq entry.0 key && bytes_eq entry.1 bookmark) rule schema rows
    ∙ in_all (key_list rule schema) key bookmark rows (rise-sorted rows sorted)
    ∙ of_record rule schema key (lookup_by_key bookmark rows)
