-- The entries of one record among those of all.
use Rattle.std.proofs.Common.{◌≡◌, ℕ, true, false, cond, List, [], ◌∷◌, ◌++◌, find, Some, None, refl, sym, ap, ◌∙◌, true≢false, bytes_eq, option_map, append-nil, is_none}
use Rattle.std.specs.List.{AllByRecursion}
use Rattle.std.specs.List.Sorted.{IsStrictlySortedBy}
use Rattle.std.specs.declared.cmp.Ordering.{Ordering}
use Rattle.std.specs.declared.cmp.Ordering.TheVariants.{Less, Equal, Greater}
use Rattle.std.specs.Ordering.{nat_cmp, is_eq, is_gt, ordering_then, eq_by_cmp}
use Rattle.std.specs.Cmp.Lexicographic.{slice_cmp, bytes_decides}
use Rattle.common_lemmas.proofs.Options.{same_some}
use Rattle.common_lemmas.proofs.Lists.{filter_all, filter_none}
use Rattle.column_set.specs.RecordValues.{RecordFields, lookup_by_key}
use Rattle.index_derive.specs.declared.rules.IndexRule.{IndexRule}
use Rattle.index_derive.specs.declared.rules.Schema.{Schema}
use Rattle.index_derive.specs.Entries.{derive, key_list, own_order, insert_entry, sorted_entries}
use Rattle.index_derive.specs.Derived.{next_in}
use Rattle.cursor_nav.specs.Places.{Pair, are_sorted, least_entry_of}
use Rattle.laws_versions.specs.KeptEntries.{entries_with}
use Rattle.index_derive.specs.RisingKeys.{AreRisingKeys, key_cmp}
use Rattle.laws_versions.proofs.IndexLemmas.Filtering.{filter-append, sorted-filter, find-filter}
use Rattle.laws_versions.proofs.IndexLemmas.InOrder.{IsNotAbove, insert_first}
use Rattle.laws_versions.proofs.IndexLemmas.Rows.{entries_of, all_entries, RowsRise, rise-sorted, not_equal_below, not_equal_missed}
use Rattle.laws_versions.proofs.IndexLemmas.Standing.{same_test}
use Rattle.laws_versions.proofs.IndexLemmas.Adding.{KeysRise}

-- ---- in turn

with_own : (bookmark other : List ℕ) (keys : List (List ℕ)) → bytes_eq other bookmark ≡ true → entries_with bookmark (entries_of other keys) ≡ entries_of other keys
with_own bookmark other keys e = filter_all (λ entry. bytes_eq entry.1 bookmark) (entries_of other keys) (each keys)
  where
    each : (ks : List (List ℕ)) → AllByRecursion (λ (entry : Pair). bytes_eq entry.1 bookmark ≡ true) (entries_of other ks)
    each [] = tt
    each (k ∷ ks) = (e, each ks)

with_another : (bookmark other : List ℕ) (keys : List (List ℕ)) → bytes_eq other bookmark ≡ false → entries_with bookmark (entries_of other keys) ≡ []
with_another bookmark other keys e = filter_none (λ entry. bytes_eq entry.1 bookmark) (entries_of other keys) (each keys)
  where
    each : (ks : List (List ℕ)) → AllByRecursion (λ (entry : Pair). bytes_eq entry.1 bookmark ≡ false) (entries_of other ks)
    each [] = tt
    each (k ∷ ks) = (e, each ks)

pub with_none : {X : Type 0} (keys : X → List (List ℕ)) (bookmark : List ℕ) (rows : List (List ℕ × X)) → AllByRecursion (λ place. is_eq (key_cmp bookmark place.0) ≡ false) rows
    → entries_with bookmark (all_entries keys rows) ≡ []
with_none keys bookmark [] h = refl
with_none keys bookmark (place ∷ rows) h =
    filter-append (λ (entry : Pair). bytes_eq entry.1 bookmark) (entries_of place.0 (keys place.1)) (all_entries keys rows)
    ∙ ap (λ r. r ++ entries_with bookmark (all_entries keys rows)) (with_another bookmark place.0 (keys place.1) (same_test bookmark place.0 ∙ h.0))
    ∙ with_none keys bookmark rows h.1

with_one : {X : Type 0} (keys : X → List (List ℕ)) (bookmark : List ℕ) (x : X) (rows : List (List ℕ × X)) → RowsRise rows → lookup_by_key bookmark rows ≡ Some x
    → entries_with bookmark (all_entries keys rows) ≡ entries_of bookmark (keys x)
with_one keys bookmark x [] h found = absurd (true≢false (ap is_none found))
with_one keys bookmark x (place ∷ rows) h found =
    let here = entries_of place.0 (keys place.1) in
    let rest = all_entries keys rows in
    filter-append (λ (entry : Pair). bytes_eq entry.1 bookmark) here rest
    ∙ elim (eq_by_cmp (slice_cmp nat_cmp) bookmark place.0) as (λ b. eq_by_cmp (slice_cmp nat_cmp) bookmark place.0 ≡ b → cond b (Some place.1) (lookup_by_key bookmark rows) ≡ Some x
    → entries_with bookmark here ++ entries_with bookmark rest ≡ entries_of bookmark (keys x)) [
      | true ↦ λ e is.
          let tied : bytes_eq place.0 bookmark ≡ true = same_test bookmark place.0 ∙ e in
          let same : place.0 ≡ bookmark = (bytes_decides place.0 bookmark).0 tied in
          let none : entries_with bookmark rest ≡ [] = ap (λ (b : List ℕ). entries_with b rest) (sym same) ∙ with_none keys place.0 rows (not_equal_below place.0 rows h.0) in
          (λ i. with_own bookmark place.0 (keys place.1) tied i ++ none i) ∙ append-nil here ∙ (λ i. entries_of (same i) (keys (same_some place.1 x is i)))
      | false ↦ λ e is.
          ap (λ r. r ++ entries_with bookmark rest) (with_another bookmark place.0 (keys place.1) (same_test bookmark place.0 ∙ e)) ∙ with_one keys bookmark x rows h.1 is
    ] refl found

-- ---- in their places

not_above_key : (r q : Ordering) → r ≡ Less → is_gt (ordering_then r q) ≡ false
not_above_key Less q h = refl
not_above_key Equal q h = absurd (true≢false (ap is_eq h))
not_above_key Greater q h = ap is_gt h

first_key : (key bookmark : List ℕ) (keys : List (List ℕ)) → AllByRecursion (λ k. key_cmp key k ≡ Less) keys → AllByRecursion (IsNotAbove (key, bookmark)) (entries_of bookmark keys)
first_key key bookmark [] h = tt
first_key key bookmark (k ∷ ks) h = (not_above_key (key_cmp key k) (key_cmp bookmark bookmark) h.0, first_key key bookmark ks h.1)

sorted-record : (bookmark : List ℕ) (keys : List (List ℕ)) → AreRisingKeys keys → sorted_entries (entries_of bookmark keys) ≡ entries_of bookmark keys
unfolding IsStrictlySortedBy
sorted-record bookmark [] h = refl
sorted-record bookmark (key ∷ keys) h =
    ap (insert_entry (key, bookmark)) (sorted-record bookmark keys h.1) ∙ insert_first (key, bookmark) (entries_of bookmark keys) (first_key key bookmark keys h.0)

-- ---- derived

pub of_one : KeysRise → (rule : IndexRule) (schema : Schema) (rows : List (List ℕ × RecordFields)) (bookmark : List ℕ) (values : RecordFields)
    → are_sorted (own_order rows) ≡ true → lookup_by_key bookmark rows ≡ Some values → entries_with bookmark (derive rule schema rows) ≡ entries_of bookmark (key_list rule schema values)
unfolding derive
of_one rise rule schema rows bookmark values sorted found =
    let keys = key_list rule schema in
    sym (sorted-filter (λ entry. bytes_eq entry.1 bookmark) (all_entries keys rows))
    ∙ ap sorted_entries (with_one keys bookmark values rows (rise-sorted rows sorted) found)
    ∙ sorted-record bookmark (keys values) (rise rule schema values)

pub of_none : (rule : IndexRule) (schema : Schema) (rows : List (List ℕ × RecordFields)) (bookmark : List ℕ)
    → lookup_by_key bookmark rows ≡ None → entries_with bookmark (derive rule schema rows) ≡ []
unfolding derive
of_none rule schema rows bookmark none =
    let keys = key_list rule schema in
    sym (sorted-filter (λ entry. bytes_eq entry.1 bookmark) (all_entries keys rows))
    ∙ ap sorted_entries (with_none keys bookmark rows (not_equal_missed bookmark rows none))

least_key : (bookmark : List ℕ) (keys : List (List ℕ)) → find (λ _. true) (entries_of bookmark keys) ≡ option_map (λ key. (key, bookmark)) (next_in keys None)
least_key bookmark [] = refl
least_key bookmark (key ∷ keys) = refl

pub least_of_one : KeysRise → (rule : IndexRule) (schema : Schema) (rows : List (List ℕ × RecordFields)) (bookmark : List ℕ) (values : RecordFields)
    → are_sorted (own_order rows) ≡ true → lookup_by_key bookmark rows ≡ Some values
    → least_entry_of bookmark (derive rule schema rows) ≡ option_map (λ key. (key, bookmark)) (next_in (key_list rule schema values) None)
least_of_one rise rule schema rows bookmark values sorted found =
    find-filter (λ entry. bytes_eq entry.1 bookmark) (derive rule schema rows)
    ∙ ap (find (λ _. true)) (of_one rise rule schema rows bookmark values sorted found)
    ∙ least_key bookmark (key_list rule schema values)
