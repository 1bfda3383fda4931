-- Entries of a record that are taken one after the other.
use Rattle.std.proofs.Common.{◌≡◌, ℕ, Bool, true, false, not, ◌&&◌, ◌||◌, cond, List, [], ◌∷◌, ◌++◌, filter, Some, None, refl, sym, ap, ◌∙◌, subst, bytes_eq}
use Rattle.std.specs.List.{list_any, AllByRecursion}
use Rattle.std.specs.Ordering.{nat_cmp, is_eq, eq_by_cmp}
use Rattle.std.specs.Cmp.Lexicographic.{slice_cmp, nat_list_eq_equiv, bytes_decides}
use Rattle.std.proofs.lemmas.Bool.{or_right}
use Rattle.common_lemmas.proofs.Options.{same_some}
use Rattle.common_lemmas.proofs.Lists.{all_append, all_each, all_map, all_weaker, filter_all}
use Rattle.common_lemmas.proofs.Booleans.{and_false}
use Rattle.column_set.specs.RecordValues.{RecordFields, lookup_by_key, remove_by_key}
use Rattle.index_derive.specs.declared.rules.IndexRule.{IndexRule}
use Rattle.index_derive.specs.declared.rules.Schema.{Schema}
use Rattle.index_derive.specs.Entries.{derive, key_list, own_order}
use Rattle.cursor_nav.specs.Places.{Pair, are_sorted}
use Rattle.laws_versions.specs.KeptEntries.{with_entries, without_each}
use Rattle.index_derive.specs.RisingKeys.{key_cmp}
use Rattle.laws_versions.proofs.IndexLemmas.Members.{all_sorted}
use Rattle.laws_versions.proofs.IndexLemmas.Filtering.{filter_alike, filter_twice, filter_with}
use Rattle.laws_versions.proofs.IndexLemmas.Rows.{entries_of, all_entries, RowsRise, rise-sorted, not_equal_below, not_equal_missed}
use Rattle.laws_versions.proofs.IndexLemmas.Standing.{same_test}
use Rattle.laws_versions.proofs.IndexLemmas.Removing.{derived_without}

-- an entry of the record with one of the keys
abbrev pub is_one_of : List (List ℕ) → List ℕ → Pair → Bool
is_one_of keys bookmark entry = list_any (bytes_eq entry.0) keys && bytes_eq entry.1 bookmark

neither : (a r b : Bool) → (not (a && b) && not (r && b)) ≡ not ((a || r) && b)
neither true true true = refl
neither true true false = refl
neither true false true = refl
neither true false false = refl
neither false true true = refl
neither false true false = refl
neither false false true = refl
neither false false false = refl

pub each-filter : (keys : List (List ℕ)) (bookmark : List ℕ) (es : List Pair) → without_each keys bookmark es ≡ filter (λ entry. not (is_one_of keys bookmark entry)) es
each-filter [] bookmark es = sym (filter_all (λ _. true) es (all_each (λ _. true ≡ true) (λ _. refl) es))
each-filter (key ∷ keys) bookmark es =
    let gone : Pair → Bool = λ entry. not (bytes_eq entry.0 key && bytes_eq entry.1 bookmark) in
    each-filter keys bookmark (filter gone es)
    ∙ filter_twice (λ entry. not (is_one_of keys bookmark entry)) gone es
    ∙ filter_alike (λ entry. gone entry && not (is_one_of keys bookmark entry)) (λ entry. not (is_one_of (key ∷ keys) bookmark entry)) es
    (all_each (λ (entry : Pair). (gone entry && not (is_one_of keys bookmark entry)) ≡ not (is_one_of (key ∷ keys) bookmark entry))
    (λ entry. neither (bytes_eq entry.0 key) (list_any (bytes_eq entry.0) keys) (bytes_eq entry.1 bookmark)) es)

-- ---- all entries of a record

-- an entry is the record's exactly where it is one of its keys' entries
abbrev pub IsSame : List (List ℕ) → List ℕ → Pair → Type 0
IsSame keys bookmark entry = not (is_one_of keys bookmark entry) ≡ not (bytes_eq entry.1 bookmark)

pub same_another : (keys : List (List ℕ)) (bookmark : List ℕ) (entry : Pair) → bytes_eq entry.1 bookmark ≡ false → IsSame keys bookmark entry
same_another keys bookmark entry e = ap (λ b. not (list_any (bytes_eq entry.0) keys && b)) e ∙ ap not (and_false (list_any (bytes_eq entry.0) keys)) ∙ sym (ap not e)

same_own : (keys : List (List ℕ)) (bookmark : List ℕ) (entry : Pair) → list_any (bytes_eq entry.0) keys ≡ true → IsSame keys bookmark entry
same_own keys bookmark entry e = ap (λ b. not (b && bytes_eq entry.1 bookmark)) e

-- each key is one of them
pub all_members : (keys : List (List ℕ)) → AllByRecursion (λ key. list_any (bytes_eq key) keys ≡ true) keys
all_members [] = tt
all_members (key ∷ keys) = (
  ap (λ b. b || list_any (bytes_eq key) keys) (nat_list_eq_equiv.refl key),
  all_weaker (λ k. list_any (bytes_eq k) keys ≡ true) (λ k. list_any (bytes_eq k) (key ∷ keys) ≡ true) (λ k h. or_right (bytes_eq k key) (list_any (bytes_eq k) keys) h) keys (all_members keys),
)

all_another : {X : Type 0} (f : X → List (List ℕ)) (keys : List (List ℕ)) (bookmark : List ℕ) (rows : List (List ℕ × X)) → AllByRecursion (λ place. is_eq (key_cmp bookmark place.0) ≡ false) rows
    → AllByRecursion (IsSame keys bookmark) (all_entries f rows)
all_another f keys bookmark [] h = tt
all_another f keys bookmark (place ∷ rows) h =
    all_append (IsSame keys bookmark) (entries_of place.0 (f place.1)) (all_entries f rows)
    (all_map (IsSame keys bookmark) (λ key. (key, place.0)) (f place.1)
    (all_each (λ key. IsSame keys bookmark (key, place.0)) (λ key. same_another keys bookmark (key, place.0) (same_test bookmark place.0 ∙ h.0)) (f place.1)))
    (all_another f keys bookmark rows h.1)

pub all_same : {X : Type 0} (f : X → List (List ℕ)) (bookmark : List ℕ) (x : X) (rows : List (List ℕ × X)) → RowsRise rows → lookup_by_key bookmark rows ≡ Some x
    → AllByRecursion (IsSame (f x) bookmark) (all_entries f rows)
all_same f bookmark x [] h found = tt
all_same f bookmark x (place ∷ rows) h found =
    let P = IsSame (f x) bookmark in
    elim (eq_by_cmp (slice_cmp nat_cmp) bookmark place.0) as (λ b. eq_by_cmp (slice_cmp nat_cmp) bookmark place.0 ≡ b → cond b (Some place.1) (lookup_by_key bookmark rows) ≡ Some x → AllByRecursion P (entries_of place.0 (f place.1) ++ all_entries f rows)) [
      | true ↦ λ e is.
          let same : place.1 ≡ x = same_some place.1 x is in
          let members : AllByRecursion (λ key. list_any (bytes_eq key) (f x) ≡ true) (f place.1) = subst (λ y. AllByRecursion (λ key. list_any (bytes_eq key) (f y) ≡ true) (f place.1)) same (all_members (f place.1)) in
          all_append P (entries_of place.0 (f place.1)) (all_entries f rows)
          (all_map P (λ key. (key, place.0)) (f place.1) (all_weaker (λ key. list_any (bytes_eq key) (f x) ≡ true) (λ key. P (key, place.0)) (λ key h. same_own (f x) bookmark (key, place.0) h) (f place.1) members))
          (all_another f (f x) bookmark rows (subst (λ b. AllByRecursion (λ place. is_eq (key_cmp b place.0) ≡ false) rows) ((bytes_decides place.0 bookmark).0 (same_test bookmark place.0 ∙ e)) (not_equal_below place.0 rows h.0)))
      | false ↦ λ e is.
          all_append P (entries_of place.0 (f place.1)) (all_entries f rows)
          (all_map P (λ key. (key, place.0)) (f place.1) (all_each (λ key. P (key, place.0)) (λ key. same_another (f x) bookmark (key, place.0) (same_test bookmark place.0 ∙ e)) (f place.1)))
          (all_same f bookmark x rows h.1 is)
    ] refl found

pub derived_one_by_one : (rule : IndexRule) (schema : Schema) (rows : List (List ℕ × RecordFields)) (bookmark : List ℕ) (values : RecordFields)
    → are_sorted (own_order rows) ≡ true → lookup_by_key bookmark rows ≡ Some values
    → derive rule schema (remove_by_key bookmark rows) ≡ without_each (key_list rule schema values) bookmark (derive rule schema rows)
unfolding derive
derived_one_by_one rule schema rows bookmark values sorted found =
    let keys = key_list rule schema values in
    let same : AllByRecursion (IsSame keys bookmark) (derive rule schema rows) =
    all_sorted (IsSame keys bookmark) (all_entries (key_list rule schema) rows) (all_same (key_list rule schema) bookmark values rows (rise-sorted rows sorted) found) in
    derived_without rule schema rows bookmark
    ∙ sym (filter_alike (λ entry. not (is_one_of keys bookmark entry)) (λ entry. not (bytes_eq entry.1 bookmark)) (derive rule schema rows) same)
    ∙ sym (each-filter keys bookmark (derive rule schema rows))

-- ---- entries that were put

put_is_one : (keys ks : List (List ℕ)) (bookmark : List ℕ) → AllByRecursion (λ key. list_any (bytes_eq key) keys ≡ true) ks → AllByRecursion (λ key. not (is_one_of keys bookmark (key, bookmark)) ≡ false) ks
put_is_one keys [] bookmark h = tt
put_is_one keys (k ∷ ks) bookmark h = ((λ i. not (h.0 i && nat_list_eq_equiv.refl bookmark i)), put_is_one keys ks bookmark h.1)

pub not_one : (keys : List (List ℕ)) (bookmark : List ℕ) (entry : Pair) → bytes_eq entry.1 bookmark ≡ false → not (is_one_of keys bookmark entry) ≡ true
not_one keys bookmark entry e = same_another keys bookmark entry e ∙ ap not e

pub taken_out_again : (rule : IndexRule) (schema : Schema) (rows : List (List ℕ × RecordFields)) (bookmark : List ℕ) (keys : List (List ℕ))
    → lookup_by_key bookmark rows ≡ None → without_each keys bookmark (with_entries keys bookmark (derive rule schema rows)) ≡ derive rule schema rows
unfolding derive
taken_out_again rule schema rows bookmark keys none =
    let old = derive rule schema rows in
    let stays : Pair → Bool = λ entry. not (is_one_of keys bookmark entry) in
    each-filter keys bookmark (with_entries keys bookmark old)
    ∙ filter_with stays keys bookmark old (put_is_one keys keys bookmark (all_members keys))
    ∙ filter_all stays old (all_sorted (λ entry. stays entry ≡ true) (all_entries (key_list rule schema) rows) (others rows (not_equal_missed bookmark rows none)))
  where
    others : (rest : List (List ℕ × RecordFields)) → AllByRecursion (λ place. is_eq (key_cmp bookmark place.0) ≡ false) rest
        → AllByRecursion (λ entry. not (is_one_of keys bookmark entry) ≡ true) (all_entries (key_list rule schema) rest)
    others [] h = tt
    others (place ∷ rest) h =
        all_append (λ entry. not (is_one_of keys bookmark entry) ≡ true) (entries_of place.0 (key_list rule schema place.1)) (all_entries (key_list rule schema) rest)
        (all_map (λ entry. not (is_one_of keys bookmark entry) ≡ true) (λ key. (key, place.0)) (key_list rule schema place.1)
        (all_each (λ key. not (is_one_of keys bookmark (key, place.0)) ≡ true) (λ key. not_one keys bookmark (key, place.0) (same_test bookmark place.0 ∙ h.0)) (key_list rule schema place.1)))
        (others rest h.1)
