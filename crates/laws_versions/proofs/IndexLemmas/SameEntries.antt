-- Entries in order are told by those that are there.
use Rattle.std.proofs.Common.{◌≡◌, ℕ, Bool, true, false, ◌&&◌, ◌||◌, List, [], ◌∷◌, refl, sym, ◌∙◌, bytes_eq}
use Rattle.std.specs.Prelude.{filter}
use Rattle.std.specs.List.{list_any}
use Rattle.cursor_nav.specs.Places.{Pair, are_sorted}
use Rattle.laws_versions.specs.KeptEntries.{has_entry}
use Rattle.laws_versions.proofs.IndexLemmas.AnyOf.{rising_filter}
use Rattle.laws_versions.proofs.IndexLemmas.PairOrder.{pair_cmp, rising-sorted, sorted-rising}
use Rattle.laws_versions.proofs.IndexLemmas.Rising.{same_rising}
use Rattle.std.proofs.lemmas.Bool.{and_from}
use Rattle.common_lemmas.proofs.Numbers.{equal_bytes, same_bytes}
use Rattle.common_lemmas.proofs.Booleans.{and_left, and_right, impossible, same_tests}

-- ---- lists of the same entries

has_any : (key bookmark : List ℕ) (es : List Pair) (p : Pair → Bool) → has_entry key bookmark es ≡ true → p (key, bookmark) ≡ true → list_any p es ≡ true
has_any key bookmark [] p h e = impossible h
has_any key bookmark (x ∷ es) p h e =
    elim (bytes_eq x.0 key && bytes_eq x.1 bookmark) as (λ b. (bytes_eq x.0 key && bytes_eq x.1 bookmark) ≡ b → (b || has_entry key bookmark es) ≡ true → (p x || list_any p es) ≡ true) [
      | true ↦ λ it g. or_left (p x) _ (same it ∙ e)
      | false ↦ λ it g. or_right (p x) _ (has_any key bookmark es p g e)
    ] refl h
  where
    same : (bytes_eq x.0 key && bytes_eq x.1 bookmark) ≡ true → p x ≡ p (key, bookmark)
    same it = λ i. p (same_bytes x.0 key (and_left _ _ it) i, same_bytes x.1 bookmark (and_right (bytes_eq x.0 key) _ it) i)

    or_left : (a b : Bool) → a ≡ true → (a || b) ≡ true
    or_left true b e = refl
    or_left false b e = impossible e

    or_right : (a b : Bool) → b ≡ true → (a || b) ≡ true
    or_right true b e = refl
    or_right false b e = e

within : (p : Pair → Bool) (xs ys : List Pair) → ((key bookmark : List ℕ) → has_entry key bookmark xs ≡ true → has_entry key bookmark ys ≡ true) → list_any p xs ≡ true → list_any p ys ≡ true
within p [] ys f h = impossible h
within p (x ∷ xs) ys f h =
    elim (p x) as (λ b. p x ≡ b → (b || list_any p xs) ≡ true → list_any p ys ≡ true) [
      | true ↦ λ e g. has_any x.0 x.1 ys p (f x.0 x.1 (or_left _ _ (and_from _ _ (equal_bytes x.0 x.0 refl) (equal_bytes x.1 x.1 refl)))) e
      | false ↦ λ e g. within p xs ys (λ key bookmark has. f key bookmark (or_right (bytes_eq x.0 key && bytes_eq x.1 bookmark) _ has)) g
    ] refl h
  where
    or_left : (a b : Bool) → a ≡ true → (a || b) ≡ true
    or_left true b e = refl
    or_left false b e = impossible e

    or_right : (a b : Bool) → b ≡ true → (a || b) ≡ true
    or_right true b e = refl
    or_right false b e = e

-- sorted lists of the same entries are equal
pub same_sorted : (xs ys : List Pair) → are_sorted xs ≡ true → are_sorted ys ≡ true → ((key bookmark : List ℕ) → has_entry key bookmark xs ≡ has_entry key bookmark ys) → xs ≡ ys
same_sorted xs ys sorted_xs sorted_ys same =
    same_rising xs ys (rising-sorted xs sorted_xs) (rising-sorted ys sorted_ys)
    (λ p. same_tests (list_any p xs) (list_any p ys) (within p xs ys (λ key bookmark has. sym (same key bookmark) ∙ has)) (within p ys xs (λ key bookmark has. same key bookmark ∙ has)))

pub sorted_filter : (p : Pair → Bool) (es : List Pair) → are_sorted es ≡ true → are_sorted (filter p es) ≡ true
sorted_filter p es h = sorted-rising (filter p es) (rising_filter pair_cmp p es (rising-sorted es h))
