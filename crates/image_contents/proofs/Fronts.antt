-- Byte strings that are compared in two parts.
use Rattle.std.proofs.Common.{◌≡◌, ℕ, ◌-◌, ◌<◌, ◌≤◌, Bool, true, false, List, ◌++◌, length, take, drop, refl, sym, ap, subst, ◌∙◌, arith}
use Rattle.std.specs.Prelude.{bytes_eq}
use Rattle.std.proofs.Math.Seq.{take-append_seam, drop-append_seam}
use Rattle.std.proofs.lemmas.List.{length-append, take-append-drop}
use Rattle.common_lemmas.proofs.Booleans.{by_test, same_tests}
use Rattle.common_lemmas.proofs.Numbers.{equal_bytes, same_bytes}

-- a string that is shorter than a front does not have it
pub shorter : (key id rest : List ℕ) → length key < length id → false ≡ bytes_eq key (id ++ rest)
shorter key id rest lt = by_test (bytes_eq key (id ++ rest)) (λ t. absurd (long (ap (λ (l : List ℕ). length l) (same_bytes key (id ++ rest) t)))) (λ f. sym f)
  where
    long : length key ≡ length (id ++ rest) → ⊥
    long e = omega (arith, lt, e, length-append id rest)

-- one that has another front
pub other_front : (key id rest : List ℕ) → length id ≤ length key → bytes_eq (take (length id) key) id ≡ false → false ≡ bytes_eq key (id ++ rest)
other_front key id rest le apart = by_test (bytes_eq key (id ++ rest)) (λ t. sym apart ∙ equal_bytes (take (length id) key) id (ap (take (length id)) (same_bytes key (id ++ rest) t) ∙ take-append_seam id rest) ∙ sym t) (λ f. sym f)

pub same_front : (key id rest : List ℕ) → bytes_eq (take (length id) key) id ≡ true → bytes_eq (drop (length id) key) rest ≡ bytes_eq key (id ++ rest)
same_front key id rest front = same_tests (bytes_eq (drop (length id) key) rest) (bytes_eq key (id ++ rest))
    (λ t. equal_bytes key (id ++ rest) (sym (take-append-drop (length id) key) ∙ ap (λ (l : List ℕ). l ++ drop (length id) key) (same_bytes (take (length id) key) id front) ∙ ap (λ (l : List ℕ). id ++ l) (same_bytes (drop (length id) key) rest t)))
    (λ t. equal_bytes (drop (length id) key) rest (ap (drop (length id)) (same_bytes key (id ++ rest) t) ∙ drop-append_seam id rest))
