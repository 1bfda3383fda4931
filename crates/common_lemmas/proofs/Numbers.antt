-- Tests of numbers and of byte strings.
use Rattle.std.proofs.Common.{◌≡◌, ℕ, ◌==◌, true, false, List, bytes_eq, sym, ap, ◌∙◌, arith}
use Rattle.std.proofs.lemmas.Bool.{eqb-true}
use Rattle.std.proofs.lemmas.Bool.Decides.{nat_tests}
use Rattle.std.proofs.lemmas.Slice.Eq.{bytes_eq-Decides}
use Rattle.common_lemmas.proofs.Booleans.{same_tests}

pub self_equal : (n : ℕ) → (n == n) ≡ true
self_equal n = grind (arith, nat_tests)

pub unequal_turned : (m n : ℕ) → (m == n) ≡ false → (n == m) ≡ false
unequal_turned m n e = grind (arith, nat_tests)

pub equal_turned : (m n : ℕ) → (m == n) ≡ (n == m)
equal_turned m n =
    same_tests (m == n) (n == m) (λ e. ap (λ k. n == k) (eqb-true m n e) ∙ self_equal n) (λ e. ap (λ k. m == k) (eqb-true n m e) ∙ self_equal m)

-- ---- byte strings

pub same_bytes : (a b : List ℕ) → bytes_eq a b ≡ true → a ≡ b
same_bytes a b = (bytes_eq-Decides a b).0

pub equal_bytes : (a b : List ℕ) → a ≡ b → bytes_eq a b ≡ true
equal_bytes a b = (bytes_eq-Decides a b).1

pub bytes_turned : (a b : List ℕ) → bytes_eq a b ≡ bytes_eq b a
bytes_turned a b =
    same_tests (bytes_eq a b) (bytes_eq b a) (λ e. equal_bytes b a (sym (same_bytes a b e))) (λ e. equal_bytes a b (sym (same_bytes b a e)))
