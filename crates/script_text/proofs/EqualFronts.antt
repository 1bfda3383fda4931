-- A text begins with a word where numbers made of their bytes are equal.
use Rattle.std.proofs.Common.{◌≡◌, ℕ, zero, suc, ◌+◌, ◌-◌, ◌<◌, ◌≤◌, List, [], ◌∷◌, length, take, get_or, refl, sym, ap, subst, ◌∙◌, arith, add-zero}
use Rattle.std.specs.Int.{w32, w64, from_le_bytes, to_le_bytes}
use Rattle.std.proofs.Math.Seq.{take-length}
use Rattle.std.proofs.lemmas.List.{take_more_same}
use Rattle.std.proofs.lemmas.Nat.{le_bytes_4, le_bytes_8}

abbrev pub AreBytes : List ℕ → Type 0
AreBytes bytes = (i : ℕ) → get_or bytes i 0 < 256

-- so many numbers are the same in both from a place on
abbrev pub AreSame : ℕ → ℕ → List ℕ → List ℕ → Type 0
AreSame count at xs ys = (k : ℕ) → k < count → get_or xs (at + k) 0 ≡ get_or ys (at + k) 0

abbrev pub four_from : ℕ → List ℕ → List ℕ
four_from at bytes = get_or bytes at 0 ∷ get_or bytes (at + 1) 0 ∷ get_or bytes (at + 2) 0 ∷ get_or bytes (at + 3) 0 ∷ []

abbrev pub eight_from : ℕ → List ℕ → List ℕ
eight_from at bytes = get_or bytes at 0 ∷ get_or bytes (at + 1) 0 ∷ get_or bytes (at + 2) 0 ∷ get_or bytes (at + 3) 0 ∷ get_or bytes (at + 4) 0 ∷ get_or bytes (at + 5) 0 ∷ get_or bytes (at + 6) 0 ∷ get_or bytes (at + 7) 0 ∷ []

four_are_bytes : (at : ℕ) (bytes : List ℕ) → AreBytes bytes → AreBytes (four_from at bytes)
four_are_bytes at bytes fits zero = fits at
four_are_bytes at bytes fits (suc zero) = fits (at + 1)
four_are_bytes at bytes fits (suc (suc zero)) = fits (at + 2)
four_are_bytes at bytes fits (suc (suc (suc zero))) = fits (at + 3)
four_are_bytes at bytes fits (suc (suc (suc (suc i)))) = omega arith

eight_are_bytes : (at : ℕ) (bytes : List ℕ) → AreBytes bytes → AreBytes (eight_from at bytes)
eight_are_bytes at bytes fits zero = fits at
eight_are_bytes at bytes fits (suc zero) = fits (at + 1)
eight_are_bytes at bytes fits (suc (suc zero)) = fits (at + 2)
eight_are_bytes at bytes fits (suc (suc (suc zero))) = fits (at + 3)
eight_are_bytes at bytes fits (suc (suc (suc (suc zero)))) = fits (at + 4)
eight_are_bytes at bytes fits (suc (suc (suc (suc (suc zero))))) = fits (at + 5)
eight_are_bytes at bytes fits (suc (suc (suc (suc (suc (suc zero)))))) = fits (at + 6)
eight_are_bytes at bytes fits (suc (suc (suc (suc (suc (suc (suc zero))))))) = fits (at + 7)
eight_are_bytes at bytes fits (suc (suc (suc (suc (suc (suc (suc (suc i)))))))) = omega arith

-- ---- the numbers tell the bytes

four_of : (at : ℕ) (xs ys : List ℕ) → four_from at xs ≡ four_from at ys → AreSame 4 at xs ys
four_of at xs ys e zero lt = rw add-zero (ap (λ (l : List ℕ). get_or l 0 0) e)
four_of at xs ys e (suc zero) lt = ap (λ (l : List ℕ). get_or l 1 0) e
four_of at xs ys e (suc (suc zero)) lt = ap (λ (l : List ℕ). get_or l 2 0) e
four_of at xs ys e (suc (suc (suc zero))) lt = ap (λ (l : List ℕ). get_or l 3 0) e
four_of at xs ys e (suc (suc (suc (suc k)))) lt = absurd (omega arith)

eight_of : (at : ℕ) (xs ys : List ℕ) → eight_from at xs ≡ eight_from at ys → AreSame 8 at xs ys
eight_of at xs ys e zero lt = rw add-zero (ap (λ (l : List ℕ). get_or l 0 0) e)
eight_of at xs ys e (suc zero) lt = ap (λ (l : List ℕ). get_or l 1 0) e
eight_of at xs ys e (suc (suc zero)) lt = ap (λ (l : List ℕ). get_or l 2 0) e
eight_of at xs ys e (suc (suc (suc zero))) lt = ap (λ (l : List ℕ). get_or l 3 0) e
eight_of at xs ys e (suc (suc (suc (suc zero)))) lt = ap (λ (l : List ℕ). get_or l 4 0) e
eight_of at xs ys e (suc (suc (suc (suc (suc zero))))) lt = ap (λ (l : List ℕ). get_or l 5 0) e
eight_of at xs ys e (suc (suc (suc (suc (suc (suc zero)))))) lt = ap (λ (l : List ℕ). get_or l 6 0) e
eight_of at xs ys e (suc (suc (suc (suc (suc (suc (suc zero))))))) lt = ap (λ (l : List ℕ). get_or l 7 0) e
eight_of at xs ys e (suc (suc (suc (suc (suc (suc (suc (suc k)))))))) lt = absurd (omega arith)

pub same_four : (at : ℕ) (xs ys : List ℕ) → AreBytes xs → AreBytes ys → from_le_bytes w32 (four_from at xs) ≡ from_le_bytes w32 (four_from at ys) → AreSame 4 at xs ys
same_four at xs ys fits fits' e =
    let own = le_bytes_4 (four_from at xs) (from_le_bytes w32 (four_from at xs)) refl (four_are_bytes at xs fits) refl in
    let other = le_bytes_4 (four_from at ys) (from_le_bytes w32 (four_from at ys)) refl (four_are_bytes at ys fits') refl in
    four_of at xs ys (sym own ∙ ap (to_le_bytes w32) e ∙ other)

pub same_eight : (at : ℕ) (xs ys : List ℕ) → AreBytes xs → AreBytes ys → from_le_bytes w64 (eight_from at xs) ≡ from_le_bytes w64 (eight_from at ys) → AreSame 8 at xs ys
same_eight at xs ys fits fits' e =
    let own = le_bytes_8 (eight_from at xs) (from_le_bytes w64 (eight_from at xs)) refl (eight_are_bytes at xs fits) refl in
    let other = le_bytes_8 (eight_from at ys) (from_le_bytes w64 (eight_from at ys)) refl (eight_are_bytes at ys fits') refl in
    eight_of at xs ys (sym own ∙ ap (to_le_bytes w64) e ∙ other)

-- ---- so many bytes are the same where the first ones and those behind them are

same_behind : (count at : ℕ) (xs ys : List ℕ) → at + count ≤ length xs → at + count ≤ length ys → take at xs ≡ take at ys → AreSame count at xs ys → take (at + count) xs ≡ take (at + count) ys
same_behind zero at xs ys inside inside' front same = rw add-zero front
same_behind (suc count) at xs ys inside inside' front same =
    let next : at + suc count ≡ at + count + 1 = omega arith in
    let before : take (at + count) xs ≡ take (at + count) ys = same_behind count at xs ys (omega arith) (omega arith) front (λ k lt. same k (omega arith)) in
    let last : get_or xs (at + count) 0 ≡ get_or ys (at + count) 0 = same count (omega arith) in
    rw next (take_more_same xs ys (at + count) 0 (omega arith) (omega arith) before last)

pub front_and_last : (count end : ℕ) (xs ys : List ℕ) → count ≤ end → end ≤ length xs → end ≤ length ys → take (end - count) xs ≡ take (end - count) ys → AreSame count (end - count) xs ys
    → take end xs ≡ take end ys
front_and_last count end xs ys enough inside inside' front same =
    let place : end - count + count ≡ end = omega arith in
    subst (λ (n : ℕ). take n xs ≡ take n ys) place (same_behind count (end - count) xs ys (omega arith) (omega arith) front same)

pub word_of_front : (text word : List ℕ) → take (length word) text ≡ take (length word) word → take (length word) text ≡ word
word_of_front text word e = e ∙ take-length word
