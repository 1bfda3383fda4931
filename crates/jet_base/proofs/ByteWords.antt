-- The words of byte strings.
use Rattle.std.proofs.Common.{◌≡◌, ℕ, ◌+◌, ◌-◌, ◌<◌, ◌≤◌, List, length, take, drop, get_or, inl, inr, sym, ap, ◌∙◌, arith, length-take, zero}
use Rattle.std.specs.Prelude.{replicate}
use Rattle.std.specs.Int.{w64, byte_worth, from_le_bytes, sum_through, to_le_bytes}
use Rattle.std.proofs.lemmas.Bool.{cases_lt}
use Rattle.std.proofs.lemmas.List.{get_or-drop, get_or-take, get_or_past, get_or-replicate, length-replicate}
use Rattle.std.proofs.lemmas.Nat.{le_bytes_8}
use Rattle.jet_base.specs.SmallBytes.{IsInPlace}
use Rattle.jet_base.specs.ByteHash.{bytes_hash, hash_with, mixed, word_from}

abbrev pub AreBytes : List ℕ → Type 0
AreBytes bytes = (i : ℕ) → get_or bytes i 0 < 256

-- ---- zeros stand behind a string in place

zero_of : (n k : ℕ) → get_or (replicate n zero) k zero ≡ zero
zero_of n k = elim (cases_lt k n) [
  | inl lt ↦ get_or-replicate n k zero zero lt
  | inr le ↦ get_or_past (replicate n zero) k zero (omega (arith, length-replicate n zero))
]

zero_behind : (count : ℕ) (bytes : List ℕ) (i : ℕ) → IsInPlace count bytes → count ≤ i → get_or bytes i 0 ≡ 0
zero_behind count bytes i h le =
    let at : i ≡ count + (i - count) = omega arith in
    ap (λ (n : ℕ). get_or bytes n 0) at
    ∙ sym (get_or-drop count bytes (i - count) 0)
    ∙ ap (λ (xs : List ℕ). get_or xs (i - count) 0) h.zeros
    ∙ zero_of (22 - count) (i - count)

same_byte : (count : ℕ) (bytes : List ℕ) (i : ℕ) → IsInPlace count bytes → get_or (take count bytes) i 0 ≡ get_or bytes i 0
same_byte count bytes i h = elim (cases_lt i count) [
  | inl lt ↦ get_or-take count bytes i 0 lt
  | inr le ↦ get_or_past (take count bytes) i 0 (omega (arith, length-take count bytes)) ∙ sym (zero_behind count bytes i h le)
]

-- ---- words

same_word : (xs ys : List ℕ) → ((i : ℕ) → get_or xs i 0 ≡ get_or ys i 0) → from_le_bytes w64 xs ≡ from_le_bytes w64 ys
same_word xs ys h = λ i. sum_through (λ k. byte_worth k (h k i)) 7

-- a word of a string in place is read from its room
pub word_in_place : (at count : ℕ) (bytes : List ℕ) → IsInPlace count bytes → word_from at bytes ≡ word_from at (take count bytes)
unfolding word_from
word_in_place at count bytes h =
    same_word (drop at bytes) (drop at (take count bytes)) (λ i. get_or-drop at bytes i 0 ∙ sym (same_byte count bytes (at + i) h) ∙ sym (get_or-drop at (take count bytes) i 0))

abbrev joined : ℕ → ℕ → ℕ → ℕ → ℕ → ℕ → ℕ → ℕ → ℕ
joined a b c d e f g h = byte_worth 0 a + byte_worth 1 b + byte_worth 2 c + byte_worth 3 d + byte_worth 4 e + byte_worth 5 f + byte_worth 6 g + byte_worth 7 h

-- of the first eight bytes alone
word_taken : (xs : List ℕ) → from_le_bytes w64 (take 8 xs) ≡ from_le_bytes w64 xs
word_taken xs =
    let p : (k : ℕ) → k < 8 → get_or (take 8 xs) k 0 ≡ get_or xs k 0 = λ k lt. get_or-take 8 xs k 0 lt in
    λ i. joined (p 0 (omega arith) i) (p 1 (omega arith) i) (p 2 (omega arith) i) (p 3 (omega arith) i) (p 4 (omega arith) i) (p 5 (omega arith) i) (p 6 (omega arith) i) (p 7 (omega arith) i)

front_taken : (xs : List ℕ) (i : ℕ) → AreBytes xs → get_or (take 8 xs) i 0 < 256
front_taken xs i fits = elim (cases_lt i 8) [
  | inl lt ↦ omega (arith, get_or-take 8 xs i 0 lt, fits i)
  | inr le ↦ omega (arith, get_or_past (take 8 xs) i 0 (omega (arith, length-take 8 xs)))
]

spelled : (xs : List ℕ) → AreBytes xs → 8 ≤ length xs → to_le_bytes w64 (from_le_bytes w64 xs) ≡ take 8 xs
spelled xs fits long = le_bytes_8 (take 8 xs) (from_le_bytes w64 xs) (omega (arith, length-take 8 xs)) (λ i. front_taken xs i fits) (sym (word_taken xs))

-- the first word tells the first eight bytes
pub same_front : (xs ys : List ℕ) → AreBytes xs → AreBytes ys → 8 ≤ length xs → 8 ≤ length ys → word_from 0 xs ≡ word_from 0 ys → take 8 xs ≡ take 8 ys
unfolding word_from
same_front xs ys fits fits' long long' e = sym (spelled xs fits long) ∙ ap (to_le_bytes w64) e ∙ spelled ys fits' long'

pub word_of_front : (xs ys : List ℕ) → take 8 xs ≡ take 8 ys → word_from 0 xs ≡ word_from 0 ys
unfolding word_from
word_of_front xs ys e = sym (word_taken xs) ∙ ap (from_le_bytes w64) e ∙ word_taken ys

-- ---- hashes

-- the hash of a string in place
pub hash_in_place : (count last : ℕ) (bytes : List ℕ) → IsInPlace count bytes → last ≡ count - 8 → hash_with last bytes ≡ bytes_hash (take count bytes)
unfolding hash_with bytes_hash
hash_in_place count last bytes h e =
    let size : length (take count bytes) ≡ count = omega (arith, length-take count bytes, h.all, h.within) in
    let at : last ≡ length (take count bytes) - 8 = omega (arith, e, size) in
    let first = word_in_place 0 count bytes h in
    let second = word_in_place 8 count bytes h in
    let third : word_from last bytes ≡ word_from (length (take count bytes) - 8) (take count bytes) = word_in_place last count bytes h ∙ ap (λ (n : ℕ). word_from n (take count bytes)) at in
    λ i. mixed (mixed (mixed 0 (first i)) (second i)) (third i)

pub hash_apart : (last : ℕ) (bytes : List ℕ) → last ≡ length bytes - 8 → hash_with last bytes ≡ bytes_hash bytes
unfolding bytes_hash
hash_apart last bytes e = ap (λ (n : ℕ). hash_with n bytes) e
