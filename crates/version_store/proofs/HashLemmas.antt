-- The hash with bytes, by their number.
use Rattle.std.proofs.Common.{◌≡◌, refl, ℕ, ◌-◌, ◌<◌, ◌≤◌, true, false, List, [], ◌∷◌, fold, length, drop, slice_index_or, arith}
use Rattle.std.specs.Prelude.{nat_lt}
use Rattle.std.specs.Int.{w32, w64, from_le_bytes}
use Rattle.std.proofs.lemmas.Bool.Decides.{nat_tests}
use Rattle.version_store.specs.Hashes.{mixed, with_bytes, with_words}

pub with_each : (hash : ℕ) (bytes : List ℕ) → length bytes ≤ 3 → fold mixed hash bytes ≡ with_bytes hash bytes
unfolding with_bytes
with_each hash bytes few =
    let few : nat_lt (length bytes) 4 ≡ true = grind (arith, nat_tests) in
    rw few refl

pub with_halves : (hash : ℕ) (bytes : List ℕ) → 4 ≤ length bytes → length bytes ≤ 7
    → mixed (mixed hash (from_le_bytes w32 bytes)) (from_le_bytes w32 (drop (length bytes - 4) bytes)) ≡ with_bytes hash bytes
unfolding with_bytes
with_halves hash bytes enough few =
    let many : nat_lt (length bytes) 4 ≡ false = grind (arith, nat_tests) in
    let few : nat_lt (length bytes) 8 ≡ true = grind (arith, nat_tests) in
    rw many (rw few refl)

pub with_more : (hash : ℕ) (bytes : List ℕ) → 8 ≤ length bytes → mixed (with_words hash bytes) (from_le_bytes w64 (drop (length bytes - 8) bytes)) ≡ with_bytes hash bytes
unfolding with_bytes
with_more hash bytes enough =
    let many : nat_lt (length bytes) 4 ≡ false = grind (arith, nat_tests) in
    let more : nat_lt (length bytes) 8 ≡ false = grind (arith, nat_tests) in
    rw many (rw more refl)

-- fewer than eight bytes are no whole word
pub with_words_few : (hash : ℕ) (bytes : List ℕ) → length bytes < 8 → with_words hash bytes ≡ hash
unfolding with_words
with_words_few hash [] few = refl
with_words_few hash (a ∷ []) few = refl
with_words_few hash (a ∷ b ∷ []) few = refl
with_words_few hash (a ∷ b ∷ c ∷ []) few = refl
with_words_few hash (a ∷ b ∷ c ∷ d ∷ []) few = refl
with_words_few hash (a ∷ b ∷ c ∷ d ∷ e ∷ []) few = refl
with_words_few hash (a ∷ b ∷ c ∷ d ∷ e ∷ f ∷ []) few = refl
with_words_few hash (a ∷ b ∷ c ∷ d ∷ e ∷ f ∷ g ∷ []) few = refl
with_words_few hash (a ∷ b ∷ c ∷ d ∷ e ∷ f ∷ g ∷ h ∷ rest) few = absurd (omega arith)

-- the first word and those behind it
pub with_words_more : (hash : ℕ) (bytes : List ℕ) → 8 ≤ length bytes
    → with_words (mixed hash (from_le_bytes w64 (slice_index_or bytes 0 0 ∷ slice_index_or bytes 1 0 ∷ slice_index_or bytes 2 0 ∷ slice_index_or bytes 3 0 ∷ slice_index_or bytes 4 0 ∷ slice_index_or bytes 5 0 ∷ slice_index_or bytes 6 0 ∷ slice_index_or bytes 7 0 ∷ []))) (drop 8 bytes) ≡ with_words hash bytes
unfolding with_words
with_words_more hash [] enough = absurd (omega arith)
with_words_more hash (a ∷ []) enough = absurd (omega arith)
with_words_more hash (a ∷ b ∷ []) enough = absurd (omega arith)
with_words_more hash (a ∷ b ∷ c ∷ []) enough = absurd (omega arith)
with_words_more hash (a ∷ b ∷ c ∷ d ∷ []) enough = absurd (omega arith)
with_words_more hash (a ∷ b ∷ c ∷ d ∷ e ∷ []) enough = absurd (omega arith)
with_words_more hash (a ∷ b ∷ c ∷ d ∷ e ∷ f ∷ []) enough = absurd (omega arith)
with_words_more hash (a ∷ b ∷ c ∷ d ∷ e ∷ f ∷ g ∷ []) enough = absurd (omega arith)
with_words_more hash (a ∷ b ∷ c ∷ d ∷ e ∷ f ∷ g ∷ h ∷ rest) enough = refl
