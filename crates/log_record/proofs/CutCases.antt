-- Fields on which it depends what follows.
use Rattle.std.proofs.Common.{◌≡◌, ℕ, zero, suc, ◌+◌, ◌-◌, ◌*◌, ◌^◌, ◌<◌, ◌≤◌, Bool, true, ltb, ◌&&◌, List, [], ◌∷◌, ◌++◌, length, take, drop, None, refl, sym, ap, subst, ◌∙◌, arith}
use Rattle.std.specs.Int.{w16, to_le_bytes, from_le_bytes}
use Rattle.std.proofs.lemmas.Bool.{ltb-true, lt-ltb}
use Rattle.std.proofs.lemmas.Nat.{le_bytes_2, from_le_bytes-to_le_bytes_2}
use Rattle.column_set.specs.NumberReading.{number_at, IsBytes}
use Rattle.log_record.specs.EntryCuts.{after, part16}
use Rattle.log_grammar.specs.EntryReading.{byte_at}
use Rattle.log_record.proofs.CutLaws.{Completed, Then}
use Rattle.log_record.proofs.CutSteps.{Decides, IsFew, decides_field, no_bytes, too_short}
use Rattle.log_grammar.proofs.Laws.{byte_laws, laws16}

-- ---- a byte

pub decides_case8 : (test : ℕ → List ℕ → ℕ → Bool) (Rest : ℕ → List ℕ → Type 0) (none : ℕ → Bool)
    → ((n : ℕ) → n < 256 → Decides (test n) (Rest n))
    → ((missing : ℕ) → IsFew missing → none missing ≡ true → (n : ℕ) × (left : ℕ) × (n < 256) × (missing ≡ 1 + left) × (test n [] left ≡ true))
    → ((n left : ℕ) → IsFew (1 + left) → n < 256 → test n [] left ≡ true → none (1 + left) ≡ true)
    → Decides (λ bytes missing. after (byte_at bytes) test missing (none missing)) (Then (λ n. n ∷ []) (λ n. ltb n 256) Rest)
decides_case8 test Rest none each some of =
    decides_field (λ n. n ∷ []) (λ n. ltb n 256) byte_at Rest test (λ bytes missing. none missing) byte_laws (λ n h. each n (ltb-true _ _ h)) part_sound part_complete where
      part_sound : (front : List ℕ) (missing : ℕ) → IsBytes front → IsFew missing → byte_at front ≡ None → none missing ≡ true → Completed (λ n. n ∷ []) (λ n. ltb n 256) Rest front missing
      part_sound [] missing b few is h =
          let c = some missing few h in
          record { value = c.0; missing = c.0 ∷ []; value_fits = lt-ltb _ _ c.2; written = refl; left = c.1; counted = c.3; goes_on = (each c.0 c.2).sound [] c.1 no_bytes (omega (arith, few, c.3)) c.4 }
      part_sound (x ∷ front) missing b few is h = absurd cc

      part_complete : (front : List ℕ) (missing : ℕ) → IsBytes front → IsFew missing → byte_at front ≡ None → Completed (λ n. n ∷ []) (λ n. ltb n 256) Rest front missing → none missing ≡ true
      part_complete [] missing b few is c =
          let one : length c.missing ≡ 1 = sym (ap length c.written) in
          let counted : missing ≡ 1 + c.left = c.counted ∙ ap (λ n. n + c.left) one in
          let lt : c.value < 256 = ltb-true _ _ c.value_fits in
          ap none counted ∙ of c.value c.left (omega (arith, few, counted)) lt ((each c.value lt).complete [] c.left no_bytes (omega (arith, few, counted)) c.goes_on)
      part_complete (x ∷ front) missing b few is c = absurd cc

-- ---- a number of two bytes

quad_bytes : (a h : ℕ) → a < 256 → h < 256 → IsBytes (a ∷ h ∷ [])
quad_bytes a h la lh zero = la
quad_bytes a h la lh (suc zero) = lh
quad_bytes a h la lh (suc (suc i)) = omega arith

pub bytes_of_two : (a h : ℕ) → a < 256 → h < 256 → to_le_bytes w16 (a + 256 * h) ≡ a ∷ h ∷ []
bytes_of_two a h la lh = le_bytes_2 (a ∷ h ∷ []) (a + 256 * h) refl (quad_bytes a h la lh) (omega arith)

record HighByte (a n : ℕ) (more : List ℕ) : Type 0 where
  high : ℕ
  more_is : more ≡ high ∷ []
  small : high < 256
  number : n ≡ a + 256 * high

high_byte : (a n : ℕ) (more : List ℕ) → n < 2 ^ 16 → to_le_bytes w16 n ≡ a ∷ more → HighByte a n more
high_byte a n [] lt e = absurd (omega (arith, ap length e))
high_byte a n (h ∷ []) lt e =
    let value : n ≡ from_le_bytes w16 (a ∷ h ∷ []) = sym (from_le_bytes-to_le_bytes_2 n lt) ∙ ap (from_le_bytes w16) e in
    let number : n ≡ a + 256 * h = value ∙ omega arith in
    record { high = h; more_is = refl; small = omega (arith, lt, number); number = number }
high_byte a n (h ∷ x ∷ more) lt e = absurd (omega (arith, ap length e))

pub decides_case16 : (test : ℕ → List ℕ → ℕ → Bool) (Rest : ℕ → List ℕ → Type 0) (none : ℕ → Bool) (low : ℕ → ℕ → Bool)
    → ((n : ℕ) → n < 2 ^ 16 → Decides (test n) (Rest n))
    → ((missing : ℕ) → IsFew missing → none missing ≡ true → (n : ℕ) × (left : ℕ) × (n < 2 ^ 16) × (missing ≡ 2 + left) × (test n [] left ≡ true))
    → ((n left : ℕ) → IsFew (2 + left) → n < 2 ^ 16 → test n [] left ≡ true → none (2 + left) ≡ true)
    → ((a missing : ℕ) → IsFew missing → a < 256 → low a missing ≡ true → (h : ℕ) × (left : ℕ) × (h < 256) × (missing ≡ 1 + left) × (test (a + 256 * h) [] left ≡ true))
    → ((a h left : ℕ) → IsFew (1 + left) → a < 256 → h < 256 → test (a + 256 * h) [] left ≡ true → low a (1 + left) ≡ true)
    → Decides (λ bytes missing. after (number_at w16 bytes) test missing (part16 none low bytes missing)) (Then (to_le_bytes w16) (λ n. ltb n (2 ^ 16)) Rest)
decides_case16 test Rest none low each none_some none_of low_some low_of =
    decides_field (to_le_bytes w16) (λ n. ltb n (2 ^ 16)) (number_at w16) Rest test (part16 none low) laws16 (λ n h. each n (ltb-true _ _ h)) part_sound part_complete where
      part_sound : (front : List ℕ) (missing : ℕ) → IsBytes front → IsFew missing → number_at w16 front ≡ None → part16 none low front missing ≡ true → Completed (to_le_bytes w16) (λ n. ltb n (2 ^ 16)) Rest front missing
      part_sound [] missing b few is h =
          let c = none_some missing few h in
          record { value = c.0; missing = to_le_bytes w16 c.0; value_fits = lt-ltb _ _ c.2; written = refl; left = c.1; counted = c.3; goes_on = (each c.0 c.2).sound [] c.1 no_bytes (omega (arith, few, c.3)) c.4 }
      part_sound (a ∷ []) missing b few is h =
          let la : a < 256 = b 0 in
          let c = low_some a missing few la h in
          let lt : a + 256 * c.0 < 2 ^ 16 = omega (arith, la, c.2) in
          record { value = a + 256 * c.0; missing = c.0 ∷ []; value_fits = lt-ltb _ _ lt; written = bytes_of_two a c.0 la c.2; left = c.1; counted = c.3; goes_on = (each (a + 256 * c.0) lt).sound [] c.1 no_bytes (omega (arith, few, c.3)) c.4 }
      part_sound (a ∷ x ∷ front) missing b few is h = absurd (omega (arith, too_short (length (a ∷ x ∷ front)) 2 (from_le_bytes w16 (take 2 (a ∷ x ∷ front)), drop 2 (a ∷ x ∷ front)) is))

      part_complete : (front : List ℕ) (missing : ℕ) → IsBytes front → IsFew missing → number_at w16 front ≡ None → Completed (to_le_bytes w16) (λ n. ltb n (2 ^ 16)) Rest front missing → part16 none low front missing ≡ true
      part_complete [] missing b few is c =
          let two : length c.missing ≡ 2 = sym (ap length c.written) in
          let counted : missing ≡ 2 + c.left = c.counted ∙ ap (λ n. n + c.left) two in
          let lt : c.value < 2 ^ 16 = ltb-true _ _ c.value_fits in
          ap none counted ∙ none_of c.value c.left (omega (arith, few, counted)) lt ((each c.value lt).complete [] c.left no_bytes (omega (arith, few, counted)) c.goes_on)
      part_complete (a ∷ []) missing b few is c =
          let la : a < 256 = b 0 in
          let lt : c.value < 2 ^ 16 = ltb-true _ _ c.value_fits in
          let h = high_byte a c.value c.missing lt c.written in
          let one : length c.missing ≡ 1 = ap length h.more_is in
          let counted : missing ≡ 1 + c.left = c.counted ∙ ap (λ n. n + c.left) one in
          let goes : test c.value [] c.left ≡ true = (each c.value lt).complete [] c.left no_bytes (omega (arith, few, counted)) c.goes_on in
          ap (low a) counted ∙ low_of a h.high c.left (omega (arith, few, counted)) la h.small (subst (λ n. test n [] c.left ≡ true) h.number goes)
      part_complete (a ∷ x ∷ front) missing b few is c = absurd (omega (arith, too_short (length (a ∷ x ∷ front)) 2 (from_le_bytes w16 (take 2 (a ∷ x ∷ front)), drop 2 (a ∷ x ∷ front)) is))
