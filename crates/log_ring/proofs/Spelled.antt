-- A block that is spelled out behind an open gate is open.
use Rattle.std.proofs.Common.{◌≡◌, ℕ, ◌+◌, ◌-◌, ◌≤◌, ◌<◌, ◌^◌, List, [], ◌∷◌, ◌++◌, Some, length, get_or, take, drop, refl, sym, ◌∙◌, ap, arith, add-one, length-append}
use Rattle.std.specs.Int.{w32, w64, to_le_bytes, from_le_bytes}
use Rattle.std.proofs.lemmas.Bool.{and_from, eq-eqb}
use Rattle.std.proofs.lemmas.Nat.{from_le_bytes-to_le_bytes_4, from_le_bytes-to_le_bytes_8}
use Rattle.std.proofs.lemmas.List.{take-take, take_at, take_all, drop_more}
use Rattle.jet_volume.specs.declared.files.LogStart.{LogStart}
use Rattle.log_ring.specs.Blocks.{address, slot_rest, length_field, is_of, behind_gate, open_payload}
use Rattle.log_ring.proofs.Opened.{Opened, opens, stays_open}

-- how long a block is behind its gate, with the gate behind it
pub length-behind_gate : (place : LogStart) (payload : List ℕ) → length (behind_gate place payload) ≡ 21 + length payload
length-behind_gate place payload = omega (arith, length-append payload (0 ∷ []))

module _ (place : LogStart) (payload : List ℕ) (generation : place.generation < 2 ^ 64) (position : place.position < 2 ^ 64) (some : 1 ≤ length payload) (most : length payload ≤ 65500)
    (fits : place.offset + 22 + length payload ≤ 1048576) where
  abbrev spelled : List ℕ
  spelled = 1 ∷ behind_gate place payload

  generation_there : take 8 (drop 1 spelled) ≡ to_le_bytes w64 place.generation
  generation_there = refl

  position_there : take 8 (drop 9 spelled) ≡ to_le_bytes w64 place.position
  position_there = refl

  length_there : take 4 (drop 17 spelled) ≡ to_le_bytes w32 (length payload)
  length_there = refl

  rest_there : drop 21 spelled ≡ payload ++ 0 ∷ []
  rest_there = refl

  spelled_opened : Opened place spelled payload
  unfolding is_of length_field
  spelled_opened = record {
    gate = refl;
    of = and_from _ _
        (eq-eqb (from_le_bytes w64 (take 8 (drop 1 spelled))) place.generation (ap (from_le_bytes w64) generation_there ∙ from_le_bytes-to_le_bytes_8 place.generation generation))
        (eq-eqb (from_le_bytes w64 (take 8 (drop 9 spelled))) place.position (ap (from_le_bytes w64) position_there ∙ from_le_bytes-to_le_bytes_8 place.position position));
    len = ap (from_le_bytes w32) length_there ∙ from_le_bytes-to_le_bytes_4 (length payload) (omega (arith, most));
    some = some;
    most = most;
    fits = fits;
    whole = omega (arith, length-behind_gate place payload);
    is = sym (ap (take (length payload)) rest_there ∙ take_at payload (0 ∷ []) (length payload) refl);
  }

  pub spelled_open : (log : List ℕ) → get_or log (address place) 0 ≡ 1 → take (21 + length payload) (drop (address place + 1) log) ≡ behind_gate place payload → address place < length log
      → open_payload log place ≡ Some payload
  spelled_open log gate bytes there =
      let n = length payload in
      let front : take (22 + n) (drop (address place) log) ≡ spelled =
      ap (take (22 + n)) (drop_more log (address place) 0 there) ∙ next (22 + n) (21 + n) (omega arith) (get_or log (address place) 0) (drop (address place + 1) log)
      ∙ ap (λ (l : List ℕ). get_or log (address place) 0 ∷ l) bytes ∙ ap (λ g. g ∷ behind_gate place payload) gate in
      opens place (slot_rest log place) payload
      (stays_open place spelled (slot_rest log place) payload (22 + n) (omega arith)
      (take-take (22 + n) (1048576 - place.offset) (drop (address place) log) (omega (arith, fits)) ∙ front ∙ sym (take_all (22 + n) spelled (omega (arith, length-behind_gate place payload)))) spelled_opened)
    where
      next : (k j : ℕ) → k ≡ j + 1 → (x : ℕ) (l : List ℕ) → take k (x ∷ l) ≡ x ∷ take j l
      next k j is x l = ap (λ m. take m (x ∷ l)) (is ∙ add-one j)
