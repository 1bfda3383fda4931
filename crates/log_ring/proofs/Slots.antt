-- What of one slot stays when another is written.
use Rattle.std.proofs.Common.{◌≡◌, ◌≢◌, ◌⊎◌, inl, inr, ⊎_elim, ℕ, ◌+◌, ◌-◌, ◌%◌, ◌≤◌, ◌<◌, Some, List, length, take, drop, sym, ◌∙◌, ap, arith}
use Rattle.std.proofs.lemmas.Bool.{cases_lt}
use Rattle.std.proofs.lemmas.List.{take-take}
use Rattle.jet_volume.specs.Crash.{Torn}
use Rattle.jet_volume.specs.declared.files.LogStart.{LogStart}
use Rattle.log_ring.specs.Blocks.{slot_start, address, slot_rest, block_at, open_payload}
use Rattle.log_ring.proofs.Windows.{part_before, rest_behind}
use Rattle.log_ring.proofs.Opened.{opened, opens, stays_open}
use Rattle.log_ring.proofs.Paths.{Bounds, Keeps, open_in_file}

-- generations from 1 on that are less than 8 apart have different slots
pub other_slot : (low high : ℕ) → 1 ≤ low → low < high → high < low + 8 → slot_start low ≢ slot_start high
other_slot low high one less near = λ same. absurd (omega (arith, same))

-- the slot of the next generation is the next one, or the first one
pub next_slot : (generation : ℕ) → 1 ≤ generation → (slot_start (generation + 1) ≡ slot_start generation + 1048576) ⊎ ((slot_start (generation + 1) ≡ 0) × (slot_start generation ≡ 7340032))
next_slot generation one =
    let r = (generation - 1) % 8 in
    ⊎_elim
    (λ (low : r < 7). inl (omega (arith, low)))
    (λ (high : 7 ≤ r). inr (omega (arith, high), omega (arith, high)))
    (cases_lt r 7)

-- slots do not overlap
pub slots_apart : (a b : ℕ) → slot_start a < slot_start b → slot_start a + 1048576 ≤ slot_start b
slots_apart a b less = omega (arith, less)

module _ (at n : ℕ) (old new : List ℕ) (torn : Torn at n old new) where
  -- a place behind the write
  pub rest_after : (q : LogStart) → at + n ≤ address q → slot_rest new q ≡ slot_rest old q
  rest_after q le = ap (take (1048576 - q.offset)) (rest_behind at n old new torn (address q) le)

  -- a place in a slot before the write, all of which is in the file
  pub rest_before : (q : LogStart) → slot_start q.generation + 1048576 ≤ at → slot_start q.generation + 1048576 ≤ length old → slot_rest new q ≡ slot_rest old q
  rest_before q le whole = ⊎_elim
      (λ (inside : q.offset < 1048576). part_before at n old new torn (address q) (1048576 - q.offset) (omega (arith, inside, le)) (omega (arith, inside, whole)))
      (λ (past : 1048576 ≤ q.offset).
      let zero : 1048576 - q.offset ≡ 0 = omega (arith, past) in
      ap (λ k. take k (drop (address q) new)) zero ∙ sym (ap (λ k. take k (drop (address q) old)) zero))
      (cases_lt q.offset 1048576)

  -- an open block before the write
  pub open_before : (q : LogStart) (payload : List ℕ) → address q + 21 + length payload ≤ at → open_payload old q ≡ Some payload → open_payload new q ≡ Some payload
  open_before q payload le is =
      let o = opened q (slot_rest old q) payload is in
      let k = 21 + length payload in
      let part : take k (drop (address q) new) ≡ take k (drop (address q) old) = part_before at n old new torn (address q) k (omega (arith, le)) (omega (arith, open_in_file old q payload is)) in
      let room : k ≤ 1048576 - q.offset = omega (arith, o.fits) in
      opens q (slot_rest new q) payload
      (stays_open q (slot_rest old q) (slot_rest new q) payload k (omega arith)
      (take-take k (1048576 - q.offset) (drop (address q) new) room ∙ part ∙ sym (take-take k (1048576 - q.offset) (drop (address q) old) room)) o)

  -- a write behind the end of a scan, in its generation or in the next one, keeps what the scan goes by
  pub keeps_torn : (first high : ℕ) (from end : LogStart) → 1 ≤ first → Bounds first old from end → from.generation ≡ first → high < first + 8
      → (high ≡ end.generation) ⊎ (high ≡ end.generation + 1) → slot_start high ≤ at → at + n ≤ slot_start high + 1048576
      → (high ≡ end.generation → address end ≤ at) → Keeps first old new end
  keeps_torn first high from end one bounds is near which low top after = record {
    below = λ q above less.
        let apart : slot_start q.generation ≢ slot_start high = other_slot q.generation high (omega (arith, one, above)) (above_of which q less) (omega (arith, near, above)) in
        let file = bounds.file (omega (arith, is, above, less)) in
        ap (block_at q) (⊎_elim
        (λ (before : slot_start q.generation < slot_start high).
        rest_before q (omega (arith, low, slots_apart q.generation high before)) (omega (arith, file, gap which q above less before)))
        (λ (behind : slot_start high ≤ slot_start q.generation).
        rest_after q (omega (arith, top, slots_apart high q.generation (strict apart behind))))
        (cases_lt (slot_start q.generation) (slot_start high)));
    within = λ q payload same le opens. stays which q payload (ap slot_start same) le opens;
  }
    where
      above_of : (high ≡ end.generation) ⊎ (high ≡ end.generation + 1) → (q : LogStart) → q.generation < end.generation → q.generation < high
      above_of (inl e) q less = omega (arith, e, less)
      above_of (inr e) q less = omega (arith, e, less)

      strict : {a b : ℕ} → a ≢ b → b ≤ a → b < a
      strict {a} {b} differs le = ⊎_elim (λ (l : b < a). l) (λ (g : a ≤ b). absurd (differs (omega (arith, g, le)))) (cases_lt b a)

      end_near : (high ≡ end.generation) ⊎ (high ≡ end.generation + 1) → (q : LogStart) → first ≤ q.generation → end.generation < q.generation + 8
      end_near (inl e) q above = omega (arith, e, near, above)
      end_near (inr e) q above = omega (arith, e, near, above)

      between : (high ≡ end.generation) ⊎ (high ≡ end.generation + 1) → (q : LogStart) → slot_start q.generation < slot_start high → slot_start end.generation + 1048576 ≤ slot_start q.generation → ⊥
      between (inl e) q before higher =
          let slot : slot_start high ≡ slot_start end.generation = ap slot_start e in
          absurd (omega (arith, slot, before, higher))
      between (inr e) q before higher =
          let slot : slot_start high ≡ slot_start (end.generation + 1) = ap slot_start e in
          ⊎_elim
          (λ (up : slot_start (end.generation + 1) ≡ slot_start end.generation + 1048576). absurd (omega (arith, slot, before, higher, up)))
          (λ (round : (slot_start (end.generation + 1) ≡ 0) × (slot_start end.generation ≡ 7340032)). absurd (omega (arith, slot, before, round.0)))
          (next_slot end.generation (omega (arith, one, is, bounds.generation)))

      gap : (high ≡ end.generation) ⊎ (high ≡ end.generation + 1) → (q : LogStart) → first ≤ q.generation → q.generation < end.generation → slot_start q.generation < slot_start high → slot_start q.generation + 1048576 ≤ slot_start end.generation
      gap which q above less before =
          let apart : slot_start q.generation ≢ slot_start end.generation = other_slot q.generation end.generation (omega (arith, one, above)) less (end_near which q above) in
          ⊎_elim (λ (lower : slot_start q.generation < slot_start end.generation). slots_apart q.generation end.generation lower)
          (λ (higher : slot_start end.generation ≤ slot_start q.generation). absurd (between which q before (slots_apart end.generation q.generation (strict apart higher))))
          (cases_lt (slot_start q.generation) (slot_start end.generation))

      stays : (high ≡ end.generation) ⊎ (high ≡ end.generation + 1) → (q : LogStart) (payload : List ℕ) → slot_start q.generation ≡ slot_start end.generation → q.offset + 21 + length payload ≤ end.offset
          → open_payload old q ≡ Some payload → open_payload new q ≡ Some payload
      stays (inl e) q payload same le opens = open_before q payload (omega (arith, after e, same, le)) opens
      stays (inr e) q payload same le opens =
          let next = next_slot end.generation (omega (arith, one, is, bounds.generation)) in
          let slot : slot_start high ≡ slot_start (end.generation + 1) = ap slot_start e in
          let o = opened q (slot_rest old q) payload opens in
          ⊎_elim
          (λ (up : slot_start (end.generation + 1) ≡ slot_start end.generation + 1048576). open_before q payload (omega (arith, up, slot, low, o.fits, same)) opens)
          (λ (round : (slot_start (end.generation + 1) ≡ 0) × (slot_start end.generation ≡ 7340032)).
          ap (block_at q) (rest_after q (omega (arith, round.0, round.1, slot, top, same))) ∙ opens)
          next
