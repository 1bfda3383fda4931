-- A block that is written behind a closed gate, and then opened.
use Rattle.std.proofs.Common.{◌≡◌, ◌≢◌, ◌⊎◌, inl, inr, ⊎_elim, ℕ, ◌+◌, ◌≤◌, ◌<◌, true, Some, None, List, [], ◌∷◌, ◌++◌, length, get_or, refl, sym, ◌∙◌, ap, subst, arith}
use Rattle.std.proofs.lemmas.List.{append-nil}
use Rattle.jet_volume.specs.Crash.{Torn}
use Rattle.jet_volume.specs.declared.files.LogStart.{LogStart}
use Rattle.log_ring.specs.Blocks.{slot_start, address, open_payload, behind, next_generation, next_block, payloads, Scans}
use Rattle.log_ring.specs.Gates.{is_barred, IsClosed}
use Rattle.log_ring.specs.Ready.{IsReady}
use Rattle.log_ring.proofs.Paths.{Bounds, Keeps, leads_keep, next_here, next_turned, next_none, payloads-append}
use Rattle.log_ring.proofs.Slots.{next_slot, keeps_torn}
use Rattle.log_ring.proofs.Barring.{closed_none, closed_stays, barred_none, barred_stays}
use Rattle.log_ring.proofs.ScanLemmas.{bounds_of, scans_same}

-- where the next block goes: to the end, or to the beginning of the next generation
pub data Goes (first : ℕ) (log : List ℕ) (end place : LogStart) : Type 0 where
  There : place ≡ end → Goes first log end place
  Next : place ≡ next_generation end → IsClosed (address end) log → end.generation + 1 < first + 8 → Goes first log end place

-- the log scans to the end, and the place is ready for a block
pub record Staged (log : List ℕ) (from : LogStart) (stream : List ℕ) (end place : LogStart) : Type 0 where
  pub scans : Scans log from stream end
  pub goes : Goes from.generation log end place
  pub gate : IsClosed (address place) log
  pub barred : is_barred (place.generation + 1) log ≡ true

module _ (from : LogStart) (stream : List ℕ) (end place : LogStart) (one : 1 ≤ from.generation) (end_inside : end.offset < 1048576) (inside : place.offset < 1048576) (old new : List ℕ) where
  -- the generation of the place
  pub place_generation : Goes from.generation old end place → (place.generation ≡ end.generation) ⊎ (place.generation ≡ end.generation + 1)
  place_generation (There is) = inl (ap (λ (p : LogStart). p.generation) is)
  place_generation (Next is closed near) = inr (ap (λ (p : LogStart). p.generation) is)

  place_near : Bounds from.generation old from end → Goes from.generation old end place → place.generation < from.generation + 8
  place_near bounds (There is) = omega (arith, ap (λ (p : LogStart). p.generation) is, bounds.near (omega arith))
  place_near bounds (Next is closed near) = omega (arith, ap (λ (p : LogStart). p.generation) is, near)

  place_one : Staged old from stream end place → 1 ≤ place.generation
  place_one s = ⊎_elim (λ (e : place.generation ≡ end.generation). omega (arith, e, one, (bounds_of old new from stream end s.scans).generation))
      (λ (e : place.generation ≡ end.generation + 1). omega (arith, e)) (place_generation s.goes)

  end_before : Goes from.generation old end place → place.generation ≡ end.generation → address end ≤ address place
  end_before (There is) same = omega (arith, ap address (sym is))
  end_before (Next is closed near) same = absurd (omega (arith, ap (λ (p : LogStart). p.generation) is, same))

  -- what a scan goes by stays under a write from the place on
  pub staged_keeps : (at n : ℕ) → Torn at n old new → address place ≤ at → at + n ≤ slot_start place.generation + 1048576 → Staged old from stream end place → Keeps from.generation old new end
  staged_keeps at n torn low top s =
      let bounds = bounds_of old new from stream end s.scans in
      keeps_torn at n old new torn from.generation place.generation from end one bounds refl (place_near bounds s.goes) (place_generation s.goes) (omega (arith, low)) top
      (λ same. omega (arith, low, end_before s.goes same))

  pub staged_barred : (at n : ℕ) → Torn at n old new → address place ≤ at → at + n ≤ slot_start place.generation + 1048576 → Staged old from stream end place → is_barred (place.generation + 1) new ≡ true
  staged_barred at n torn low top s = barred_stays (place.generation + 1) old new at n torn (away (next_slot place.generation (place_one s))) s.barred
    where
      away : (slot_start (place.generation + 1) ≡ slot_start place.generation + 1048576) ⊎ ((slot_start (place.generation + 1) ≡ 0) × (slot_start place.generation ≡ 7340032))
          → (at + n ≤ slot_start (place.generation + 1)) ⊎ ((slot_start (place.generation + 1) ≡ 0) × (9 ≤ at))
      away (inl up) = inl (omega (arith, up, top))
      away (inr round) = inr (round.0, omega (arith, round.1, low))

  goes_still : (at n : ℕ) → Torn at n old new → address place ≤ at → at + n ≤ slot_start place.generation + 1048576 → Staged old from stream end place → Goes from.generation old end place → Goes from.generation new end place
  goes_still at n torn low top s (There is) = There is
  goes_still at n torn low top s (Next is closed near) =
      let slot : slot_start place.generation ≡ slot_start (end.generation + 1) = ap (λ (p : LogStart). slot_start p.generation) is in
      Next is (closed_stays at n old new torn (address end) (away slot (next_slot end.generation (omega (arith, one, (bounds_of old new from stream end s.scans).generation)))) closed) near
    where
      away : slot_start place.generation ≡ slot_start (end.generation + 1)
          → (slot_start (end.generation + 1) ≡ slot_start end.generation + 1048576) ⊎ ((slot_start (end.generation + 1) ≡ 0) × (slot_start end.generation ≡ 7340032))
          → (address end < at) ⊎ (at + n ≤ address end)
      away slot (inl up) = inl (omega (arith, up, slot, low, end_inside))
      away slot (inr round) = inr (omega (arith, round.0, round.1, slot, top))

  none_at_end : Goes from.generation new end place → IsClosed (address place) new → open_payload new end ≡ None
  none_at_end (There is) gate = closed_none new end end_inside (subst (λ (p : LogStart). get_or new (address p) 0 ≢ 1) is gate.shut)
  none_at_end (Next is closed near) gate = closed_none new end end_inside closed.shut

  none_after : Goes from.generation new end place → IsClosed (address place) new → is_barred (place.generation + 1) new ≡ true → open_payload new (next_generation end) ≡ None
  none_after (There is) gate barred = barred_none (place.generation + 1) new (next_generation end) (ap (λ (p : LogStart). p.generation + 1) (sym is)) refl barred
  none_after (Next is closed near) gate barred = closed_none new (next_generation end) (omega arith) (subst (λ (p : LogStart). get_or new (address p) 0 ≢ 1) is gate.shut)

  -- a write from the place on that leaves its gate closed gives the same scan
  pub staged_again : (at n : ℕ) → Torn at n old new → address place ≤ at → at + n ≤ slot_start place.generation + 1048576 → Staged old from stream end place → IsClosed (address place) new → Staged new from stream end place
  staged_again at n torn low top s gate =
      let goes = goes_still at n torn low top s s.goes in
      let barred = staged_barred at n torn low top s in
      record {
        scans = scans_same old new from stream end s.scans (staged_keeps at n torn low top s) (none_at_end goes gate) (λ near. none_after goes gate barred);
        goes = goes;
        gate = gate;
        barred = barred;
      }

  -- a write behind the gate
  pub staged_torn : (at n : ℕ) → Torn at n old new → address place < at → at + n ≤ slot_start place.generation + 1048576 → Staged old from stream end place → Staged new from stream end place
  staged_torn at n torn low top s = staged_again at n torn (omega (arith, low)) top s (closed_stays at n old new torn (address place) (inl low) s.gate)

  -- where the gate is 1 then, and the block whole, the scan goes on behind it
  pub opened_ready : (payload : List ℕ) → Torn (address place) 1 old new → Staged old from stream end place → open_payload new place ≡ Some payload → place.offset + 22 + length payload ≤ 1048576
      → IsClosed (address (behind place (length payload))) new → IsReady new from (stream ++ payload) (behind place (length payload))
  opened_ready payload torn s opens fits gate =
      let keeps = staged_keeps (address place) 1 torn (omega arith) (omega (arith, inside)) s in
      let barred = staged_barred (address place) 1 torn (omega arith) (omega (arith, inside)) s in
      let last = behind place (length payload) in
      record {
        scans = record {
          blocks = s.scans.blocks ++ (place, payload) ∷ [];
          leads = leads_keep from.generation old new from s.scans.blocks ((place, payload) ∷ []) end last (omega arith) s.scans.leads keeps
              (goes_on (goes_still (address place) 1 torn (omega arith) (omega (arith, inside)) s s.goes), refl);
          ends = next_none from.generation new last (closed_none new last (omega (arith, fits)) gate.shut) (λ near. barred_none (place.generation + 1) new (next_generation last) refl refl barred);
          stream_is = ap (λ (l : List ℕ). l ++ payload) s.scans.stream_is ∙ ap (λ (l : List ℕ). payloads s.scans.blocks ++ l) (sym (append-nil payload)) ∙ sym (payloads-append s.scans.blocks ((place, payload) ∷ []));
        };
        barred = barred;
        closed = λ behind_start. gate;
      }
    where
      goes_on : Goes from.generation new end place → next_block from.generation new end ≡ Some (place, payload)
      goes_on (There is) =
          next_here from.generation new end payload (subst (λ (p : LogStart). open_payload new p ≡ Some payload) is opens) ∙ ap (λ (p : LogStart). Some (p, payload)) (sym is)
      goes_on (Next is closed near) =
          next_turned from.generation new end payload (closed_none new end end_inside closed.shut) near (subst (λ (p : LogStart). open_payload new p ≡ Some payload) is opens)
          ∙ ap (λ (p : LogStart). Some (p, payload)) (sym is)
