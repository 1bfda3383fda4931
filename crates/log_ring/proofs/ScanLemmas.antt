-- What a scan gives of a log that was changed.
use Rattle.std.proofs.Common.{◌≡◌, ◌≢◌, ◌⊎◌, inl, inr, ℕ, ◌+◌, ◌≤◌, ◌<◌, true, false, None, List, [], length, get_or, refl, ◌∙◌, ap, subst, arith}
use Rattle.std.proofs.lemmas.List.{append-nil}
use Rattle.jet_volume.specs.Crash.{Torn}
use Rattle.jet_volume.specs.declared.files.LogStart.{LogStart}
use Rattle.log_ring.specs.Blocks.{slot_start, address, open_payload, next_generation, Leads, Scans}
use Rattle.log_ring.specs.Gates.{is_barred, IsClosed}
use Rattle.log_ring.proofs.Paths.{Block, Bounds, Keeps, leads_bounds, leads_keep, next_none, none_here, none_turned}
use Rattle.log_ring.proofs.Slots.{next_slot, keeps_torn}
use Rattle.log_ring.proofs.Barring.{closed_none, closed_stays, gate_torn, unbarred_gate, barred_none, barred_stays, bar_open}

module _ (old new : List ℕ) (from : LogStart) (stream : List ℕ) (end : LogStart) where
  -- the same blocks lead to the same end
  pub leads_same : (blocks : List Block) → Leads from.generation old from blocks end → Keeps from.generation old new end → Leads from.generation new from blocks end
  leads_same blocks leads keeps =
      subst (λ (l : List Block). Leads from.generation new from l end) (append-nil blocks)
      (leads_keep from.generation old new from blocks [] end end (omega arith) leads keeps refl)

  pub scans_same : Scans old from stream end → Keeps from.generation old new end → open_payload new end ≡ None
      → (end.generation + 1 < from.generation + 8 → open_payload new (next_generation end) ≡ None) → Scans new from stream end
  scans_same scans keeps here turned = record {
    blocks = scans.blocks;
    leads = leads_same scans.blocks scans.leads keeps;
    ends = next_none from.generation new end here turned;
    stream_is = scans.stream_is;
  }

  pub bounds_of : Scans old from stream end → Bounds from.generation old from end
  bounds_of scans = leads_bounds from.generation old from scans.blocks end scans.leads

  -- while a generation behind the end is barred
  pub bar_scans : (generation : ℕ) → (generation ≡ end.generation + 1) ⊎ (generation ≡ end.generation + 2) → Scans old from stream end
      → is_barred generation old ≡ false → Torn (slot_start generation) 1 old new → Scans new from stream end
  bar_scans generation which scans is torn =
      scans_same scans
      (record {
        below = λ q above less. bar_open generation old new is torn q (below which q less);
        within = λ q payload same le opens. bar_open generation old new is torn q (within which q same) ∙ opens;
      })
      (bar_open generation old new is torn end (within which end refl) ∙ none_here from.generation old end scans.ends)
      (λ near. turned which (none_turned from.generation old end scans.ends near))
    where
      below : (generation ≡ end.generation + 1) ⊎ (generation ≡ end.generation + 2) → (q : LogStart) → q.generation < end.generation → q.generation ≢ generation
      below (inl e) q less = λ same. absurd (omega (arith, e, less, same))
      below (inr e) q less = λ same. absurd (omega (arith, e, less, same))

      within : (generation ≡ end.generation + 1) ⊎ (generation ≡ end.generation + 2) → (q : LogStart) → q.generation ≡ end.generation → q.generation ≢ generation
      within (inl e) q at = λ same. absurd (omega (arith, e, at, same))
      within (inr e) q at = λ same. absurd (omega (arith, e, at, same))

      turned : (generation ≡ end.generation + 1) ⊎ (generation ≡ end.generation + 2) → open_payload old (next_generation end) ≡ None → open_payload new (next_generation end) ≡ None
      turned (inl e) none =
          let at : slot_start generation ≡ address (next_generation end) = omega (arith, ap slot_start e) in
          gate_torn old new (next_generation end) (omega arith) (subst (λ k. Torn k 1 old new) at torn)
          (subst (λ k. (length old ≤ k) ⊎ (get_or old k 0 ≡ 1)) at (unbarred_gate generation old is)) none
      turned (inr e) none = bar_open generation old new is torn (next_generation end) (λ same. absurd (omega (arith, e, same))) ∙ none

  -- while the gate at the end is closed
  pub close_scans : 1 ≤ from.generation → end.offset < 1048576 → Scans old from stream end → is_barred (end.generation + 1) old ≡ true
      → (length old ≤ address end) ⊎ (get_or old (address end) 0 ≡ 1) → Torn (address end) 1 old new
      → Scans new from stream end × (is_barred (end.generation + 1) new ≡ true)
  close_scans one inside scans is needs torn =
      let bounds = bounds_of scans in
      let still : is_barred (end.generation + 1) new ≡ true = barred_stays (end.generation + 1) old new (address end) 1 torn (away (next_slot end.generation (omega (arith, one, bounds.generation)))) is in (
        scans_same scans
            (keeps_torn (address end) 1 old new torn from.generation end.generation from end one bounds refl (bounds.near (omega arith)) (inl refl) (omega arith) (omega (arith, inside)) (λ same. omega arith))
            (gate_torn old new end inside torn needs (none_here from.generation old end scans.ends))
            (λ near. barred_none (end.generation + 1) new (next_generation end) refl refl still),
        still,
      )
    where
      away : (slot_start (end.generation + 1) ≡ slot_start end.generation + 1048576) ⊎ ((slot_start (end.generation + 1) ≡ 0) × (slot_start end.generation ≡ 7340032))
          → (address end + 1 ≤ slot_start (end.generation + 1)) ⊎ ((slot_start (end.generation + 1) ≡ 0) × (9 ≤ address end))
      away (inl up) = inl (omega (arith, up, inside))
      away (inr round) = inr (round.0, omega (arith, round.1))

  -- while the first gate of the next generation is closed
  pub close_next : 1 ≤ from.generation → end.offset < 1048576 → end.generation + 1 < from.generation + 8 → Scans old from stream end → IsClosed (address end) old
      → (length old ≤ address (next_generation end)) ⊎ (get_or old (address (next_generation end)) 0 ≡ 1) → Torn (address (next_generation end)) 1 old new
      → Scans new from stream end × IsClosed (address end) new
  close_next one inside near scans closed needs torn =
      let bounds = bounds_of scans in
      let still : IsClosed (address end) new = closed_stays (address (next_generation end)) 1 old new torn (address end) (away (next_slot end.generation (omega (arith, one, bounds.generation)))) closed in (
        scans_same scans
            (keeps_torn (address (next_generation end)) 1 old new torn from.generation (end.generation + 1) from end one bounds refl near (inr refl) (omega arith) (omega arith) (λ same. absurd (omega (arith, same))))
            (closed_none new end inside still.shut)
            (λ close. gate_torn old new (next_generation end) (omega arith) torn needs (none_turned from.generation old end scans.ends close)),
        still,
      )
    where
      away : (slot_start (end.generation + 1) ≡ slot_start end.generation + 1048576) ⊎ ((slot_start (end.generation + 1) ≡ 0) × (slot_start end.generation ≡ 7340032))
          → (address end < address (next_generation end)) ⊎ (address (next_generation end) + 1 ≤ address end)
      away (inl up) = inl (omega (arith, up, inside))
      away (inr round) = inr (omega (arith, round.0, round.1))
