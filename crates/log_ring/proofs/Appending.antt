-- At each moment of an append the log gives the stream from before, with the new block or without it.
use Rattle.std.proofs.Common.{◌≡◌, ◌≢◌, ◌⊎◌, inl, inr, ⊎_elim, ℕ, ◌+◌, ◌≤◌, ◌<◌, ◌^◌, Bool, true, false, ◌==◌, nat_le, nat_lt, if◌then◌else◌, Option, Some, None, List, [], ◌∷◌, ◌++◌, length, get_or, take, drop, refl, sym, ◌∙◌, ap, subst, arith, add-zero}
use Rattle.std.proofs.lemmas.Bool.{cases_lt, cases_eq, eq-eqb}
use Rattle.std.proofs.lemmas.Bool.Decides.{nat_tests}
use Rattle.std.proofs.lemmas.List.{get_or-take, get_or-drop}
use Rattle.jet_volume.specs.Crash.{Torn, written}
use Rattle.jet_volume.specs.declared.files.LogStart.{LogStart}
use Rattle.log_ring.specs.Blocks.{slot_start, address, behind_gate, behind, next_generation, Scans}
use Rattle.log_ring.specs.Gates.{is_barred, barred, needs_zero, closed, IsClosed, BarringLeaves, ClosingLeaves, ReadyingLeaves, sealed, begun, staged, appended, place_for}
use Rattle.log_ring.specs.Ready.{IsReady}
use Rattle.log_ring.specs.Appends.{BeginningLeaves, AppendingLeaves}
use Rattle.jet_volume.specs.TornLaws.{length-written, written_torn}
use Rattle.log_ring.proofs.Windows.{piece-written}
use Rattle.log_ring.proofs.GateLemmas.{barred_already, barred_anew, closed_already, closed_anew}
use Rattle.log_ring.proofs.Slots.{next_slot, other_slot, slots_apart}
use Rattle.log_ring.proofs.Barring.{apart, closed_stays, needy, not_needy, written_closed, shut_barred, barred_stays}
use Rattle.log_ring.proofs.ScanLemmas.{bounds_of, bar_scans, close_scans, close_next}
use Rattle.log_ring.proofs.Spelled.{length-behind_gate, spelled_open}
use Rattle.log_ring.proofs.Staging.{There, Next, Staged, staged_again, staged_torn, opened_ready}

-- a test is true or false
pub either : (b : Bool) → (b ≡ true) ⊎ (b ≡ false)
either true = inl refl
either false = inr refl

-- a log in which a generation was barred
pub record BarDone (old new : List ℕ) (from : LogStart) (stream : List ℕ) (end : LogStart) (generation : ℕ) : Type 0 where
  pub scans : Scans new from stream end
  pub barred : is_barred generation new ≡ true
  pub closed : (a : ℕ) → a ≢ slot_start generation → IsClosed a old → IsClosed a new

strictly : {a b : ℕ} → a ≢ b → (a < b) ⊎ (b + 1 ≤ a)
strictly {a} {b} differs = ⊎_elim (λ (less : a < b). inl less)
    (λ (le : b ≤ a). ⊎_elim (λ (more : b < a). inr (omega (arith, more))) (λ (ge : a ≤ b). absurd (differs (omega (arith, le, ge)))) (cases_lt b a))
    (cases_lt a b)

module _ (from : LogStart) (stream : List ℕ) (end : LogStart) (one : 1 ≤ from.generation) (end_inside : end.offset < 1048576) where
  pub bar_done : (log : List ℕ) (generation : ℕ) → (generation ≡ end.generation + 1) ⊎ (generation ≡ end.generation + 2) → Scans log from stream end
      → BarDone log (barred generation log) from stream end generation
  bar_done log generation which scans = ⊎_elim
      (λ (already : is_barred generation log ≡ true).
      subst (λ (l : List ℕ). BarDone log l from stream end generation) (sym (barred_already generation log already)) (record { scans = scans; barred = already; closed = λ a other is. is }))
      (λ (anew : is_barred generation log ≡ false).
      let new = written (slot_start generation) (0 ∷ []) log in
      let torn : Torn (slot_start generation) 1 log new = written_torn (slot_start generation) (0 ∷ []) log in
      subst (λ (l : List ℕ). BarDone log l from stream end generation) (sym (barred_anew generation log anew)) (record {
        scans = bar_scans log new from stream end generation which scans anew torn;
        barred = shut_barred generation new (written_closed (slot_start generation) log);
        closed = λ a other is. closed_stays (slot_start generation) 1 log new torn a (strictly other) is;
      }))
      (either (is_barred generation log))

  pub barring_scans : (log new : List ℕ) (generation : ℕ) → (generation ≡ end.generation + 1) ⊎ (generation ≡ end.generation + 2) → Scans log from stream end
      → BarringLeaves generation log new → Scans new from stream end
  barring_scans log new generation which scans (inl same) = subst (λ (l : List ℕ). Scans l from stream end) (sym same) scans
  barring_scans log new generation which scans (inr torn) = bar_scans log new from stream end generation which scans torn.0 torn.1

  -- at the end itself
  pub closing_scans : (counts : Bool) (log new : List ℕ) → Scans log from stream end → is_barred (end.generation + 1) log ≡ true
      → ClosingLeaves counts (address end) log new → Scans new from stream end
  closing_scans counts log new scans is (inl same) = subst (λ (l : List ℕ). Scans l from stream end) (sym same) scans
  closing_scans counts log new scans is (inr torn) = (close_scans log new from stream end one end_inside scans is (needy counts (address end) log torn.0) torn.1).0

  pub close_done : (counts : Bool) (log : List ℕ) → Scans log from stream end → is_barred (end.generation + 1) log ≡ true
      → Scans (closed counts (address end) log) from stream end × (is_barred (end.generation + 1) (closed counts (address end) log) ≡ true) × (counts ≡ true → IsClosed (address end) (closed counts (address end) log))
  close_done counts log scans is = ⊎_elim
      (λ (needs : needs_zero counts (take 1 (drop (address end) log)) ≡ true).
      let new = written (address end) (0 ∷ []) log in
      let done = close_scans log new from stream end one end_inside scans is (needy counts (address end) log needs) (written_torn (address end) (0 ∷ []) log) in
      subst (λ (l : List ℕ). Scans l from stream end × (is_barred (end.generation + 1) l ≡ true) × (counts ≡ true → IsClosed (address end) l)) (sym (closed_anew counts (address end) log needs))
      (done.0, done.1, λ counting. written_closed (address end) log))
      (λ (none : needs_zero counts (take 1 (drop (address end) log)) ≡ false).
      subst (λ (l : List ℕ). Scans l from stream end × (is_barred (end.generation + 1) l ≡ true) × (counts ≡ true → IsClosed (address end) l)) (sym (closed_already counts (address end) log none))
      (scans, is, λ counting. ⊎_elim (λ (missing : (counts ≡ false) × (length log ≤ address end)). absurd (apart counting missing.0)) (λ (there : IsClosed (address end) log). there) (not_needy counts (address end) log none)))
      (either (needs_zero counts (take 1 (drop (address end) log))))

  -- what a recovery's seal leaves at each moment, and in the end
  pub sealing_scans : (counts : Bool) (log new : List ℕ) → Scans log from stream end → ReadyingLeaves (end.generation + 1) counts (address end) log new → Scans new from stream end
  sealing_scans counts log new scans (inl bars) = barring_scans log new (end.generation + 1) (inl refl) scans bars
  sealing_scans counts log new scans (inr closes) =
      let bar = bar_done log (end.generation + 1) (inl refl) scans in
      closing_scans counts (barred (end.generation + 1) log) new bar.scans bar.barred closes

  pub sealed_ready : (log : List ℕ) → Scans log from stream end → IsReady (sealed end log) from stream end
  sealed_ready log scans =
      let bar = bar_done log (end.generation + 1) (inl refl) scans in
      let done = close_done (nat_lt 0 end.offset) (barred (end.generation + 1) log) bar.scans bar.barred in
      record { scans = done.0; barred = done.1; closed = λ some. done.2 (positive end.offset some) }
    where
      positive : (n : ℕ) → 0 < n → nat_lt 0 n ≡ true
      positive n some = grind (arith, nat_tests)

  -- at the beginning of the next generation
  abbrev turn : LogStart
  turn = next_generation end

  away_from_end : 1 ≤ end.generation → address end ≢ slot_start (turn.generation + 1)
  away_from_end known same = ⊎_elim
      (λ (up : slot_start end.generation < slot_start (turn.generation + 1)). absurd (omega (arith, slots_apart end.generation (turn.generation + 1) up, same, end_inside)))
      (λ (down : slot_start (turn.generation + 1) ≤ slot_start end.generation).
      absurd (other_slot end.generation (turn.generation + 1) known (omega arith) (omega arith) (omega (arith, down, same))))
      (cases_lt (slot_start end.generation) (slot_start (turn.generation + 1)))

  away_from_place : (slot_start (turn.generation + 1) ≡ slot_start turn.generation + 1048576) ⊎ ((slot_start (turn.generation + 1) ≡ 0) × (slot_start turn.generation ≡ 7340032))
      → (address turn + 1 ≤ slot_start (turn.generation + 1)) ⊎ ((slot_start (turn.generation + 1) ≡ 0) × (9 ≤ address turn))
  away_from_place (inl up) = inl (omega (arith, up))
  away_from_place (inr round) = inr (round.0, omega (arith, round.1))

  pub next_done : (log : List ℕ) → end.generation + 1 < from.generation + 8 → Scans log from stream end → IsClosed (address end) log
      → Staged (closed true (address turn) (barred (turn.generation + 1) log)) from stream end turn
  next_done log near scans shut =
      let known : 1 ≤ end.generation = omega (arith, one, (bounds_of log log from stream end scans).generation) in
      let bar = bar_done log (turn.generation + 1) (inr (omega arith)) scans in
      let first = barred (turn.generation + 1) log in
      let shut_first = bar.closed (address end) (away_from_end known) shut in
      ⊎_elim
      (λ (needs : needs_zero true (take 1 (drop (address turn) first)) ≡ true).
      let new = written (address turn) (0 ∷ []) first in
      let torn : Torn (address turn) 1 first new = written_torn (address turn) (0 ∷ []) first in
      let done = close_next first new from stream end one end_inside near bar.scans shut_first (needy true (address turn) first needs) torn in
      subst (λ (l : List ℕ). Staged l from stream end turn) (sym (closed_anew true (address turn) first needs)) (record {
        scans = done.0;
        goes = Next refl done.1 near;
        gate = written_closed (address turn) first;
        barred = barred_stays (turn.generation + 1) first new (address turn) 1 torn (away_from_place (next_slot turn.generation (omega arith))) bar.barred;
      }))
      (λ (none : needs_zero true (take 1 (drop (address turn) first)) ≡ false).
      subst (λ (l : List ℕ). Staged l from stream end turn) (sym (closed_already true (address turn) first none)) (record {
        scans = bar.scans;
        goes = Next refl shut_first near;
        gate = ⊎_elim (λ (missing : (true ≡ false) × (length first ≤ address turn)). absurd (apart refl missing.0)) (λ (there : IsClosed (address turn) first). there) (not_needy true (address turn) first none);
        barred = bar.barred;
      }))
      (either (needs_zero true (take 1 (drop (address turn) first))))

  pub next_scans : (log new : List ℕ) → end.generation + 1 < from.generation + 8 → Scans log from stream end → IsClosed (address end) log
      → ReadyingLeaves (turn.generation + 1) true (address turn) log new → Scans new from stream end
  next_scans log new near scans shut (inl bars) = barring_scans log new (turn.generation + 1) (inr (omega arith)) scans bars
  next_scans log new near scans shut (inr (inl same)) = subst (λ (l : List ℕ). Scans l from stream end) (sym same) (bar_done log (turn.generation + 1) (inr (omega arith)) scans).scans
  next_scans log new near scans shut (inr (inr torn)) =
      let known : 1 ≤ end.generation = omega (arith, one, (bounds_of log log from stream end scans).generation) in
      let bar = bar_done log (turn.generation + 1) (inr (omega arith)) scans in
      let first = barred (turn.generation + 1) log in
      (close_next first new from stream end one end_inside near bar.scans (bar.closed (address end) (away_from_end known) shut) (needy true (address turn) first torn.0) torn.1).0

  -- at the end, where that is the beginning of a generation
  pub here_done : (log : List ℕ) → Scans log from stream end → Staged (closed true (address end) (barred (end.generation + 1) log)) from stream end end
  here_done log scans =
      let bar = bar_done log (end.generation + 1) (inl refl) scans in
      let done = close_done true (barred (end.generation + 1) log) bar.scans bar.barred in
      record { scans = done.0; goes = There refl; gate = done.2 refl; barred = done.1 }

-- where a block goes
pub data Chosen (first : ℕ) (end : LogStart) (len : ℕ) (place : LogStart) : Type 0 where
  Behind : place ≡ end → end.offset + 22 + len ≤ 1048576 → Chosen first end len place
  Anew : place ≡ next_generation end → end.generation + 1 < first + 8 → 1048576 < end.offset + 22 + len → Chosen first end len place

some_same : {x y : LogStart} → Some x ≡ Some y → y ≡ x
some_same e = cc

pub chosen : (first : ℕ) (end : LogStart) (len : ℕ) (place : LogStart) → place_for first end len ≡ Some place → Chosen first end len place
chosen first end len place is = by_fit (nat_le (end.offset + 22 + len) 1048576) refl is
  where
    le_of : nat_le (end.offset + 22 + len) 1048576 ≡ true → end.offset + 22 + len ≤ 1048576
    le_of test = grind (arith, nat_tests)

    gt_of : nat_le (end.offset + 22 + len) 1048576 ≡ false → 1048576 < end.offset + 22 + len
    gt_of test = grind (arith, nat_tests)

    lt_of : nat_lt (end.generation + 1) (first + 8) ≡ true → end.generation + 1 < first + 8
    lt_of test = grind (arith, nat_tests)

    by_room : (b : Bool) → nat_lt (end.generation + 1) (first + 8) ≡ b → 1048576 < end.offset + 22 + len → (if b then Some (next_generation end) else None) ≡ Some place → Chosen first end len place
    by_room true test past same = Anew (some_same same) (lt_of test) past
    by_room false test past same = cc

    by_fit : (b : Bool) → nat_le (end.offset + 22 + len) 1048576 ≡ b
        → (if b then Some end else (if nat_lt (end.generation + 1) (first + 8) then Some (next_generation end) else None)) ≡ Some place → Chosen first end len place
    by_fit true test same = Behind (some_same same) (le_of test)
    by_fit false test same = by_room (nat_lt (end.generation + 1) (first + 8)) refl (gt_of test) same

-- how far a block's place is from the end
pub chosen_generation : (first : ℕ) (end : LogStart) (len : ℕ) (place : LogStart) → Chosen first end len place → place.generation ≤ end.generation + 1
chosen_generation first end len place (Behind is fits) = omega (arith, ap (λ (p : LogStart). p.generation) is)
chosen_generation first end len place (Anew is near past) = omega (arith, ap (λ (p : LogStart). p.generation) is)

pub chosen_position : (first : ℕ) (end : LogStart) (len : ℕ) (place : LogStart) → Chosen first end len place → place.position ≡ end.position
chosen_position first end len place (Behind is fits) = ap (λ (p : LogStart). p.position) is
chosen_position first end len place (Anew is near past) = ap (λ (p : LogStart). p.position) is

pub one_place : (x y : LogStart) (o : Option LogStart) → o ≡ Some x → o ≡ Some y → x ≡ y
one_place x y o a b = cc

pub begun_zero : (place : LogStart) (log : List ℕ) → place.offset ≡ 0 → begun place log ≡ closed true (address place) (barred (place.generation + 1) log)
begun_zero place log zero = ap (λ (b : Bool). if b then closed true (address place) (barred (place.generation + 1) log) else log) (eq-eqb place.offset 0 zero)

pub begun_behind : (place : LogStart) (log : List ℕ) → 0 < place.offset → begun place log ≡ log
begun_behind place log some = ap (λ (b : Bool). if b then closed true (address place) (barred (place.generation + 1) log) else log) (no_zero place.offset some)
  where
    no_zero : (n : ℕ) → 0 < n → (n == 0) ≡ false
    no_zero n some = grind (arith, nat_tests)

module _ (from : LogStart) (stream : List ℕ) (end place : LogStart) (payload : List ℕ) (one : 1 ≤ from.generation) (end_inside : end.offset < 1048576)
    (some : 1 ≤ length payload) (most : length payload ≤ 65500) (generation : place.generation < 2 ^ 64) (position : place.position < 2 ^ 64)
    (log : List ℕ) (ready : IsReady log from stream end) where
  zero_or_more : (end.offset ≡ 0) ⊎ (0 < end.offset)
  zero_or_more = ⊎_elim (λ (more : 0 < end.offset). inr more) (λ (le : end.offset ≤ 0). inl (omega (arith, le))) (cases_lt 0 end.offset)

  pub place_fits : Chosen from.generation end (length payload) place → place.offset + 22 + length payload ≤ 1048576
  place_fits (Behind is fits) = omega (arith, ap (λ (p : LogStart). p.offset) is, fits)
  place_fits (Anew is near past) = omega (arith, ap (λ (p : LogStart). p.offset) is, most)

  pub begun_staged : Chosen from.generation end (length payload) place → Staged (begun place log) from stream end place
  begun_staged (Behind is fits) = subst (λ (p : LogStart). Staged (begun p log) from stream end p) (sym is) (⊎_elim
      (λ (zero : end.offset ≡ 0). subst (λ (l : List ℕ). Staged l from stream end end) (sym (begun_zero end log zero)) (here_done from stream end one end_inside log ready.scans))
      (λ (more : 0 < end.offset). subst (λ (l : List ℕ). Staged l from stream end end) (sym (begun_behind end log more)) (record { scans = ready.scans; goes = There refl; gate = ready.closed more; barred = ready.barred }))
      zero_or_more)
  begun_staged (Anew is near past) = subst (λ (p : LogStart). Staged (begun p log) from stream end p) (sym is)
      (subst (λ (l : List ℕ). Staged l from stream end (next_generation end)) (sym (begun_zero (next_generation end) log refl))
      (next_done from stream end one end_inside log near ready.scans (ready.closed (omega (arith, past, most)))))

  pub beginning_scans : (new : List ℕ) → Chosen from.generation end (length payload) place → BeginningLeaves place log new → Scans new from stream end
  beginning_scans new which (inl same) = subst (λ (l : List ℕ). Scans l from stream end) (sym same) ready.scans
  beginning_scans new (Behind is fits) (inr leaves) =
      sealing_scans from stream end one end_inside true log new ready.scans (subst (λ (p : LogStart). ReadyingLeaves (p.generation + 1) true (address p) log new) is leaves.1)
  beginning_scans new (Anew is near past) (inr leaves) =
      next_scans from stream end one end_inside log new near ready.scans (ready.closed (omega (arith, past, most))) (subst (λ (p : LogStart). ReadyingLeaves (p.generation + 1) true (address p) log new) is leaves.1)

  abbrev mid : List ℕ
  mid = begun place log

  abbrev full : List ℕ
  full = staged place payload (begun place log)

  long : Chosen from.generation end (length payload) place → length (behind_gate place payload) ≡ 21 + length payload
  long which = length-behind_gate place payload

  torn_full : Chosen from.generation end (length payload) place → Torn (address place + 1) (21 + length payload) mid full
  torn_full which = subst (λ n. Torn (address place + 1) n mid full) (long which) (written_torn (address place + 1) (behind_gate place payload) mid)

  -- while the block is written behind its gate
  pub storing_staged : (new : List ℕ) → Chosen from.generation end (length payload) place → Torn (address place + 1) (21 + length payload) mid new → Staged new from stream end place
  storing_staged new which torn =
      let fits = place_fits which in
      staged_torn from stream end place one end_inside (omega (arith, fits)) mid new (address place + 1) (21 + length payload) torn (omega arith) (omega (arith, fits)) (begun_staged which)

  last_zero : (l : List ℕ) → get_or (l ++ 0 ∷ []) (length l) 0 ≡ 0
  last_zero [] = refl
  last_zero (x ∷ l) = last_zero l

  -- the closed gate behind the block
  full_closed : Chosen from.generation end (length payload) place → IsClosed (address (behind place (length payload))) full
  full_closed which = record {
    there = omega (arith, length-written (address place + 1) (behind_gate place payload) mid, long which);
    shut = λ is. absurd (omega (arith, is, byte));
  }
    where
      n : ℕ
      n = length payload

      at : address place + 1 + (20 + length payload) ≡ address (behind place (length payload))
      at = omega arith

      piece : take (21 + length payload) (drop (address place + 1) full) ≡ behind_gate place payload
      piece = ap (λ k. take k (drop (address place + 1) full)) (sym (long which)) ∙ piece-written (address place + 1) (behind_gate place payload) mid

      byte : get_or full (address (behind place (length payload))) 0 ≡ 0
      byte =
          ap (λ k. get_or full k 0) (sym at) ∙ sym (get_or-drop (address place + 1) full (20 + length payload) 0)
          ∙ sym (get_or-take (21 + length payload) (drop (address place + 1) full) (20 + length payload) 0 (omega arith))
          ∙ ap (λ (l : List ℕ). get_or l (20 + length payload) 0) piece
          ∙ sym (get_or-drop 20 (behind_gate place payload) (length payload) 0)
          ∙ last_zero payload

  -- where the gate is 1 then, the block is open
  pub opening_ready : (new : List ℕ) → Chosen from.generation end (length payload) place → Torn (address place) 1 full new → get_or new (address place) 0 ≡ 1
      → IsReady new from (stream ++ payload) (behind place (length payload))
  opening_ready new which torn is =
      let fits = place_fits which in
      let before = storing_staged full which (torn_full which) in
      let bytes : take (21 + length payload) (drop (address place + 1) new) ≡ behind_gate place payload =
      ap (take (21 + length payload)) torn.after ∙ ap (λ k. take k (drop (address place + 1) full)) (sym (long which)) ∙ piece-written (address place + 1) (behind_gate place payload) mid in
      let there : address place < length new = omega (arith, torn.no_shorter, before.gate.there) in
      opened_ready from stream end place one end_inside (omega (arith, fits)) full new payload torn before
      (spelled_open place payload generation position some most fits new is bytes there) fits
      (closed_stays (address place) 1 full new torn (address (behind place (length payload))) (inr (omega arith)) (full_closed which))

  -- while the gate is opened
  pub opening_scans : (new : List ℕ) → Chosen from.generation end (length payload) place → Torn (address place) 1 full new
      → Scans new from stream end ⊎ Scans new from (stream ++ payload) (behind place (length payload))
  opening_scans new which torn = ⊎_elim
      (λ (is : get_or new (address place) 0 ≡ 1). inr (opening_ready new which torn is).scans)
      (λ (shut : get_or new (address place) 0 ≢ 1).
      let before = storing_staged full which (torn_full which) in
      inl (staged_again from stream end place one end_inside (omega (arith, place_fits which)) full new (address place) 1 torn (omega arith) (omega (arith, place_fits which)) before
      (record { there = omega (arith, torn.no_shorter, before.gate.there); shut = shut })).scans)
      (cases_eq (get_or new (address place) 0) 1)

  -- at each moment of an append
  pub appending_scans : (new : List ℕ) → Chosen from.generation end (length payload) place → AppendingLeaves place payload log new
      → Scans new from stream end ⊎ Scans new from (stream ++ payload) (behind place (length payload))
  appending_scans new which (inl begins) = inl (beginning_scans new which begins)
  appending_scans new which (inr (inl torn)) = inl (storing_staged new which torn).scans
  appending_scans new which (inr (inr torn)) = opening_scans new which torn

  -- after it
  pub appended_ready : Chosen from.generation end (length payload) place → IsReady (appended place payload log) from (stream ++ payload) (behind place (length payload))
  appended_ready which =
      opening_ready (appended place payload log) which (written_torn (address place) (1 ∷ []) full)
      (sym (get_or-take 1 (drop (address place) (appended place payload log)) 0 0 (omega arith) ∙ get_or-drop (address place) (appended place payload log) 0 0 ∙ ap (λ k. get_or (appended place payload log) k 0) (add-zero (address place)))
      ∙ ap (λ (l : List ℕ). get_or l 0 0) (piece-written (address place) (1 ∷ []) full))
