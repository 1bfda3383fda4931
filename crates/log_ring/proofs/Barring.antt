-- Gates and barred generations, before and after a torn write.
use Rattle.std.proofs.Common.{◌≡◌, ◌≢◌, ◌⊎◌, inl, inr, ⊎_elim, ℕ, ◌+◌, ◌-◌, ◌≤◌, ◌<◌, min, Bool, true, false, not, ◌&&◌, ◌==◌, if◌then◌else◌, Option, Some, None, List, [], ◌∷◌, length, get_or, take, drop, refl, sym, ◌∙◌, ap, arith, add-zero, length-take, length-drop}
use Rattle.std.specs.Int.{w64, from_le_bytes}
use Rattle.std.proofs.lemmas.Bool.{cases_lt, cases_eq, eqb-true, eq-eqb, and_parts}
use Rattle.std.proofs.lemmas.Bool.Decides.{nat_tests}
use Rattle.std.proofs.lemmas.List.{get_or-take, get_or-drop, drop_more, drop-drop, drop_all}
use Rattle.jet_volume.specs.Crash.{Torn, written}
use Rattle.jet_volume.specs.declared.files.LogStart.{LogStart}
use Rattle.log_ring.specs.Blocks.{slot_start, address, slot_rest, is_of, block_at, open_payload}
use Rattle.log_ring.specs.Gates.{is_number, bars, is_barred, needs_zero, IsClosed}
use Rattle.jet_volume.specs.TornLaws.{length-written}
use Rattle.log_ring.proofs.Windows.{part_before, rest_behind, take-drop-take, piece-written}
use Rattle.log_ring.proofs.Opened.{opened, closed_gate}
use Rattle.log_ring.proofs.Paths.{open_in_file}
use Rattle.log_ring.proofs.Slots.{rest_after, rest_before, slots_apart}

-- the gate of a place is its byte in the file
pub gate_byte : (log : List ℕ) (q : LogStart) → q.offset < 1048576 → get_or (slot_rest log q) 0 0 ≡ get_or log (address q) 0
gate_byte log q inside =
    get_or-take (1048576 - q.offset) (drop (address q) log) 0 0 (omega (arith, inside)) ∙ get_or-drop (address q) log 0 0 ∙ ap (λ k. get_or log k 0) (add-zero (address q))

-- a closed gate lets no block be open
pub closed_none : (log : List ℕ) (q : LogStart) → q.offset < 1048576 → get_or log (address q) 0 ≢ 1 → open_payload log q ≡ None
closed_none log q inside shut = closed_gate q (slot_rest log q) (λ is. shut (sym (gate_byte log q inside) ∙ is))

-- no block can be open where a payload leads to a contradiction
pub none_unless : (log : List ℕ) (q : LogStart) → ((payload : List ℕ) → open_payload log q ≡ Some payload → ⊥) → open_payload log q ≡ None
none_unless log q never = by_case (open_payload log q) refl
  where
    by_case : (o : Option (List ℕ)) → open_payload log q ≡ o → open_payload log q ≡ None
    by_case None is = is
    by_case (Some payload) is = absurd (never payload is)

-- an open block has the number of its generation
pub number_open : (log : List ℕ) (q : LogStart) (payload : List ℕ) → open_payload log q ≡ Some payload → is_number q.generation (take 8 (drop (address q + 1) log)) ≡ true
unfolding is_number is_of
number_open log q payload is =
    let o = opened q (slot_rest log q) payload is in
    let same : take 8 (drop 1 (slot_rest log q)) ≡ take 8 (drop (address q + 1) log) =
    take-drop-take 8 1 (1048576 - q.offset) (drop (address q) log) (omega (arith, o.fits)) ∙ ap (take 8) (drop-drop 1 (address q) log) in
    ap (λ (l : List ℕ). from_le_bytes w64 l == q.generation) (sym same) ∙ (and_parts _ _ o.of).0

-- eight bytes are one number
one_number : (a b : ℕ) (bytes : List ℕ) → is_number a bytes ≡ true → is_number b bytes ≡ true → a ≡ b
unfolding is_number
one_number a b bytes x y = sym (eqb-true (from_le_bytes w64 bytes) a x) ∙ eqb-true (from_le_bytes w64 bytes) b y

-- a closed gate stays closed where it is not written
pub closed_stays : (at n : ℕ) (old new : List ℕ) → Torn at n old new → (a : ℕ) → (a < at) ⊎ (at + n ≤ a) → IsClosed a old → IsClosed a new
closed_stays at n old new torn a where_to is = record {
  there = omega (arith, is.there, torn.no_shorter);
  shut = λ one. is.shut (sym (same where_to) ∙ one);
}
  where
    byte : (l : List ℕ) → get_or (take 1 (drop a l)) 0 0 ≡ get_or l a 0
    byte l = get_or-take 1 (drop a l) 0 0 (omega arith) ∙ get_or-drop a l 0 0 ∙ ap (λ k. get_or l k 0) (add-zero a)

    first : (l : List ℕ) → get_or (drop a l) 0 0 ≡ get_or l a 0
    first l = get_or-drop a l 0 0 ∙ ap (λ k. get_or l k 0) (add-zero a)

    same : (a < at) ⊎ (at + n ≤ a) → get_or new a 0 ≡ get_or old a 0
    same (inl less) = sym (byte new) ∙ ap (λ (l : List ℕ). get_or l 0 0) (part_before at n old new torn a 1 (omega (arith, less)) (omega (arith, is.there))) ∙ byte old
    same (inr le) = sym (first new) ∙ ap (λ (l : List ℕ). get_or l 0 0) (rest_behind at n old new torn a le) ∙ first old

-- The write of a gate that was 1 or is not in the file opens no block.
pub gate_torn : (old new : List ℕ) (q : LogStart) → q.offset < 1048576 → Torn (address q) 1 old new → (length old ≤ address q) ⊎ (get_or old (address q) 0 ≡ 1)
    → open_payload old q ≡ None → open_payload new q ≡ None
gate_torn old new q inside torn (inl missing) none =
    none_unless new q (λ payload is. absurd (omega (arith, open_in_file new q payload is, torn.no_longer, missing)))
gate_torn old new q inside torn (inr was) none = ⊎_elim
    (λ (one : get_or new (address q) 0 ≡ 1). ⊎_elim
    (λ (there : address q < length old).
    let same : drop (address q) new ≡ drop (address q) old =
    drop_more new (address q) 0 (omega (arith, there, torn.no_shorter)) ∙ ap (λ g. g ∷ drop (address q + 1) new) (one ∙ sym was) ∙ ap (λ (l : List ℕ). get_or old (address q) 0 ∷ l) torn.after
    ∙ sym (drop_more old (address q) 0 there) in
    ap (λ (l : List ℕ). block_at q (take (1048576 - q.offset) l)) same ∙ none)
    (λ (missing : length old ≤ address q).
    none_unless new q (λ payload is. absurd (omega (arith, open_in_file new q payload is, torn.no_longer, missing))))
    (cases_lt (address q) (length old)))
    (λ (shut : get_or new (address q) 0 ≢ 1). closed_none new q inside shut)
    (cases_eq (get_or new (address q) 0) 1)

-- what needs a 0 is not in the file, or is 1
pub needy : (counts : Bool) (at : ℕ) (log : List ℕ) → needs_zero counts (take 1 (drop at log)) ≡ true → (length log ≤ at) ⊎ (get_or log at 0 ≡ 1)
needy counts at log needs = ⊎_elim
    (λ (there : at < length log).
    inr (eqb-true (get_or log at 0) 1 (sym (ap (λ (l : List ℕ). needs_zero counts (take 1 l)) (drop_more log at 0 there)) ∙ needs)))
    (λ (missing : length log ≤ at). inl missing)
    (cases_lt at (length log))

pub apart : {b : Bool} → b ≡ true → b ≡ false → ⊥
apart t f = absurd (never (sym t ∙ f))
  where
    never : true ≡ false → ⊥
    never e = cc

-- what needs no 0 is closed, or is not in the file
pub not_needy : (counts : Bool) (at : ℕ) (log : List ℕ) → needs_zero counts (take 1 (drop at log)) ≡ false → ((counts ≡ false) × (length log ≤ at)) ⊎ IsClosed at log
not_needy counts at log needs = ⊎_elim
    (λ (there : at < length log).
    inr (record { there = there; shut = λ one. apart (eq-eqb (get_or log at 0) 1 one) (sym (ap (λ (l : List ℕ). needs_zero counts (take 1 l)) (drop_more log at 0 there)) ∙ needs) }))
    (λ (missing : length log ≤ at). inl (sym (ap (λ (l : List ℕ). needs_zero counts (take 1 l)) (drop_all at log missing)) ∙ needs, missing))
    (cases_lt at (length log))

-- the test of a barred generation, by the tests that it is made of
abbrev bar_test : Bool → Bool → Bool → Bool → Bool → Bool
bar_test empty zero gate whole number = if empty then not zero else if gate then whole && not number else true

test_false : (e z g n m : Bool) → bar_test e z g n m ≡ false → ((e ≡ true) × (z ≡ true)) ⊎ ((e ≡ false) × (g ≡ true) × ((n ≡ false) ⊎ (m ≡ true)))
test_false true true g n m is = inl (refl, refl)
test_false true false g n m is = cc
test_false false z false n m is = cc
test_false false z true false m is = inr (refl, refl, inl refl)
test_false false z true true true is = inr (refl, refl, inr refl)
test_false false z true true false is = cc

test_true : (e z g n m : Bool) → bar_test e z g n m ≡ true → ((e ≡ true) × (z ≡ false)) ⊎ (((e ≡ false) × (g ≡ false)) ⊎ ((n ≡ true) × (m ≡ false)))
test_true true false g n m is = inl (refl, refl)
test_true true true g n m is = cc
test_true false z false n m is = inr (inl (refl, refl))
test_true false z true true false is = inr (inr (refl, refl))
test_true false z true false m is = cc
test_true false z true true true is = cc

test_shut : (e z g n m : Bool) → e ≡ false → g ≡ false → bar_test e z g n m ≡ true
test_shut false z false n m x y = refl
test_shut true z g n m x y = cc
test_shut false z true n m x y = cc

eq_false : (a b : ℕ) → a ≢ b → (a == b) ≡ false
eq_false a b differs = grind (arith, nat_tests)

ne_from : (a b : ℕ) → (a == b) ≡ false → a ≢ b
ne_from a b test e = apart (eq-eqb a b e) test

module _ (generation : ℕ) (log : List ℕ) where
  s : ℕ
  s = slot_start generation

  abbrev front : List ℕ
  front = take 9 (drop (slot_start generation) log)

  long : length front ≡ min 9 (length log - slot_start generation)
  long = omega (arith, length-take 9 (drop (slot_start generation) log), length-drop (slot_start generation) log)

  gate : get_or front 0 0 ≡ get_or log (slot_start generation) 0
  gate = get_or-take 9 (drop (slot_start generation) log) 0 0 (omega arith) ∙ get_or-drop (slot_start generation) log 0 0 ∙ ap (λ k. get_or log k 0) (add-zero (slot_start generation))

  number : take 8 (drop 1 front) ≡ take 8 (drop (slot_start generation + 1) log)
  number = take-drop-take 8 1 9 (drop (slot_start generation) log) (omega arith) ∙ ap (take 8) (drop-drop 1 (slot_start generation) log)

  cases_false : is_barred generation log ≡ false
      → ((length front ≡ 0) × (slot_start generation ≡ 0)) ⊎ ((get_or front 0 0 ≡ 1) × ((length front ≢ 9) ⊎ (is_number generation (take 8 (drop 1 front)) ≡ true)))
  cases_false is = ⊎_elim
      (λ (none : ((length front == 0) ≡ true) × ((slot_start generation == 0) ≡ true)). inl (eqb-true (length front) 0 none.0, eqb-true (slot_start generation) 0 none.1))
      (λ (one : ((length front == 0) ≡ false) × ((get_or front 0 0 == 1) ≡ true) × (((length front == 9) ≡ false) ⊎ (is_number generation (take 8 (drop 1 front)) ≡ true))).
      inr (eqb-true (get_or front 0 0) 1 one.1, ⊎_elim (λ (short : (length front == 9) ≡ false). inl (ne_from (length front) 9 short)) (λ (m : is_number generation (take 8 (drop 1 front)) ≡ true). inr m) one.2))
      (test_false (length front == 0) (slot_start generation == 0) (get_or front 0 0 == 1) (length front == 9) (is_number generation (take 8 (drop 1 front))) is)

  -- the gate of a generation that is not barred is not in the file, or is 1
  pub unbarred_gate : is_barred generation log ≡ false → (length log ≤ slot_start generation) ⊎ (get_or log (slot_start generation) 0 ≡ 1)
  unbarred_gate is = ⊎_elim
      (λ (none : (length front ≡ 0) × (slot_start generation ≡ 0)). inl (omega (arith, none.0, long)))
      (λ (one : (get_or front 0 0 ≡ 1) × ((length front ≢ 9) ⊎ (is_number generation (take 8 (drop 1 front)) ≡ true))). inr (sym gate ∙ one.0))
      (cases_false is)

  -- the file reaches to it
  pub unbarred_reached : is_barred generation log ≡ false → slot_start generation ≤ length log
  unbarred_reached is = ⊎_elim
      (λ (none : (length front ≡ 0) × (slot_start generation ≡ 0)). omega (arith, none.1))
      (λ (one : (get_or front 0 0 ≡ 1) × ((length front ≢ 9) ⊎ (is_number generation (take 8 (drop 1 front)) ≡ true))).
      ⊎_elim (λ (some : slot_start generation < length log). omega (arith, some))
      (λ (none : length log ≤ slot_start generation). absurd (nothing (length front) front (omega (arith, none, long)) one.0 refl))
      (cases_lt (slot_start generation) (length log)))
      (cases_false is)
    where
      nothing : (n : ℕ) (l : List ℕ) → n ≡ 0 → get_or l 0 0 ≡ 1 → length l ≡ n → ⊥
      nothing n [] zero one is = cc
      nothing n (x ∷ l) zero one is = absurd (omega (arith, zero, is))

  -- the eight bytes behind it are its number, or are not all in the file
  pub unbarred_number : is_barred generation log ≡ false → (length log < slot_start generation + 9) ⊎ (is_number generation (take 8 (drop (slot_start generation + 1) log)) ≡ true)
  unbarred_number is = ⊎_elim
      (λ (none : (length front ≡ 0) × (slot_start generation ≡ 0)). inl (omega (arith, none.0, long)))
      (λ (one : (get_or front 0 0 ≡ 1) × ((length front ≢ 9) ⊎ (is_number generation (take 8 (drop 1 front)) ≡ true))).
      ⊎_elim (λ (short : length front ≢ 9). inl (below short)) (λ (m : is_number generation (take 8 (drop 1 front)) ≡ true). inr (sym (ap (is_number generation) number) ∙ m)) one.1)
      (cases_false is)
    where
      below : length front ≢ 9 → length log < slot_start generation + 9
      below short = ⊎_elim (λ (less : length log < slot_start generation + 9). less) (λ (more : slot_start generation + 9 ≤ length log). absurd (short (omega (arith, long, more)))) (cases_lt (length log) (slot_start generation + 9))

  cases_true : is_barred generation log ≡ true
      → ((length front ≡ 0) × (slot_start generation ≢ 0)) ⊎ (IsClosed (slot_start generation) log ⊎ ((length front ≡ 9) × (is_number generation (take 8 (drop 1 front)) ≡ false)))
  cases_true is = ⊎_elim
      (λ (none : ((length front == 0) ≡ true) × ((slot_start generation == 0) ≡ false)). inl (eqb-true (length front) 0 none.0, ne_from (slot_start generation) 0 none.1))
      (λ (some : (((length front == 0) ≡ false) × ((get_or front 0 0 == 1) ≡ false)) ⊎ (((length front == 9) ≡ true) × (is_number generation (take 8 (drop 1 front)) ≡ false))).
      inr (⊎_elim (λ (shut : ((length front == 0) ≡ false) × ((get_or front 0 0 == 1) ≡ false)). inl (is_shut shut.0 shut.1))
      (λ (other : ((length front == 9) ≡ true) × (is_number generation (take 8 (drop 1 front)) ≡ false)). inr (eqb-true (length front) 9 other.0, other.1)) some))
      (test_true (length front == 0) (slot_start generation == 0) (get_or front 0 0 == 1) (length front == 9) (is_number generation (take 8 (drop 1 front))) is)
    where
      is_shut : (length front == 0) ≡ false → (get_or front 0 0 == 1) ≡ false → IsClosed (slot_start generation) log
      is_shut some shut = record { there = there (ne_from (length front) 0 some); shut = λ one. ne_from (get_or front 0 0) 1 shut (gate ∙ one) }
        where
          there : length front ≢ 0 → slot_start generation < length log
          there differs = ⊎_elim (λ (less : slot_start generation < length log). less) (λ (le : length log ≤ slot_start generation). absurd (differs (omega (arith, long, le)))) (cases_lt (slot_start generation) (length log))

  -- a generation whose first gate is closed is barred
  pub shut_barred : IsClosed (slot_start generation) log → is_barred generation log ≡ true
  shut_barred is =
      test_shut (length front == 0) (slot_start generation == 0) (get_or front 0 0 == 1) (length front == 9) (is_number generation (take 8 (drop 1 front)))
      (eq_false (length front) 0 (λ none. absurd (omega (arith, none, long, is.there)))) (eq_false (get_or front 0 0) 1 (λ one. is.shut (sym gate ∙ one)))

  -- no block is open at the beginning of a barred generation
  pub barred_none : (q : LogStart) → q.generation ≡ generation → q.offset ≡ 0 → is_barred generation log ≡ true → open_payload log q ≡ None
  barred_none q same zero is = none_unless log q (λ payload opens.
      let o = opened q (slot_rest log q) payload opens in
      let at : address q ≡ slot_start generation = omega (arith, ap slot_start same, zero) in
      let in_file = open_in_file log q payload opens in
      let one : get_or front 0 0 ≡ 1 = gate ∙ ap (λ k. get_or log k 0) (sym at) ∙ sym (gate_byte log q (omega (arith, zero))) ∙ o.gate in
      let num : is_number generation (take 8 (drop 1 front)) ≡ true =
      ap (is_number generation) (number ∙ ap (λ k. take 8 (drop (k + 1) log)) (sym at)) ∙ ap (λ g. is_number g (take 8 (drop (address q + 1) log))) (sym same) ∙ number_open log q payload opens in
      ⊎_elim
      (λ (none : (length front ≡ 0) × (slot_start generation ≢ 0)). absurd (omega (arith, none.0, long, in_file, at)))
      (λ (some : IsClosed (slot_start generation) log ⊎ ((length front ≡ 9) × (is_number generation (take 8 (drop 1 front)) ≡ false))).
      ⊎_elim (λ (closed : IsClosed (slot_start generation) log). closed.shut (sym gate ∙ one)) (λ (other : (length front ≡ 9) × (is_number generation (take 8 (drop 1 front)) ≡ false)). apart num other.1) some)
      (cases_true is))

-- a 0 that is written closes a gate
pub written_closed : (at : ℕ) (log : List ℕ) → IsClosed at (written at (0 ∷ []) log)
written_closed at log = record {
  there = omega (arith, length-written at (0 ∷ []) log);
  shut = λ one. absurd (omega (arith, one, byte));
}
  where
    byte : get_or (written at (0 ∷ []) log) at 0 ≡ 0
    byte =
        sym (get_or-take 1 (drop at (written at (0 ∷ []) log)) 0 0 (omega arith) ∙ get_or-drop at (written at (0 ∷ []) log) 0 0 ∙ ap (λ k. get_or (written at (0 ∷ []) log) k 0) (add-zero at))
        ∙ ap (λ (l : List ℕ). get_or l 0 0) (piece-written at (0 ∷ []) log)

module _ (generation : ℕ) (old new : List ℕ) where
  -- a barred generation stays barred where the write is not at its beginning
  pub barred_stays : (at n : ℕ) → Torn at n old new → (at + n ≤ slot_start generation) ⊎ ((slot_start generation ≡ 0) × (9 ≤ at)) → is_barred generation old ≡ true → is_barred generation new ≡ true
  barred_stays at n torn (inl behind) is = ap (λ (l : List ℕ). bars generation (take 9 l)) (rest_behind at n old new torn (slot_start generation) behind) ∙ is
  barred_stays at n torn (inr before) is = ⊎_elim
      (λ (whole : 9 ≤ length old).
      ap (bars generation) (part_before at n old new torn (slot_start generation) 9 (omega (arith, before.0, before.1)) (omega (arith, before.0, whole))) ∙ is)
      (λ (short : length old < 9). ⊎_elim
      (λ (none : (length (front generation old) ≡ 0) × (slot_start generation ≢ 0)). absurd (none.1 before.0))
      (λ (some : IsClosed (slot_start generation) old ⊎ ((length (front generation old) ≡ 9) × (is_number generation (take 8 (drop 1 (front generation old))) ≡ false))).
      ⊎_elim
      (λ (closed : IsClosed (slot_start generation) old). shut_barred generation new (closed_stays at n old new torn (slot_start generation) (inl (omega (arith, before.0, before.1))) closed))
      (λ (other : (length (front generation old) ≡ 9) × (is_number generation (take 8 (drop 1 (front generation old))) ≡ false)). absurd (omega (arith, other.0, long generation old, short, before.0)))
      some)
      (cases_true generation old is))
      (cases_le 9 (length old))
    where
      cases_le : (a b : ℕ) → (a ≤ b) ⊎ (b < a)
      cases_le a b = ⊎_elim (λ (less : b < a). inr less) (λ (le : a ≤ b). inl le) (cases_lt b a)

  -- The write that bars a generation changes no block of another one.
  pub bar_open : is_barred generation old ≡ false → Torn (slot_start generation) 1 old new → (q : LogStart) → q.generation ≢ generation → open_payload new q ≡ open_payload old q
  bar_open is torn q other = ⊎_elim
      (λ (above : slot_start generation < address q). ap (block_at q) (rest_after (slot_start generation) 1 old new torn q (omega (arith, above))))
      (λ (not_above : address q ≤ slot_start generation). ⊎_elim
      (λ (below : slot_start q.generation < slot_start generation).
      ap (block_at q) (rest_before (slot_start generation) 1 old new torn q (slots_apart q.generation generation below) (omega (arith, slots_apart q.generation generation below, unbarred_reached generation old is))))
      (λ (here : slot_start generation ≤ slot_start q.generation).
      let at : address q ≡ slot_start generation = omega (arith, here, not_above) in
      none new at (after (unbarred_number generation old is)) ∙ sym (none old at (unbarred_number generation old is)))
      (cases_lt (slot_start q.generation) (slot_start generation)))
      (cases_lt (slot_start generation) (address q))
    where
      after : (length old < slot_start generation + 9) ⊎ (is_number generation (take 8 (drop (slot_start generation + 1) old)) ≡ true)
          → (length new < slot_start generation + 9) ⊎ (is_number generation (take 8 (drop (slot_start generation + 1) new)) ≡ true)
      after (inl short) = inl (omega (arith, short, torn.no_longer))
      after (inr same) = inr (ap (λ (l : List ℕ). is_number generation (take 8 l)) torn.after ∙ same)

      none : (log : List ℕ) → address q ≡ slot_start generation → (length log < slot_start generation + 9) ⊎ (is_number generation (take 8 (drop (slot_start generation + 1) log)) ≡ true) → open_payload log q ≡ None
      none log at (inl short) = none_unless log q (λ payload opens. absurd (omega (arith, open_in_file log q payload opens, at, short)))
      none log at (inr number) = none_unless log q (λ payload opens.
          other (one_number q.generation generation (take 8 (drop (address q + 1) log)) (number_open log q payload opens) (ap (λ k. is_number generation (take 8 (drop (k + 1) log))) at ∙ number)))
