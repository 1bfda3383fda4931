-- A block by its first bytes and by its payload.
use Rattle.std.proofs.Common.{◌≡◌, ℕ, ◌+◌, ◌-◌, ◌≤◌, ◌<◌, Bool, true, false, ◌&&◌, ◌==◌, nat_le, Some, None, List, length, get_or, take, drop, sym, ◌∙◌, ap, arith, length-take, length-drop}
use Rattle.std.specs.Int.{w32, w64, from_le_bytes}
use Rattle.std.proofs.lemmas.Bool.{eqb-true, eq-eqb, leb-true, le-leb, and_from, and_parts}
use Rattle.std.proofs.lemmas.List.{take-take, drop-drop}
use Rattle.jet_volume.specs.declared.files.LogStart.{LogStart}
use Rattle.log_ring.specs.Blocks.{address, slot_rest, length_field, is_of, begins_block, open_payload}
use Rattle.log_ring.proofs.Windows.{same_part, take-drop-take}
use Rattle.log_ring.proofs.Opened.{opened, opens, first_same}
use Rattle.log_ring.proofs.Paths.{open_in_file}
use Rattle.log_ring.proofs.Barring.{apart, none_unless}

module _ (place : LogStart) (a b : List ℕ) (same : take 21 a ≡ take 21 b) where
  is_of_same : is_of place a ≡ is_of place b
  unfolding is_of
  is_of_same =
      ap (λ (l : List ℕ). from_le_bytes w64 l == place.generation && from_le_bytes w64 (take 8 (drop 9 a)) == place.position) (same_part 1 8 21 a b same (omega arith))
      ∙ ap (λ (l : List ℕ). from_le_bytes w64 (take 8 (drop 1 b)) == place.generation && from_le_bytes w64 l == place.position) (same_part 9 8 21 a b same (omega arith))

  pub length_field_same : length_field a ≡ length_field b
  unfolding length_field
  length_field_same = ap (from_le_bytes w32) (same_part 17 4 21 a b same (omega arith))

  pub begins_same : begins_block place a ≡ begins_block place b
  begins_same =
      ap (λ (n : ℕ). n == 1 && is_of place a && nat_le 1 (length_field a) && nat_le (length_field a) 65500 && nat_le (place.offset + 22 + length_field a) 1048576) (first_same 21 a b same (omega arith))
      ∙ ap (λ (t : Bool). get_or b 0 0 == 1 && t && nat_le 1 (length_field a) && nat_le (length_field a) 65500 && nat_le (place.offset + 22 + length_field a) 1048576) is_of_same
      ∙ ap (λ (n : ℕ). get_or b 0 0 == 1 && is_of place b && nat_le 1 n && nat_le n 65500 && nat_le (place.offset + 22 + n) 1048576) length_field_same

pub begins_within : (place : LogStart) (block : List ℕ) → begins_block place block ≡ true → (1 ≤ length_field block) × (length_field block ≤ 65500) × (place.offset + 22 + length_field block ≤ 1048576)
begins_within place block is =
    let fits = and_parts _ _ is in
    let most = and_parts _ _ fits.0 in
    let some = and_parts _ _ most.0 in
    (leb-true _ _ some.1, leb-true _ _ most.1, leb-true _ _ fits.1)

module _ (log : List ℕ) (place : LogStart) where
  abbrev header : List ℕ
  header = take 21 (drop (address place) log)

  front : 21 ≤ 1048576 - place.offset → take 21 (slot_rest log place) ≡ take 21 header
  front room = take-take 21 (1048576 - place.offset) (drop (address place) log) room ∙ sym (take-take 21 21 (drop (address place) log) (omega arith))

  -- an open block begins so
  pub open_begins : (payload : List ℕ) → open_payload log place ≡ Some payload → (begins_block place header ≡ true) × (length_field header ≡ length payload)
  open_begins payload is =
      let o = opened place (slot_rest log place) payload is in
      let same = front (omega (arith, o.fits)) in
      let n = length_field (slot_rest log place) in
      let gate : (get_or (slot_rest log place) 0 0 == 1) ≡ true = eq-eqb (get_or (slot_rest log place) 0 0) 1 o.gate in
      let test : begins_block place (slot_rest log place) ≡ true =
      and_from _ _ (and_from _ _ (and_from _ _ (and_from _ _ gate o.of) (le-leb 1 n (omega (arith, o.len, o.some)))) (le-leb n 65500 (omega (arith, o.len, o.most)))) (le-leb (place.offset + 22 + n) 1048576 (omega (arith, o.len, o.fits))) in
      (sym (begins_same place (slot_rest log place) header same) ∙ test, sym (length_field_same place (slot_rest log place) header same) ∙ o.len)

  -- no block is open where it does not begin so, or where the file is short
  pub none_begins : begins_block place header ≡ false → open_payload log place ≡ None
  none_begins shut = none_unless log place (λ payload is. apart (open_begins payload is).0 shut)

  pub none_short : length log < address place + 21 → open_payload log place ≡ None
  none_short short = none_unless log place (λ payload is. absurd (omega (arith, open_in_file log place payload is, short)))

  pub none_cut : (n : ℕ) → n ≡ length_field header → length log < address place + 21 + n → open_payload log place ≡ None
  none_cut n is short = none_unless log place (λ payload opens. absurd (omega (arith, open_in_file log place payload opens, short, is, (open_begins payload opens).1)))

  -- a block that begins so and is whole is open
  pub begins_open : (n : ℕ) → begins_block place header ≡ true → n ≡ length_field header → address place + 21 + n ≤ length log → open_payload log place ≡ Some (take n (drop (address place + 21) log))
  begins_open n begins is whole =
      let within = begins_within place header begins in
      let room : 21 + n ≤ 1048576 - place.offset = omega (arith, is, within.2) in
      let same = front (omega (arith, room)) in
      let test : begins_block place (slot_rest log place) ≡ true = begins_same place (slot_rest log place) header same ∙ begins in
      let fits = and_parts _ _ test in
      let most = and_parts _ _ fits.0 in
      let some = and_parts _ _ most.0 in
      let of = and_parts _ _ some.0 in
      let payload = take n (drop (address place + 21) log) in
      let long : length payload ≡ n = omega (arith, length-take n (drop (address place + 21) log), length-drop (address place + 21) log, whole) in
      let len : length_field (slot_rest log place) ≡ length payload = length_field_same place (slot_rest log place) header same ∙ sym is ∙ sym long in
      opens place (slot_rest log place) payload (record {
        gate = eqb-true _ _ of.0;
        of = of.1;
        len = len;
        some = omega (arith, long, is, within.0);
        most = omega (arith, long, is, within.1);
        fits = omega (arith, long, is, within.2);
        whole = omega (arith, long, length-take (1048576 - place.offset) (drop (address place) log), length-drop (address place) log, room, whole);
        is = sym (ap (λ k. take k (drop 21 (slot_rest log place))) long ∙ take-drop-take n 21 (1048576 - place.offset) (drop (address place) log) room ∙ ap (take n) (drop-drop 21 (address place) log));
      })
