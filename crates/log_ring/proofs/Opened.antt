-- What it takes for a block to be open.
use Rattle.std.proofs.Common.{◌≡◌, ◌≢◌, ℕ, ◌+◌, ◌≤◌, ◌<◌, Bool, true, false, ◌&&◌, ◌==◌, nat_le, if◌then◌else◌, Some, None, List, length, get_or, take, drop, refl, sym, ◌∙◌, ap, subst, arith, length-take, length-drop}
use Rattle.std.proofs.lemmas.List.{get_or-take}
use Rattle.std.specs.Int.{w32, w64, from_le_bytes}
use Rattle.std.proofs.lemmas.Bool.{eqb-true, eq-eqb, leb-true, le-leb, and_from, and_parts}
use Rattle.std.proofs.lemmas.Bool.Decides.{nat_tests}
use Rattle.jet_volume.specs.declared.files.LogStart.{LogStart}
use Rattle.log_ring.specs.Blocks.{length_field, is_of, is_open, block_at}
use Rattle.log_ring.proofs.Windows.{same_part}

-- a block with this payload is open
pub record Opened (place : LogStart) (block payload : List ℕ) : Type 0 where
  pub gate : get_or block 0 0 ≡ 1
  pub of : is_of place block ≡ true
  pub len : length_field block ≡ length payload
  pub some : 1 ≤ length payload
  pub most : length payload ≤ 65500
  pub fits : place.offset + 22 + length payload ≤ 1048576
  pub whole : 21 + length payload ≤ length block
  pub is : payload ≡ take (length payload) (drop 21 block)

some_if : {A : Type 0} (b : Bool) (x y : A) → (if b then Some x else None) ≡ Some y → (b ≡ true) × (x ≡ y)
some_if true x y is = (refl, cc)
some_if false x y is = cc

none_if : {A : Type 0} (b : Bool) (x : A) → b ≡ false → (if b then Some x else None) ≡ None
none_if true x is = cc
none_if false x is = refl

pub length_part : (n : ℕ) (block : List ℕ) → 21 + n ≤ length block → length (take n (drop 21 block)) ≡ n
length_part n block le = omega (arith, length-take n (drop 21 block), length-drop 21 block)

pub opened : (place : LogStart) (block payload : List ℕ) → block_at place block ≡ Some payload → Opened place block payload
opened place block payload is =
    let all = some_if (is_open place block) (take (length_field block) (drop 21 block)) payload is in
    let whole = and_parts _ _ all.0 in
    let fits = and_parts _ _ whole.0 in
    let most = and_parts _ _ fits.0 in
    let some = and_parts _ _ most.0 in
    let of = and_parts _ _ some.0 in
    let there : 21 + length_field block ≤ length block = leb-true _ _ whole.1 in
    let len : length_field block ≡ length payload = sym (length_part (length_field block) block there) ∙ ap length all.1 in
    record {
      gate = eqb-true _ _ of.0;
      of = of.1;
      len = len;
      some = subst (λ n. 1 ≤ n) len (leb-true _ _ some.1);
      most = subst (λ n. n ≤ 65500) len (leb-true _ _ most.1);
      fits = subst (λ n. place.offset + 22 + n ≤ 1048576) len (leb-true _ _ fits.1);
      whole = subst (λ n. 21 + n ≤ length block) len there;
      is = subst (λ n. payload ≡ take n (drop 21 block)) len (sym all.1);
    }

pub opens : (place : LogStart) (block payload : List ℕ) → Opened place block payload → block_at place block ≡ Some payload
opens place block payload o =
    let n = length_field block in
    let le_some : nat_le 1 n ≡ true = le-leb 1 n (omega (arith, o.len, o.some)) in
    let le_most : nat_le n 65500 ≡ true = le-leb n 65500 (omega (arith, o.len, o.most)) in
    let le_fits : nat_le (place.offset + 22 + n) 1048576 ≡ true = le-leb (place.offset + 22 + n) 1048576 (omega (arith, o.len, o.fits)) in
    let le_whole : nat_le (21 + n) (length block) ≡ true = le-leb (21 + n) (length block) (omega (arith, o.len, o.whole)) in
    let gate : (get_or block 0 0 == 1) ≡ true = eq-eqb (get_or block 0 0) 1 o.gate in
    let test : is_open place block ≡ true = and_from _ _ (and_from _ _ (and_from _ _ (and_from _ _ (and_from _ _ gate o.of) le_some) le_most) le_fits) le_whole in
    ap (λ (b : Bool). if b then Some (take n (drop 21 block)) else None) test
    ∙ ap (λ (l : List ℕ). Some l) (ap (λ (k : ℕ). take k (drop 21 block)) o.len ∙ sym o.is)

pub first_same : (k : ℕ) (new old : List ℕ) → take k new ≡ take k old → 0 < k → get_or new 0 0 ≡ get_or old 0 0
first_same k new old same some = sym (get_or-take k new 0 0 some) ∙ ap (λ (l : List ℕ). get_or l 0 0) same ∙ get_or-take k old 0 0 some

-- a block stays open where its bytes stay
pub stays_open : (place : LogStart) (old new payload : List ℕ) (k : ℕ) → 21 + length payload ≤ k → take k new ≡ take k old → Opened place old payload → Opened place new payload
unfolding length_field is_of
stays_open place old new payload k le same o =
    let m = length payload in
    let size : 21 + m ≤ length new = omega (arith, length-take k new, length-take k old, ap length same, o.whole) in
    record {
      gate = first_same k new old same (omega (arith, le)) ∙ o.gate;
      of =
          ap (λ (l : List ℕ). from_le_bytes w64 l == place.generation && from_le_bytes w64 (take 8 (drop 9 new)) == place.position) (same_part 1 8 k new old same (omega (arith, le)))
          ∙ ap (λ (l : List ℕ). from_le_bytes w64 (take 8 (drop 1 old)) == place.generation && from_le_bytes w64 l == place.position) (same_part 9 8 k new old same (omega (arith, le)))
          ∙ o.of;
      len = ap (λ (l : List ℕ). from_le_bytes w32 l) (same_part 17 4 k new old same (omega (arith, le))) ∙ o.len;
      some = o.some;
      most = o.most;
      fits = o.fits;
      whole = size;
      is = o.is ∙ sym (same_part 21 m k new old same le);
    }

-- a block whose gate is not 1 is not open
pub closed_gate : (place : LogStart) (block : List ℕ) → get_or block 0 0 ≢ 1 → block_at place block ≡ None
closed_gate place block shut = none_if (is_open place block) (take (length_field block) (drop 21 block)) (shut_test (get_or block 0 0 == 1) (is_of place block) (nat_le 1 (length_field block)) (nat_le (length_field block) 65500) (nat_le (place.offset + 22 + length_field block) 1048576) (nat_le (21 + length_field block) (length block)) (not_one (get_or block 0 0) shut))
  where
    shut_test : (a b c d e f : Bool) → a ≡ false → (a && b && c && d && e && f) ≡ false
    shut_test true b c d e f is = cc
    shut_test false b c d e f is = refl

    not_one : (n : ℕ) → n ≢ 1 → (n == 1) ≡ false
    not_one n differs = grind (arith, nat_tests)
