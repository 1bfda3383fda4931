-- What a torn write leaves of the bytes before it and behind it.
use Rattle.std.proofs.Common.{◌≡◌, ℕ, ◌+◌, ◌-◌, ◌≤◌, min, List, length, take, drop, replicate, sym, ◌∙◌, ap, arith, rules}
use Rattle.std.proofs.lemmas.List.{same_lists, places, take_min, drop-drop}
use Rattle.jet_volume.specs.Crash.{Torn, written}

-- the piece stands where it was written
pub piece-written : (at : ℕ) (piece bytes : List ℕ) → take (length piece) (drop at (written at piece bytes)) ≡ piece
piece-written at piece bytes = same_lists _ _ (search (rules, places)) (λ k d h. grind (arith, places))

-- a part of a part
pub take-drop-take : (n a m : ℕ) (xs : List ℕ) → a + n ≤ m → take n (drop a (take m xs)) ≡ take n (drop a xs)
take-drop-take n a m xs le = same_lists _ _ (search (rules, places)) (λ k d h. grind (arith, places))

pub same_part : (a k m : ℕ) (xs ys : List ℕ) → take m xs ≡ take m ys → a + k ≤ m → take k (drop a xs) ≡ take k (drop a ys)
same_part a k m xs ys same le = sym (take-drop-take k a m xs le) ∙ ap (λ (l : List ℕ). take k (drop a l)) same ∙ take-drop-take k a m ys le

module _ (at n : ℕ) (old new : List ℕ) (torn : Torn at n old new) where
  -- a part before the write, all of it in the file
  pub part_before : (a k : ℕ) → a + k ≤ at → a + k ≤ length old → take k (drop a new) ≡ take k (drop a old)
  part_before a k le within =
      let same : take (min at (length old)) new ≡ take (min at (length old)) old = torn.before ∙ sym (take_min at old) in
      same_part a k (min at (length old)) new old same (omega arith)

  -- what stands behind the write
  pub rest_behind : (a : ℕ) → at + n ≤ a → drop a new ≡ drop a old
  rest_behind a le =
      let k = a - (at + n) in
      let whole : a ≡ at + n + k = omega (arith, le) in
      rw whole (sym (drop-drop k (at + n) new) ∙ ap (λ (l : List ℕ). drop k l) torn.after ∙ drop-drop k (at + n) old)
