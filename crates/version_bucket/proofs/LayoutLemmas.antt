-- How a stored piece reads.
use Rattle.std.proofs.Common.{◌≡◌, ℕ, ◌+◌, ◌-◌, ◌*◌, ◌/◌, ◌≤◌, List, ◌++◌, length, take, drop, replicate, sym, ap, ◌∙◌, arith, length-append, length-take, length-drop, w64, append_assoc, take-take, drop-drop}
use Rattle.std.proofs.lemmas.List.{drop-append-le, drop-take, length-replicate, take-append-le, take-replicate, take_all}
use Rattle.std.proofs.Math.Seq.{drop-append_seam, take-append_seam}
use Rattle.std.proofs.lemmas.Nat.{from_le_bytes-to_le_bytes_8}
use Rattle.std.specs.Int.{to_le_bytes, from_le_bytes}
use Rattle.version_bucket.specs.Layout.{HasPiece, cost, length_at, padding, piece_at, stored}

pub length-stored : (p : List ℕ) → length (stored p) ≡ cost p
length-stored p = omega (arith, length-append p (padding p), length-replicate {A = ℕ} ((length p + 7) / 8 * 8 - length p) 0)

-- the three writes of a piece
pub stored-written : (bytes first second third : List ℕ) (p : List ℕ) (k : ℕ) → first ≡ bytes ++ to_le_bytes w64 (length p) → second ≡ first ++ p → third ≡ second ++ take (k - length p) (replicate 8 0)
    → k ≡ (length p + 7) / 8 * 8 → third ≡ bytes ++ stored p
stored-written bytes first second third p k a b d e =
    let few : k - length p ≤ 8 = omega arith in
    d ∙ ap (λ l. l ++ take (k - length p) (replicate 8 0)) (b ∙ ap (λ l. l ++ p) a) ∙ append_assoc (bytes ++ to_le_bytes w64 (length p)) p (take (k - length p) (replicate 8 0))
    ∙ append_assoc bytes (to_le_bytes w64 (length p)) (p ++ take (k - length p) (replicate 8 0)) ∙ ap (λ l. bytes ++ (to_le_bytes w64 (length p) ++ (p ++ l))) (take-replicate (k - length p) 8 0 few ∙ ap (λ j. replicate (j - length p) 0) e)

module _ (bytes : List ℕ) (a : ℕ) (p : List ℕ) (lies : take (cost p) (drop a bytes) ≡ stored p) where
  pub within : a + cost p ≤ length bytes
  within = omega (arith, ap length lies, length-stored p, length-take (cost p) (drop a bytes), length-drop a bytes)

  seen : (n : ℕ) → n ≤ cost p → take n (drop a bytes) ≡ take n (stored p)
  seen n le = sym (take-take n (cost p) (drop a bytes) le) ∙ ap (λ l. take n l) lies

  pub length_at-stored : length p ≤ 4096 → length_at bytes a ≡ length p
  length_at-stored le = ap (λ l. from_le_bytes w64 l) (seen 8 (omega arith)) ∙ from_le_bytes-to_le_bytes_8 (length p) (omega arith)

  pub piece_at-stored : length p ≤ 4096 → piece_at bytes a ≡ p
  piece_at-stored le =
      let n = length p in
      ap (λ k. take k (drop (a + 8) bytes)) (length_at-stored le) ∙ ap (λ l. take n l) (sym (drop-drop 8 a bytes)) ∙ sym (drop-take 8 n (drop a bytes)) ∙ ap (λ l. drop 8 l) (seen (8 + n) (omega arith)) ∙ drop-take 8 n (stored p) ∙ take-append_seam p (padding p)

  pub HasPiece-stored : length p ≤ 4096 → HasPiece bytes a
  HasPiece-stored le = omega (arith, within, length_at-stored le)

-- what lies below the end stays where more is written
pub take-more : (bytes more : List ℕ) (a n : ℕ) → a + n ≤ length bytes → take n (drop a (bytes ++ more)) ≡ take n (drop a bytes)
take-more bytes more a n le =
    ap (λ l. take n l) (drop-append-le a bytes more (omega arith)) ∙ take-append-le n (drop a bytes) more (omega (arith, length-drop a bytes))

pub stored-behind : (bytes p : List ℕ) → take (cost p) (drop (length bytes) (bytes ++ stored p)) ≡ stored p
stored-behind bytes p = ap (λ l. take (cost p) l) (drop-append_seam bytes (stored p)) ∙ take_all (cost p) (stored p) (omega (arith, length-stored p))
