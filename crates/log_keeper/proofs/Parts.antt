-- Parts of a log that are given one after the other, and how many bytes a block has.
use Rattle.std.proofs.Common.{◌≡◌, ℕ, ◌+◌, ◌-◌, ◌≤◌, min, List, ◌++◌, length, take, drop, sym, ◌∙◌, ap, arith, take-append-drop, length-take, length-drop}
use Rattle.std.proofs.Math.Nat.{le-min, min-le_right, min_comm, sub-add-min_cancel}
use Rattle.std.proofs.Math.Seq.{take-append-add, drop-drop}
use Rattle.log_keeper.specs.Keeping.{between}

-- the first a and the next n of a list
take_sum : (a n : ℕ) (xs : List ℕ) → a ≤ length xs → take (a + n) xs ≡ take a xs ++ take n (drop a xs)
take_sum a n xs le =
    let front : length (take a xs) ≡ a = omega (arith, length-take a xs, le) in
    ap (λ (l : List ℕ). take (a + n) l) (sym (take-append-drop a xs))
    ∙ ap (λ (m : ℕ). take (m + n) (take a xs ++ drop a xs)) (sym front)
    ∙ take-append-add (take a xs) (drop a xs) n

pub between_more : (base at n : ℕ) (whole : List ℕ) → base ≤ at → at ≤ length whole → between base (at + n) whole ≡ between base at whole ++ take n (drop at whole)
between_more base at n whole from within =
    let a : ℕ = at - base in
    let sum : at + n - base ≡ a + n = omega (arith, from) in
    let here : base + a ≡ at = omega (arith, from) in
    ap (λ (m : ℕ). take m (drop base whole)) sum
    ∙ take_sum a n (drop base whole) (omega (arith, length-drop base whole, within, from))
    ∙ ap (λ (l : List ℕ). between base at whole ++ take n l) (drop-drop a base whole ∙ ap (λ (m : ℕ). drop m whole) here)

-- a block of the bytes that are left has one at least, and at most all
pub block_some : (left : ℕ) → 1 ≤ left → 1 ≤ min 65500 left
block_some left some = le-min (omega arith) some

pub block_within : (left : ℕ) → min 65500 left ≤ left
block_within left = min-le_right 65500 left

pub block_rest : (left : ℕ) → left - 65500 ≡ left - min 65500 left
block_rest left = omega (arith, sub-add-min_cancel left 65500, min_comm left 65500, min-le_right 65500 left)
