-- A slice that is read into part by part.
use Rattle.std.proofs.Common.{◌≡◌, ℕ, ◌+◌, ◌≤◌, List, ◌++◌, length, take, drop, sym, ◌∙◌, ap, ap₂, arith, length-append}
use Rattle.std.proofs.Math.Seq.{take-add}
use Rattle.std.proofs.lemmas.List.{take_at, drop_at, drop-drop, take-append-le, length-take-le}
use borrow.Rule.Slice.PartMut.{put_mid, post_of}

-- a part of a slice was read into, behind what was read before
pub reads_more : (got n k at : ℕ) (into piece bytes : List ℕ) → got ≤ length into → n ≤ length piece → take got into ≡ take got (drop at bytes)
    → take n piece ≡ take n (drop (at + got) bytes) → take (got + n) (put_mid got k into piece) ≡ take (got + n) (drop at bytes)
reads_more got n k at into piece bytes within few before now =
    let front = length-take-le got into within in
    take-add got n (put_mid got k into piece)
    ∙ ap₂ (λ (a b : List ℕ). a ++ take n b) (take_at (take got into) (piece ++ post_of got k into) got front) (drop_at (take got into) (piece ++ post_of got k into) got front)
    ∙ ap₂ (λ (a b : List ℕ). a ++ b) before (take-append-le n piece (post_of got k into) few ∙ now ∙ ap (λ (l : List ℕ). take n l) (sym (drop-drop got at bytes)))
    ∙ sym (take-add got n (drop at bytes))

-- it lies within the slice
pub part_within : (got n k : ℕ) (into piece : List ℕ) → got ≤ length into → n ≤ length piece → got + n ≤ length (put_mid got k into piece)
part_within got n k into piece within few =
    omega (arith, few, length-take-le got into within, length-append (take got into) (piece ++ post_of got k into), length-append piece (post_of got k into))
