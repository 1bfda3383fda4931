-- Told bytes that are read and written in pieces.
use Rattle.std.proofs.Common.{◌≡◌, ℕ, ◌+◌, List, [], ◌++◌, length, take, drop, Option, Some, None, refl, ◌∙◌, ap, sym, append_assoc, arith}
use Rattle.std.proofs.Math.Seq.{take-add}
use Rattle.std.proofs.lemmas.List.{take_at, append-nil, drop-drop, take-append-drop}
use Rattle.std.specs.Io.KnownBytes.{prepend_known, append_known}

-- two pieces read, one behind the other
pub prepend_twice : (a b : List ℕ) (known : Option (List ℕ)) → prepend_known a (prepend_known b known) ≡ prepend_known (a ++ b) known
prepend_twice a b None = refl
prepend_twice a b (Some rest) = ap (λ (l : List ℕ). Some l) (sym (append_assoc a b rest))

-- two pieces written, one behind the other
pub append_twice : (known : Option (List ℕ)) (a b : List ℕ) → append_known (append_known known a) b ≡ append_known known (a ++ b)
append_twice None a b = refl
append_twice (Some so_far) a b = ap (λ (l : List ℕ). Some l) (append_assoc so_far a b)

-- no byte is read yet
pub prepend_none : (known : Option (List ℕ)) → known ≡ prepend_known [] known
prepend_none None = refl
prepend_none (Some rest) = refl

-- no byte is written yet
pub append_none : (known : Option (List ℕ)) → known ≡ append_known known []
append_none None = refl
append_none (Some so_far) = ap (λ (l : List ℕ). Some l) (sym (append-nil so_far))

-- a longer front of the bytes was read
pub reads_on : (first now next : Option (List ℕ)) (bytes later : List ℕ) (len n : ℕ) → first ≡ prepend_known (take len bytes) now
    → now ≡ prepend_known (take n (drop len later)) next → take len later ≡ take len bytes → first ≡ prepend_known (take (len + n) later) next
reads_on first now next bytes later len n given reads front =
    given ∙ ap (prepend_known (take len bytes)) reads ∙ prepend_twice (take len bytes) (take n (drop len later)) next
    ∙ ap (λ (l : List ℕ). prepend_known (l ++ take n (drop len later)) next) (sym front)
    ∙ ap (λ (l : List ℕ). prepend_known l next) (sym (take-add len n later))

-- a longer front of the piece was written
pub writes_on : (first now next : Option (List ℕ)) (piece : List ℕ) (written n : ℕ) → now ≡ append_known first (take written piece)
    → next ≡ append_known now (take n (drop written piece)) → next ≡ append_known first (take (written + n) piece)
writes_on first now next piece written n taken writes =
    writes ∙ ap (λ known. append_known known (take n (drop written piece))) taken ∙ append_twice first (take written piece) (take n (drop written piece))
    ∙ ap (append_known first) (sym (take-add written n piece))

-- the bytes that are left begin with those that were copied
pub copies_front : (copied later bytes : List ℕ) (next k : ℕ) → copied ≡ take k (drop next bytes) → length copied ≡ k
    → drop next bytes ≡ take k (copied ++ later) ++ drop (next + k) bytes
copies_front copied later bytes next k is long =
    sym (take-append-drop k (drop next bytes)) ∙ ap (λ (l : List ℕ). l ++ drop k (drop next bytes)) (sym is ∙ sym (take_at copied later k long))
    ∙ ap (λ (l : List ℕ). take k (copied ++ later) ++ l) (drop-drop k next bytes)

-- bytes that were lent whole and come back whole
pub lent_whole : (new items : List ℕ) (n : ℕ) → length new ≡ length items → n ≡ length items → take n (new ++ drop (length new) items) ≡ new
lent_whole new items n same long = take_at new (drop (length new) items) n (omega arith)
