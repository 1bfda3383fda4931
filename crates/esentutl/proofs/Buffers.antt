-- A buffer that bytes are read into.
use Rattle.std.proofs.Common.{◌≡◌, ℕ, ◌+◌, ◌≤◌, List, ◌++◌, length, take, drop, ap, ◌∙◌, arith, length-drop, length-take-le, take-add, take_at}

-- bytes that were lent whole and come back whole
pub lent_whole : (new items : List ℕ) (n : ℕ) → length new ≡ length items → n ≡ length items → take n (new ++ drop (length new) items) ≡ new
lent_whole new items n same long = take_at new (drop (length new) items) n (omega arith)

-- the bytes that were read behind the first
pub length-read : (later : List ℕ) (len count : ℕ) → len + count ≤ length later → length (take count (drop len later)) ≡ count
length-read later len count within = length-take-le count (drop len later) (omega (arith, length-drop len later))

-- the first bytes, and those that were read behind them
pub take-read : (later front : List ℕ) (len count : ℕ) → take len later ≡ front → take (len + count) later ≡ front ++ take count (drop len later)
take-read later front len count same = take-add len count later ∙ ap (λ (l : List ℕ). l ++ take count (drop len later)) same
