-- How even the two parts of a cut page are.
use Rattle.std.specs.Prelude.{ℕ, List, max, sum, take, drop}

-- how much the nodes take in the larger of the two parts
abbrev pub larger_part : List ℕ → ℕ → ℕ
larger_part sizes m = max (sum (take m sizes)) (sum (drop m sizes))
