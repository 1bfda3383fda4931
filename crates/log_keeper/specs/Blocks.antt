-- Where a log ends once bytes are given to it in blocks. Lengths alone decide it.
use Rattle.std.specs.Prelude.{ℕ, zero, suc, ◌-◌, min, Option, Some, None}
use Rattle.jet_volume.specs.declared.files.LogStart.{LogStart}
use Rattle.log_ring.specs.Blocks.{behind}
use Rattle.log_ring.specs.Gates.{place_for}

-- where the log ends, and how many of the bytes found no room
pub record Given : Type 0 where
  pub end : LogStart
  pub left : ℕ

-- what follows the next block where it has a place, and that all bytes are left where it has none
abbrev pub given_at : Option LogStart → LogStart → ℕ → (LogStart → Given) → Given
given_at None end left following = record { end = end; left = left }
given_at (Some place) end left following = following place

-- so many bytes in blocks of 65,500 and a last one of those that are left, at most so many blocks
abbrev pub given_in_blocks : ℕ → ℕ → LogStart → ℕ → Given
given_in_blocks zero standing end left = record { end = end; left = left }
given_in_blocks (suc blocks) standing end zero = record { end = end; left = zero }
given_in_blocks (suc blocks) standing end (suc others) =
    given_at (place_for standing end (min 65500 (suc others))) end (suc others)
    (λ place. given_in_blocks blocks standing (behind place (min 65500 (suc others))) (suc others - 65500))

-- the same with as many blocks as it takes, behind a checkpoint of this generation: no more than bytes, since each has one
abbrev pub given_in : ℕ → LogStart → ℕ → Given
given_in standing end count = given_in_blocks count standing end count
