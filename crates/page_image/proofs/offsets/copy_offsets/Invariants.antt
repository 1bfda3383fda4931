use Rattle.std.proofs.Common.{◌-◌, ◌≡◌, ℕ, ◌+◌, ◌<◌, get_or}
use Rattle.page_image.proofs.offsets.copy_offsets.Given as goal

abbrev pub invariant-loop-k : goal.invariant-loop-k
invariant-loop-k l = (j : ℕ) → j < l.k → get_or l.to j 0 ≡ get_or l.offsets (l.at + j) 0 - (l.start - 32)
