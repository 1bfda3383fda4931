use Rattle.std.proofs.Common.{◌≡◌, ℕ, ◌+◌, ◌<◌, ◌≤◌, get_or}
use Rattle.page_image.proofs.offsets.move_offsets.Given as goal

abbrev pub invariant-loop-k : goal.invariant-loop-k
invariant-loop-k l = record {
  below : (j : ℕ) → j < l.from → get_or l.offsets j 0 ≡ get_or l.fn.offsets j 0;
  moved : (j : ℕ) → l.from ≤ j → j < l.k → get_or l.offsets j 0 + l.old ≡ get_or l.fn.offsets j 0 + l.new;
  still : (j : ℕ) → l.k ≤ j → get_or l.offsets j 0 ≡ get_or l.fn.offsets j 0;
}
