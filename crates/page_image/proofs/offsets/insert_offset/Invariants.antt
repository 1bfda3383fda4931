use Rattle.std.proofs.Common.{◌-◌, ◌≡◌, ℕ, ◌+◌, ◌<◌, ◌≤◌, get_or}
use Rattle.page_image.proofs.offsets.insert_offset.Given as goal

abbrev pub invariant-loop-k : goal.invariant-loop-k
invariant-loop-k l = record {
  from : l.i ≤ l.k;
  to : l.k ≤ l.count;
  still : (j : ℕ) → j < l.k → get_or l.offsets j 0 ≡ get_or l.fn.offsets j 0;
  moved : (j : ℕ) → l.k ≤ j → j < l.count → get_or l.offsets (j + 1) 0 ≡ get_or l.fn.offsets j 0 + l.size;
}

abbrev pub decreases-loop-k : goal.decreases-loop-k
decreases-loop-k l = l.k - l.i
