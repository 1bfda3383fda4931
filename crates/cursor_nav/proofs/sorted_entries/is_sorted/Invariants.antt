use Rattle.std.proofs.Common.{◌≡◌, map, length}
use Rattle.cursor_nav.specs.Places.{are_sorted, pair_of}
use Rattle.cursor_nav.proofs.sorted_entries.is_sorted.Given as goal

-- the rest is sorted where all are
abbrev pub invariant-loop-first : goal.invariant-loop-first
invariant-loop-first l = are_sorted (map pair_of l.rest) ≡ are_sorted (map pair_of l.entries)

abbrev pub decreases-loop-first : goal.decreases-loop-first
decreases-loop-first l = length l.rest
