use Rattle.std.proofs.Common.{◌≡◌, ◌≤◌, length}
use Rattle.tests_trees.proofs.indexes.longer.Given as goal

abbrev pub invariant-loop-byte : goal.invariant-loop-byte
invariant-loop-byte l = (length l.bytes ≡ 255) × (l.size ≤ 255)
