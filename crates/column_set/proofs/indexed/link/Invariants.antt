use Rattle.std.proofs.Common.{◌≤◌, length}
use Rattle.column_set.specs.NameIndex.{IsLinkedFrom}
use Rattle.column_set.proofs.indexed.link.Given as goal

abbrev pub invariant-loop-place : goal.invariant-loop-place
invariant-loop-place l = record {
  within : l.place ≤ length l.columns;
  linked : IsLinkedFrom l.columns l.place l.firsts l.nexts;
}

abbrev pub decreases-loop-place : goal.decreases-loop-place
decreases-loop-place l = l.place
