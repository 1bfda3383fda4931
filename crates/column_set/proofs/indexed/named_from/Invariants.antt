use Rattle.std.proofs.Common.{◌-◌, length}
use Rattle.column_set.specs.NameIndex.{IsSoughtFrom}
use Rattle.column_set.proofs.indexed.named_from.Given as goal

abbrev pub invariant-loop-column : goal.invariant-loop-column
invariant-loop-column l = IsSoughtFrom l.columns l.name l.place

abbrev pub decreases-loop-column : goal.decreases-loop-column
decreases-loop-column l = length l.columns - l.place
