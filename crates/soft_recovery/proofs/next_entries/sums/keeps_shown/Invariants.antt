use Rattle.std.proofs.Common.{◌≡◌, true, take}
use Rattle.std.specs.List.{list_all}
use Rattle.soft_recovery.specs.ShownSums.{keeps_column}
use Rattle.soft_recovery.proofs.next_entries.sums.keeps_shown.Given as goal

-- the columns so far have the numbers that are seen
abbrev pub invariant-loop-column : goal.invariant-loop-column
invariant-loop-column l = list_all (keeps_column l.engine l.session.0 l.table.0 l.bookmark l.row l.values) (take l.column-index l.column-items) ≡ true
