use Rattle.std.proofs.Common.{◌≡◌, take, true}
use Rattle.temp_table.specs.TempColumns.{are_short}
use Rattle.temp_table.proofs.columns.are_short.Given as goal

abbrev pub invariant-loop-column : goal.invariant-loop-column
invariant-loop-column l = are_short (take l.column-index l.columns) ≡ true
