use Rattle.std.proofs.Common.{◌≡◌, drop}
use Rattle.index_derive.specs.Columns.{columns_of}
use Rattle.index_derive.specs.Entries.{has_double_number}
use Rattle.index_derive.proofs.legality.has_double_column.Given as goal

-- the columns so far stand once
abbrev pub invariant-loop-i : goal.invariant-loop-i
invariant-loop-i l = has_double_number (columns_of (drop l.i l.segments)) ≡ has_double_number (columns_of l.segments)
