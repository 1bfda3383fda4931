use Rattle.std.proofs.Common.{◌≡◌, ◌++◌, take}
use Rattle.std.specs.List.{flat_map}
use Rattle.column_set.specs.Rows.{value_bytes}
use Rattle.column_set.proofs.HereRows.{column_here}
use Rattle.column_set.proofs.encoding_records.put_values.Given as goal

abbrev pub invariant-loop-value : goal.invariant-loop-value
invariant-loop-value l = l.bytes.items ≡ l.fn.bytes.items ++ flat_map value_bytes (column_here l.column (take l.value-index l.values))
