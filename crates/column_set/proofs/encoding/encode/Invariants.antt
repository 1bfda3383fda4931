use Rattle.std.proofs.Common.{◌≡◌, ◌++◌, length, take}
use Rattle.std.specs.Int.{w16, to_le_bytes}
use Rattle.std.specs.List.{flat_map}
use Rattle.column_set.specs.Rows.{value_bytes}
use Rattle.column_set.proofs.encoding.encode.Given as goal

abbrev pub invariant-loop-column : goal.invariant-loop-column
invariant-loop-column l = l.bytes.items ≡ to_le_bytes w16 (length l.values) ++ flat_map value_bytes (take l.column-index l.values)
