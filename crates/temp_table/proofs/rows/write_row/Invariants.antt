use Rattle.std.proofs.Common.{◌≡◌, map, take}
use Rattle.std.specs.Prelude.{option_copied}
use Rattle.temp_table.specs.RowBytes.{row_bytes}
use Rattle.temp_table.proofs.rows.write_row.Given as goal

abbrev pub invariant-loop-value : goal.invariant-loop-value
invariant-loop-value l = l.bytes.items ≡ row_bytes (map option_copied (take l.value-index l.values))
