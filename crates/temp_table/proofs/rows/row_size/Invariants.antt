use Rattle.std.proofs.Common.{◌≡◌, ◌+◌, ◌*◌, ◌≤◌, true, map, take}
use Rattle.std.specs.Prelude.{option_copied, sum_by}
use Rattle.temp_table.specs.TempRows.{value_room}
use Rattle.temp_table.specs.Held.{are_bytes}
use Rattle.temp_table.proofs.rows.row_size.Given as goal

abbrev pub invariant-loop-value : goal.invariant-loop-value
invariant-loop-value l = record {
  size : l.size ≡ 2 + sum_by value_room (map option_copied (take l.value-index l.values));
  small : l.size ≤ 2 + 260 * l.value-index;
  bytes : are_bytes (map option_copied (take l.value-index l.values)) ≡ true;
}
