use Rattle.std.proofs.Common.{◌≡◌, map, take, length}
use Rattle.std.specs.Prelude.{option_copied}
use Rattle.key_normal.specs.KeySoFar.{key_so_far}
use Rattle.temp_table.specs.TempRows.{key_segments}
use Rattle.temp_table.proofs.keys.row_key.Given as goal

-- the columns so far have given their segments
abbrev pub invariant-loop-column : goal.invariant-loop-column
invariant-loop-column l =
    l.maker ≡ key_so_far 255 (key_segments (take (length l.yielded) l.columns) (map option_copied (take (length l.yielded) l.values)))
