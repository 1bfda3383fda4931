use Rattle.std.proofs.Common.{◌≡◌}
use Rattle.temp_table.specs.RowBytes.{behind_values}
use Rattle.temp_table.proofs.rows.value_in.Given as goal

-- as many values as were passed stand in front of the rest
abbrev pub invariant-loop-passed : goal.invariant-loop-passed
invariant-loop-passed l = l.rest ≡ behind_values l._passed l.bytes
