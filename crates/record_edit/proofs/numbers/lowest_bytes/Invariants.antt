use Rattle.std.proofs.Common.{◌≡◌, ◌-◌, ◌++◌, length}
use Rattle.jet_base.specs.ColumnType.{little_endian}
use Rattle.record_edit.proofs.numbers.lowest_bytes.Given as goal

-- the bytes that stand, and those of the rest
abbrev pub invariant-loop : goal.invariant-loop
invariant-loop l = record {
  counted : length l.bytes.items ≡ l.counter;
  whole : l.bytes.items ++ little_endian (l.width - l.counter) l.rest ≡ little_endian l.width l.number;
}
