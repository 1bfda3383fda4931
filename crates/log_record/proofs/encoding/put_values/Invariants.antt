use Rattle.std.proofs.Common.{◌≡◌, ◌+◌, ◌≤◌, ◌++◌, take, vec_len}
use Rattle.std.specs.Vec.{vec_capacity}
use Rattle.std.specs.List.{flat_map}
use Rattle.log_grammar.specs.EntryBytes.{value_bytes}
use Rattle.log_grammar.proofs.Values.{of_column}
use Rattle.log_record.specs.EntrySizes.{size_of_values}
use Rattle.log_record.proofs.encoding.put_values.Given as goal

-- the values so far stand there
abbrev pub invariant-loop-value : goal.invariant-loop-value
invariant-loop-value l = record {
  items : l.bytes.items ≡ l.fn.bytes.items ++ flat_map value_bytes (of_column l.column (take l.value-index l.values));
  len : vec_len l.bytes ≡ vec_len l.fn.bytes + size_of_values (take l.value-index l.values);
  room : vec_capacity l.fn.bytes ≤ vec_capacity l.bytes;
}
