use Rattle.std.proofs.Common.{◌≡◌, ◌+◌, ◌≤◌, ◌++◌, length, take, vec_len}
use Rattle.std.specs.Vec.{vec_capacity}
use Rattle.std.specs.Int.{w16, to_le_bytes}
use Rattle.std.specs.List.{flat_map}
use Rattle.column_set.specs.Rows.{record_values_in_order}
use Rattle.log_grammar.specs.EntryBytes.{value_bytes}
use Rattle.log_record.specs.EntrySizes.{size_of_fields}
use Rattle.log_record.proofs.encoding.put_record.Given as goal

-- the count of all values and the values so far stand there
abbrev pub invariant-loop-field : goal.invariant-loop-field
invariant-loop-field l = record {
  items : l.bytes.items ≡ (l.fn.bytes.items ++ to_le_bytes w16 (length (record_values_in_order l.fields))) ++ flat_map value_bytes (record_values_in_order (take l.field-index l.fields));
  len : vec_len l.bytes ≡ vec_len l.fn.bytes + (2 + size_of_fields (take l.field-index l.fields));
  room : vec_capacity l.fn.bytes ≤ vec_capacity l.bytes;
}
