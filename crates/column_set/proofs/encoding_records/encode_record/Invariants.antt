use Rattle.std.proofs.Common.{◌≡◌, ◌++◌, length, take, true}
use Rattle.std.specs.Int.{w16, to_le_bytes}
use Rattle.std.specs.List.{flat_map}
use Rattle.column_set.specs.Rows.{value_bytes}
use Rattle.column_set.proofs.HereRows.{are_columns, values_here}
use Rattle.column_set.proofs.encoding_records.encode_record.Given as goal

-- the count of all values and the values so far stand there, whose columns have numbers of two bytes
abbrev pub invariant-loop-field : goal.invariant-loop-field
invariant-loop-field l = record {
  spelled : l.bytes.items ≡ to_le_bytes w16 (length (values_here l.fields)) ++ flat_map value_bytes (values_here (take l.field-index l.fields));
  columns : are_columns (take l.field-index l.fields) ≡ true;
}
