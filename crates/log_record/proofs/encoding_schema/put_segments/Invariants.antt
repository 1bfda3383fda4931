use Rattle.std.proofs.Common.{◌≡◌, ◌+◌, ◌*◌, ◌≤◌, ◌++◌, ◌∷◌, length, take, vec_len}
use Rattle.std.specs.Vec.{vec_capacity}
use Rattle.std.specs.List.{flat_map}
use Rattle.log_grammar.specs.EntryBytes.{segment_bytes}
use Rattle.log_record.proofs.encoding_schema.put_segments.Given as goal

abbrev pub invariant-loop-segment : goal.invariant-loop-segment
invariant-loop-segment l = record {
  items : l.bytes.items ≡ l.fn.bytes.items ++ (length l.segments ∷ flat_map segment_bytes (take l.segment-index l.segments));
  len : vec_len l.bytes ≡ vec_len l.fn.bytes + (1 + 3 * l.segment-index);
  room : vec_capacity l.fn.bytes ≤ vec_capacity l.bytes;
}
