use Rattle.std.proofs.Common.{◌≡◌, ◌+◌, ◌*◌, ◌≤◌, ◌++◌, ◌∷◌, length, take, vec_len}
use Rattle.std.specs.Vec.{vec_capacity}
use Rattle.std.specs.List.{flat_map}
use Rattle.log_grammar.specs.EntryBytes.{condition_bytes}
use Rattle.log_record.proofs.encoding_schema.put_conditions.Given as goal

abbrev pub invariant-loop-condition : goal.invariant-loop-condition
invariant-loop-condition l = record {
  items : l.bytes.items ≡ l.fn.bytes.items ++ (length l.conditions ∷ flat_map condition_bytes (take l.condition-index l.conditions));
  len : vec_len l.bytes ≡ vec_len l.fn.bytes + (1 + 3 * l.condition-index);
  room : vec_capacity l.fn.bytes ≤ vec_capacity l.bytes;
}
