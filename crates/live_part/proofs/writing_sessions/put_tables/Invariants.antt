use Rattle.std.proofs.Common.{◌≡◌, ◌+◌, ◌*◌, ◌≤◌, ◌++◌, map, take, vec_len}
use Rattle.std.specs.Int.{w32, to_le_bytes}
use Rattle.std.specs.Vec.{vec_capacity}
use Rattle.std.specs.List.{flat_map}
use Rattle.jet_base.specs.declared.ids.TableId.{TableId}
use Rattle.live_part.proofs.writing_sessions.put_tables.Given as goal

-- the tables so far stand there
abbrev pub invariant-loop-table : goal.invariant-loop-table
invariant-loop-table l = record {
  items : l.bytes.items ≡ l.fn.bytes.items ++ flat_map (to_le_bytes w32) (map (λ (id : TableId). id.0) (take l.table-index l.tables));
  len : vec_len l.bytes ≡ vec_len l.fn.bytes + 4 * l.table-index;
  room : vec_capacity l.fn.bytes ≤ vec_capacity l.bytes;
}
