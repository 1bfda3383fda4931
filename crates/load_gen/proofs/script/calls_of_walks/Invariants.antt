-- The calls so far and those of the walks that are left are all.
use Rattle.std.proofs.Common.{◌≡◌, ◌+◌, ◌*◌, ◌^◌, ◌≤◌, drop, length}
use Rattle.std.specs.List.{flat_map}
use Rattle.load_gen.specs.Script.{walk_calls}
use Rattle.load_gen.proofs.script.calls_of_walks.Given as goal

abbrev pub invariant-loop-index : goal.invariant-loop-index
invariant-loop-index l = record {
  all : l.calls + length (flat_map (walk_calls l.records) (drop l.index-index l.indexes)) ≡ length (flat_map (walk_calls l.records) l.indexes);
  small : l.calls ≤ 2 ^ 34 * l.index-index;
}
