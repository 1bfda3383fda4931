-- What is left of the place is the place in the walks that are left.
use Rattle.std.proofs.Common.{◌≡◌, drop}
use Rattle.std.specs.Prelude.{slice_get}
use Rattle.std.specs.List.{flat_map}
use Rattle.load_gen.specs.Script.{walk_calls}
use Rattle.load_gen.proofs.script.call_of_walks.Given as goal

abbrev pub invariant-loop-index : goal.invariant-loop-index
invariant-loop-index l = slice_get (flat_map (walk_calls l.fn.records) l.fn.indexes) l.fn.place ≡ slice_get (flat_map (walk_calls l.records) (drop l.index-index l.indexes)) l.place
