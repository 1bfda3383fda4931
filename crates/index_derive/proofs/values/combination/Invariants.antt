use Rattle.std.proofs.Common.{◌≡◌, ◌++◌, map, drop, length}
use Rattle.std.specs.Prelude.{option_copied}
use Rattle.index_derive.specs.Walks.{combination_of}
use Rattle.index_derive.proofs.values.combination.Given as goal

-- what stands and what the columns left bring are the values of all
abbrev pub invariant-loop-part : goal.invariant-loop-part
invariant-loop-part g l = record {
  one_each : length l.values.items ≡ l.part-index;
  whole : map option_copied l.values.items ++ combination_of (drop l.part-index l.parts) (g.R.Values.fields l.«record») l.place l.next
      ≡ combination_of l.parts (g.R.Values.fields l.«record») l.first_place l.second_place;
}
