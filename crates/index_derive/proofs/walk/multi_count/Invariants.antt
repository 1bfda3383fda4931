use Rattle.std.proofs.Common.{◌≡◌, drop}
use Rattle.index_derive.specs.Walks.{multi_count}
use Rattle.index_derive.proofs.walk.multi_count.Given as goal

-- the columns so far are not multi-valued
abbrev pub invariant-loop-part : goal.invariant-loop-part
invariant-loop-part g l = multi_count (drop l.part-index l.parts) (g.R.Values.fields l.«record») ≡ multi_count l.parts (g.R.Values.fields l.«record»)
