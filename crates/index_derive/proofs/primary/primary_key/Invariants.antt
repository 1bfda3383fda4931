use Rattle.std.proofs.Common.{◌≡◌, take}
use Rattle.key_normal.specs.KeySoFar.{key_so_far}
use Rattle.index_derive.proofs.FirstValues.{first_bytes}
use Rattle.index_derive.proofs.primary.primary_key.Given as goal

-- the columns so far have given their bytes
abbrev pub invariant-loop-segment : goal.invariant-loop-segment
invariant-loop-segment g l = l.maker ≡ key_so_far l.rule.key_most (first_bytes l.schema (g.R.Values.fields l.«record») l.rule.flags.sortnullshigh (take l.segment-index l.segment-items))
