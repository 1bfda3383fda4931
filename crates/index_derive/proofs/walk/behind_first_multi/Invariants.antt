use Rattle.std.proofs.Common.{◌≡◌, drop}
use Rattle.index_derive.specs.Walks.{behind_first_multi}
use Rattle.index_derive.proofs.walk.behind_first_multi.Given as goal

-- the columns so far are not multi-valued
abbrev pub invariant-loop-i : goal.invariant-loop-i
invariant-loop-i l = behind_first_multi (drop l.i l.parts) ≡ behind_first_multi l.parts
