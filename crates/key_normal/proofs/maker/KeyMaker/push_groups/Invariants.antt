use Rattle.std.proofs.Common.{◌≡◌, map, length}
use Rattle.key_normal.specs.KeyBytes.{in_direction, in_groups}
use Rattle.key_normal.specs.KeySoFar.{with_bytes}
use Rattle.key_normal.specs.Spelling.{spelled}
use Rattle.key_normal.proofs.maker.KeyMaker.push_groups.Given as goal

-- the bytes that are left make of the key what all of them make of it at the start
abbrev pub invariant-loop-rest : goal.invariant-loop-rest
invariant-loop-rest l =
    with_bytes l.self (map (in_direction l.descending) (in_groups (map (spelled l.folds) l.rest)))
    ≡ with_bytes l.initial.self (map (in_direction l.descending) (in_groups (map (spelled l.folds) l.bytes)))

abbrev pub decreases-loop-rest : goal.decreases-loop-rest
decreases-loop-rest l = length l.rest
