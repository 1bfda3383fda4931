use Rattle.std.proofs.Common.{◌≡◌, map, reverse, length}
use Rattle.key_normal.specs.KeyBytes.{in_direction}
use Rattle.key_normal.specs.KeySoFar.{with_bytes}
use Rattle.key_normal.proofs.maker.KeyMaker.push_from_the_end.Given as goal

-- the bytes that are left make of the key what all of them make of it at the start
abbrev pub invariant-loop-last : goal.invariant-loop-last
invariant-loop-last l =
    with_bytes l.self (map (in_direction l.descending) (reverse l.rest)) ≡ with_bytes l.initial.self (map (in_direction l.descending) (reverse l.bytes))

abbrev pub decreases-loop-last : goal.decreases-loop-last
decreases-loop-last l = length l.rest
