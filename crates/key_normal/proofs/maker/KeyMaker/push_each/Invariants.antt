use Rattle.std.proofs.Common.{◌≡◌, map, drop}
use Rattle.key_normal.specs.KeyBytes.{in_direction}
use Rattle.key_normal.specs.KeySoFar.{with_bytes}
use Rattle.key_normal.specs.Spelling.{spelled}
use Rattle.key_normal.proofs.maker.KeyMaker.push_each.Given as goal

-- the bytes that are left make of the key what all of them make of it at the start
abbrev pub invariant-loop-byte : goal.invariant-loop-byte
invariant-loop-byte l =
    with_bytes l.self (map (in_direction l.descending) (map (spelled l.folds) (drop l.byte-index l.bytes)))
    ≡ with_bytes l.initial.self (map (in_direction l.descending) (map (spelled l.folds) l.bytes))
