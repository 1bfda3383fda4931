use Rattle.std.proofs.Common.{◌≡◌, map, take, length}
use Rattle.std.specs.Prelude.{option_copied}
use Rattle.key_normal.specs.KeyBytes.{key_bytes}
use Rattle.key_normal.specs.KeySoFar.{key_so_far}
use Rattle.index_derive.specs.Walks.{key_column}
use Rattle.index_derive.proofs.entry.key_of.Given as goal

-- the columns so far have given the bytes of a key of these columns
abbrev pub invariant-loop-part : goal.invariant-loop-part
invariant-loop-part l =
    l.maker ≡ key_so_far l.rule.key_most (key_bytes (map key_column (take (length l.yielded) l.parts)) l.rule.flags.sortnullshigh (map option_copied (take (length l.yielded) l.values)))
