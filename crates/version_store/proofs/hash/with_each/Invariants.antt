-- The hash with the bytes so far.
use Rattle.std.proofs.Common.{◌≡◌, take}
use Rattle.std.specs.List.{fold}
use Rattle.version_store.specs.Hashes.{mixed}
use Rattle.version_store.proofs.hash.with_each.Given as goal

abbrev pub invariant-loop-byte : goal.invariant-loop-byte
invariant-loop-byte l = l.hash ≡ fold mixed l.fn.hash (take l.byte-index l.bytes)
