-- The hash with the words that are left is that with all.
use Rattle.std.proofs.Common.{◌≡◌, length}
use Rattle.version_store.specs.Hashes.{with_words}
use Rattle.version_store.proofs.hash.with_words.Given as goal

abbrev pub invariant-loop-rest : goal.invariant-loop-rest
invariant-loop-rest l = with_words l.hash l.rest ≡ with_words l.fn.hash l.bytes

abbrev pub decreases-loop-rest : goal.decreases-loop-rest
decreases-loop-rest l = length l.rest
