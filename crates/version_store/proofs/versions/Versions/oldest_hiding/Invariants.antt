-- The oldest that was found, unless one before the end is.
use Rattle.std.proofs.Common.{◌≡◌, ◌<◌, take, length}
use Rattle.std.specs.Prelude.{find, IfSome}
use Rattle.std.specs.Option.{option_or}
use Rattle.version_store.specs.Answers.{change_at}
use Rattle.version_store.specs.HeldChanges.{hides}
use Rattle.version_store.specs.Kept.{held}
use Rattle.version_store.specs.Hashes.{hash_of}
use Rattle.version_store.specs.Chained.{Walk}
use Rattle.version_store.proofs.versions.Versions.oldest_hiding.Given as goal

abbrev pub invariant-loop-end : goal.invariant-loop-end
invariant-loop-end l = record {
  walk : Walk (hash_of l.table.0 l.bookmark) l.self-inside.chains l.end;
  same : option_or (find (hides l.table.0 l.bookmark l.reader) (take l.end (held l.self-inside))) (change_at (held l.self-inside) l.oldest) ≡ find (hides l.table.0 l.bookmark l.reader) (held l.self-inside);
  within : IfSome l.oldest (λ place. place < length (held l.self-inside));
}

abbrev pub decreases-loop-end : goal.decreases-loop-end
decreases-loop-end l = l.end
