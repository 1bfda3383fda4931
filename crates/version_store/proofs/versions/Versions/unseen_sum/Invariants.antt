-- What is gone over, before what is left, makes up the whole.
use Rattle.std.proofs.Common.{◌≡◌, take}
use Rattle.version_store.specs.Chained.{Walk}
use Rattle.version_store.specs.Kept.{held}
use Rattle.version_store.specs.Hashes.{hash_of}
use Rattle.version_store.specs.Sums.{unseen_before, unseen_sum}
use Rattle.version_store.proofs.versions.Versions.unseen_sum.Given as goal

abbrev pub invariant-loop-end : goal.invariant-loop-end
invariant-loop-end l = record {
  walk : Walk (hash_of l.table.0 l.bookmark) l.self-inside.chains l.end;
  same : unseen_before l.table.0 l.bookmark l.column.0 l.reader l.sum (take l.end (held l.self-inside)) ≡ unseen_sum l.table.0 l.bookmark l.column.0 l.reader (held l.self-inside);
}

abbrev pub decreases-loop-end : goal.decreases-loop-end
decreases-loop-end l = l.end
