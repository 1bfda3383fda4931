-- If some change conflicts, one before the end does.
use Rattle.std.proofs.Common.{◌≡◌, take}
use Rattle.std.specs.List.{list_any}
use Rattle.column_set.specs.ChangedRecords.{changed_bookmark, changed_table}
use Rattle.version_store.specs.HeldChanges.{conflicts}
use Rattle.version_store.specs.Kept.{held}
use Rattle.version_store.specs.Hashes.{hash_of}
use Rattle.version_store.specs.Chained.{Walk}
use Rattle.version_store.proofs.versions.Versions.conflict.Given as goal

abbrev pub invariant-loop-end : goal.invariant-loop-end
invariant-loop-end l = record {
  walk : Walk (hash_of (changed_table l.change) (changed_bookmark l.change)) l.self-inside.chains l.end;
  same : list_any (conflicts l.reader l.change) (take l.end (held l.self-inside)) ≡ list_any (conflicts l.reader l.change) (held l.self-inside);
}

abbrev pub decreases-loop-end : goal.decreases-loop-end
decreases-loop-end l = l.end
