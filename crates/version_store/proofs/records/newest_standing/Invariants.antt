-- No standing put or drop of the record was passed over.
use Rattle.std.proofs.Common.{◌≡◌, ℕ, ◌≤◌, List, length, take}
use Rattle.version_store.specs.Chained.{Walk}
use Rattle.version_store.specs.HeldChanges.{is_standing_rewrite, last_place}
use Rattle.version_store.specs.Items.{held_changes}
use Rattle.version_store.specs.Hashes.{hash_of}
use Rattle.version_store.proofs.records.newest_standing.Given as goal

abbrev pub invariant-loop-end : goal.invariant-loop-end
invariant-loop-end l = record {
  walk : Walk (hash_of l.table.0 l.bookmark) l.chains l.end;
  within : l.end ≤ l.from;
  same : (rows : List (List ℕ)) → length rows ≡ length l.items.items
      → last_place (is_standing_rewrite l.table.0 l.bookmark) (take l.end (held_changes l.items.items rows)) ≡ last_place (is_standing_rewrite l.table.0 l.bookmark) (take l.from (held_changes l.items.items rows));
}

abbrev pub decreases-loop-end : goal.decreases-loop-end
decreases-loop-end l = l.end
