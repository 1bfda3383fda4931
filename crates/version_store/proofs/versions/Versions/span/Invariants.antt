-- No change so far is kept.
use Rattle.std.proofs.Common.{◌≡◌, ◌-◌, ◌≤◌, length, drop}
use Rattle.version_store.specs.HeldChanges.{from_oldest_kept}
use Rattle.version_store.specs.Kept.{held}
use Rattle.version_store.proofs.versions.Versions.span.Given as goal

abbrev pub invariant-loop-at : goal.invariant-loop-at
invariant-loop-at l = record {
  within : l.at ≤ length l.self-inside.items.items;
  skipped : from_oldest_kept l.oldest (held l.self-inside) ≡ from_oldest_kept l.oldest (drop l.at (held l.self-inside));
}

abbrev pub decreases-loop-at : goal.decreases-loop-at
decreases-loop-at l = length l.self-inside.items.items - l.at
