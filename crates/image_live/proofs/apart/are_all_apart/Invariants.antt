-- The changes so far are apart, and their bases are known.
use Rattle.std.proofs.Common.{◌≡◌, ℕ, ◌+◌, ◌<◌, true, length, Some, None, get_or, take}
use Rattle.std.specs.Prelude.{slice_get}
use Rattle.version_store.specs.HeldChanges.{HeldChange}
use Rattle.image_live.specs.Orders.{all_pairs, base_of, stays_apart}
use Rattle.image_live.proofs.apart.are_all_apart.Given as goal

abbrev pub invariant-loop-place : goal.invariant-loop-place
invariant-loop-place l = record {
  apart : all_pairs (stays_apart l.sessions) (take l.place l.changes) ≡ true;
  count : length l.bases.items ≡ l.place;
  known : (i : ℕ) (h : HeldChange) → i < l.place → slice_get l.changes i ≡ Some h → get_or l.bases.items i None ≡ base_of l.changes (i + 1) h;
}
