use Rattle.std.proofs.Common.{◌≡◌, ◌≤◌, ◌<◌, ◌+◌, ◌-◌, ℕ, List, Option, None, length}
use Rattle.jet_volume.specs.Crash.{LeavesOnly}
use Rattle.store_core.specs.Stands.{Checkpoint}
use Rattle.store_core.specs.Store.{store_end, store_standing, store_down}
use Rattle.entry_log.specs.LogState.{IsKeptOf, stream_end}
use Rattle.log_keeper.specs.Keeping.{keeper_store, keeper_volume, keeper_given, given_to, KeepsLog, StandsUpTo, TakesBytes}
use Rattle.log_keeper.proofs.keeper.LogKeeper.give_all.Given as goal

abbrev pub invariant-loop-self : goal.invariant-loop-self
invariant-loop-self g l = record {
  rises : keeper_given l.fn.self ≤ keeper_given l.self;
  within : keeper_given l.self ≤ stream_end (g.L.LogBytes.stream l.log);
  takes : TakesBytes (stream_end (g.L.LogBytes.stream l.log) - keeper_given l.self) (keeper_store l.self);
  standing : store_standing (keeper_store l.self) ≡ store_standing (keeper_store l.fn.self);
  position : (store_end (keeper_store l.self)).position + keeper_given l.fn.self ≡ (store_end (keeper_store l.fn.self)).position + keeper_given l.self;
  generation : (store_end (keeper_store l.self)).generation + keeper_given l.fn.self ≤ (store_end (keeper_store l.fn.self)).generation + keeper_given l.self;
  first : keeper_given l.self ≡ keeper_given l.fn.self → keeper_store l.self ≡ keeper_store l.fn.self;
  up : keeper_given l.fn.self < keeper_given l.self → store_down (keeper_store l.self) ≡ None;
  down : store_down (keeper_store l.self) ≡ store_down (keeper_store l.fn.self);
  faults : g.V.Volume.faults (keeper_volume l.self) ≡ g.V.Volume.faults (keeper_volume l.fn.self);
  identity : g.V.Volume.identity (keeper_volume l.self) ≡ g.V.Volume.identity (keeper_volume l.fn.self);
  blocks : given_to (keeper_store l.self) (stream_end (g.L.LogBytes.stream l.log) - keeper_given l.self) ≡ given_to (keeper_store l.fn.self) (stream_end (g.L.LogBytes.stream l.log) - keeper_given l.fn.self);
  keeps : g.V.Volume.tells_contents → (checkpoint : Option Checkpoint) (base : ℕ) (whole : List ℕ) → KeepsLog g.V.Volume.seen g.V.Volume.moment g.V.Volume.left_at l.fn.self checkpoint base whole
      → IsKeptOf whole (g.L.LogBytes.stream l.log)
      → KeepsLog g.V.Volume.seen g.V.Volume.moment g.V.Volume.left_at l.self checkpoint base whole
      × LeavesOnly g.V.Volume.moment g.V.Volume.left_at (keeper_volume l.fn.self) (keeper_volume l.self) (StandsUpTo checkpoint base (keeper_given l.fn.self) (length whole) whole);
}

abbrev pub decreases-loop-self : goal.decreases-loop-self
decreases-loop-self g l = stream_end (g.L.LogBytes.stream l.log) - keeper_given l.self
