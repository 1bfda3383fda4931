-- How far the log of a run must be kept, and what files recover to that keep it so far.
use Rattle.std.specs.Prelude.{◌≡◌, ◌≤◌, ◌+◌, ℕ, true, List, [], ◌∷◌, length, take}
use Rattle.index_derive.specs.declared.log.Entry.{Entry}
use Rattle.database_state.specs.State.{DatabaseState}
use Rattle.database_state.specs.Step.{state_after_all}
use Rattle.jet_volume.specs.Image.{Image as Files}
use Rattle.session_local.specs.Run.{Line, LineOutcome, RunState, entries_of_line, is_acknowledged, log_from, run_after, run_from}
use Rattle.loggable_steps.specs.Replays.{closed}
use Rattle.recovered_states.specs.Recovers.{Recovers}

-- So many entries of a run are at least all up to those of each acknowledged line. The lines come behind n of them.
abbrev pub ReachesAcknowledged : ℕ → ℕ → ℕ → RunState → List (Line × LineOutcome) → Type 0
ReachesAcknowledged limit k n run [] = Unit {0}
ReachesAcknowledged limit k n run (pair ∷ pairs) =
    (is_acknowledged limit run pair.0 pair.1 ≡ true → n + length (entries_of_line limit run pair.0 pair.1) ≤ k)
    × ReachesAcknowledged limit k (n + length (entries_of_line limit run pair.0 pair.1)) (run_after limit run pair.0 pair.1) pairs

-- the log entries of these lines, from an opening state
abbrev pub log_of : DatabaseState → ℕ → List (Line × LineOutcome) → List Entry
log_of opening limit pairs = log_from limit (run_from opening) pairs

-- The files recover to the state after some first entries of these lines, closed: at least those of each acknowledged line.
pub record RecoversAcknowledged (opening : DatabaseState) (limit : ℕ) (pairs : List (Line × LineOutcome)) (files : Files) : Type 0 where
  pub k : ℕ
  pub within : k ≤ length (log_of opening limit pairs)
  pub reaches : ReachesAcknowledged limit k 0 (run_from opening) pairs
  pub recovers : Recovers files (closed (state_after_all opening (take k (log_of opening limit pairs))))
