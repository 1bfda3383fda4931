-- A run whose log an engine keeps, line by line.
use Rattle.std.specs.Prelude.{◌≡◌, ◌≤◌, ℕ, true, List, ◌++◌, length, take}
use Rattle.index_derive.specs.declared.log.Entry.{Entry}
use Rattle.database_state.specs.State.{DatabaseState}
use Rattle.jet_volume.specs.Image.{Image as Files}
use Rattle.jet_volume.specs.Crash.{CrashLeaves, LeavesOnly}
use Rattle.log_grammar.specs.EntryStreams.{stream_bytes}
use Rattle.session_local.specs.Run.{Line, LineOutcome, RunState, entries_of_line, is_acknowledged, run_from}
use Rattle.recovered_states.specs.Recovers.{RecoversUpTo}
use Rattle.kept_engine.specs.declared.kept.KeptEngine.{KeptEngine}
use Rattle.ordered_run.specs.declared.flushed.After.{After}
use Rattle.ordered_run.specs.declared.flushed.After.TheVariants.{Goes}
use Rattle.kept_engine.specs.Keeping.{kept_given, kept_volume, Keeps}
use Rattle.kept_engine.specs.Acknowledged.{ReachesAcknowledged, RecoversAcknowledged, log_of}

-- the entries so far with those of a line more
abbrev pub with_line : ℕ → RunState → List Entry → Line → LineOutcome → List Entry
with_line limit run entries line outcome = entries ++ entries_of_line limit run line outcome

module _ {V : Type 0} (seen : V → Files) (moment : V → ℕ) (left_at : V → ℕ → Files → Type 0) where
  -- What comes of a line behind these entries: what a crash leaves at any moment recovers to at least those whose bytes had been given
  -- before; behind the line, if it is acknowledged, to all of them with its own; and where the run goes on these are kept.
  pub record GoesOn (opening : DatabaseState) (entries : List Entry) (limit : ℕ) (run : RunState) (line : Line) (outcome : LineOutcome) (old new : KeptEngine V) (after : After) : Type 0 where
    pub any_moment : LeavesOnly moment left_at (kept_volume old) (kept_volume new) (RecoversUpTo opening (with_line limit run entries line outcome) (kept_given old))
    pub kept : is_acknowledged limit run line outcome ≡ true
        → CrashLeaves moment left_at (kept_volume new) (RecoversUpTo opening (with_line limit run entries line outcome) (length (stream_bytes (with_line limit run entries line outcome))))
    pub goes : after ≡ Goes → Keeps seen moment left_at opening (with_line limit run entries line outcome) new
    pub given : after ≡ Goes → is_acknowledged limit run line outcome ≡ true → kept_given new ≡ length (stream_bytes (with_line limit run entries line outcome))

  -- These lines ran since the volume was as at the start, each with an outcome. So many entries are all up to those of each
  -- acknowledged line, and the store was given their bytes.
  pub record KeepsSoFar (opening : DatabaseState) (limit : ℕ) (start : V) (pairs : List (Line × LineOutcome)) (kept : KeptEngine V) : Type 0 where
    pub any_moment : LeavesOnly moment left_at start (kept_volume kept) (RecoversUpTo opening (log_of opening limit pairs) 0)
    pub keeps : Keeps seen moment left_at opening (log_of opening limit pairs) kept
    pub low : ℕ
    pub within : low ≤ length (log_of opening limit pairs)
    pub reaches : ReachesAcknowledged limit low 0 (run_from opening) pairs
    pub given : length (stream_bytes (take low (log_of opening limit pairs))) ≤ kept_given kept

  -- What a run of these lines leaves: at any moment since the start a crash leaves what recovers to the state after some first entries,
  -- closed; and one now, to that after at least those of each acknowledged line.
  pub record LeavesRun (opening : DatabaseState) (limit : ℕ) (start now : V) (pairs : List (Line × LineOutcome)) : Type 0 where
    pub any_moment : LeavesOnly moment left_at start now (RecoversUpTo opening (log_of opening limit pairs) 0)
    pub acknowledged : CrashLeaves moment left_at now (RecoversAcknowledged opening limit pairs)
