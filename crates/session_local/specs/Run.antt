-- A run of script lines: what each is answered, what the log holds, and what state is left.
use Rattle.std.specs.Prelude.{ℕ, ◌+◌, ◌==◌, Bool, true, false, not, ◌&&◌, length, List, [], ◌∷◌, ◌++◌, map, Option, Some, None, unwrap_or, if◌then◌else◌}
use Rattle.std.specs.List.{list_all}
use Rattle.jet_base.specs.declared.replies.Jet.{Jet}
use Rattle.jet_base.specs.declared.replies.Jet.TheVariants as jet
use Rattle.column_set.specs.RecordValues.{lookup_by_number, put_by_number}
use Rattle.index_derive.specs.declared.log.Entry.{Entry}
use Rattle.index_derive.specs.declared.log.EntryKind.{EntryKind}
use Rattle.index_derive.specs.declared.log.EntryKind.TheVariants as entry
use Rattle.index_derive.specs.declared.log.Step.{Step}
use Rattle.index_derive.specs.declared.log.Step.TheVariants.{One, Alone}
use Rattle.database_state.specs.State.{DatabaseState, empty_state}
use Rattle.database_state.specs.Step.{state_after_all}
use Rattle.session_local.specs.declared.request.Request.{Request}
use Rattle.session_local.specs.declared.request.Request.TheVariants as call
use Rattle.session_local.specs.Answer.{Answered, Row, Nothing}
use Rattle.session_local.specs.Local.{LocalState, no_session}
use Rattle.index_derive.specs.Steps.{entries_of_step}
use Rattle.session_local.specs.Outcome.{CallInputs, Outcome}
use Rattle.session_local.specs.Calls.{answer, is_local}

-- A line of a script: the label of its session, and its call.
abbrev pub Line : Type 0
Line = ℕ × Request

-- What becomes of a line. It is served; or it finds no memory, and nothing changes; or it is served and its flush fails
-- with this reply, the last of its session; or it is served and not answered, since the checkpoint in place of its flush
-- found no memory, and the run ends.
pub data LineOutcome : Type 0 where
  served : LineOutcome
  no_memory : LineOutcome
  flush_failed : Jet → LineOutcome
  unserved : LineOutcome

-- A session in a run: its own state, and the count of entries after its last call that looked at the shared state.
pub record SessionRun : Type 0 where
  pub local : LocalState
  pub last : ℕ

-- A run so far: the state, and each session that made a call, by label.
pub record RunState : Type 0 where
  pub state : DatabaseState
  pub sessions : List (ℕ × SessionRun)

abbrev pub run_from : DatabaseState → RunState
run_from state = record { state = state; sessions = [] }

abbrev pub session_run : RunState → ℕ → SessionRun
session_run run session = unwrap_or (lookup_by_number session run.sessions) (record { local = no_session; last = 0 })

-- ---- one line

abbrev pub inputs_in : ℕ → RunState → ℕ → CallInputs
inputs_in limit run session = record { limit = limit; state = run.state; session = session; local = (session_run run session).local }

abbrev pub outcome_of : ℕ → RunState → Line → Outcome
outcome_of limit run line = answer (inputs_in limit run line.0) line.1

-- the number of a line: that of the state, or for a local call the one after the session's last look at it
abbrev pub number_of_line : RunState → Line → Jet → ℕ
number_of_line run line reply = if is_local line.1 reply then (session_run run line.0).last else run.state.number

abbrev pub row_of : RunState → Line → Answered → Jet → Row
row_of run line answered reply = record { n = number_of_line run line reply; session = line.0; request = line.1; answered = answered }

-- the row of a served line
abbrev pub served_row : ℕ → RunState → Line → Row
served_row limit run line = let outcome = outcome_of limit run line in row_of run line outcome.answered outcome.answered.jet

abbrev pub last_after : RunState → Line → Outcome → ℕ
last_after run line outcome =
    if is_local line.1 outcome.answered.jet then (session_run run line.0).last
    else run.state.number + length (entries_of_step outcome.step)

abbrev pub after_outcome : RunState → Line → Outcome → RunState
after_outcome run line outcome = record {
  state = state_after_all run.state (entries_of_step outcome.step);
  sessions = put_by_number line.0 (record { local = outcome.local; last = last_after run line outcome }) run.sessions;
}

-- the run after a served line
abbrev pub after_served : ℕ → RunState → Line → RunState
after_served limit run line = after_outcome run line (outcome_of limit run line)

-- the answer of a line that found no memory, whose number is that of a local call
abbrev pub no_memory_row : RunState → Line → Row
no_memory_row run line = record {
  n = (session_run run line.0).last;
  session = line.0;
  request = line.1;
  answered = record { jet = jet.OutOfMemory; shown = Nothing };
}

-- ---- lines with their outcomes

abbrev pub rows_of_line : ℕ → RunState → Line → LineOutcome → List Row
rows_of_line limit run line served = served_row limit run line ∷ []
rows_of_line limit run line no_memory = no_memory_row run line ∷ []
rows_of_line limit run line (flush_failed reply) =
    row_of run line (record { jet = reply; shown = Nothing }) (outcome_of limit run line).answered.jet ∷ []
rows_of_line limit run line unserved = []

abbrev pub run_after : ℕ → RunState → Line → LineOutcome → RunState
run_after limit run line served = after_served limit run line
run_after limit run line no_memory = run
run_after limit run line (flush_failed reply) = after_served limit run line
run_after limit run line unserved = after_served limit run line

abbrev pub entries_of_line : ℕ → RunState → Line → LineOutcome → List Entry
entries_of_line limit run line served = entries_of_step (outcome_of limit run line).step
entries_of_line limit run line no_memory = []
entries_of_line limit run line (flush_failed reply) = entries_of_step (outcome_of limit run line).step
entries_of_line limit run line unserved = entries_of_step (outcome_of limit run line).step

-- The rows of a run, its log, and the run afterwards, over lines with their outcomes.
abbrev pub rows_from : ℕ → RunState → List (Line × LineOutcome) → List Row
rows_from limit run [] = []
rows_from limit run (pair ∷ pairs) = rows_of_line limit run pair.0 pair.1 ++ rows_from limit (run_after limit run pair.0 pair.1) pairs

abbrev pub log_from : ℕ → RunState → List (Line × LineOutcome) → List Entry
log_from limit run [] = []
log_from limit run (pair ∷ pairs) = entries_of_line limit run pair.0 pair.1 ++ log_from limit (run_after limit run pair.0 pair.1) pairs

abbrev pub run_after_all : ℕ → RunState → List (Line × LineOutcome) → RunState
run_after_all limit run [] = run
run_after_all limit run (pair ∷ pairs) = run_after_all limit (run_after limit run pair.0 pair.1) pairs

-- every line served
abbrev pub all_served : List Line → List (Line × LineOutcome)
all_served lines = map (λ line. (line, served)) lines

abbrev pub served_rows : ℕ → List Line → List Row
served_rows limit lines = rows_from limit (run_from empty_state) (all_served lines)

-- ---- which outcomes a line may have, and which lines are acknowledged

-- the calls that take no memory
abbrev pub takes_no_memory : Request → Bool
takes_no_memory (call.SetCurrentIndex cursor index) = true
takes_no_memory (call.Move cursor way) = true
takes_no_memory (call.Seek cursor by) = true
takes_no_memory (call.GotoBookmark cursor bookmark) = true
takes_no_memory (call.SetIndexRange cursor upper inclusive) = true
takes_no_memory (call.RemoveIndexRange cursor) = true
takes_no_memory (call.IndexRecordCount cursor most) = true
takes_no_memory (call.RetrieveKey cursor) = true
takes_no_memory (call.GetBookmark cursor) = true
takes_no_memory (call.RetrieveColumn cursor column sequence copy most) = true
takes_no_memory (call.MakeKey cursor fresh value) = true
takes_no_memory (call.TempMove temp way) = true
takes_no_memory (call.TempRead temp column) = true
takes_no_memory (call.TempCount temp) = true
takes_no_memory (call.TempClose temp) = true
takes_no_memory (call.CommitTransaction lazy) = true
takes_no_memory (call.Rollback all) = true
takes_no_memory (call.CloseTable cursor) = true
takes_no_memory call.EndSession = true
takes_no_memory _ = false

abbrev pub is_lazy : Request → Bool
is_lazy (call.CommitTransaction lazy) = lazy
is_lazy _ = false

abbrev pub flushes_kind : EntryKind → Bool
flushes_kind entry.Commit = true
flushes_kind (entry.Schema made) = true
flushes_kind _ = false

abbrev pub flushes_step : Request → Option Step → Bool
flushes_step request None = false
flushes_step request (Some (One made)) = flushes_kind made.kind && not (is_lazy request)
flushes_step request (Some (Alone made)) = true

-- whether the call flushes the log: an outermost commit that is not lazy, a schema call, a change outside a transaction
abbrev pub flushes : ℕ → RunState → Line → Bool
flushes limit run line = flushes_step line.1 (outcome_of limit run line).step

abbrev pub may_come : ℕ → RunState → Line → LineOutcome → Bool
may_come limit run line served = true
may_come limit run line no_memory = not (takes_no_memory line.1)
may_come limit run line (flush_failed jet.LogWriteFail) = flushes limit run line
may_come limit run line (flush_failed jet.InstanceUnavailable) = flushes limit run line
may_come limit run line (flush_failed _) = false
may_come limit run line unserved = flushes limit run line

-- which lines may stand behind a line: none of its session where its flush failed, and none at all where it is not answered
abbrev pub may_be_followed : Line → LineOutcome → List (Line × LineOutcome) → Bool
may_be_followed line served pairs = true
may_be_followed line no_memory pairs = true
may_be_followed line (flush_failed reply) pairs = list_all (λ later. not (later.0.0 == line.0)) pairs
may_be_followed line unserved pairs = length pairs == 0

-- Whether the lines of a run may have these outcomes: each may come where it stands, and the lines behind it may follow it.
abbrev pub outcomes_may_come : ℕ → RunState → List (Line × LineOutcome) → Bool
outcomes_may_come limit run [] = true
outcomes_may_come limit run (pair ∷ pairs) =
    may_come limit run pair.0 pair.1 && may_be_followed pair.0 pair.1 pairs && outcomes_may_come limit (run_after limit run pair.0 pair.1) pairs

-- A line is acknowledged where it flushed the log and was answered with success.
abbrev pub is_acknowledged : ℕ → RunState → Line → LineOutcome → Bool
is_acknowledged limit run line served = flushes limit run line
is_acknowledged limit run line _ = false
