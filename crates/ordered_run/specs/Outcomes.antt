-- The outcomes of a run's lines, and what was served.
use Rattle.std.specs.Prelude.{◌≡◌, ◌<◌, ◌≤◌, ℕ, ◌-◌, Bool, true, false, List, length, map, take, Option}
use Rattle.std.specs.Io.KnownBytes.{append_known}
use Rattle.std.specs.List.{list_all}
use Rattle.database_state.specs.State.{DatabaseState}
use Rattle.session_local.specs.Run.{RunState, Line, LineOutcome, served, no_memory, flush_failed, unserved, run_from, run_after_all, rows_from, rows_of_line, outcomes_may_come}
use Rattle.script_transcript.specs.TranscriptLine.{transcript_of}
use Rattle.laws_engine.specs.EngineState.{EngineState}
use Rattle.ordered_run.specs.declared.session_engine.SessionEngine.{SessionEngine}
use Rattle.ordered_run.specs.Serving.{CanServe, span_limit}

-- where nothing fails a line is served, or finds no memory
abbrev pub is_plain : LineOutcome → Bool
is_plain served = true
is_plain no_memory = true
is_plain (flush_failed reply) = false
is_plain unserved = false

-- these lines, each with an outcome that it may have, from the state that the run begins with
abbrev pub AreOutcomesOf : DatabaseState → ℕ → List Line → List (Line × LineOutcome) → Type 0
AreOutcomesOf opening limit lines pairs =
    (map (λ pair. pair.0) pairs ≡ lines)
    × (list_all (λ pair. is_plain pair.1) pairs ≡ true)
    × (outcomes_may_come limit (run_from opening) pairs ≡ true)

-- the same, also where a flush failed or found no room
abbrev pub MayComeTo : DatabaseState → ℕ → List Line → List (Line × LineOutcome) → Type 0
MayComeTo opening limit lines pairs = (map (λ pair. pair.0) pairs ≡ lines) × (outcomes_may_come limit (run_from opening) pairs ≡ true)

-- ---- what they print

-- the text of a line with this outcome
abbrev pub line_text : ℕ → RunState → Line → LineOutcome → List ℕ
line_text limit run line outcome = transcript_of (rows_of_line limit run line outcome)

-- the transcript of the lines with these outcomes
abbrev pub run_transcript : DatabaseState → ℕ → List (Line × LineOutcome) → List ℕ
run_transcript opening limit pairs = transcript_of (rows_from limit (run_from opening) pairs)

-- all but the last
abbrev pub but_last : List (Line × LineOutcome) → List (Line × LineOutcome)
but_last pairs = take (length pairs - 1) pairs

-- So many bytes are the whole transcript of all these lines but the last, and not the whole of the last line.
abbrev pub EndsInLast : DatabaseState → ℕ → List (Line × LineOutcome) → ℕ → Type 0
EndsInLast opening limit pairs n = (length (run_transcript opening limit (but_last pairs)) ≤ n) × (n < length (run_transcript opening limit pairs))

-- the sink took their transcript
abbrev pub TookWhole : DatabaseState → ℕ → List (Line × LineOutcome) → Option (List ℕ) → Option (List ℕ) → Type 0
TookWhole opening limit pairs before now = now ≡ append_known before (run_transcript opening limit pairs)

-- the same, but no more of what the last line prints than a front
abbrev pub TookFront : DatabaseState → ℕ → List (Line × LineOutcome) → Option (List ℕ) → Option (List ℕ) → Type 0
TookFront opening limit pairs before now = (n : ℕ) × EndsInLast opening limit pairs n × (now ≡ append_known before (take n (run_transcript opening limit pairs)))

-- ---- what was served

-- The engine is where a run from this state begins, and can serve these lines.
abbrev pub BeginsRun : {E : Type 0} → (E → EngineState) → DatabaseState → SessionEngine E → List Line → Type 0
BeginsRun held opening engine lines = CanServe held (span_limit held engine) engine (run_from opening) lines

-- The engine has served exactly these lines, each with its outcome: it is in the state that their run comes to, with this
-- limit, and can serve the rest.
abbrev pub HasServed : {E : Type 0} → (E → EngineState) → DatabaseState → ℕ → SessionEngine E → List (Line × LineOutcome) → List Line → Type 0
HasServed held opening limit engine pairs rest = CanServe held limit engine (run_after_all limit (run_from opening) pairs) rest
