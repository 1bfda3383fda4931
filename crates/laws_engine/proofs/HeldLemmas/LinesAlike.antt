-- Lines of runs from equivalent states.
use Rattle.std.proofs.Common.{◌≡◌, ℕ, ◌+◌, true, List, [], ◌∷◌, ◌++◌, length, refl, ap, subst, ◌∙◌}
use Rattle.std.specs.Prelude.{if◌then◌else◌}
use Rattle.jet_base.specs.declared.replies.Jet.{Jet}
use Rattle.column_set.specs.RecordValues.{put_by_number}
use Rattle.index_derive.specs.declared.log.Entry.{Entry}
use Rattle.index_derive.specs.Steps.{entries_of_step}
use Rattle.database_state.specs.State.{DatabaseState}
use Rattle.database_state.specs.Equivalence.{AreEquivalent, essence}
use Rattle.database_state.specs.Step.{state_after, state_after_all}
use Rattle.session_local.specs.declared.request.Request.{Request}
use Rattle.session_local.specs.Agreement.{Agrees}
use Rattle.session_local.specs.Answer.{Answered, Nothing}
use Rattle.session_local.specs.Calls.{answer, is_local}
use Rattle.session_local.specs.Local.{LocalState}
use Rattle.session_local.specs.Outcome.{Outcome}
use Rattle.session_local.specs.Run.{Line, LineOutcome, RunState, SessionRun, after_served, entries_of_line, flush_failed, log_from, no_memory, no_memory_row, outcome_of, row_of, rows_from, rows_of_line, run_after, run_after_all, served, session_run, unserved}
use Rattle.laws_versions.specs.History.{EachTwo, HasHistory, LabelsRise}
use Rattle.laws_versions.proofs.HistoryLemmas.Labels.{labels_rise}
use Rattle.laws_versions.proofs.HistoryLemmas.LawfulEntries.{keeps_some}
use Rattle.laws_engine.specs.LawfulSteps.{AreLawful, HasLawfulStep}
use Rattle.laws_engine.specs.PlainIndexes.{read_no_sums}
use Rattle.laws_engine.proofs.EquivalentLemmas.Answering.{answers_alike}
use Rattle.laws_engine.proofs.EquivalentLemmas.Reading.{by_past}
use Rattle.laws_engine.specs.LawfulRuns.{GoesLawfully}
use Rattle.laws_engine.specs.PlainColumns.{HasPlainIndexes}
use Rattle.laws_engine.proofs.HeldLemmas.EquivalentRuns.{all_equivalent, all_lawful}
use Rattle.laws_engine.proofs.HeldLemmas.PlainSteps.{plain_read_no_sums, stays_plain}

-- ---- what a state keeps after lawful entries

record IsSound (state : DatabaseState) : Type 0 where
  history : HasHistory state
  labels : EachTwo LabelsRise state.sessions
  plain : HasPlainIndexes state

sound_after : (state : DatabaseState) (entries : List Entry) → IsSound state → AreLawful state entries → IsSound (state_after_all state entries)
sound_after state [] h lawful = h
sound_after state (made ∷ entries) h lawful =
    sound_after (state_after state made) entries
    (record { history = keeps_some state made h.history lawful.0; labels = labels_rise state made h.labels lawful.0; plain = stays_plain state made h.plain lawful.0 }) lawful.1

history_after : (state : DatabaseState) (entries : List Entry) → HasHistory state → AreLawful state entries → HasHistory (state_after_all state entries)
history_after state [] h lawful = h
history_after state (made ∷ entries) h lawful = history_after (state_after state made) entries (keeps_some state made h lawful.0) lawful.1

-- ---- two runs

-- they are of equivalent states, and their sessions are at one place
record AreAlike (one other : RunState) : Type 0 where
  equivalent : AreEquivalent one.state other.state
  sessions : one.sessions ≡ other.sessions
  sound : IsSound one.state
  history : HasHistory other.state

abbrev at_sessions : RunState → List (ℕ × SessionRun) → RunState
at_sessions run sessions = record { state = run.state; sessions = sessions }

same_outcome : (limit : ℕ) (one other : RunState) (line : Line) → AreAlike one other → Agrees one.state line.0 (session_run one line.0).local → outcome_of limit one line ≡ outcome_of limit other line
same_outcome limit one other line h agrees =
    by_past
    (λ one other. read_no_sums one.tables ≡ true → (limit session : ℕ) (local : LocalState) → Agrees one session local → (request : Request)
    → answer (record { limit = limit; state = one; session = session; local = local }) request ≡ answer (record { limit = limit; state = other; session = session; local = local }) request) answers_alike one.state other.state
    h.equivalent (plain_read_no_sums one.state h.sound.plain) limit line.0 (session_run one line.0).local agrees line.1
    ∙ ap (λ sessions. outcome_of limit (at_sessions other sessions) line) h.sessions

same_row : (one other : RunState) (line : Line) → AreAlike one other → (answered : Answered) (reply : Jet) → row_of one line answered reply ≡ row_of other line answered reply
same_row one other line h answered reply = λ i. record {
  n = if is_local line.1 reply then (session_run (at_sessions one (h.sessions i)) line.0).last else (h.equivalent i).number;
  session = line.0;
  request = line.1;
  answered = answered;
}

-- ---- after a line

served_alike : (limit : ℕ) (one other : RunState) (line : Line) → AreAlike one other → Agrees one.state line.0 (session_run one line.0).local → HasLawfulStep one.state (outcome_of limit one line)
    → AreAlike (after_served limit one line) (after_served limit other line)
served_alike limit one other line h agrees lawful =
    let outcome = same_outcome limit one other line h agrees in
    let entries = entries_of_step (outcome_of limit one line).step in
    record {
      equivalent = all_equivalent one.state other.state h.equivalent h.sound.history h.history h.sound.labels h.sound.plain entries lawful
          ∙ ap (λ (o : Outcome). essence (state_after_all other.state (entries_of_step o.step))) outcome;
      sessions = λ i. put_by_number line.0
          (record {
            local = (outcome i).local;
            last = if is_local line.1 (outcome i).answered.jet then (session_run (at_sessions one (h.sessions i)) line.0).last else (h.equivalent i).number + length (entries_of_step (outcome i).step);
          })
          (h.sessions i);
      sound = sound_after one.state entries h.sound lawful;
      history = subst (λ (o : Outcome). HasHistory (state_after_all other.state (entries_of_step o.step))) outcome
          (history_after other.state entries h.history (all_lawful one.state other.state h.equivalent h.sound.history h.history h.sound.labels h.sound.plain entries lawful));
    }

after_alike : (limit : ℕ) (one other : RunState) (line : Line) (becomes : LineOutcome) → AreAlike one other → Agrees one.state line.0 (session_run one line.0).local → HasLawfulStep one.state (outcome_of limit one line)
    → AreAlike (run_after limit one line becomes) (run_after limit other line becomes)
after_alike limit one other line served h agrees lawful = served_alike limit one other line h agrees lawful
after_alike limit one other line no_memory h agrees lawful = h
after_alike limit one other line (flush_failed reply) h agrees lawful = served_alike limit one other line h agrees lawful
after_alike limit one other line unserved h agrees lawful = served_alike limit one other line h agrees lawful

rows_alike : (limit : ℕ) (one other : RunState) (line : Line) (becomes : LineOutcome) → AreAlike one other → outcome_of limit one line ≡ outcome_of limit other line → rows_of_line limit one line becomes ≡ rows_of_line limit other line becomes
rows_alike limit one other line served h o =
    ap (λ row. row ∷ []) (same_row one other line h (outcome_of limit one line).answered (outcome_of limit one line).answered.jet ∙ ap (λ (x : Outcome). row_of other line x.answered x.answered.jet) o)
rows_alike limit one other line no_memory h o = ap (λ sessions. no_memory_row (at_sessions one sessions) line ∷ []) h.sessions
rows_alike limit one other line (flush_failed reply) h o =
    ap (λ row. row ∷ [])
    (same_row one other line h (record { jet = reply; shown = Nothing }) (outcome_of limit one line).answered.jet ∙ ap (λ (x : Outcome). row_of other line (record { jet = reply; shown = Nothing }) x.answered.jet) o)
rows_alike limit one other line unserved h o = refl

entries_alike : (limit : ℕ) (one other : RunState) (line : Line) (becomes : LineOutcome) → outcome_of limit one line ≡ outcome_of limit other line → entries_of_line limit one line becomes ≡ entries_of_line limit other line becomes
entries_alike limit one other line served o = ap (λ (x : Outcome). entries_of_step x.step) o
entries_alike limit one other line no_memory o = refl
entries_alike limit one other line (flush_failed reply) o = ap (λ (x : Outcome). entries_of_step x.step) o
entries_alike limit one other line unserved o = ap (λ (x : Outcome). entries_of_step x.step) o

-- ---- all lines

all_rows : (limit : ℕ) (one other : RunState) → AreAlike one other → (pairs : List (Line × LineOutcome)) → GoesLawfully limit one pairs → rows_from limit one pairs ≡ rows_from limit other pairs
all_rows limit one other h [] lawful = refl
all_rows limit one other h (pair ∷ pairs) lawful =
    let rows = rows_alike limit one other pair.0 pair.1 h (same_outcome limit one other pair.0 h lawful.0) in
    let rest = all_rows limit (run_after limit one pair.0 pair.1) (run_after limit other pair.0 pair.1) (after_alike limit one other pair.0 pair.1 h lawful.0 lawful.1) pairs lawful.2 in
    λ i. rows i ++ rest i

all_log : (limit : ℕ) (one other : RunState) → AreAlike one other → (pairs : List (Line × LineOutcome)) → GoesLawfully limit one pairs → log_from limit one pairs ≡ log_from limit other pairs
all_log limit one other h [] lawful = refl
all_log limit one other h (pair ∷ pairs) lawful =
    let entries = entries_alike limit one other pair.0 pair.1 (same_outcome limit one other pair.0 h lawful.0) in
    let rest = all_log limit (run_after limit one pair.0 pair.1) (run_after limit other pair.0 pair.1) (after_alike limit one other pair.0 pair.1 h lawful.0 lawful.1) pairs lawful.2 in
    λ i. entries i ++ rest i

all_after : (limit : ℕ) (one other : RunState) → AreAlike one other → (pairs : List (Line × LineOutcome)) → GoesLawfully limit one pairs → AreEquivalent (run_after_all limit one pairs).state (run_after_all limit other pairs).state
all_after limit one other h [] lawful = h.equivalent
all_after limit one other h (pair ∷ pairs) lawful =
    all_after limit (run_after limit one pair.0 pair.1) (run_after limit other pair.0 pair.1) (after_alike limit one other pair.0 pair.1 h lawful.0 lawful.1) pairs lawful.2

alike : (one other : RunState) → AreEquivalent one.state other.state → one.sessions ≡ other.sessions → HasHistory one.state → HasHistory other.state → EachTwo LabelsRise one.state.sessions → HasPlainIndexes one.state → AreAlike one other
alike one other e s h g labels plain = record { equivalent = e; sessions = s; sound = record { history = h; labels = labels; plain = plain }; history = g }

pub runs_alike : (limit : ℕ) (one other : RunState) → AreEquivalent one.state other.state → one.sessions ≡ other.sessions → HasHistory one.state → HasHistory other.state → EachTwo LabelsRise one.state.sessions → HasPlainIndexes one.state
    → (pairs : List (Line × LineOutcome)) → GoesLawfully limit one pairs → rows_from limit one pairs ≡ rows_from limit other pairs
runs_alike limit one other e s h g labels plain = all_rows limit one other (alike one other e s h g labels plain)

pub logs_alike : (limit : ℕ) (one other : RunState) → AreEquivalent one.state other.state → one.sessions ≡ other.sessions → HasHistory one.state → HasHistory other.state → EachTwo LabelsRise one.state.sessions → HasPlainIndexes one.state
    → (pairs : List (Line × LineOutcome)) → GoesLawfully limit one pairs → log_from limit one pairs ≡ log_from limit other pairs
logs_alike limit one other e s h g labels plain = all_log limit one other (alike one other e s h g labels plain)

pub ends_alike : (limit : ℕ) (one other : RunState) → AreEquivalent one.state other.state → one.sessions ≡ other.sessions → HasHistory one.state → HasHistory other.state → EachTwo LabelsRise one.state.sessions → HasPlainIndexes one.state
    → (pairs : List (Line × LineOutcome)) → GoesLawfully limit one pairs → AreEquivalent (run_after_all limit one pairs).state (run_after_all limit other pairs).state
ends_alike limit one other e s h g labels plain = all_after limit one other (alike one other e s h g labels plain)
