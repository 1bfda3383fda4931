-- Lines of runs from states that differ in undone changes.
use Rattle.std.proofs.Common.{◌≡◌, ℕ, ◌+◌, Bool, true, false, not, ◌&&◌, List, [], ◌∷◌, ◌++◌, length, refl, sym, ap, subst, ◌∙◌}
use Rattle.std.specs.Prelude.{if◌then◌else◌}
use Rattle.common_lemmas.proofs.Booleans.{and_right, impossible}
use Rattle.jet_base.specs.declared.replies.Jet.{Jet}
use Rattle.column_set.specs.RecordValues.{put_by_number}
use Rattle.index_derive.specs.declared.log.Entry.{Entry}
use Rattle.index_derive.specs.Steps.{entries_of_step}
use Rattle.database_state.specs.Lawful.{is_lawful}
use Rattle.database_state.specs.State.{DatabaseState}
use Rattle.database_state.specs.Step.{state_after, state_after_all}
use Rattle.laws_engine.proofs.HeldLemmas.PlainSteps.{plain_read_no_sums, stays_plain}
use Rattle.laws_engine.specs.LawfulRuns.{GoesLawfully}
use Rattle.laws_engine.specs.LawfulSteps.{AreLawful, HasLawfulStep}
use Rattle.laws_engine.specs.PlainColumns.{HasPlainIndexes}
use Rattle.laws_versions.proofs.HistoryLemmas.Labels.{labels_rise}
use Rattle.laws_versions.proofs.HistoryLemmas.LawfulEntries.{keeps_some}
use Rattle.laws_versions.specs.History.{EachTwo, HasHistory, LabelsRise}
use Rattle.session_local.specs.Agreement.{Agrees}
use Rattle.session_local.specs.Answer.{Answered, Nothing}
use Rattle.session_local.specs.Calls.{is_local}
use Rattle.session_local.specs.Outcome.{Outcome}
use Rattle.session_local.specs.Run.{Line, LineOutcome, RunState, SessionRun, after_served, entries_of_line, flush_failed, log_from, no_memory, no_memory_row, outcome_of, row_of, rows_from, rows_of_line, run_after, run_after_all, served, session_run, unserved}
use Rattle.image_writing.specs.LighterStates.{DiffersInUndone, have_room, is_out_of_room}
use Rattle.image_writing.proofs.UndoneAnswers.{differing_after, differing_room, differing_takes}

-- ---- states after lawful entries

-- what a state keeps after them
pub record IsSound (state : DatabaseState) : Type 0 where
  pub history : HasHistory state
  pub labels : EachTwo LabelsRise state.sessions
  pub plain : HasPlainIndexes state

-- and two states that differ in undone changes
pub record AreSound (one other : DatabaseState) : Type 0 where
  pub differ : DiffersInUndone one other
  pub sound : IsSound one
  pub history : HasHistory other

next_sound : (one other : DatabaseState) → AreSound one other → (made : Entry) → is_lawful one made ≡ true → AreSound (state_after one made) (state_after other made)
next_sound one other h made lawful = record {
  differ = differing_after one other h.differ h.history h.sound.labels made lawful;
  sound = record { history = keeps_some one made h.sound.history lawful; labels = labels_rise one made h.sound.labels lawful; plain = stays_plain one made h.sound.plain lawful };
  history = keeps_some other made h.history (sym (differing_takes one other h.differ (plain_read_no_sums one h.sound.plain) made) ∙ lawful);
}

pub all_sound : (one other : DatabaseState) → AreSound one other → (entries : List Entry) → AreLawful one entries → AreSound (state_after_all one entries) (state_after_all other entries)
all_sound one other h [] lawful = h
all_sound one other h (made ∷ entries) lawful = all_sound (state_after one made) (state_after other made) (next_sound one other h made lawful.0) entries lawful.1

number_same : (one other : DatabaseState) → DiffersInUndone one other → one.number ≡ other.number
number_same one other d = ap (λ e. e.number) d.equivalent

-- ---- two runs

-- their states differ in undone changes, and their sessions are at one place
record AreAlike (one other : RunState) : Type 0 where
  states : AreSound one.state other.state
  sessions : one.sessions ≡ other.sessions

abbrev at_sessions : RunState → List (ℕ × SessionRun) → RunState
at_sessions run sessions = record { state = run.state; sessions = sessions }

same_outcome : (limit : ℕ) (one other : RunState) (line : Line) → AreAlike one other → Agrees one.state line.0 (session_run one line.0).local → is_out_of_room (outcome_of limit one line) ≡ false → outcome_of limit one line ≡ outcome_of limit other line
same_outcome limit one other line h agrees room =
    differing_room one.state other.state h.states.differ (plain_read_no_sums one.state h.states.sound.plain) limit line.0 (session_run one line.0).local agrees line.1 room
    ∙ ap (λ sessions. outcome_of limit (at_sessions other sessions) line) h.sessions

same_row : (one other : RunState) (line : Line) → AreAlike one other → (answered : Answered) (reply : Jet) → row_of one line answered reply ≡ row_of other line answered reply
same_row one other line h answered reply = λ i. record {
  n = if is_local line.1 reply then (session_run (at_sessions one (h.sessions i)) line.0).last else number_same one.state other.state h.states.differ i;
  session = line.0;
  request = line.1;
  answered = answered;
}

-- ---- after a line

served_alike : (limit : ℕ) (one other : RunState) (line : Line) → AreAlike one other → HasLawfulStep one.state (outcome_of limit one line) → outcome_of limit one line ≡ outcome_of limit other line → AreAlike (after_served limit one line) (after_served limit other line)
served_alike limit one other line h lawful outcome =
    let entries = entries_of_step (outcome_of limit one line).step in
    let number = number_same one.state other.state h.states.differ in
    record {
      states = subst (λ (o : Outcome). AreSound (state_after_all one.state entries) (state_after_all other.state (entries_of_step o.step))) outcome (all_sound one.state other.state h.states entries lawful);
      sessions = λ i. put_by_number line.0
          (record {
            local = (outcome i).local;
            last = if is_local line.1 (outcome i).answered.jet then (session_run (at_sessions one (h.sessions i)) line.0).last else number i + length (entries_of_step (outcome i).step);
          })
          (h.sessions i);
    }

after_alike : (limit : ℕ) (one other : RunState) (line : Line) (becomes : LineOutcome) → AreAlike one other → HasLawfulStep one.state (outcome_of limit one line) → outcome_of limit one line ≡ outcome_of limit other line
    → AreAlike (run_after limit one line becomes) (run_after limit other line becomes)
after_alike limit one other line served h lawful o = served_alike limit one other line h lawful o
after_alike limit one other line no_memory h lawful o = h
after_alike limit one other line (flush_failed reply) h lawful o = served_alike limit one other line h lawful o
after_alike limit one other line unserved h lawful o = served_alike limit one other line h lawful o

rows_alike : (limit : ℕ) (one other : RunState) (line : Line) (becomes : LineOutcome) → AreAlike one other → outcome_of limit one line ≡ outcome_of limit other line → rows_of_line limit one line becomes ≡ rows_of_line limit other line becomes
rows_alike limit one other line served h o =
    ap (λ row. row ∷ []) (same_row one other line h (outcome_of limit one line).answered (outcome_of limit one line).answered.jet ∙ ap (λ (x : Outcome). row_of other line x.answered x.answered.jet) o)
rows_alike limit one other line no_memory h o = ap (λ sessions. no_memory_row (at_sessions one sessions) line ∷ []) h.sessions
rows_alike limit one other line (flush_failed reply) h o =
    ap (λ row. row ∷ [])
    (same_row one other line h (record { jet = reply; shown = Nothing }) (outcome_of limit one line).answered.jet ∙ ap (λ (x : Outcome). row_of other line (record { jet = reply; shown = Nothing }) x.answered.jet) o)
rows_alike limit one other line unserved h o = refl

entries_alike : (limit : ℕ) (one other : RunState) (line : Line) (becomes : LineOutcome) → outcome_of limit one line ≡ outcome_of limit other line → entries_of_line limit one line becomes ≡ entries_of_line limit other line becomes
entries_alike limit one other line served o = ap (λ (x : Outcome). entries_of_step x.step) o
entries_alike limit one other line no_memory o = refl
entries_alike limit one other line (flush_failed reply) o = ap (λ (x : Outcome). entries_of_step x.step) o
entries_alike limit one other line unserved o = ap (λ (x : Outcome). entries_of_step x.step) o

-- ---- all lines

first_room : (full rest : Bool) → (not full && rest) ≡ true → full ≡ false
first_room true rest h = impossible h
first_room false rest h = refl

first_same : (limit : ℕ) (one other : RunState) (pair : Line × LineOutcome) (pairs : List (Line × LineOutcome)) → AreAlike one other → Agrees one.state pair.0.0 (session_run one pair.0.0).local → have_room limit one (pair ∷ pairs) ≡ true
    → outcome_of limit one pair.0 ≡ outcome_of limit other pair.0
first_same limit one other pair pairs h agrees room =
    same_outcome limit one other pair.0 h agrees (first_room (is_out_of_room (outcome_of limit one pair.0)) (have_room limit (run_after limit one pair.0 pair.1) pairs) room)

rest_room : (limit : ℕ) (one : RunState) (pair : Line × LineOutcome) (pairs : List (Line × LineOutcome)) → have_room limit one (pair ∷ pairs) ≡ true → have_room limit (run_after limit one pair.0 pair.1) pairs ≡ true
rest_room limit one pair pairs room = and_right (not (is_out_of_room (outcome_of limit one pair.0))) (have_room limit (run_after limit one pair.0 pair.1) pairs) room

all_rows : (limit : ℕ) (one other : RunState) → AreAlike one other → (pairs : List (Line × LineOutcome)) → GoesLawfully limit one pairs → have_room limit one pairs ≡ true → rows_from limit one pairs ≡ rows_from limit other pairs
all_rows limit one other h [] lawful room = refl
all_rows limit one other h (pair ∷ pairs) lawful room =
    let same = first_same limit one other pair pairs h lawful.0 room in
    let rows = rows_alike limit one other pair.0 pair.1 h same in
    let rest = all_rows limit (run_after limit one pair.0 pair.1) (run_after limit other pair.0 pair.1) (after_alike limit one other pair.0 pair.1 h lawful.1 same) pairs lawful.2 (rest_room limit one pair pairs room) in
    λ i. rows i ++ rest i

all_log : (limit : ℕ) (one other : RunState) → AreAlike one other → (pairs : List (Line × LineOutcome)) → GoesLawfully limit one pairs → have_room limit one pairs ≡ true → log_from limit one pairs ≡ log_from limit other pairs
all_log limit one other h [] lawful room = refl
all_log limit one other h (pair ∷ pairs) lawful room =
    let same = first_same limit one other pair pairs h lawful.0 room in
    let entries = entries_alike limit one other pair.0 pair.1 same in
    let rest = all_log limit (run_after limit one pair.0 pair.1) (run_after limit other pair.0 pair.1) (after_alike limit one other pair.0 pair.1 h lawful.1 same) pairs lawful.2 (rest_room limit one pair pairs room) in
    λ i. entries i ++ rest i

all_after : (limit : ℕ) (one other : RunState) → AreAlike one other → (pairs : List (Line × LineOutcome)) → GoesLawfully limit one pairs → have_room limit one pairs ≡ true
    → DiffersInUndone (run_after_all limit one pairs).state (run_after_all limit other pairs).state
all_after limit one other h [] lawful room = h.states.differ
all_after limit one other h (pair ∷ pairs) lawful room =
    let same = first_same limit one other pair pairs h lawful.0 room in
    all_after limit (run_after limit one pair.0 pair.1) (run_after limit other pair.0 pair.1) (after_alike limit one other pair.0 pair.1 h lawful.1 same) pairs lawful.2 (rest_room limit one pair pairs room)

alike : (one other : RunState) → DiffersInUndone one.state other.state → one.sessions ≡ other.sessions → HasHistory one.state → HasHistory other.state → EachTwo LabelsRise one.state.sessions → HasPlainIndexes one.state → AreAlike one other
alike one other d s h g labels plain = record { states = record { differ = d; sound = record { history = h; labels = labels; plain = plain }; history = g }; sessions = s }

pub runs_alike : (limit : ℕ) (one other : RunState) → DiffersInUndone one.state other.state → one.sessions ≡ other.sessions → HasHistory one.state → HasHistory other.state → EachTwo LabelsRise one.state.sessions → HasPlainIndexes one.state
    → (pairs : List (Line × LineOutcome)) → GoesLawfully limit one pairs → have_room limit one pairs ≡ true → rows_from limit one pairs ≡ rows_from limit other pairs
runs_alike limit one other d s h g labels plain = all_rows limit one other (alike one other d s h g labels plain)

pub logs_alike : (limit : ℕ) (one other : RunState) → DiffersInUndone one.state other.state → one.sessions ≡ other.sessions → HasHistory one.state → HasHistory other.state → EachTwo LabelsRise one.state.sessions → HasPlainIndexes one.state
    → (pairs : List (Line × LineOutcome)) → GoesLawfully limit one pairs → have_room limit one pairs ≡ true → log_from limit one pairs ≡ log_from limit other pairs
logs_alike limit one other d s h g labels plain = all_log limit one other (alike one other d s h g labels plain)

pub ends_alike : (limit : ℕ) (one other : RunState) → DiffersInUndone one.state other.state → one.sessions ≡ other.sessions → HasHistory one.state → HasHistory other.state → EachTwo LabelsRise one.state.sessions → HasPlainIndexes one.state
    → (pairs : List (Line × LineOutcome)) → GoesLawfully limit one pairs → have_room limit one pairs ≡ true → DiffersInUndone (run_after_all limit one pairs).state (run_after_all limit other pairs).state
ends_alike limit one other d s h g labels plain = all_after limit one other (alike one other d s h g labels plain)
