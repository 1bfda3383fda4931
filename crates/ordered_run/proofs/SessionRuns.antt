-- What a line comes to for the sessions of a script: served, or without memory.
use Rattle.std.proofs.Common.{◌≡◌, ◌≢◌, ℕ, ◌+◌, Bool, true, false, List, [], ◌∷◌, length, Option, Some, None, inl, inr, refl, sym, ap, subst, ◌∙◌, arith}
use Rattle.std.specs.Prelude.{if◌then◌else◌}
use Rattle.std.proofs.lemmas.Bool.Decides.{eqb_tells}
use Rattle.std.proofs.lemmas.Bool.{not_from_false}
use Rattle.jet_base.specs.declared.ids.Session.{Session}
use Rattle.jet_base.specs.declared.replies.Jet.{Jet}
use Rattle.jet_base.specs.declared.replies.Jet.TheVariants as jet
use Rattle.index_derive.specs.declared.log.Entry.{Entry}
use Rattle.index_derive.specs.declared.log.Step.{Step}
use Rattle.index_derive.specs.Steps.{entries_of_step}
use Rattle.session_local.specs.declared.request.Request.{Request}
use Rattle.session_local.specs.declared.reply.Reply.{Reply}
use Rattle.session_local.specs.Answer.{Answered, answered_by}
use Rattle.session_local.specs.Outcome.{Outcome}
use Rattle.session_local.specs.Calls.{is_local}
use Rattle.session_local.specs.Run.{RunState, SessionRun, Line, LineOutcome, served, session_run, outcome_of, number_of_line, last_after, after_outcome, takes_no_memory}
use Rattle.ordered_run.specs.declared.sessions.RunSession.{RunSession}
use Rattle.ordered_run.specs.Sessions.{last_label, session_at, HasPlace, OthersStay, AreSessionsOf, in_run}
use Rattle.laws_engine.specs.EngineState.{EngineState}
use Rattle.laws_engine.specs.EngineSteps.{engine_after, engine_after_all, engine_after_answer, cleaned_for, step_cleans}
use Rattle.engine_core.specs.Runs.{HoldsRun}
use Rattle.ordered_run.specs.declared.flushed.Flush.{Flush}
use Rattle.ordered_run.specs.declared.flushed.Flush.TheVariants.{Kept}
use Rattle.ordered_run.specs.Flushing.{outcome_of_flush, outcome_of_jet}
use Rattle.ordered_run.specs.SessionRun.{no_memory_reply, outcome_told, reply_bytes, IsInRun, GoesOn}

-- ---- one session of all

-- what holds of one session as it is now, and of all as they were where the others stay, holds of all
each_session : (Q : ℕ → RunSession → Type 0) (label : ℕ) (before after : List RunSession) → OthersStay label before after → Q label (session_at after label)
    → ((other : ℕ) → Q other (session_at before other)) → (other : ℕ) → Q other (session_at after other)
each_session Q label before after stay own known other =
    elim (eqb_tells other label) [
      | inl same ↦ subst (λ (l : ℕ). Q l (session_at after l)) (sym same.1) own
      | inr apart ↦ subst (λ (s : RunSession). Q other s) (sym (stay other apart.1)) (known other)
    ]

-- what became of the sessions by a call of one of them
pub record IsBrought (before after : List RunSession) (label : ℕ) : Type 0 where
  pub others : OthersStay label before after
  pub label_is : (session_at after label).local.session ≡ label
  pub places : HasPlace after last_label

pub in_run-brought : (limit : ℕ) (engine after_engine : EngineState) (before after : List RunSession) (run after_run : RunState) (label : ℕ)
    → IsInRun limit engine before run → IsBrought before after label → HoldsRun limit after_engine after_run → AreSessionsOf after after_run
    → IsInRun limit after_engine after after_run
in_run-brought limit engine after_engine before after run after_run label is brought holds are = record {
  holds = holds;
  parts = are;
  labels = each_session (λ (l : ℕ) (s : RunSession). s.local.session ≡ l) label before after brought.others brought.label_is is.labels;
  places = brought.places;
}

-- the session has the same own state, and the same number
pub in_run-kept : (limit : ℕ) (engine after_engine : EngineState) (before after : List RunSession) (run : RunState) (label : ℕ)
    → IsInRun limit engine before run → IsBrought before after label → in_run (session_at after label) ≡ in_run (session_at before label) → HoldsRun limit after_engine run
    → IsInRun limit after_engine after run
in_run-kept limit engine after_engine before after run label is brought same holds =
    in_run-brought limit engine after_engine before after run run label is brought holds
    (each_session (λ (l : ℕ) (s : RunSession). session_run run l ≡ in_run s) label before after brought.others (is.parts label ∙ sym same) is.parts)

-- ---- served lines

pub served_told : (reply : Jet) (flush : Flush) → reply ≢ jet.OutOfMemory → outcome_of_jet reply flush ≡ outcome_of_flush flush
served_told jet.OutOfMemory flush found = absurd (found refl)
served_told _ flush found = refl

-- the law of the sessions after a line
abbrev pub SessionsFollow : Type 0
SessionsFollow =
    (before after : List RunSession) (run : RunState) (line : Line) (outcome : Outcome) → AreSessionsOf before run → OthersStay line.0 before after
    → in_run (session_at after line.0) ≡ record { local = outcome.local; last = last_after run line outcome }
    → AreSessionsOf after (after_outcome run line outcome)

-- What a call has come to, and what it left.
pub record Came (limit : ℕ) (engine : EngineState) (before after : List RunSession) (run : RunState) (session : Session) (request : Request) (n : ℕ) (reply : Reply) (outcome : Outcome) : Type 0 where
  pub answered : answered_by reply (reply_bytes after session) ≡ outcome.answered
  pub memory : outcome.answered.jet ≢ jet.OutOfMemory
  pub brought : IsBrought before after session.0
  pub own : in_run (session_at after session.0) ≡ record { local = outcome.local; last = last_after run (session.0, request) outcome }
  pub number : n ≡ number_of_line run (session.0, request) outcome.answered.jet
  pub held : HoldsRun limit engine (after_outcome run (session.0, request) outcome)

goes_on-served : SessionsFollow → (limit : ℕ) (engine after_engine : EngineState) (before after : List RunSession) (run : RunState) (session : Session) (request : Request) (n : ℕ) (reply : Reply)
    → IsInRun limit engine before run → Came limit after_engine before after run session request n reply (outcome_of limit run (session.0, request))
    → GoesOn limit after_engine after run session request n reply served
goes_on-served follow limit engine after_engine before after run session request n reply is came =
    let outcome = outcome_of limit run (session.0, request) in record {
      row =
          ap (λ (m : ℕ). record { n = m; session = session.0; request = request; answered = outcome.answered } ∷ []) (sym came.number)
          ∙ ap (λ (a : Answered). record { n = n; session = session.0; request = request; answered = a } ∷ []) (sym came.answered);
      may_be = refl;
      in_run = in_run-brought limit engine after_engine before after run (after_outcome run (session.0, request) outcome) session.0 is came.brought came.held
          (follow before after run (session.0, request) outcome is.parts came.brought.others came.own);
    }

-- a call that came to the answer of the run is the run's next line
pub goes_on : SessionsFollow → (limit : ℕ) (engine after_engine : EngineState) (before after : List RunSession) (run : RunState) (session : Session) (request : Request) (n : ℕ) (reply : Reply)
    → IsInRun limit engine before run → Came limit after_engine before after run session request n reply (outcome_of limit run (session.0, request))
    → GoesOn limit after_engine after run session request n reply (outcome_told reply)
goes_on follow limit engine after_engine before after run session request n reply is came =
    let found : reply.jet ≢ jet.OutOfMemory = λ none. came.memory (sym (ap (λ (a : Answered). a.jet) came.answered) ∙ none) in
    subst (λ (o : LineOutcome). GoesOn limit after_engine after run session request n reply o) (sym (served_told reply.jet Kept found))
    (goes_on-served follow limit engine after_engine before after run session request n reply is came)

-- ---- lines without memory

pub goes_on-none : (limit : ℕ) (engine : EngineState) (sessions : List RunSession) (run : RunState) (session : Session) (request : Request) (n : ℕ) (reply : Reply)
    → n ≡ (session_at sessions session.0).last → reply ≡ no_memory_reply → IsInRun limit engine sessions run → takes_no_memory request ≡ false
    → GoesOn limit engine sessions run session request n reply (outcome_told reply)
goes_on-none limit engine sessions run session request n reply n_is reply_is is takes =
    subst (λ (m : ℕ). GoesOn limit engine sessions run session request m reply (outcome_told reply)) (sym n_is)
    (subst (λ (r : Reply). GoesOn limit engine sessions run session request (session_at sessions session.0).last r (outcome_told r)) (sym reply_is) (record {
      row = ap (λ (s : SessionRun). record { n = s.last; session = session.0; request = request; answered = answered_by no_memory_reply (reply_bytes sessions session) } ∷ []) (is.parts session.0);
      may_be = not_from_false (takes_no_memory request) takes;
      in_run = is;
    }))

-- ---- the count of the log

one_more : (n m : ℕ) → (n + 1) + m ≡ n + (m + 1)
one_more n m = omega arith

-- each entry counts
number-after_all : (engine : EngineState) (entries : List Entry) → (engine_after_all engine entries).number ≡ engine.number + length entries
number-after_all engine [] = omega arith
number-after_all engine (made ∷ entries) =
    number-after_all (engine_after engine made) entries ∙ one_more engine.number (length entries)
    ∙ ap (λ (n : ℕ). engine.number + n) (let e : length entries + 1 ≡ length (made ∷ entries) = omega arith in e)

number-cleaned : (cleans : Bool) (engine : EngineState) → (cleaned_for cleans engine).number ≡ engine.number
number-cleaned true engine = refl
number-cleaned false engine = refl

pub number-after_answer : (engine : EngineState) (step : Option Step) → (engine_after_answer engine step).number ≡ engine.number + length (entries_of_step step)
number-after_answer engine None = omega arith
number-after_answer engine (Some step) =
    number-after_all (cleaned_for (step_cleans step) engine) (entries_of_step (Some step))
    ∙ ap (λ (n : ℕ). n + length (entries_of_step (Some step))) (number-cleaned (step_cleans step) engine)

-- the number of a line, and the count behind it
pub number-local : (run : RunState) (line : Line) (reply : Jet) (session : RunSession) → session_run run line.0 ≡ in_run session → is_local line.1 reply ≡ true → session.last ≡ number_of_line run line reply
number-local run line reply session is here =
    sym (ap (λ (b : Bool). if b then (session_run run line.0).last else run.state.number) here ∙ ap (λ (s : SessionRun). s.last) is)

pub last-local : (run : RunState) (line : Line) (outcome : Outcome) (session : RunSession) → session_run run line.0 ≡ in_run session → is_local line.1 outcome.answered.jet ≡ true
    → session.last ≡ last_after run line outcome
last-local run line outcome session is here =
    sym (ap (λ (b : Bool). if b then (session_run run line.0).last else run.state.number + length (entries_of_step outcome.step)) here ∙ ap (λ (s : SessionRun). s.last) is)

pub number-by : (run : RunState) (line : Line) (reply : Jet) (session : RunSession) (number : ℕ) → session_run run line.0 ≡ in_run session → run.state.number ≡ number
    → (if is_local line.1 reply then session.last else number) ≡ number_of_line run line reply
number-by run line reply session number is same =
    sym (ap (λ (m : ℕ). if is_local line.1 reply then m else run.state.number) (ap (λ (s : SessionRun). s.last) is)
    ∙ ap (λ (m : ℕ). if is_local line.1 reply then session.last else m) same)

pub last-by : (run : RunState) (line : Line) (outcome : Outcome) (session : RunSession) (number : ℕ) → session_run run line.0 ≡ in_run session
    → run.state.number + length (entries_of_step outcome.step) ≡ number
    → (if is_local line.1 outcome.answered.jet then session.last else number) ≡ last_after run line outcome
last-by run line outcome session number is same =
    sym (ap (λ (m : ℕ). if is_local line.1 outcome.answered.jet then m else run.state.number + length (entries_of_step outcome.step)) (ap (λ (s : SessionRun). s.last) is)
    ∙ ap (λ (m : ℕ). if is_local line.1 outcome.answered.jet then session.last else m) same)
