-- What is made for a line, and how its flush goes on with it.
use Rattle.std.proofs.Common.{◌≡◌, ◌≢◌, ◌≤◌, ℕ, Bool, true, false, List, [], ◌∷◌, Option, Some, None, inl, inr, refl, sym, ap, subst, ◌∙◌}
use Rattle.std.proofs.lemmas.Bool.{false≢true}
use Rattle.std.specs.List.{AllByRecursion}
use Rattle.jet_base.specs.declared.ids.Session.{Session}
use Rattle.jet_base.specs.declared.replies.Jet.{Jet}
use Rattle.jet_base.specs.declared.replies.Jet.TheVariants as jet
use Rattle.index_derive.specs.declared.log.Entry.{Entry}
use Rattle.index_derive.specs.declared.log.Step.{Step}
use Rattle.index_derive.specs.declared.log.Step.TheVariants.{One, Alone}
use Rattle.index_derive.specs.Steps.{entries_of_step}
use Rattle.session_local.specs.declared.request.Request.{Request}
use Rattle.session_local.specs.declared.reply.Reply.{Reply}
use Rattle.session_local.specs.Answer.{Answered, Nothing, Row, answered_by}
use Rattle.session_local.specs.BuiltCalls.{is_built_request}
use Rattle.session_local.specs.Calls.{answer}
use Rattle.session_local.specs.Local.{LocalState}
use Rattle.session_local.specs.LocalCalls.{is_answered_locally, IsAnswer}
use Rattle.session_local.specs.SessionSide.{SessionSide}
use Rattle.session_local.specs.declared.decision.Decision.{Decision}
use Rattle.session_local.specs.Outcome.{CallInputs}
use Rattle.session_local.specs.Run.{Line, LineOutcome, RunState, served, entries_of_line, flushes, flushes_step, inputs_in, is_acknowledged, may_come, outcome_of, rows_of_line, run_after}
use Rattle.script_transcript.specs.TranscriptLine.{NamesNoMore}
use Rattle.laws_engine.specs.Answers.{IsAnswer as IsDecidedAnswer}
use Rattle.laws_engine.specs.EngineState.{EngineState}
use Rattle.laws_engine.proofs.EngineLemmas.Replies.{answer_own}
use Rattle.loggable_steps.specs.Loggable.{is_label, made_by}
use Rattle.ordered_run.specs.declared.flushed.Flush.{Flush}
use Rattle.ordered_run.specs.declared.flushed.Flush.TheVariants.{Kept, Failed, NoRoom}
use Rattle.ordered_run.specs.declared.flushed.Flushed.{Flushed}
use Rattle.ordered_run.specs.declared.served.LineAnswer.{LineAnswer}
use Rattle.ordered_run.specs.declared.served.Served.{Served}
use Rattle.ordered_run.specs.declared.sessions.RunSession.{RunSession}
use Rattle.ordered_run.specs.declared.session_engine.SessionEngine.{SessionEngine}
use Rattle.ordered_run.specs.Sessions.{session_at}
use Rattle.ordered_run.specs.Flushing.{nothing_flushed, IsFlushOutcome, outcome_of_flush, outcome_of_jet, reply_by_flush, rows_by_flush}
use Rattle.ordered_run.specs.ServedLines.{outcome_of_line, HasAnswered, LineMade, MakesLine}
use Rattle.ordered_run.specs.SessionRun.{no_memory_reply, outcome_told, reply_bytes, row_told, GoesOn, IsInRun}
use Rattle.ordered_run.proofs.SessionCalls.{AnswersFindMemory, TakesNoStep, local_is}
use Rattle.ordered_run.proofs.SessionRuns.{served_told}

-- ---- the label of a step

made_own : (label : ℕ) (step : Step) → AllByRecursion (λ (made : Entry). made.session.0 ≡ label) (entries_of_step (Some step)) → (made_by step).session.0 ≡ label
made_own label (One made) own = own.0
made_own label (Alone made) own = own.1.0

-- the entries of a call's step are of its session
pub step_label : (asked : CallInputs) (request : Request) (decided : Option Step) (step : Step) → is_built_request request ≡ true → decided ≡ (answer asked request).step → decided ≡ Some step
    → is_label asked.session ≡ true → is_label (made_by step).session.0 ≡ true
step_label asked request decided step built is step_is label =
    ap is_label (made_own asked.session step (subst (λ (s : Option Step). AllByRecursion (λ (made : Entry). made.session.0 ≡ asked.session) (entries_of_step s)) (sym is ∙ step_is) (answer_own asked request built))) ∙ label

-- ---- what is made

-- a reply that is the answer of a call finds memory
pub told-served : AnswersFindMemory → (asked : CallInputs) (request : Request) (reply : Reply) (bytes : List ℕ) → is_built_request request ≡ true → answered_by reply bytes ≡ (answer asked request).answered
    → outcome_told reply ≡ served
told-served finds asked request reply bytes built is = served_told reply.jet Kept (λ none. finds asked request built (sym (ap (λ (a : Answered). a.jet) is) ∙ none))

module _ {E : Type 0} (made : List Entry → E → E → Type 0) where
  -- the entries of its step, once it is served
  pub makes-served : (limit : ℕ) (run : RunState) (line : Line) (step : Option Step) (reply : Reply) (flush : Bool) (old new : E) → step ≡ (outcome_of limit run line).step → outcome_told reply ≡ served
      → made (entries_of_step step) old new → flush ≡ flushes_step line.1 step → MakesLine made limit run line (outcome_told reply) old new flush
  makes-served limit run line step reply flush old new is told makes flush_is =
      subst (λ (o : LineOutcome). MakesLine made limit run line o old new flush) (sym told) (record {
        entries = subst (λ (s : Option Step). made (entries_of_step s) old new) is makes;
        flush_is = flush_is ∙ ap (flushes_step line.1) is;
      })

  -- none, where it found no memory
  pub makes-none : (limit : ℕ) (run : RunState) (line : Line) (reply : Reply) (flush : Bool) (old new : E) → reply ≡ no_memory_reply → flush ≡ false → made [] old new
      → MakesLine made limit run line (outcome_told reply) old new flush
  makes-none limit run line reply flush old new reply_is flush_is makes =
      subst (λ (r : Reply). MakesLine made limit run line (outcome_told r) old new flush) (sym reply_is) (record { entries = makes; flush_is = flush_is })

-- none, where the session answered by itself
pub local-makes : {E : Type 0} (made : List Entry → E → E → Type 0) → AnswersFindMemory → TakesNoStep → (limit : ℕ) (engine : EngineState) (before : List RunSession) (run : RunState) (session : Session) (request : Request) (new : SessionSide) (reply : Reply) (old : E)
    → IsInRun limit engine before run → is_built_request request ≡ true → is_answered_locally (session_at before session.0).local.state request ≡ true
    → IsAnswer (session_at before session.0).local.state request (answered_by reply new.reply) new.state → made [] old old
    → MakesLine made limit run (session.0, request) (outcome_told reply) old old false
local-makes made finds no_step limit engine before run session request new reply old is built locally answers rests =
    let asked = inputs_in limit run session.0 in
    let seen = local_is limit engine before run session.0 is in
    let none = no_step asked request (ap (λ (l : LocalState). is_answered_locally l request) seen ∙ locally) in
    makes-served made limit run (session.0, request) None reply false old old (sym none) (told-served finds asked request reply new.reply built (sym (answers asked seen).0)) rests refl

-- those of a decision's step
pub decided-makes : {E : Type 0} (made : List Entry → E → E → Type 0) → AnswersFindMemory → (limit : ℕ) (run : RunState) (session : Session) (request : Request) (new : SessionSide) (decision : Decision) (flush : Bool) (old after : E)
    → IsDecidedAnswer (inputs_in limit run session.0) request new decision → is_built_request request ≡ true → made (entries_of_step decision.step) old after → flush ≡ flushes_step request decision.step
    → MakesLine made limit run (session.0, request) (outcome_told decision.reply) old after flush
decided-makes made finds limit run session request new decision flush old after answers built makes flush_is =
    makes-served made limit run (session.0, request) decision.step decision.reply flush old after answers.step
    (told-served finds (inputs_in limit run session.0) request decision.reply new.reply built answers.reply) makes flush_is

-- what was answered, as it is told
pub has-answered : {E : Type 0} (held : E → EngineState) (made : List Entry → E → E → Type 0) (limit : ℕ) (before : E) (after : SessionEngine E) (run : RunState) (session : Session) (request : Request) (told answer : LineAnswer) → told ≡ answer
    → GoesOn limit (held after.engine) after.sessions run session request answer.n answer.reply (outcome_told answer.reply) → MakesLine made limit run (session.0, request) (outcome_told answer.reply) before after.engine answer.flush
    → HasAnswered held made limit before after run session request told
has-answered held made limit before after run session request told answer is goes makes =
    subst (λ (a : LineAnswer). HasAnswered held made limit before after run session request a) (sym is) (record { goes_on = goes; makes = makes })

-- ---- its flush

-- a line that is to be acknowledged was served, and flushes
acknowledged-served : (limit : ℕ) (run : RunState) (line : Line) (reply : Jet) → is_acknowledged limit run line (outcome_of_jet reply Kept) ≡ true → reply ≢ jet.OutOfMemory
acknowledged-served limit run line reply is none = let never : false ≡ true = subst (λ (j : Jet). is_acknowledged limit run line (outcome_of_jet j Kept) ≡ true) none is in absurd (false≢true never)

acknowledged-flushes : (limit : ℕ) (run : RunState) (line : Line) (outcome : LineOutcome) → outcome ≡ served → is_acknowledged limit run line outcome ≡ true → flushes limit run line ≡ true
acknowledged-flushes limit run line outcome told is = subst (λ (o : LineOutcome). is_acknowledged limit run line o ≡ true) told is

first_number : List Row → ℕ
first_number [] = 0
first_number (row ∷ rows) = row.n

rows-flushed : (limit : ℕ) (run : RunState) (session : Session) (request : Request) (n : ℕ) (reply : Reply) (bytes : List ℕ) (flush : Flush)
    → rows_of_line limit run (session.0, request) served ≡ row_told n session request (answered_by reply bytes) ∷ []
    → rows_of_line limit run (session.0, request) (outcome_of_flush flush) ≡ rows_by_flush flush (row_told n session request (answered_by (reply_by_flush flush reply) bytes))
unfolding first_number
rows-flushed limit run session request n reply bytes Kept row = row
rows-flushed limit run session request n reply bytes Failed row =
    ap (λ (m : ℕ). record { n = m; session = session.0; request = request; answered = record { jet = jet.LogWriteFail; shown = Nothing } } ∷ []) (ap first_number row)
rows-flushed limit run session request n reply bytes NoRoom row = refl

may_come-flushed : (limit : ℕ) (run : RunState) (line : Line) (flush : Flush) → flushes limit run line ≡ true → may_come limit run line (outcome_of_flush flush) ≡ true
may_come-flushed limit run line Kept is = refl
may_come-flushed limit run line Failed is = is
may_come-flushed limit run line NoRoom is = is

run_after-flushed : (limit : ℕ) (run : RunState) (line : Line) (flush : Flush) → run_after limit run line (outcome_of_flush flush) ≡ run_after limit run line served
run_after-flushed limit run line Kept = refl
run_after-flushed limit run line Failed = refl
run_after-flushed limit run line NoRoom = refl

entries-flushed : (limit : ℕ) (run : RunState) (line : Line) (flush : Flush) → entries_of_line limit run line (outcome_of_flush flush) ≡ entries_of_line limit run line served
entries-flushed limit run line Kept = refl
entries-flushed limit run line Failed = refl
entries-flushed limit run line NoRoom = refl

outcome-flushed : (reply : Reply) (flush : Flush) → reply.jet ≢ jet.OutOfMemory → outcome_of_jet (reply_by_flush flush reply).jet flush ≡ outcome_of_flush flush
outcome-flushed reply Kept found = served_told reply.jet Kept found
outcome-flushed reply Failed found = refl
outcome-flushed reply NoRoom found = served_told reply.jet NoRoom found

-- the reply to a failed flush names no bytes
pub named-flushed : (reply : Reply) (flush : Flush) (most : ℕ) → NamesNoMore reply most → NamesNoMore (reply_by_flush flush reply) most
named-flushed reply Kept most named = named
named-flushed reply Failed most named = refl
named-flushed reply NoRoom most named = named

-- What a line that was served has come to, once it is told.
pub record IsTold {E : Type 0} (made : List Entry → E → E → Type 0) (flushed : E → E → Flushed → Type 0) (limit : ℕ) (engine : EngineState) (sessions : List RunSession) (run : RunState) (session : Session) (request : Request) (line : Served) (old new : E) : Type 0 where
  pub row : rows_of_line limit run (session.0, request) (outcome_of_line line) ≡ rows_by_flush line.flushed.flush (row_told line.n session request (answered_by line.reply (reply_bytes sessions session)))
  pub may_be : may_come limit run (session.0, request) (outcome_of_line line) ≡ true
  pub in_run : IsInRun limit engine sessions (run_after limit run (session.0, request) (outcome_of_line line))
  pub line_made : LineMade made flushed limit run (session.0, request) (outcome_of_line line) old new line.flushed

abbrev pub told_of : LineAnswer → Flushed → Served
told_of answer flushed = record { n = answer.n; reply = reply_by_flush flushed.flush answer.reply; flushed = flushed }

module _ {E : Type 0} (made : List Entry → E → E → Type 0) (flushed : E → E → Flushed → Type 0) where
  -- nothing was flushed
  pub told-quiet : (limit : ℕ) (engine : EngineState) (sessions : List RunSession) (run : RunState) (session : Session) (request : Request) (answer : LineAnswer) (old new : E)
      → GoesOn limit engine sessions run session request answer.n answer.reply (outcome_told answer.reply) → MakesLine made limit run (session.0, request) (outcome_told answer.reply) old new answer.flush
      → answer.flush ≡ false → IsTold made flushed limit engine sessions run session request (told_of answer nothing_flushed) old new
  told-quiet limit engine sessions run session request answer old new goes makes quiet = record {
    row = goes.row;
    may_be = goes.may_be;
    in_run = goes.in_run;
    line_made = record { between = new; makes = makes.entries; flush = inl (sym makes.flush_is ∙ quiet, refl, refl) };
  }

  -- the log was flushed
  pub told-flushed : (limit : ℕ) (engine : EngineState) (sessions : List RunSession) (run : RunState) (session : Session) (request : Request) (answer : LineAnswer) (told : Flushed) (old between new : E)
      → GoesOn limit engine sessions run session request answer.n answer.reply (outcome_told answer.reply) → MakesLine made limit run (session.0, request) (outcome_told answer.reply) old between answer.flush
      → answer.flush ≡ true → flushed between new told → IsTold made flushed limit engine sessions run session request (told_of answer told) old new
  told-flushed limit engine sessions run session request answer told old between new goes makes asked was =
      let line : Line = (session.0, request) in
      let acknowledged = sym makes.flush_is ∙ asked in
      let found = acknowledged-served limit run line answer.reply.jet acknowledged in
      let first : outcome_told answer.reply ≡ served = served_told answer.reply.jet Kept found in
      let flushes_is = acknowledged-flushes limit run line (outcome_told answer.reply) first acknowledged in
      let told_is = sym (outcome-flushed answer.reply told.flush found) in
      let row = ap (λ (o : LineOutcome). rows_of_line limit run line o) (sym first) ∙ goes.row in
      let rows = rows-flushed limit run session request answer.n answer.reply (reply_bytes sessions session) told.flush row in
      record {
        row = ap (λ (o : LineOutcome). rows_of_line limit run line o) (sym told_is) ∙ rows;
        may_be = ap (λ (o : LineOutcome). may_come limit run line o) (sym told_is) ∙ may_come-flushed limit run line told.flush flushes_is;
        in_run = subst (λ (r : RunState). IsInRun limit engine sessions r)
            (ap (λ (o : LineOutcome). run_after limit run line o) first ∙ sym (run_after-flushed limit run line told.flush) ∙ ap (λ (o : LineOutcome). run_after limit run line o) told_is) goes.in_run;
        line_made = record {
          between = between;
          makes = subst (λ (entries : List Entry). made entries old between)
              (ap (λ (o : LineOutcome). entries_of_line limit run line o) first ∙ sym (entries-flushed limit run line told.flush) ∙ ap (λ (o : LineOutcome). entries_of_line limit run line o) told_is) makes.entries;
          flush = inr (flushes_is, sym told_is, was);
        };
      }

-- the same of what is told so, over an engine that holds the same
pub told_as : {E : Type 0} (made : List Entry → E → E → Type 0) (flushed : E → E → Flushed → Type 0) (limit : ℕ) (engine between : EngineState) (sessions : List RunSession) (run : RunState) (session : Session) (request : Request) (line told : Served) (old new : E)
    → line ≡ told → engine ≡ between → IsTold made flushed limit between sessions run session request told old new → IsTold made flushed limit engine sessions run session request line old new
told_as made flushed limit engine between sessions run session request line told old new line_is engine_is is =
    subst (λ (l : Served). IsTold made flushed limit engine sessions run session request l old new) (sym line_is)
    (subst (λ (e : EngineState). IsTold made flushed limit e sessions run session request told old new) (sym engine_is) is)

kept_no_failure : Kept ≡ Failed → ⊥
kept_no_failure is = let never : ⊥ = cc in never

kept_found_room : Kept ≡ NoRoom → ⊥
kept_found_room is = let never : ⊥ = cc in never

-- what is told where nothing is flushed
pub nothing-told : (told : Flushed) → told ≡ nothing_flushed → IsFlushOutcome told
nothing-told told is = subst IsFlushOutcome (sym is) (record { kept = λ goes. refl; failed = λ failed. absurd (kept_no_failure failed); no_room = λ none. absurd (kept_found_room none) })
