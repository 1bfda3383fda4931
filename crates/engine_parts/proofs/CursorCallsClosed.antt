-- What CloseTable decides.
use Rattle.std.proofs.Common.{◌≡◌, ℕ, true, false, Some, None, refl, sym, ap, subst, ◌∙◌, is_none}
use Rattle.jet_base.specs.declared.ids.CursorId.{CursorId}
use Rattle.jet_base.specs.declared.ids.Session.{Session}
use Rattle.jet_base.specs.declared.ids.TableId.{TableId}
use Rattle.index_derive.specs.declared.log.EntryKind.TheVariants as entry
use Rattle.index_derive.specs.declared.log.Step.{Step}
use Rattle.index_derive.specs.declared.log.Step.TheVariants.{One}
use Rattle.session_local.specs.declared.request.Request.TheVariants as call
use Rattle.session_local.specs.SessionSide.{SessionSide}
use Rattle.session_local.specs.Answer.{Nothing}
use Rattle.session_local.specs.Local.{OpenCursor, cursor_labelled, without_cursor}
use Rattle.session_local.specs.Agreement.{Agrees}
use Rattle.session_local.specs.Outcome.{CallInputs, Outcome, done, on_cursor, one}
use Rattle.session_local.specs.Calls.{answer}
use Rattle.session_local.specs.CursorCalls.{close_table}
use Rattle.session_local.specs.LocalCalls.{is_answered_locally}
use Rattle.session_local.specs.FoundLaws.{labelled}
use Rattle.laws_engine.specs.LawfulSteps.{HasLawfulStep}
use Rattle.laws_engine.specs.EngineState.{EngineState}
use Rattle.laws_engine.specs.HoldsState.{inputs_of}
use Rattle.engine_parts.specs.Deciding.{Decides, IsDecision}
use Rattle.engine_parts.specs.SharedCalls.{at_if}
use Rattle.laws_engine.proofs.EngineLemmas.Decisions.{stepped_with, one_by, answer-begun, answer-is, copied_none}

-- the session was begun, and has the cursor
pub close_table-shared : (side : SessionSide) (cursor : CursorId) → is_answered_locally side.state (call.CloseTable cursor) ≡ false → (side.state.begun ≡ true) × (is_none (cursor_labelled side.state cursor.0) ≡ false)
close_table-shared side cursor shared = at_if side.state.begun (cursor_labelled side.state cursor.0) shared

close_table-is : (asked : CallInputs) (cursor : CursorId) (c : OpenCursor) → asked.local.begun ≡ true → cursor_labelled asked.local cursor.0 ≡ Some c
    → answer asked (call.CloseTable cursor) ≡ done (without_cursor asked.local c.label) Nothing (one asked (entry.Shut (record { 0 = c.cursor.table })))
close_table-is asked cursor c begun found = answer-begun asked (call.CloseTable cursor) begun ∙ ap (λ o. on_cursor asked o (close_table asked)) found

pub close_table-done : (engine : EngineState) (side : SessionSide) (cursor : CursorId) (c : OpenCursor) → is_answered_locally side.state (call.CloseTable cursor) ≡ false → cursor_labelled side.state cursor.0 ≡ Some c
    → Decides engine side (call.CloseTable cursor) side (stepped_with (one_by side.session (entry.Shut (record { 0 = c.cursor.table }))) None false)
close_table-done engine side cursor c shared found = λ state h step.
    answer-is (inputs_of engine state side.session side.state) (call.CloseTable cursor) side _ _
    (close_table-is (inputs_of engine state side.session side.state) cursor c (close_table-shared side cursor shared).0 found) refl refl
    (ap (without_cursor side.state) (sym (labelled cursor.0 side.state.cursors c found)))

-- the law that the step is lawful
abbrev pub ClosesLawfully : Type 0
ClosesLawfully = (asked : CallInputs) (cursor : CursorId) → Agrees asked.state asked.session asked.local → HasLawfulStep asked.state (answer asked (call.CloseTable cursor))

pub close_table-lawful : ClosesLawfully → (engine : EngineState) (side : SessionSide) (cursor : CursorId) (c : OpenCursor) → is_answered_locally side.state (call.CloseTable cursor) ≡ false → cursor_labelled side.state cursor.0 ≡ Some c
    → IsDecision engine side (call.CloseTable cursor) side (stepped_with (one_by side.session (entry.Shut (record { 0 = c.cursor.table }))) None false)
close_table-lawful closes engine side cursor c shared found = record {
  session = refl;
  still = λ _. refl;
  named = refl;
  fits = copied_none side.state (call.CloseTable cursor);
  flush = refl;
  lawful =
      λ state h step.
      let asked = inputs_of engine state side.session side.state in
      subst (λ (o : Outcome). HasLawfulStep state o) (close_table-is asked cursor c (close_table-shared side cursor shared).0 found) (closes asked cursor step.agrees);
}

-- the step that the code makes, by what its parts are
pub shut-as : (step : Step) (session : Session) (table : TableId) (label id : ℕ) → step ≡ One (record { session = session; kind = entry.Shut table }) → session.0 ≡ label → table.0 ≡ id → step ≡ one_by label (entry.Shut (record { 0 = id }))
shut-as step session table label id is own same =
    let by_label : ℕ → Session = λ n. record { 0 = n } in
    let by_number : ℕ → TableId = λ n. record { 0 = n } in
    let made : Session → TableId → Step = λ s t. One (record { session = s; kind = entry.Shut t }) in
    is ∙ ap (λ n. made (by_label n) table) own ∙ ap (λ n. made (by_label label) (by_number n)) same
