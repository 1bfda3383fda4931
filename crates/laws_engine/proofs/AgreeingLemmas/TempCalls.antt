-- Calls on temporary tables leave all else of a session's own state.
use Rattle.std.proofs.Common.{◌≡◌, ℕ, not, nat_le, List, [], ◌∷◌, ◌++◌, length, Some, None, Result, Ok, Err, is_some}
use Rattle.jet_base.specs.declared.ids.CursorId.{CursorId}
use Rattle.jet_base.specs.declared.replies.Jet.{Jet}
use Rattle.jet_base.specs.declared.replies.Jet.TheVariants as jet
use Rattle.database_state.specs.State.{DatabaseState}
use Rattle.session_local.specs.declared.open_temp.OpenTemp.{OpenTemp}
use Rattle.session_local.specs.declared.request.Request.{Request}
use Rattle.session_local.specs.declared.request.Request.TheVariants as call
use Rattle.session_local.specs.Calls.{answer, answer_begun, answer_not_begun}
use Rattle.session_local.specs.IntersectCalls.{are_of_one_table, common_bookmarks, current_cursors, filled_by, table_of_bookmarks}
use Rattle.session_local.specs.Local.{LocalState, OpenCursor, temp_labelled}
use Rattle.session_local.specs.Outcome.{CallInputs}
use Rattle.session_local.specs.TempCalls.{TempOutcome, of_temps, temp_outcome, temp_open, temp_put, temp_move, temp_read, temp_count, temp_close}
use Rattle.laws_engine.specs.InStep.{IsInStep, StaysInStep}
use Rattle.laws_engine.proofs.AgreeingLemmas.Answering.{past, when_begun}

-- a session is in step whatever its temporary tables are
other_temps : (state : DatabaseState) (session : ℕ) (local : LocalState) (temps : List OpenTemp) → IsInStep state session local → IsInStep state session (record local { temps = temps })
other_temps state session local temps step = record {
  agrees = record { begun = step.agrees.begun; tables = step.agrees.tables; schemas = step.agrees.schemas; prepared = step.agrees.prepared };
  labels = step.labels;
  updates = step.updates;
}

none_told : {A : Type 0} (told : TempOutcome) → None ≡ Some told → A
none_told told e = cc

told_in_step : (asked : CallInputs) (told : TempOutcome) → IsInStep asked.state asked.session asked.local → StaysInStep asked (of_temps asked told)
told_in_step asked told step = other_temps asked.state asked.session asked.local told.temps step

begun_in_step : (asked : CallInputs) (request : Request) (told : TempOutcome) → temp_outcome asked.local.temps request ≡ Some told → IsInStep asked.state asked.session asked.local → StaysInStep asked (answer_begun asked request)
begun_in_step asked (call.TempOpen temp unique columns) told is step = told_in_step asked (temp_open asked.local.temps temp unique columns) step
begun_in_step asked (call.TempPut temp values) told is step = told_in_step asked (temp_put asked.local.temps temp values) step
begun_in_step asked (call.TempMove temp way) told is step = told_in_step asked (temp_move asked.local.temps temp way) step
begun_in_step asked (call.TempRead temp column) told is step = told_in_step asked (temp_read asked.local.temps temp column) step
begun_in_step asked (call.TempCount temp) told is step = told_in_step asked (temp_count asked.local.temps temp) step
begun_in_step asked (call.TempClose temp) told is step = told_in_step asked (temp_close asked.local.temps temp) step
begun_in_step asked _ told is step = none_told told is

not_begun_in_step : (asked : CallInputs) (request : Request) (told : TempOutcome) → temp_outcome asked.local.temps request ≡ Some told → IsInStep asked.state asked.session asked.local → StaysInStep asked (answer_not_begun asked request)
not_begun_in_step asked (call.TempOpen temp unique columns) told is step = step
not_begun_in_step asked (call.TempPut temp values) told is step = step
not_begun_in_step asked (call.TempMove temp way) told is step = step
not_begun_in_step asked (call.TempRead temp column) told is step = step
not_begun_in_step asked (call.TempCount temp) told is step = step
not_begun_in_step asked (call.TempClose temp) told is step = step
not_begun_in_step asked _ told is step = none_told told is

pub temps_in_step : (asked : CallInputs) (request : Request) (told : TempOutcome) → temp_outcome asked.local.temps request ≡ Some told → IsInStep asked.state asked.session asked.local → StaysInStep asked (answer asked request)
temps_in_step asked request told is step = when_begun asked request (λ begun. begun_in_step asked request told is step) (λ e. not_begun_in_step asked request told is step)

-- nor is it out of step with one table more

filled_in_step : (asked : CallInputs) (temp : CursorId) (found : Result (List OpenCursor) Jet) → IsInStep asked.state asked.session asked.local → StaysInStep asked (filled_by asked temp found)
filled_in_step asked temp (Err reply) step = step
filled_in_step asked temp (Ok cursors) step =
    past asked step ((not (are_of_one_table cursors), jet.InvalidParameter) ∷ []) _
    (λ r. other_temps asked.state asked.session asked.local (asked.local.temps ++ record { label = temp; table = table_of_bookmarks (common_bookmarks asked cursors) } ∷ []) step)

pub intersects_in_step : (asked : CallInputs) (temp : CursorId) (cursors : List CursorId) → IsInStep asked.state asked.session asked.local → StaysInStep asked (answer asked (call.IntersectIndexes temp cursors))
intersects_in_step asked temp cursors step = when_begun asked (call.IntersectIndexes temp cursors)
    (λ begun. past asked step ((is_some (temp_labelled asked.local.temps temp), jet.InvalidTableId) ∷ (nat_le 4 (length asked.local.temps), jet.OutOfCursors) ∷ []) _ (λ r. filled_in_step asked temp (current_cursors asked cursors) step))
    (λ e. step)
