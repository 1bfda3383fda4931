-- Answers: their steps are lawful, and the sessions stay in step.
use Rattle.std.proofs.Common.{◌≡◌, ℕ, true, false, Option, Some, None, refl, sym}
use Rattle.std.specs.List.{AllByRecursion}
use Rattle.common_lemmas.proofs.Booleans.{and_left, impossible}
use Rattle.jet_base.specs.declared.words.Prepare.TheVariants as prepare
use Rattle.index_derive.specs.declared.log.Step.{Step}
use Rattle.index_derive.specs.Steps.{entries_of_step}
use Rattle.database_state.specs.Lawful.{is_name}
use Rattle.database_state.specs.State.{DatabaseState}
use Rattle.database_state.specs.Step.{state_after_all}
use Rattle.laws_versions.proofs.IndexLemmas.Adding.{KeysRise}
use Rattle.laws_versions.proofs.KeyLemmas.BookmarkKeys.{HasOneEntry}
use Rattle.laws_versions.proofs.RecordLemmas.StoredSums.{stored_seen_with_sums}
use Rattle.session_local.specs.declared.request.Request.{Request}
use Rattle.session_local.specs.declared.request.Request.TheVariants as call
use Rattle.session_local.specs.Calls.{answer}
use Rattle.session_local.specs.Local.{LocalState}
use Rattle.session_local.specs.TempCalls.{temp_open, temp_put, temp_move, temp_read, temp_count, temp_close}
use Rattle.session_local.specs.Outcome.{CallInputs, Outcome}
use Rattle.laws_engine.specs.EntryTypes.{AreOfTheirTypes}
use Rattle.laws_engine.specs.LawfulSteps.{AreLawful, HasLawfulStep}
use Rattle.laws_engine.proofs.LawfulLemmas.ChangeSteps as lawful_changes
use Rattle.laws_engine.proofs.LawfulLemmas.Replies.{takes_no_step, without_step}
use Rattle.laws_engine.proofs.LawfulLemmas.SchemaCallSteps as lawful_schema
use Rattle.laws_engine.proofs.LawfulLemmas.SessionSteps as lawful_sessions
use Rattle.laws_engine.proofs.LawfulLemmas.SumSteps as lawful_sums
use Rattle.laws_engine.proofs.LawfulLemmas.UpdateSteps as lawful_updates
use Rattle.laws_engine.specs.InStep.{IsInStep, StaysInStep}
use Rattle.laws_engine.proofs.AgreeingLemmas.AllSessions.{all_in_step}
use Rattle.laws_engine.proofs.AgreeingLemmas.ChangeCalls as own_changes
use Rattle.laws_engine.proofs.AgreeingLemmas.Looking.{counts_entries, shows_bookmark, shows_key, shows_value}
use Rattle.laws_engine.proofs.AgreeingLemmas.Moves.{cancels, chooses_index, goes_to, makes_keys, moves, ranges, seeks, unranges}
use Rattle.laws_engine.proofs.AgreeingLemmas.OwnSessions.{closes, commits, opens, rolls_back, session_begins, session_ends, transaction_begins}
use Rattle.laws_engine.proofs.AgreeingLemmas.Replacing.{replaces}
use Rattle.laws_engine.proofs.AgreeingLemmas.TempCalls.{intersects_in_step, temps_in_step}
use Rattle.laws_engine.proofs.AgreeingLemmas.SchemaCalls.{column_added, column_deleted, index_created, index_deleted, table_created, table_deleted}
use Rattle.session_local.specs.BuiltCalls.{is_built_request}
use Rattle.session_local.specs.BuiltTables.{AllMakeBuilt, is_unnumbered, is_built_limit}
use Rattle.laws_engine.specs.EngineState.{EngineState, HasRoomForEnds}
use Rattle.laws_engine.specs.EngineSteps.{engine_after_answer, engine_after_step}
use Rattle.laws_engine.specs.HoldsState.{HoldsAllInStep, HoldsState, inputs_of, with_local}
use Rattle.laws_engine.proofs.EngineLemmas.Cleans.{step_holds}
use Rattle.laws_engine.proofs.EngineLemmas.Preparing.{column_is_set, copy_prepared, insert_prepared}
use Rattle.laws_engine.proofs.EngineLemmas.Room.{step_has_room}

-- ---- lawful steps

pub answer_lawful : HasOneEntry → KeysRise → (engine : EngineState) (state : DatabaseState) → HoldsState engine state → (session : ℕ) (local : LocalState) (request : Request) → IsInStep state session local → is_built_request request ≡ true
    → HasLawfulStep state (answer (inputs_of engine state session local) request)
answer_lawful one rise engine state h session local request step built = elim (takes_no_step request) as (λ b. takes_no_step request ≡ b → HasLawfulStep state (answer asked request)) [
  | true ↦ λ e. without_step (HasLawfulStep state) (λ answered after. tt) asked request e
  | false ↦ λ e. stepping request built e
] refl
  where
    asked : CallInputs
    asked = inputs_of engine state session local

    stepping : (request : Request) → is_built_request request ≡ true → takes_no_step request ≡ false → HasLawfulStep state (answer (inputs_of engine state session local) request)
    stepping call.BeginSession b e = lawful_sessions.session_begins (inputs_of engine state session local) step.agrees
    stepping call.EndSession b e = lawful_sessions.session_ends (inputs_of engine state session local) step.agrees
    stepping call.BeginTransaction b e = lawful_sessions.transaction_begins (inputs_of engine state session local) step.agrees
    stepping (call.CommitTransaction lazy) b e = lawful_sessions.commits rise h.base h.dropped h.kept (inputs_of engine state session local) lazy h.reached step.agrees
    stepping (call.Rollback all) b e = lawful_sessions.rolled_back (inputs_of engine state session local) all step.agrees
    stepping (call.CreateTable table) b e = lawful_schema.table_made (inputs_of engine state session local) table step.agrees (and_left (is_name table) true b)
    stepping (call.DeleteTable table) b e = lawful_schema.table_deleted (inputs_of engine state session local) table step.agrees
    stepping (call.AddColumn table column kind flags) b e =
        lawful_schema.column_made (inputs_of engine state session local) table column kind flags step.agrees h.reached.order (and_left (is_name column) (is_unnumbered flags.version flags.auto) b)
    stepping (call.DeleteColumn table column) b e = lawful_schema.column_deleted (inputs_of engine state session local) table column step.agrees
    stepping (call.CreateIndex table index flags key_most segments conditions) b e =
        lawful_schema.index_made (inputs_of engine state session local) table index flags key_most segments conditions step.agrees h.reached.order (and_left (is_name index) (is_built_limit key_most) b)
    stepping (call.DeleteIndex table index) b e = lawful_schema.index_deleted (inputs_of engine state session local) table index step.agrees
    stepping (call.OpenTable cursor table) b e = lawful_sessions.table_opens (inputs_of engine state session local) cursor table step.agrees
    stepping (call.CloseTable cursor) b e = lawful_sessions.table_closes (inputs_of engine state session local) cursor step.agrees
    stepping (call.PrepareUpdate cursor prepare.Replace) b e = lawful_changes.replaces one rise h.base h.dropped h.kept (inputs_of engine state session local) cursor h.reached step.agrees
    stepping (call.Update cursor) b e = lawful_updates.updates one rise h.base h.dropped h.kept (inputs_of engine state session local) cursor h.reached step.agrees
    stepping (call.Delete cursor) b e = lawful_changes.deletes one rise h.base h.dropped h.kept (inputs_of engine state session local) cursor h.reached step.agrees
    stepping (call.GetLock cursor) b e = lawful_changes.locks one rise h.base h.dropped h.kept (inputs_of engine state session local) cursor h.reached step.agrees
    stepping (call.EscrowUpdate cursor column amount) b e = lawful_sums.sums one rise h.base h.dropped h.kept (inputs_of engine state session local) cursor column amount h.reached step.agrees
    stepping _ b e = impossible (sym e)

-- ---- the session's own state

pub answer_in_step : HasOneEntry → KeysRise → (engine : EngineState) (state : DatabaseState) → HoldsState engine state → (session : ℕ) (local : LocalState) (request : Request) → IsInStep state session local → is_built_request request ≡ true
    → StaysInStep (inputs_of engine state session local) (answer (inputs_of engine state session local) request)
answer_in_step one rise engine state h session local call.BeginSession step b = session_begins (inputs_of engine state session local) step
answer_in_step one rise engine state h session local call.EndSession step b = session_ends (inputs_of engine state session local) step
answer_in_step one rise engine state h session local call.BeginTransaction step b = transaction_begins h.base h.dropped h.kept (inputs_of engine state session local) h.reached.history step
answer_in_step one rise engine state h session local (call.CommitTransaction lazy) step b = commits (inputs_of engine state session local) lazy step
answer_in_step one rise engine state h session local (call.Rollback all) step b = rolls_back (inputs_of engine state session local) all step
answer_in_step one rise engine state h session local (call.CreateTable table) step b = table_created h.base h.dropped h.kept (inputs_of engine state session local) table h.reached.history step
answer_in_step one rise engine state h session local (call.DeleteTable table) step b = table_deleted h.base h.dropped h.kept (inputs_of engine state session local) table h.reached.history step
answer_in_step one rise engine state h session local (call.AddColumn table column kind flags) step b = column_added h.base h.dropped h.kept (inputs_of engine state session local) table column kind flags h.reached.history step
answer_in_step one rise engine state h session local (call.DeleteColumn table column) step b = column_deleted h.base h.dropped h.kept (inputs_of engine state session local) table column h.reached.history step
answer_in_step one rise engine state h session local (call.CreateIndex table index flags key_most segments conditions) step b =
    index_created h.base h.dropped h.kept (inputs_of engine state session local) table index flags key_most segments conditions h.reached.history step
answer_in_step one rise engine state h session local (call.DeleteIndex table index) step b = index_deleted h.base h.dropped h.kept (inputs_of engine state session local) table index h.reached.history step
answer_in_step one rise engine state h session local (call.OpenTable cursor table) step b = opens (inputs_of engine state session local) cursor table step h.reached.order
answer_in_step one rise engine state h session local (call.CloseTable cursor) step b = closes (inputs_of engine state session local) cursor step
answer_in_step one rise engine state h session local (call.SetCurrentIndex cursor index) step b = chooses_index (inputs_of engine state session local) cursor index step
answer_in_step one rise engine state h session local (call.Move cursor way) step b = moves (inputs_of engine state session local) cursor way step
answer_in_step one rise engine state h session local (call.MakeKey cursor fresh value) step b = makes_keys (inputs_of engine state session local) cursor fresh value step
answer_in_step one rise engine state h session local (call.Seek cursor seek) step b = seeks (inputs_of engine state session local) cursor seek step
answer_in_step one rise engine state h session local (call.SetIndexRange cursor upper inclusive) step b = ranges (inputs_of engine state session local) cursor upper inclusive step
answer_in_step one rise engine state h session local (call.RemoveIndexRange cursor) step b = unranges (inputs_of engine state session local) cursor step
answer_in_step one rise engine state h session local (call.IndexRecordCount cursor most) step b = counts_entries (inputs_of engine state session local) cursor most step
answer_in_step one rise engine state h session local (call.RetrieveKey cursor) step b = shows_key (inputs_of engine state session local) cursor step
answer_in_step one rise engine state h session local (call.GetBookmark cursor) step b = shows_bookmark (inputs_of engine state session local) cursor step
answer_in_step one rise engine state h session local (call.GotoBookmark cursor bookmark) step b = goes_to (inputs_of engine state session local) cursor bookmark step
answer_in_step one rise engine state h session local (call.PrepareUpdate cursor prepare.Insert) step b = insert_prepared engine state session local cursor h step
answer_in_step one rise engine state h session local (call.PrepareUpdate cursor prepare.InsertCopy) step b = copy_prepared engine state session local cursor h step
answer_in_step one rise engine state h session local (call.PrepareUpdate cursor prepare.Replace) step b = replaces h.base h.dropped h.kept (inputs_of engine state session local) cursor h.reached
    (stored_seen_with_sums h.base h.dropped h.kept state h.reached.history h.reached.numbers h.stored session) step
answer_in_step one rise engine state h session local (call.PrepareUpdate cursor prepare.Cancel) step b = cancels (inputs_of engine state session local) cursor step
answer_in_step one rise engine state h session local (call.SetColumn cursor column sequence value) step b = column_is_set engine state session local cursor column sequence value h step
answer_in_step one rise engine state h session local (call.RetrieveColumn cursor column sequence copy most) step b = shows_value (inputs_of engine state session local) cursor column sequence copy most step
answer_in_step one rise engine state h session local (call.Update cursor) step b = own_changes.updates one rise h.base h.dropped h.kept (inputs_of engine state session local) cursor h.reached step
answer_in_step one rise engine state h session local (call.Delete cursor) step b = own_changes.deletes h.base h.dropped h.kept (inputs_of engine state session local) cursor h.reached.history step
answer_in_step one rise engine state h session local (call.GetLock cursor) step b = own_changes.locks h.base h.dropped h.kept (inputs_of engine state session local) cursor h.reached.history step
answer_in_step one rise engine state h session local (call.EscrowUpdate cursor column amount) step b = own_changes.sums h.base h.dropped h.kept (inputs_of engine state session local) cursor column amount h.reached.history step
answer_in_step one rise engine state h session local (call.TempOpen temp unique columns) step b = temps_in_step (inputs_of engine state session local) (call.TempOpen temp unique columns) (temp_open local.temps temp unique columns) refl step
answer_in_step one rise engine state h session local (call.TempPut temp values) step b = temps_in_step (inputs_of engine state session local) (call.TempPut temp values) (temp_put local.temps temp values) refl step
answer_in_step one rise engine state h session local (call.TempMove temp way) step b = temps_in_step (inputs_of engine state session local) (call.TempMove temp way) (temp_move local.temps temp way) refl step
answer_in_step one rise engine state h session local (call.TempRead temp column) step b = temps_in_step (inputs_of engine state session local) (call.TempRead temp column) (temp_read local.temps temp column) refl step
answer_in_step one rise engine state h session local (call.TempCount temp) step b = temps_in_step (inputs_of engine state session local) (call.TempCount temp) (temp_count local.temps temp) refl step
answer_in_step one rise engine state h session local (call.TempClose temp) step b = temps_in_step (inputs_of engine state session local) (call.TempClose temp) (temp_close local.temps temp) refl step
answer_in_step one rise engine state h session local (call.IntersectIndexes temp cursors) step b = intersects_in_step (inputs_of engine state session local) temp cursors step

-- ---- what the engine holds then

pub held_after : (engine : EngineState) (state : DatabaseState) (o : Option Step) → HoldsState engine state → AreLawful state (entries_of_step o) → AllMakeBuilt (entries_of_step o) → AreOfTheirTypes (entries_of_step o)
    → HoldsState (engine_after_answer engine o) (state_after_all state (entries_of_step o))
held_after engine state None h lawful built types = h
held_after engine state (Some step) h lawful built types = step_holds engine state step h lawful built types

pub all_held_after : (engine : EngineState) (locals : ℕ → LocalState) (session : ℕ) (outcome : Outcome) (h : HoldsAllInStep engine locals) → HasLawfulStep h.state outcome → AllMakeBuilt (entries_of_step outcome.step) → AreOfTheirTypes (entries_of_step outcome.step)
    → AllByRecursion (λ made. made.session.0 ≡ session) (entries_of_step outcome.step) → StaysInStep (inputs_of engine h.state session (locals session)) outcome → HoldsAllInStep (engine_after_answer engine outcome.step) (with_local session outcome.local locals)
all_held_after engine locals session outcome h lawful built types own step = record {
  state = state_after_all h.state (entries_of_step outcome.step);
  holds = held_after engine h.state outcome.step h.holds lawful built types;
  in_step = all_in_step (inputs_of engine h.state session (locals session)) outcome (record { base = h.holds.base; dropped = h.holds.dropped; kept = h.holds.kept; is_history = h.holds.reached.history }) lawful own step locals h.in_step;
}

-- the law that a step leaves room
abbrev pub StepHasRoom : Type 0
StepHasRoom =
    (engine : EngineState) (state : DatabaseState) (step : Step) → HoldsState engine state → AreLawful state (entries_of_step (Some step)) → AllMakeBuilt (entries_of_step (Some step)) → AreOfTheirTypes (entries_of_step (Some step))
    → HasRoomForEnds engine → HasRoomForEnds (engine_after_step engine step)

pub room_after : (engine : EngineState) (state : DatabaseState) (o : Option Step) → HoldsState engine state → AreLawful state (entries_of_step o) → AllMakeBuilt (entries_of_step o) → AreOfTheirTypes (entries_of_step o)
    → HasRoomForEnds engine → HasRoomForEnds (engine_after_answer engine o)
room_after engine state None h lawful built types room = room
room_after engine state (Some step) h lawful built types room = step_has_room engine state step h lawful built types room
