-- What decides Delete and GetLock.
use Rattle.std.proofs.Common.{◌≡◌, ℕ, Bool, true, false, cond, [], ◌∷◌, ◌++◌, Option, Some, None, refl, sym, ap, ◌∙◌}
use Rattle.std.specs.Prelude.{◌==◌, ◌+◌, not, nat_le, nat_lt, is_none, option_map}
use Rattle.jet_base.specs.declared.ids.CursorId.{CursorId}
use Rattle.jet_base.specs.declared.ids.Session.{Session}
use Rattle.jet_base.specs.declared.replies.Jet.{Jet}
use Rattle.jet_base.specs.declared.replies.Jet.TheVariants as jet
use Rattle.column_set.specs.declared.changes.Change.{Change}
use Rattle.column_set.specs.RecordValues.{RecordFields}
use Rattle.index_derive.specs.declared.log.Entry.{Entry}
use Rattle.index_derive.specs.declared.log.EntryKind.TheVariants as entry
use Rattle.index_derive.specs.declared.log.Step.{Step}
use Rattle.index_derive.specs.declared.log.Step.TheVariants.{One, Alone}
use Rattle.column_set.specs.ChangedRecords.{changed_table, changed_bookmark}
use Rattle.database_state.specs.Lawful.{log_limit}
use Rattle.column_set.specs.Refusals.{Refusals, first_refusal}
use Rattle.database_state.specs.State.{DatabaseState}
use Rattle.database_state.specs.Table.{record_in}
use Rattle.database_state.specs.VersionStore.{cost_of, version_span}
use Rattle.database_state.specs.View.{newest}
use Rattle.session_local.specs.declared.request.Request.{Request}
use Rattle.session_local.specs.declared.request.Request.TheVariants as call
use Rattle.session_local.specs.SessionSide.{SessionSide}
use Rattle.session_local.specs.Answer.{Nothing}
use Rattle.session_local.specs.Local.{LocalState, OpenCursor, cursor_labelled}
use Rattle.cursor_nav.specs.Places.{is_on, place_bookmark}
use Rattle.session_local.specs.LocalCalls.{is_answered_locally}
use Rattle.session_local.specs.Outcome.{CallInputs, Outcome, done, unless, is_outside, number_refusals, on_cursor, span_refusals, step_of_change}
use Rattle.session_local.specs.Calls.{answer}
use Rattle.session_local.specs.Deciding.{decided_in}
use Rattle.session_local.specs.Finishing.{finished}
use Rattle.session_local.specs.RecordCalls.{conflict_refusals, current, delete, drop_at, get_lock, hold_at}
use Rattle.session_local.specs.Run.{flushes_step}
use Rattle.version_cleanup.specs.Cleaning.{reader_in}
use Rattle.laws_engine.specs.HeldRecords.{has_conflict}
use Rattle.laws_engine.specs.InStep.{IsInStep}
use Rattle.laws_engine.specs.EngineState.{EngineState}
use Rattle.laws_engine.specs.HoldsState.{HoldsState}
use Rattle.engine_parts.specs.Deciding.{Decides}
use Rattle.engine_parts.specs.HeldLaws.{SeesRecords}
use Rattle.engine_parts.specs.SharedCalls.{at_if}
use Rattle.record_decisions.specs.Changing.{TellsConflicts, TellsRoom, change_in, current_in, delete_in, is_outside_in, lock_in, own_in, room_in, step_by}
use Rattle.engine_parts.specs.Reading.{shown_for}
use Rattle.engine_parts.specs.RefusalLaws.{unless-refused, unless-passed}
use Rattle.laws_engine.proofs.EngineLemmas.Decisions.{refused_with, stepped_with, answer-begun, answer-is, answer-refused}
use Rattle.engine_parts.specs.DecisionLaws.{inputs_by}
use Rattle.engine_parts.specs.SessionLaws.{levels-told}

-- ---- refusals that the engine tells

pub outside-told : (engine : EngineState) (state : DatabaseState) (side : SessionSide) → HoldsState engine state → is_outside (inputs_by engine state side) ≡ is_outside_in engine side.session
outside-told engine state side h = ap (λ n. n == 0) (levels-told engine state side.session h)

-- a record is seen where its row is shown
none-seen : {X Y : Type 0} (f : X → Y) (o : Option X) → is_none (option_map f o) ≡ is_none o
none-seen f None = refl
none-seen f (Some x) = refl

pub current-told : SeesRecords → (engine : EngineState) (state : DatabaseState) (side : SessionSide) (label : ℕ) (c : OpenCursor) → HoldsState engine state → IsInStep state side.session side.state → cursor_labelled side.state label ≡ Some c
    → current (inputs_by engine state side) c ≡ current_in engine side.session c
current-told sees engine state side label c h step found =
    ap (λ b. (not (is_on c.cursor.place), jet.NoCurrentRecord) ∷ (b, jet.RecordDeleted) ∷ [])
    (ap (λ (r : Option RecordFields). is_none r) (sym (sees engine state side.session side.state label c h step found (place_bookmark c.cursor.place)))
    ∙ none-seen _ (shown_for engine side.session c.cursor.table (place_bookmark c.cursor.place)))

pub room_told : TellsRoom → (engine : EngineState) (state : DatabaseState) (side : SessionSide) (made : Change) → HoldsState engine state
    → number_refusals (inputs_by engine state side) ++ span_refusals (inputs_by engine state side) made ≡ room_in engine made
room_told rooms engine state side made h =
    let before = version_span state + cost_of made (record_in (newest state) (changed_table made) (changed_bookmark made)) in
    ap (λ n. (nat_le log_limit n, jet.LogSequenceEnd) ∷ (nat_lt engine.limit before, jet.VersionStoreOutOfMemory) ∷ []) h.number
    ∙ ap (λ n. (nat_le log_limit engine.number, jet.LogSequenceEnd) ∷ (nat_lt engine.limit n, jet.VersionStoreOutOfMemory) ∷ []) (sym (rooms engine state h made))

pub change-told : TellsConflicts → TellsRoom → (engine : EngineState) (state : DatabaseState) (side : SessionSide) (made : Change) → HoldsState engine state
    → conflict_refusals (inputs_by engine state side) made ++ number_refusals (inputs_by engine state side) ++ span_refusals (inputs_by engine state side) made ≡ change_in engine side.session made
change-told conflicts rooms engine state side made h =
    ap (λ b. (b, jet.WriteConflict) ∷ number_refusals (inputs_by engine state side) ++ span_refusals (inputs_by engine state side) made) (sym (conflicts engine state h side.session made))
    ∙ ap (λ (rest : Refusals). (has_conflict (reader_in side.session engine.sessions) made engine.store.held, jet.WriteConflict) ∷ rest) (room_told rooms engine state side made h)

-- ---- steps

abbrev pub changed_by : ℕ → Change → Entry
changed_by session made = record { session = record { 0 = session }; kind = entry.Change made }

pub step_of_change-told : (engine : EngineState) (state : DatabaseState) (side : SessionSide) (made : Change) (alone : Bool) → HoldsState engine state → is_outside_in engine side.session ≡ alone
    → step_of_change (inputs_by engine state side) made ≡ Some (step_by alone (changed_by side.session made))
step_of_change-told engine state side made alone h is =
    ap (λ b. cond b (Some (Alone (changed_by side.session made))) (Some (One (changed_by side.session made)))) (outside-told engine state side h ∙ is)
    ∙ by alone
  where
    by : (b : Bool) → cond b (Some (Alone (changed_by side.session made))) (Some (One (changed_by side.session made))) ≡ Some (step_by b (changed_by side.session made))
    by true = refl
    by false = refl

-- ---- a call that makes a change, or refuses it

-- what the session's answer comes to
abbrev pub changed : CallInputs → Refusals → Change → Outcome
changed asked refusals made = unless asked refusals (λ _. done asked.local Nothing (step_of_change asked made))

-- in each state that the engine holds, the call is refused by these, or makes the change
abbrev pub Changes : EngineState → SessionSide → Request → Refusals → Change → Type 0
Changes engine side request refusals made =
    (state : DatabaseState) → HoldsState engine state → IsInStep state side.session side.state → answer (inputs_by engine state side) request ≡ changed (inputs_by engine state side) refusals made

pub change-refused : (engine : EngineState) (side : SessionSide) (request : Request) (refusals : Refusals) (made : Change) (reply : Jet) → Changes engine side request refusals made → first_refusal refusals ≡ Some reply
    → Decides engine side request side (refused_with reply)
change-refused engine side request refusals made reply changes is = λ state h step.
    answer-refused (inputs_by engine state side) request side reply refl (changes state h step ∙ unless-refused (inputs_by engine state side) refusals _ reply is)

-- the session's own state is left by a step
abbrev pub IsLeft : LocalState → Request → Step → Bool → Type 0
IsLeft local request step flush = finished local request (decided_in (stepped_with step None flush)) ≡ local

-- the calls that leave a session's own state
abbrev pub LeavesLocal : Request → Type 0
LeavesLocal request = (local : LocalState) (step : Step) (flush : Bool) → IsLeft local request step flush

pub change-done : (engine : EngineState) (side : SessionSide) (request : Request) (refusals : Refusals) (made : Change) (alone : Bool) → Changes engine side request refusals made → first_refusal refusals ≡ None → is_outside_in engine side.session ≡ alone
    → LeavesLocal request → Decides engine side request side (stepped_with (step_by alone (changed_by side.session made)) None alone)
change-done engine side request refusals made alone changes is outside leaves = λ state h step.
    answer-is (inputs_by engine state side) request side (stepped_with (step_by alone (changed_by side.session made)) None alone) _
    (changes state h step ∙ unless-passed (inputs_by engine state side) refusals _ is) refl (sym (step_of_change-told engine state side made alone h outside)) (leaves side.state (step_by alone (changed_by side.session made)) alone)

pub flushes-change : (request : Request) (session : ℕ) (made : Change) (alone : Bool) → alone ≡ flushes_step request (Some (step_by alone (changed_by session made)))
flushes-change request session made true = refl
flushes-change request session made false = refl

-- the step that the code makes, by what its parts are
pub made-as : (step : Step) (session : Session) (change : Change) (label : ℕ) (made : Change) (alone : Bool) → step ≡ step_by alone (record { session = session; kind = entry.Change change }) → session.0 ≡ label → change ≡ made
    → step ≡ step_by alone (changed_by label made)
made-as step session change label made alone is own same =
    let by_label : ℕ → Session = λ n. record { 0 = n } in
    let by : Session → Change → Step = λ s c. step_by alone (record { session = s; kind = entry.Change c }) in
    is ∙ ap (λ n. by (by_label n) change) own ∙ ap (by (by_label label)) same

-- ---- GetLock

-- what is not refused is inside a transaction
pub lock-outside : (engine : EngineState) (session : ℕ) (c : OpenCursor) → first_refusal (lock_in engine session c) ≡ None → is_outside_in engine session ≡ false
lock-outside engine session c is = by (is_outside_in engine session) is
  where
    by : (b : Bool) → cond b (Some jet.NotInTransaction) (first_refusal (current_in engine session c ++ change_in engine session (hold_at c))) ≡ None → b ≡ false
    by true e = cc
    by false e = refl

pub lock-shared : (side : SessionSide) (cursor : CursorId) → is_answered_locally side.state (call.GetLock cursor) ≡ false → (side.state.begun ≡ true) × (is_none (cursor_labelled side.state cursor.0) ≡ false)
lock-shared side cursor shared = at_if side.state.begun (cursor_labelled side.state cursor.0) shared

pub lock-changes : SeesRecords → TellsConflicts → TellsRoom → (engine : EngineState) (side : SessionSide) (cursor : CursorId) (c : OpenCursor) → is_answered_locally side.state (call.GetLock cursor) ≡ false
    → cursor_labelled side.state cursor.0 ≡ Some c → Changes engine side (call.GetLock cursor) (lock_in engine side.session c) (hold_at c)
lock-changes sees conflicts rooms engine side cursor c shared found = λ state h step.
    let asked = inputs_by engine state side in
    answer-begun asked (call.GetLock cursor) (lock-shared side cursor shared).0
    ∙ ap (λ o. on_cursor asked o (get_lock asked)) found
    ∙ ap (λ b. changed asked ((b, jet.NotInTransaction) ∷ current asked c ++ conflict_refusals asked (hold_at c) ++ number_refusals asked ++ span_refusals asked (hold_at c)) (hold_at c)) (outside-told engine state side h)
    ∙ ap (λ (l : Refusals). changed asked ((is_outside_in engine side.session, jet.NotInTransaction) ∷ l ++ conflict_refusals asked (hold_at c) ++ number_refusals asked ++ span_refusals asked (hold_at c)) (hold_at c))
    (current-told sees engine state side cursor.0 c h step found)
    ∙ ap (λ (l : Refusals). changed asked ((is_outside_in engine side.session, jet.NotInTransaction) ∷ current_in engine side.session c ++ l) (hold_at c)) (change-told conflicts rooms engine state side (hold_at c) h)

-- ---- Delete

pub delete-shared : (side : SessionSide) (cursor : CursorId) → is_answered_locally side.state (call.Delete cursor) ≡ false → (side.state.begun ≡ true) × (is_none (cursor_labelled side.state cursor.0) ≡ false)
delete-shared side cursor shared = at_if side.state.begun (cursor_labelled side.state cursor.0) shared

pub delete-changes : SeesRecords → TellsConflicts → TellsRoom → (engine : EngineState) (side : SessionSide) (cursor : CursorId) (c : OpenCursor) → is_answered_locally side.state (call.Delete cursor) ≡ false
    → cursor_labelled side.state cursor.0 ≡ Some c → Changes engine side (call.Delete cursor) (delete_in engine side.session side.state c) (drop_at c)
delete-changes sees conflicts rooms engine side cursor c shared found = λ state h step.
    let asked = inputs_by engine state side in
    answer-begun asked (call.Delete cursor) (delete-shared side cursor shared).0
    ∙ ap (λ o. on_cursor asked o (delete asked)) found
    ∙ ap (λ (l : Refusals). changed asked (l ++ own_in side.state c ++ conflict_refusals asked (drop_at c) ++ number_refusals asked ++ span_refusals asked (drop_at c)) (drop_at c))
    (current-told sees engine state side cursor.0 c h step found)
    ∙ ap (λ (l : Refusals). changed asked (current_in engine side.session c ++ own_in side.state c ++ l) (drop_at c)) (change-told conflicts rooms engine state side (drop_at c) h)
