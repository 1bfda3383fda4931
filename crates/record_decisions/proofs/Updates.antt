-- What decides Update.
use Rattle.std.proofs.Common.{◌≡◌, ℕ, ◌+◌, Bool, true, false, List, ◌∷◌, ◌++◌, length, Option, Some, None, Result, Ok, Err, refl, sym, ap, ◌∙◌}
use Rattle.std.specs.Prelude.{is_none, is_some, if◌then◌else◌, IfSome, IsSome, IsTrue}
use Rattle.std.proofs.lemmas.List.{append_assoc}
use Rattle.common_lemmas.proofs.Options.{is_some-map}
use Rattle.jet_base.specs.declared.ids.CursorId.{CursorId}
use Rattle.jet_base.specs.declared.replies.Jet.{Jet}
use Rattle.jet_base.specs.declared.replies.Jet.TheVariants as jet
use Rattle.jet_base.specs.ColumnType.{big_endian}
use Rattle.column_set.specs.declared.changes.Change.{Change}
use Rattle.column_set.specs.declared.changes.Change.TheVariants as change
use Rattle.column_set.specs.RecordValues.{RecordFields, is_missing_a_value}
use Rattle.index_derive.specs.declared.log.Step.{Step}
use Rattle.index_derive.specs.declared.rules.IndexRule.{IndexRule}
use Rattle.index_derive.specs.declared.rules.Schema.{Schema}
use Rattle.column_set.specs.ChangedRecords.{changed_bookmark}
use Rattle.database_state.specs.Puts.{key_refusals, null_refusals, put_refusals}
use Rattle.column_set.specs.Refusals.{Refusals}
use Rattle.database_state.specs.State.{DatabaseState}
use Rattle.index_derive.specs.Schemas.{primary_rule}
use Rattle.session_local.specs.declared.decision.Decision.{Decision}
use Rattle.session_local.specs.declared.request.Request.TheVariants as call
use Rattle.session_local.specs.declared.reply.Value.{Value}
use Rattle.session_local.specs.Answer.{Answered, ShownValue, shown_by}
use Rattle.session_local.specs.Calls.{answer}
use Rattle.session_local.specs.CursorCalls.{whole}
use Rattle.session_local.specs.Finishing.{with_update_at, with_update_on}
use Rattle.session_local.specs.Local.{LocalState, OpenCursor, PreparedFor, PreparedUpdate, inserting, replacing, cursor_labelled}
use Rattle.session_local.specs.LocalCalls.{is_answered_locally}
use Rattle.session_local.specs.Outcome.{CallInputs, Outcome, done, refused, unless, number_refusals, on_cursor, rows_seen, span_refusals, step_of_change}
use Rattle.session_local.specs.RecordCalls.{bookmark_for, copied_in, inserted_bookmark, is_primary_changed, on_prepared, replaced_by, update, update_with}
use Rattle.session_local.specs.SessionSide.{SessionSide}
use Rattle.session_local.specs.Showing.{names_within}
use Rattle.laws_engine.specs.InStep.{IsInStep}
use Rattle.laws_engine.specs.EngineState.{EngineState}
use Rattle.laws_engine.specs.HoldsState.{HoldsState}
use Rattle.engine_parts.specs.Deciding.{Decides, IsDecision}
use Rattle.engine_parts.specs.HeldLaws.{SeesRecords}
use Rattle.engine_parts.specs.SharedCalls.{at_if}
use Rattle.record_decisions.specs.Changing.{TellsRoom, is_outside_in, step_by}
use Rattle.engine_parts.specs.Reading.{shown_for}
use Rattle.record_decisions.specs.Updating.{IsMade, IsMadeOf, TellsKeys, bookmark_by, copied_by, keys_in, new_bookmark, number_of_change, put_by, update_in}
use Rattle.engine_parts.specs.RefusalLaws.{unless-refused, unless-passed}
use Rattle.laws_engine.proofs.EngineLemmas.Decisions.{refused_with, answer-begun, answer-is, answer-refused, copied_none}
use Rattle.engine_parts.specs.DecisionLaws.{AnswersLawfully, inputs_by, lawful-step}
use Rattle.record_decisions.proofs.LocksAndDeletes.{changed_by, flushes-change, outside-told, room_told, step_of_change-told}

pub update-shared : (side : SessionSide) (cursor : CursorId) → is_answered_locally side.state (call.Update cursor) ≡ false → (side.state.begun ≡ true) × (is_none (cursor_labelled side.state cursor.0) ≡ false)
update-shared side cursor shared = at_if side.state.begun (cursor_labelled side.state cursor.0) shared

not_there : {A : Type 0} → true ≡ false → A
not_there {A} e = cc

pub there_is : (found : Option OpenCursor) → is_none found ≡ false → IsSome found
there_is None e = not_there e
there_is (Some c) e = refl

-- ---- the bookmark, and the record that was copied

inserted-told : (engine : EngineState) (state : DatabaseState) (side : SessionSide) (schema : Schema) (values : RecordFields) (rule : Option IndexRule) → HoldsState engine state
    → inserted_bookmark (inputs_by engine state side) schema rule values ≡ new_bookmark (number_of_change engine side.session) schema values rule
inserted-told engine state side schema values None h =
    ap (λ (b : Bool). big_endian 8 (state.number + (if b then 2 else 1))) (outside-told engine state side h)
    ∙ ap (λ n. big_endian 8 (n + (if is_outside_in engine side.session then 2 else 1))) h.number
inserted-told engine state side schema values (Some rule) h = refl

bookmark-told : (engine : EngineState) (state : DatabaseState) (side : SessionSide) (schema : Schema) (for : PreparedFor) (values : RecordFields) → HoldsState engine state
    → bookmark_for (inputs_by engine state side) schema for values ≡ bookmark_by engine side.session schema for values
bookmark-told engine state side schema (inserting copied) values h = inserted-told engine state side schema values (primary_rule schema) h
bookmark-told engine state side schema (replacing bookmark) values h = refl

copied-told : SeesRecords → (engine : EngineState) (state : DatabaseState) (side : SessionSide) (label : ℕ) (c : OpenCursor) (for : PreparedFor) → HoldsState engine state → IsInStep state side.session side.state → cursor_labelled side.state label ≡ Some c
    → copied_in (rows_seen (inputs_by engine state side) c) for ≡ copied_by engine side.session c.cursor.table for
copied-told sees engine state side label c (inserting None) h step found = refl
copied-told sees engine state side label c (inserting (Some bookmark)) h step found =
    ap (λ b. if b then Some bookmark else None)
    (ap (λ (r : Option RecordFields). is_some r) (sym (sees engine state side.session side.state label c h step found bookmark)) ∙ is_some-map _ (shown_for engine side.session c.cursor.table bookmark))
copied-told sees engine state side label c (replacing bookmark) h step found = refl

-- ---- the answer

abbrev put_under : OpenCursor → PreparedUpdate → List ℕ → Option (List ℕ) → Change
put_under c p bookmark copied = change.Put (record { 0 = c.cursor.table }) bookmark copied p.values

-- the update is done with what is put
abbrev done_with : CallInputs → OpenCursor → Change → Outcome
done_with asked c put = done (with_update_on asked.local (Some c) None) (whole (changed_bookmark put)) (step_of_change asked put)

-- what the answer comes to, by what is asked of the keys and of the room, and by what is put
abbrev put_at : CallInputs → OpenCursor → PreparedUpdate → Refusals → Refusals → Change → Outcome
put_at asked c p keys room put =
    unless asked
    ((is_missing_a_value c.schema.columns p.values, jet.NullInvalid)
    ∷ (is_primary_changed c.schema p.for p.values, jet.RecordPrimaryChanged)
    ∷ (null_refusals c.schema p.values ++ keys) ++ room)
    (λ _. done_with asked c put)

abbrev room_of : CallInputs → Change → Refusals
room_of asked put = number_refusals asked ++ span_refusals asked put

update-put : (asked : CallInputs) (c : OpenCursor) (p : PreparedUpdate) (bookmark : List ℕ) (copied : Option (List ℕ)) → bookmark_for asked c.schema p.for p.values ≡ bookmark → copied_in (rows_seen asked c) p.for ≡ copied
    → update_with asked c p
    ≡ put_at asked c p (key_refusals asked.state asked.session c.cursor.table c.schema (rows_seen asked c) (replaced_by p.for) p.values) (room_of asked (put_under c p bookmark copied)) (put_under c p bookmark copied)
unfolding put_refusals
update-put asked c p bookmark copied is was =
    let keys = key_refusals asked.state asked.session c.cursor.table c.schema (rows_seen asked c) (replaced_by p.for) p.values in
    let put = put_under c p (bookmark_for asked c.schema p.for p.values) (copied_in (rows_seen asked c) p.for) in
    ap (λ (rest : Refusals). unless asked ((is_missing_a_value c.schema.columns p.values, jet.NullInvalid) ∷ (is_primary_changed c.schema p.for p.values, jet.RecordPrimaryChanged) ∷ rest) (λ _. done_with asked c put))
    (append_assoc (null_refusals c.schema p.values ++ keys) (number_refusals asked) (span_refusals asked put))
    ∙ ap (λ (b : List ℕ). put_at asked c p keys (room_of asked (put_under c p b (copied_in (rows_seen asked c) p.for))) (put_under c p b (copied_in (rows_seen asked c) p.for))) is
    ∙ ap (λ (o : Option (List ℕ)). put_at asked c p keys (room_of asked (put_under c p bookmark o)) (put_under c p bookmark o)) was

-- the same by what the engine holds
updated-as : SeesRecords → TellsRoom → TellsKeys → (engine : EngineState) (state : DatabaseState) (side : SessionSide) (label : ℕ) (c : OpenCursor) (p : PreparedUpdate) → HoldsState engine state → IsInStep state side.session side.state
    → cursor_labelled side.state label ≡ Some c
    → update_with (inputs_by engine state side) c p ≡ unless (inputs_by engine state side) (update_in engine side.session c p) (λ _. done_with (inputs_by engine state side) c (put_by engine side.session c p))
updated-as sees rooms tells engine state side label c p h step found =
    let asked = inputs_by engine state side in
    let put = put_by engine side.session c p in
    update-put asked c p (bookmark_by engine side.session c.schema p.for p.values) (copied_by engine side.session c.cursor.table p.for) (bookmark-told engine state side c.schema p.for p.values h) (copied-told sees engine state side label c p.for h step found)
    ∙ ap (λ (x : Refusals). put_at asked c p x (room_of asked put) put) (sym (tells engine state side.session side.state label c h step found (replaced_by p.for) p.values))
    ∙ ap (λ (x : Refusals). put_at asked c p (keys_in engine side.session c.cursor.table c.schema (replaced_by p.for) p.values) x put) (room_told rooms engine state side put h)

-- ---- by what is made

-- what the answer comes to
abbrev pub came_to : CallInputs → ℕ → Result Change Jet → Outcome
came_to asked label (Ok put) = done (with_update_at asked.local label None) (whole (changed_bookmark put)) (step_of_change asked put)
came_to asked label (Err reply) = refused asked reply

-- what is made of the update that is prepared on a cursor, where there is one
abbrev pub MadeAt : EngineState → SessionSide → CursorId → Result Change Jet → Type 0
MadeAt engine side cursor made = IfSome (cursor_labelled side.state cursor.0) (λ c. IsMadeOf engine side.session c c.prepared made)

came-by : (asked : CallInputs) (label : ℕ) (c : OpenCursor) (refusals : Refusals) (put : Change) (made : Result Change Jet) → cursor_labelled asked.local label ≡ Some c → IsMade refusals put made
    → unless asked refusals (λ _. done_with asked c put) ≡ came_to asked label made
came-by asked label c refusals put (Ok made) found is =
    unless-passed asked refusals (λ _. done_with asked c put) is.0
    ∙ ap (done_with asked c) (sym is.1)
    ∙ ap (λ (o : Option OpenCursor). done (with_update_on asked.local o None) (whole (changed_bookmark made)) (step_of_change asked made)) (sym found)
came-by asked label c refusals put (Err reply) found is = unless-refused asked refusals (λ _. done_with asked c put) reply is

came-on : SeesRecords → TellsRoom → TellsKeys → (engine : EngineState) (state : DatabaseState) (side : SessionSide) (label : ℕ) (c : OpenCursor) (prepared : Option PreparedUpdate) (made : Result Change Jet) → HoldsState engine state
    → IsInStep state side.session side.state → cursor_labelled side.state label ≡ Some c → IsMadeOf engine side.session c prepared made
    → on_prepared (inputs_by engine state side) prepared (update_with (inputs_by engine state side) c) ≡ came_to (inputs_by engine state side) label made
came-on sees rooms tells engine state side label c None made h step found is = ap (came_to (inputs_by engine state side) label) (sym is)
came-on sees rooms tells engine state side label c (Some p) made h step found is =
    updated-as sees rooms tells engine state side label c p h step found
    ∙ came-by (inputs_by engine state side) label c (update_in engine side.session c p) (put_by engine side.session c p) made found is

came-at : SeesRecords → TellsRoom → TellsKeys → (engine : EngineState) (state : DatabaseState) (side : SessionSide) (label : ℕ) (labelled : Option OpenCursor) (made : Result Change Jet) → HoldsState engine state → IsInStep state side.session side.state
    → is_none labelled ≡ false → cursor_labelled side.state label ≡ labelled → IfSome labelled (λ c. IsMadeOf engine side.session c c.prepared made)
    → on_cursor (inputs_by engine state side) labelled (update (inputs_by engine state side)) ≡ came_to (inputs_by engine state side) label made
came-at sees rooms tells engine state side label None made h step there found is = not_there there
came-at sees rooms tells engine state side label (Some c) made h step there found is = came-on sees rooms tells engine state side label c c.prepared made h step found is

-- the answer is what was made
answer-came : SeesRecords → TellsRoom → TellsKeys → (engine : EngineState) (state : DatabaseState) (side : SessionSide) (cursor : CursorId) (made : Result Change Jet) → HoldsState engine state → IsInStep state side.session side.state
    → is_answered_locally side.state (call.Update cursor) ≡ false → MadeAt engine side cursor made → answer (inputs_by engine state side) (call.Update cursor) ≡ came_to (inputs_by engine state side) cursor.0 made
answer-came sees rooms tells engine state side cursor made h step shared is =
    let held = update-shared side cursor shared in
    answer-begun (inputs_by engine state side) (call.Update cursor) held.0
    ∙ came-at sees rooms tells engine state side cursor.0 (cursor_labelled side.state cursor.0) made h step held.1 refl is

-- ---- decisions

pub update-refused : SeesRecords → TellsRoom → TellsKeys → (engine : EngineState) (side : SessionSide) (cursor : CursorId) (reply : Jet) → is_answered_locally side.state (call.Update cursor) ≡ false
    → MadeAt engine side cursor (Err reply) → Decides engine side (call.Update cursor) side (refused_with reply)
update-refused sees rooms tells engine side cursor reply shared made = λ state h step.
    answer-refused (inputs_by engine state side) (call.Update cursor) side reply refl (answer-came sees rooms tells engine state side cursor (Err reply) h step shared made)

-- success with a step and a value
abbrev pub shown_by_step : Step → Value → Bool → Decision
shown_by_step step value flush = record { step = Some step; reply = record { jet = jet.Success; value = value }; table = None; copied = None; temp = None; buffers = None; flush = flush }

abbrev success : ShownValue → Answered
success shown = record { jet = jet.Success; shown = shown }

pub update-done : SeesRecords → TellsRoom → TellsKeys → (engine : EngineState) (side new : SessionSide) (cursor : CursorId) (put : Change) (value : Value) (alone : Bool)
    → is_answered_locally side.state (call.Update cursor) ≡ false → MadeAt engine side cursor (Ok put) → is_outside_in engine side.session ≡ alone
    → shown_by value new.reply ≡ whole (changed_bookmark put) → new.state ≡ side.state
    → Decides engine side (call.Update cursor) new (shown_by_step (step_by alone (changed_by side.session put)) value alone)
update-done sees rooms tells engine side new cursor put value alone shared made outside shown same = λ state h step.
    answer-is (inputs_by engine state side) (call.Update cursor) new (shown_by_step (step_by alone (changed_by side.session put)) value alone) (came_to (inputs_by engine state side) cursor.0 (Ok put))
    (answer-came sees rooms tells engine state side cursor (Ok put) h step shared made)
    (ap success shown)
    (sym (step_of_change-told engine state side put alone h outside))
    (ap (λ (l : LocalState). with_update_at l cursor.0 None) same)

-- what can be said besides
pub decision-shown : (engine : EngineState) (side new : SessionSide) (cursor : CursorId) (put : Change) (value : Value) (alone : Bool)
    → Decides engine side (call.Update cursor) new (shown_by_step (step_by alone (changed_by side.session put)) value alone) → AnswersLawfully engine side (call.Update cursor)
    → new.session ≡ side.session → new.state ≡ side.state → IsTrue (names_within value (length new.reply))
    → IsDecision engine side (call.Update cursor) new (shown_by_step (step_by alone (changed_by side.session put)) value alone)
decision-shown engine side new cursor put value alone decides lawful session state named = record {
  session = session;
  still = λ _. state;
  named = named;
  fits = copied_none new.state (call.Update cursor);
  flush = flushes-change (call.Update cursor) side.session put alone;
  lawful = lawful-step engine side new (call.Update cursor) (shown_by_step (step_by alone (changed_by side.session put)) value alone) decides lawful;
}
