-- What shows the key and the bookmark of the entry at a cursor.
use Rattle.std.proofs.Common.{◌≡◌, ℕ, Bool, true, false, List, [], ◌∷◌, Option, Some, None, Result, Ok, Err, refl, sym, ap, ◌∙◌, is_some, is_none, if◌then◌else◌}
use Rattle.std.specs.Prelude.{IfSome}
use Rattle.common_lemmas.proofs.Options.{is_some-map}
use Rattle.jet_base.specs.declared.ids.CursorId.{CursorId}
use Rattle.jet_base.specs.declared.replies.Jet.{Jet}
use Rattle.jet_base.specs.declared.replies.Jet.TheVariants as jet
use Rattle.column_set.specs.RecordValues.{RecordFields}
use Rattle.index_derive.specs.declared.entries.Place.{Place}
use Rattle.index_derive.specs.declared.entries.Place.TheVariants.{Before, After, On, Gap}
use Rattle.cursor_nav.specs.Places.{Pair, place_key, place_bookmark}
use Rattle.database_state.specs.Table.{Rows, row_at}
use Rattle.database_state.specs.State.{DatabaseState}
use Rattle.session_local.specs.declared.decision.Decision.{Decision}
use Rattle.session_local.specs.declared.request.Request.{Request}
use Rattle.session_local.specs.declared.request.Request.TheVariants as call
use Rattle.session_local.specs.SessionSide.{SessionSide}
use Rattle.session_local.specs.Answer.{Answered, Nothing, answered_by}
use Rattle.session_local.specs.Local.{OpenCursor, cursor_labelled}
use Rattle.session_local.specs.Outcome.{CallInputs, Outcome, said, unless, on_cursor, rows_seen, current_refusals}
use Rattle.session_local.specs.Calls.{answer}
use Rattle.session_local.specs.CursorCalls.{whole, retrieve_key, get_bookmark}
use Rattle.session_local.specs.LocalCalls.{is_answered_locally}
use Rattle.session_local.specs.Finishing.{finished}
use Rattle.session_local.specs.Deciding.{decided_in}
use Rattle.laws_engine.specs.InStep.{IsInStep}
use Rattle.laws_engine.specs.EngineState.{EngineState}
use Rattle.laws_engine.specs.HoldsState.{HoldsState, inputs_of}
use Rattle.engine_parts.specs.Deciding.{Decides}
use Rattle.engine_parts.specs.HeldLaws.{SeesRecords}
use Rattle.engine_parts.specs.SharedCalls.{at_if}
use Rattle.engine_parts.specs.Reading.{CurrentEntry, entry_at, records_for, shown_for}
use Rattle.laws_engine.proofs.EngineLemmas.Decisions.{answer-begun, answer-is}

-- ---- the entry at a place

-- a part of the entry is shown
abbrev pub shown_of : (Pair → List ℕ) → Result Pair Jet → Answered
shown_of part (Ok entry) = record { jet = jet.Success; shown = whole (part entry) }
shown_of part (Err reply) = record { jet = reply; shown = Nothing }

abbrev pub shown_as : CallInputs → Answered → Outcome
shown_as asked answered = record { answered = answered; local = asked.local; step = None }

on_entry : (asked : CallInputs) (part : Pair → List ℕ) (entry : Pair) (row : Option RecordFields) (there : Bool) → there ≡ is_some row
    → unless asked ((is_none row, jet.RecordDeleted) ∷ []) (λ _. said asked jet.Success (whole (part entry))) ≡ shown_as asked (shown_of part (if there then Ok entry else Err jet.RecordDeleted))
on_entry asked part entry None false e = refl
on_entry asked part entry (Some row) true e = refl
on_entry asked part entry None true e = absurd (cc)
on_entry asked part entry (Some row) false e = absurd (cc)

shown_at : (asked : CallInputs) (part : Pair → List ℕ) (has : List ℕ → Bool) (rows : Rows) (place : Place)
    → ((bookmark : List ℕ) → has bookmark ≡ is_some (row_at rows bookmark))
    → unless asked (current_refusals rows place) (λ _. said asked jet.Success (whole (part (place_key place, place_bookmark place)))) ≡ shown_as asked (shown_of part (entry_at has place))
shown_at asked part has rows Before seen = refl
shown_at asked part has rows After seen = refl
shown_at asked part has rows (Gap key above) seen = refl
shown_at asked part has rows (On key bookmark) seen = on_entry asked part (key, bookmark) (row_at rows bookmark) (has bookmark) (seen bookmark)

-- ---- RetrieveKey and GetBookmark

pub has_read : SeesRecords → (engine : EngineState) (state : DatabaseState) (side : SessionSide) (label : ℕ) (c : OpenCursor) → HoldsState engine state → IsInStep state side.session side.state → cursor_labelled side.state label ≡ Some c
    → (bookmark : List ℕ) → records_for engine side.session c.cursor.table bookmark ≡ is_some (row_at (rows_seen (inputs_of engine state side.session side.state) c) bookmark)
has_read reads engine state side label c h step found bookmark = sym (is_some-map _ (shown_for engine side.session c.cursor.table bookmark)) ∙ ap (λ (o : Option RecordFields). is_some o) (reads engine state side.session side.state label c h step found bookmark)

-- a call at a cursor that answers with a part of the entry there
abbrev IsShownAs : EngineState → SessionSide → Request → CursorId → (Pair → List ℕ) → Type 0
IsShownAs engine side request cursor part =
    (state : DatabaseState) (c : OpenCursor) → HoldsState engine state → IsInStep state side.session side.state → cursor_labelled side.state cursor.0 ≡ Some c
    → answer (inputs_of engine state side.session side.state) request ≡ shown_as (inputs_of engine state side.session side.state) (shown_of part (entry_at (records_for engine side.session c.cursor.table) c.cursor.place))

retrieve_key-is : SeesRecords → (engine : EngineState) (side : SessionSide) (cursor : CursorId) → side.state.begun ≡ true → IsShownAs engine side (call.RetrieveKey cursor) cursor (λ entry. entry.0)
retrieve_key-is reads engine side cursor begun state c h step found =
    let asked = inputs_of engine state side.session side.state in
    answer-begun asked (call.RetrieveKey cursor) begun ∙ ap (λ o. on_cursor asked o (retrieve_key asked)) found
    ∙ shown_at asked (λ entry. entry.0) (records_for engine side.session c.cursor.table) (rows_seen asked c) c.cursor.place (has_read reads engine state side cursor.0 c h step found)

get_bookmark-is : SeesRecords → (engine : EngineState) (side : SessionSide) (cursor : CursorId) → side.state.begun ≡ true → IsShownAs engine side (call.GetBookmark cursor) cursor (λ entry. entry.1)
get_bookmark-is reads engine side cursor begun state c h step found =
    let asked = inputs_of engine state side.session side.state in
    answer-begun asked (call.GetBookmark cursor) begun ∙ ap (λ o. on_cursor asked o (get_bookmark asked)) found
    ∙ shown_at asked (λ entry. entry.1) (records_for engine side.session c.cursor.table) (rows_seen asked c) c.cursor.place (has_read reads engine state side cursor.0 c h step found)

-- what the code does: it shows a part of the entry, and changes nothing but the reply buffer
pub record Shows (side new : SessionSide) (decision : Decision) (answered : Answered) : Type 0 where
  pub reply : answered_by decision.reply new.reply ≡ answered
  pub step : decision.step ≡ None
  pub state : new.state ≡ side.state

decides_at : (engine : EngineState) (side new : SessionSide) (request : Request) (cursor : CursorId) (part : Pair → List ℕ) (decision : Decision) (entry : Result Pair Jet) (found : Option OpenCursor)
    → IsShownAs engine side request cursor part → finished new.state request (decided_in decision) ≡ new.state → cursor_labelled side.state cursor.0 ≡ found → is_none found ≡ false
    → IfSome found (λ c. CurrentEntry (records_for engine side.session c.cursor.table) c.cursor.place entry) → Shows side new decision (shown_of part entry) → Decides engine side request new decision
decides_at engine side new request cursor part decision entry None shown left is known told shows = absurd (cc)
decides_at engine side new request cursor part decision entry (Some c) shown left is known told shows = λ state h step.
    let asked = inputs_of engine state side.session side.state in
    answer-is asked request new decision (shown_as asked (shown_of part (entry_at (records_for engine side.session c.cursor.table) c.cursor.place))) (shown state c h step is)
    (shows.reply ∙ ap (shown_of part) told) shows.step (left ∙ shows.state)

pub retrieve_key-decides : SeesRecords → (engine : EngineState) (side new : SessionSide) (cursor : CursorId) (decision : Decision) (entry : Result Pair Jet) → is_answered_locally side.state (call.RetrieveKey cursor) ≡ false
    → IfSome (cursor_labelled side.state cursor.0) (λ c. CurrentEntry (records_for engine side.session c.cursor.table) c.cursor.place entry) → Shows side new decision (shown_of (λ e. e.0) entry) → Decides engine side (call.RetrieveKey cursor) new decision
retrieve_key-decides reads engine side new cursor decision entry shared told shows =
    let known = at_if side.state.begun (cursor_labelled side.state cursor.0) shared in
    decides_at engine side new (call.RetrieveKey cursor) cursor (λ e. e.0) decision entry (cursor_labelled side.state cursor.0) (retrieve_key-is reads engine side cursor known.0) refl refl known.1 told shows

pub get_bookmark-decides : SeesRecords → (engine : EngineState) (side new : SessionSide) (cursor : CursorId) (decision : Decision) (entry : Result Pair Jet) → is_answered_locally side.state (call.GetBookmark cursor) ≡ false
    → IfSome (cursor_labelled side.state cursor.0) (λ c. CurrentEntry (records_for engine side.session c.cursor.table) c.cursor.place entry) → Shows side new decision (shown_of (λ e. e.1) entry) → Decides engine side (call.GetBookmark cursor) new decision
get_bookmark-decides reads engine side new cursor decision entry shared told shows =
    let known = at_if side.state.begun (cursor_labelled side.state cursor.0) shared in
    decides_at engine side new (call.GetBookmark cursor) cursor (λ e. e.1) decision entry (cursor_labelled side.state cursor.0) (get_bookmark-is reads engine side cursor known.0) refl refl known.1 told shows
