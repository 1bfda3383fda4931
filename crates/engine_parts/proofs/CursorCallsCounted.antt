-- What counts the entries from a cursor on.
use Rattle.std.proofs.Common.{◌≡◌, ℕ, ◌<◌, ◌^◌, Bool, true, false, List, [], ◌∷◌, length, Option, Some, None, Result, Ok, Err, refl, sym, ap, ◌∙◌, is_some, is_none, if◌then◌else◌, arith}
use Rattle.jet_base.specs.declared.ids.CursorId.{CursorId}
use Rattle.jet_base.specs.declared.replies.Jet.{Jet}
use Rattle.jet_base.specs.declared.replies.Jet.TheVariants as jet
use Rattle.column_set.specs.RecordValues.{RecordFields}
use Rattle.index_derive.specs.declared.entries.Place.{Place}
use Rattle.index_derive.specs.declared.entries.Place.TheVariants.{Before, After, On, Gap}
use Rattle.cursor_nav.specs.declared.cursor.Moved.{Moved}
use Rattle.cursor_nav.specs.Places.{Pair, place_pair}
use Rattle.cursor_nav.specs.Navigation.{CursorState, at_most, count_from, current_answer, answer_of}
use Rattle.database_state.specs.Table.{Rows, row_at}
use Rattle.database_state.specs.State.{DatabaseState}
use Rattle.session_local.specs.declared.decision.Decision.{Decision}
use Rattle.session_local.specs.declared.request.Request.TheVariants as call
use Rattle.session_local.specs.SessionSide.{SessionSide}
use Rattle.session_local.specs.Answer.{Answered, Nothing, Count, answered_by}
use Rattle.session_local.specs.Local.{OpenCursor, cursor_labelled}
use Rattle.session_local.specs.Outcome.{CallInputs, said, unless, on_cursor, rows_seen, current_refusals}
use Rattle.session_local.specs.Calls.{answer}
use Rattle.session_local.specs.CursorCalls.{index_record_count}
use Rattle.session_local.specs.LocalCalls.{is_answered_locally}
use Rattle.session_local.specs.Navigating.{EntriesOf, RecordsOf}
use Rattle.laws_engine.specs.InStep.{IsInStep}
use Rattle.stored_variants.specs.StoredVersions.{seen_entries}
use Rattle.version_store.specs.declared.calls.Reader.{Reader}
use Rattle.laws_engine.specs.VersionedTables.{VersionedTables}
use Rattle.version_cleanup.specs.Cleaning.{reader_in}
use Rattle.laws_engine.specs.EngineState.{EngineState}
use Rattle.laws_engine.specs.HoldsState.{HoldsState, inputs_of}
use Rattle.engine_parts.specs.Deciding.{Decides}
use Rattle.engine_parts.specs.Reading.{entries_for, has_shown, records_for}
use Rattle.engine_parts.specs.SharedCalls.{at_if}
use Rattle.laws_engine.proofs.EngineLemmas.Decisions.{answer-begun, answer-is}
use Rattle.engine_parts.proofs.CursorCallsShown.{shown_as}
use Rattle.engine_parts.proofs.CursorCallsNavigated.{ReadsView, sees}

-- ---- a count needs few entries

at_most-few : (most : Option ℕ) (count bound : ℕ) → count < bound → at_most most count < bound
at_most-few None count bound few = few
at_most-few (Some most) count bound few = omega (arith, few)

pub counts-few : (most : Option ℕ) (entries : List Pair) → length entries < 2 ^ 34 → at_most most (length entries) < 2 ^ 64
counts-few most entries few = at_most-few most (length entries) (2 ^ 64) (omega (arith, few))

-- ---- what is answered

abbrev pub counted_of : Result Moved Jet → Answered
counted_of (Ok counted) = record { jet = jet.Success; shown = Count counted.number }
counted_of (Err reply) = record { jet = reply; shown = Nothing }

-- what the code counts at a cursor
abbrev pub count_at : EntriesOf → RecordsOf → CursorState → Option ℕ → Result Moved Jet
count_at entries records cursor most = answer_of (current_answer (records cursor.table) cursor.place) (count_from cursor (entries cursor.table cursor.index) (place_pair cursor.place) most)

on_entry : (asked : CallInputs) (count : ℕ) (row : Option RecordFields) (there : Bool) → there ≡ is_some row
    → unless asked ((is_none row, jet.RecordDeleted) ∷ []) (λ _. said asked jet.Success (Count count)) ≡ shown_as asked (counted_of (answer_of (if there then jet.Success else jet.RecordDeleted) count))
on_entry asked count None false e = refl
on_entry asked count (Some row) true e = refl
on_entry asked count None true e = absurd (cc)
on_entry asked count (Some row) false e = absurd (cc)

counted_at : (asked : CallInputs) (count : ℕ) (rows : Rows) (place : Place) (has : List ℕ → Bool) → ((bookmark : List ℕ) → has bookmark ≡ is_some (row_at rows bookmark))
    → unless asked (current_refusals rows place) (λ _. said asked jet.Success (Count count)) ≡ shown_as asked (counted_of (answer_of (current_answer has place) count))
counted_at asked count rows Before has seen = refl
counted_at asked count rows After has seen = refl
counted_at asked count rows (Gap key above) has seen = refl
counted_at asked count rows (On key bookmark) has seen = on_entry asked count (row_at rows bookmark) (has bookmark) (seen bookmark)

count-is : ReadsView → (engine : EngineState) (state : DatabaseState) (side : SessionSide) (cursor : CursorId) (most : Option ℕ) (c : OpenCursor) → HoldsState engine state → IsInStep state side.session side.state → side.state.begun ≡ true → cursor_labelled side.state cursor.0 ≡ Some c
    → answer (inputs_of engine state side.session side.state) (call.IndexRecordCount cursor most)
    ≡ shown_as (inputs_of engine state side.session side.state) (counted_of (count_at (entries_for engine side.session) (records_for engine side.session) c.cursor most))
count-is reads engine state side cursor most c h step begun found =
    let asked = inputs_of engine state side.session side.state in
    let place = c.cursor.place in
    let seen = sees reads engine state side cursor.0 c h step found in
    answer-begun asked (call.IndexRecordCount cursor most) begun ∙ ap (λ o. on_cursor asked o (λ c. index_record_count asked c most)) found
    ∙ ap (λ (es : List Pair). unless asked (current_refusals (rows_seen asked c) place) (λ _. said asked jet.Success (Count (count_from c.cursor es (place_pair place) most))))
    (sym (seen.each_index c.cursor.index))
    ∙ counted_at asked (count_from c.cursor (entries_for engine side.session c.cursor.table c.cursor.index) (place_pair place) most) (rows_seen asked c) place (records_for engine side.session c.cursor.table)
    seen.each_record

pub count-decides : ReadsView → (engine : EngineState) (store : VersionedTables) (reader : Reader) (side : SessionSide) (cursor : CursorId) (most : Option ℕ) (c : OpenCursor) (counted : Result Moved Jet) (decision : Decision)
    → is_answered_locally side.state (call.IndexRecordCount cursor most) ≡ false → cursor_labelled side.state cursor.0 ≡ Some c → store ≡ engine.store → reader ≡ reader_in side.session engine.sessions
    → counted ≡ count_at (seen_entries reader store) (has_shown reader store) c.cursor most → answered_by decision.reply side.reply ≡ counted_of counted → decision.step ≡ None
    → Decides engine side (call.IndexRecordCount cursor most) side decision
count-decides reads engine store reader side cursor most c counted decision shared found held by told reply step = λ state h is_in_step.
    let begun = (at_if side.state.begun (cursor_labelled side.state cursor.0) shared).0 in
    let Count_at : Reader → VersionedTables → Result Moved Jet = λ r s. count_at (seen_entries r s) (has_shown r s) c.cursor most in
    let own = reader_in side.session engine.sessions in
    answer-is (inputs_of engine state side.session side.state) (call.IndexRecordCount cursor most) side decision
    (shown_as (inputs_of engine state side.session side.state) (counted_of (Count_at own engine.store)))
    (count-is reads engine state side cursor most c h is_in_step begun found)
    (reply ∙ ap counted_of (told ∙ ap (λ r. Count_at r store) by ∙ ap (Count_at own) held)) step refl
