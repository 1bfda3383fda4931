use Rattle.std.proofs.Common.{◌≡◌, ℕ, Result, Ok, Err, ◌∙◌, ap, subst, sym, refl, Some, None, false}
use Rattle.std.specs.Option.{option_copied}
use Rattle.index_derive.specs.declared.rules.Schema.{Schema}
use Rattle.jet_base.specs.declared.replies.Jet.{Jet}
use Rattle.column_set.specs.declared.columns.Column.{Column}
use Rattle.column_set.specs.RecordValues.{RecordFields, column_named}
use Rattle.session_local.specs.declared.reply.Reply.{Reply}
use Rattle.session_local.specs.Answer.{Answered}
use Rattle.session_local.specs.Outcome.{CallInputs}
use Rattle.session_local.specs.RecordCalls.{column_shown}
use Rattle.session_local.specs.Local.{OpenCursor}
use Rattle.laws_engine.specs.EngineState.{EngineState}
use Rattle.session_local.specs.declared.request.Request.TheVariants as call
use Rattle.engine_parts.specs.Deciding.{Decides, only_reply}
use Rattle.laws_engine.proofs.EngineLemmas.Decisions.{refused_with}
use Rattle.engine_parts.specs.Reading.{IsRowAt, fields_at, shown_for}
use Rattle.engine_parts.specs.Retrieving.{IsRecordAt}
use Rattle.engine_parts.proofs.Retrieved.{retrieve-shared, retrieve-refused, retrieve-no_column, retrieve-shown, readable_at, row_read_at, column_at}
use Rattle.engine_parts.proofs.engine.Engine.retrieve_column.Goals as goal

own_record : (engine : EngineState) (session own : ℕ) (c : OpenCursor) → session ≡ own → (found : Result RecordFields Jet) → IsRecordAt (shown_for engine session c.cursor.table) c.cursor.place found → IsRecordAt (shown_for engine own c.cursor.table) c.cursor.place found
own_record engine session own c same found is = subst (λ (n : ℕ). IsRecordAt (shown_for engine n c.cursor.table) c.cursor.place found) same is

-- the row of the record at the cursor, as the session is shown it
own_row : (engine : EngineState) (session own : ℕ) (c : OpenCursor) (row : RecordFields) → session ≡ own → IsRowAt engine own c row → IsRowAt engine session c row
own_row engine session own c row same is = subst (λ (n : ℕ). IsRowAt engine n c row) (sym same) is

pub value_seen-requires-clause-on : goal.value_seen-requires-clause-on
value_seen-requires-clause-on c = c.in-Ok.ensures.0

pub value_seen-requires-clause-row : goal.value_seen-requires-clause-row
value_seen-requires-clause-row c =
    own_row c.args.self.now c.session-session.result.0 c.args.local.now.session c.in-Some.found.now c.in-Ok.row c.session-session.ensures
    (row_read_at c.a_session_reads_its_view.ensures.rows c.args.self.now c.args.local.now c.args.cursor.0 c.in-Some.found.now c.in-Ok.row c.requires.beside c.in-Some.ensures
    (own_record c.args.self.now c.session-session.result.0 c.args.local.now.session c.in-Some.found.now c.session-session.ensures (Ok c.in-Ok.row) c.in-Ok.ensures))

pub value_seen-requires-clause-column : goal.value_seen-requires-clause-column
value_seen-requires-clause-column c =
    let column = c.in-Some-column_named.column.now in
    let found = c.in-Some.found.now in
    let named : column_named found.schema.columns c.args.column.now ≡ Some column =
    ap (λ (s : Schema). column_named s.columns c.args.column.now) (sym c.schema.ensures) ∙ sym c.column_named.ensures ∙ ap option_copied c.in-Some-column_named.is in
    column_at c.args.local.now c.args.cursor.0 c.args.column.now found column c.requires.beside.formed c.in-Some.ensures named

pub value_seen-requires-clause-values : goal.value_seen-requires-clause-values
value_seen-requires-clause-values c =
    let column = c.in-Some-column_named.column.now in
    let found = c.in-Some.found.now in
    let named : column_named found.schema.columns c.args.column.now ≡ Some column =
    ap (λ (s : Schema). column_named s.columns c.args.column.now) (sym c.schema.ensures) ∙ sym c.column_named.ensures ∙ ap option_copied c.in-Some-column_named.is in
    readable_at c.a_session_reads_its_view.ensures.rows c.args.self.now c.args.local.now c.args.cursor.0 c.args.column.now found c.in-Ok.row column c.requires.beside c.in-Some.ensures (own_record c.args.self.now c.session-session.result.0 c.args.local.now.session found c.session-session.ensures (Ok c.in-Ok.row) c.in-Ok.ensures) named

-- what is answered of the record that the session sees
own_answer : (engine : EngineState) (session own : ℕ) (c : OpenCursor) (sequence : ℕ) (column : Column) (asked : CallInputs) (most : ℕ) (answered : Answered) → session ≡ own
    → (column_shown asked sequence most (fields_at engine session c) column).answered ≡ answered → answered ≡ (column_shown asked sequence most (fields_at engine own c) column).answered
own_answer engine session own c sequence column asked most answered same is = sym is ∙ ap (λ (n : ℕ). (column_shown asked sequence most (fields_at engine n c) column).answered) same

pub returns-in-Err-clause-answer : goal.returns-in-Err-clause-answer
returns-in-Err-clause-answer c =
    let begun = (retrieve-shared c.args.local.now.state c.args.cursor c.args.column.now c.args.sequence c.args.most c.requires.shared).0 in
    subst (λ (reply : Reply). Decides c.args.self.now c.args.local.now (call.RetrieveColumn c.args.cursor c.args.column.now c.args.sequence false c.args.most) c.args.local.now (only_reply reply)) (sym c.refusal.ensures)
    (retrieve-refused c.a_session_reads_its_view.ensures.records c.args.self.now c.args.local.now c.args.cursor c.args.column.now c.args.sequence c.args.most c.in-Some.found.now c.in-Err.jet begun c.in-Some.ensures (own_record c.args.self.now c.session-session.result.0 c.args.local.now.session c.in-Some.found.now c.session-session.ensures (Err c.in-Err.jet) c.in-Err.ensures))

pub returns-in_default-column_named-clause-answer : goal.returns-in_default-column_named-clause-answer
returns-in_default-column_named-clause-answer c =
    let found = c.in-Some.found.now in
    let begun = (retrieve-shared c.args.local.now.state c.args.cursor c.args.column.now c.args.sequence c.args.most c.requires.shared).0 in
    let named : column_named found.schema.columns c.args.column.now ≡ None =
    ap (λ (s : Schema). column_named s.columns c.args.column.now) (sym c.schema.ensures) ∙ sym c.column_named.ensures ∙ ap option_copied c.in_default-column_named.is in
    subst (λ (reply : Reply). Decides c.args.self.now c.args.local.now (call.RetrieveColumn c.args.cursor c.args.column.now c.args.sequence false c.args.most) c.args.local.now (only_reply reply)) (sym c.refusal-in_default-column_named.ensures)
    (retrieve-no_column c.a_session_reads_its_view.ensures.records c.args.self.now c.args.local.now c.args.cursor c.args.column.now c.args.sequence c.args.most found c.in-Ok.row begun c.in-Some.ensures (own_record c.args.self.now c.session-session.result.0 c.args.local.now.session c.in-Some.found.now c.session-session.ensures (Ok c.in-Ok.row) c.in-Ok.ensures) named)

pub returns-in-Ok-value_seen-clause-answer : goal.returns-in-Ok-value_seen-clause-answer
returns-in-Ok-value_seen-clause-answer c =
    let found = c.in-Some.found.now in
    let column = c.in-Some-column_named.column.now in
    let begun = (retrieve-shared c.args.local.now.state c.args.cursor c.args.column.now c.args.sequence c.args.most c.requires.shared).0 in
    let named : column_named found.schema.columns c.args.column.now ≡ Some column =
    ap (λ (s : Schema). column_named s.columns c.args.column.now) (sym c.schema.ensures) ∙ sym c.column_named.ensures ∙ ap option_copied c.in-Some-column_named.is in
    retrieve-shown c.a_session_reads_its_view.ensures.records c.args.self.now c.args.local.now c.show_value.new.local c.args.cursor c.args.column.now c.args.sequence c.args.most found c.in-Ok.row column (only_reply c.show_value.result)
    begun c.in-Some.ensures (own_record c.args.self.now c.session-session.result.0 c.args.local.now.session c.in-Some.found.now c.session-session.ensures (Ok c.in-Ok.row) c.in-Ok.ensures) named
    (λ asked. c.show_value.ensures.shown ∙ own_answer c.args.self.now c.session-session.result.0 c.args.local.now.session found c.args.sequence column asked c.args.most _ c.session-session.ensures (c.in-Ok-value_seen.ensures.answer asked c.args.most)) refl c.show_value.ensures.state

pub returns-in-Err-value_seen-clause-answer : goal.returns-in-Err-value_seen-clause-answer
returns-in-Err-value_seen-clause-answer c =
    let found = c.in-Some.found.now in
    let column = c.in-Some-column_named.column.now in
    let begun = (retrieve-shared c.args.local.now.state c.args.cursor c.args.column.now c.args.sequence c.args.most c.requires.shared).0 in
    let named : column_named found.schema.columns c.args.column.now ≡ Some column =
    ap (λ (s : Schema). column_named s.columns c.args.column.now) (sym c.schema.ensures) ∙ sym c.column_named.ensures ∙ ap option_copied c.in-Some-column_named.is in
    subst (λ (reply : Reply). Decides c.args.self.now c.args.local.now (call.RetrieveColumn c.args.cursor c.args.column.now c.args.sequence false c.args.most) c.args.local.now (only_reply reply)) (sym c.refusal-in-Err-value_seen.ensures)
    (retrieve-shown c.a_session_reads_its_view.ensures.records c.args.self.now c.args.local.now c.args.local.now c.args.cursor c.args.column.now c.args.sequence c.args.most found c.in-Ok.row column (refused_with c.in-Err-value_seen.jet)
    begun c.in-Some.ensures (own_record c.args.self.now c.session-session.result.0 c.args.local.now.session c.in-Some.found.now c.session-session.ensures (Ok c.in-Ok.row) c.in-Ok.ensures) named
    (λ asked. own_answer c.args.self.now c.session-session.result.0 c.args.local.now.session found c.args.sequence column asked c.args.most _ c.session-session.ensures (c.in-Err-value_seen.ensures.answer asked c.args.most)) refl refl)
