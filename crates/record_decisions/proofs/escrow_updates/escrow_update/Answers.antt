use Rattle.std.proofs.Common.{◌≡◌, ℕ, w32, rules, of_z, to_z, true, false, List, Some, None, refl, sym, ap, subst, ◌∙◌}
use Rattle.std.specs.Prelude.{ℤ}
use Rattle.std.specs.Option.{option_copied}
use Rattle.column_set.specs.declared.changes.Change.{Change}
use Rattle.column_set.specs.declared.columns.Column.{Column}
use Rattle.column_set.specs.RecordValues.{column_named}
use Rattle.column_set.specs.Refusals.{first_refusal}
use Rattle.index_derive.specs.declared.log.Step.{Step}
use Rattle.index_derive.specs.declared.rules.Schema.{Schema}
use Rattle.index_derive.specs.Entries.{is_escrow_column}
use Rattle.session_local.specs.declared.request.Request.TheVariants as call
use Rattle.session_local.specs.Local.{OpenCursor, cursor_labelled}
use Rattle.session_local.specs.SessionSide.{SessionSide}
use Rattle.laws_versions.specs.EscrowSums.{escrow_value}
use Rattle.laws_engine.specs.EngineState.{EngineState}
use Rattle.engine_parts.specs.Deciding.{Decides, HoldsSession, IsDecision}
use Rattle.record_decisions.specs.Changing.{step_by}
use Rattle.record_decisions.specs.EscrowUpdates.{place_in, sum_at, sum_in}
use Rattle.record_decisions.specs.Preparing.{values_seen}
use Rattle.record_decisions.proofs.EscrowUpdates.{IsAsked, escrow-decided, escrow-done, escrow-no_column, escrow-refused, escrow-sum_refused, escrow_named, read-at, row-at, sum-escrow, summed_with}
use Rattle.record_decisions.proofs.LocksAndDeletes.{changed_by, made-as}
use Rattle.record_decisions.proofs.PreparedCopies.{distinct_at}
use Rattle.engine_parts.specs.DecisionLaws.{inputs_by}
use Rattle.record_decisions.proofs.escrow_updates.escrow_update.Goals as goal

pub returns-in-Some-place_refusal-clause-answer : goal.returns-in-Some-place_refusal-clause-answer
returns-in-Some-place_refusal-clause-answer c =
    let engine = c.args.engine.now in
    let side = c.args.local.now in
    let found = c.in-Some.found.now in
    let is : IsAsked engine side c.args.cursor c.args.column.now c.args.amount found = record {
      sees = c.a_session_reads_its_view.ensures.records;
      conflicts = c.changes_are_refused_alike.ensures.conflicts;
      rooms = c.changes_are_refused_alike.ensures.room;
      shared = c.requires.shared;
      found = c.in-Some.ensures;
    } in
    rw c.refused.ensures
    (escrow-refused engine side c.args.cursor c.args.column.now c.args.amount found c.in-Some-place_refusal.refusal is
    (sym (c.in-Some-place_refusal.ensures ∙ ap (λ s. first_refusal (place_in engine s found)) c.session-session.ensures)))

pub returns-in-None-column_named-clause-answer : goal.returns-in-None-column_named-clause-answer
returns-in-None-column_named-clause-answer c =
    let engine = c.args.engine.now in
    let side = c.args.local.now in
    let found = c.in-Some.found.now in
    let is : IsAsked engine side c.args.cursor c.args.column.now c.args.amount found = record {
      sees = c.a_session_reads_its_view.ensures.records;
      conflicts = c.changes_are_refused_alike.ensures.conflicts;
      rooms = c.changes_are_refused_alike.ensures.room;
      shared = c.requires.shared;
      found = c.in-Some.ensures;
    } in
    let passed : first_refusal (place_in engine side.session found) ≡ None = sym (c.in-None.ensures ∙ ap (λ s. first_refusal (place_in engine s found)) c.session-session.ensures) in
    let named : column_named found.schema.columns c.args.column.now ≡ None =
    ap (λ (s : Schema). column_named s.columns c.args.column.now) (sym c.schema.ensures) ∙ sym c.column_named.ensures ∙ ap option_copied c.in-None-column_named.is in
    rw c.refused-in-None-column_named.ensures (escrow-no_column engine side c.args.cursor c.args.column.now c.args.amount found is passed named)

pub returns-in-Some-sum_refusal-clause-answer : goal.returns-in-Some-sum_refusal-clause-answer
returns-in-Some-sum_refusal-clause-answer c =
    let engine = c.args.engine.now in
    let side = c.args.local.now in
    let found = c.in-Some.found.now in
    let column = c.in-Some-column_named.column.now in
    let amount : to_z w32 (of_z w32 c.args.amount) ≡ c.args.amount = search rules in
    let made_is : c.in_ok-change-in-Some-column_named.change ≡ sum_at found column.id c.args.amount = c.in_ok-change-in-Some-column_named.ensures ∙ ap (λ (n : ℤ). sum_at found column.id n) amount in
    let is : IsAsked engine side c.args.cursor c.args.column.now c.args.amount found = record {
      sees = c.a_session_reads_its_view.ensures.records;
      conflicts = c.changes_are_refused_alike.ensures.conflicts;
      rooms = c.changes_are_refused_alike.ensures.room;
      shared = c.requires.shared;
      found = c.in-Some.ensures;
    } in
    let passed : first_refusal (place_in engine side.session found) ≡ None = sym (c.in-None.ensures ∙ ap (λ s. first_refusal (place_in engine s found)) c.session-session.ensures) in
    let named : column_named found.schema.columns c.args.column.now ≡ Some column =
    ap (λ (s : Schema). column_named s.columns c.args.column.now) (sym c.schema.ensures) ∙ sym c.column_named.ensures ∙ ap option_copied c.in-Some-column_named.is in
    rw c.refused-in-Some-sum_refusal.ensures
    (escrow-sum_refused engine side c.args.cursor c.args.column.now c.args.amount found column c.in-Some-sum_refusal.refusal is passed named
    (sym (c.in-Some-sum_refusal.ensures ∙ ap (λ (made : Change). first_refusal (sum_in engine side.session side.state found column made)) made_is)))

-- what is told of the column where nothing refuses the sum
escrow_at : (engine : EngineState) (side : SessionSide) (label : ℕ) (name : List ℕ) (found : OpenCursor) (column : Column) (made : Change) → HoldsSession engine side → cursor_labelled side.state label ≡ Some found
    → column_named found.schema.columns name ≡ Some column → first_refusal (sum_in engine side.session side.state found column made) ≡ None → is_escrow_column found.schema column.id.0 ≡ true
escrow_at engine side label name found column made beside labelled named none =
    escrow_named found.schema.columns name column (distinct_at side.state label found beside.formed labelled) named ∙ sum-escrow engine side.session side.state found column made none

pub number_seen-number-requires-clause-row : goal.number_seen-number-requires-clause-row
number_seen-number-requires-clause-row c =
    row-at c.a_session_reads_its_view.ensures.rows c.args.engine.now c.args.local.now c.args.cursor.0 c.session-session.result.0 c.in-Some.found.now c.requires.beside c.in-Some.ensures c.session-session.ensures

pub number_seen-number-requires-clause-sum : goal.number_seen-number-requires-clause-sum
number_seen-number-requires-clause-sum c =
    let engine = c.args.engine.now in
    let side = c.args.local.now in
    let found = c.in-Some.found.now in
    let column = c.in-Some-column_named.column.now in
    let named : column_named found.schema.columns c.args.column.now ≡ Some column =
    ap (λ (s : Schema). column_named s.columns c.args.column.now) (sym c.schema.ensures) ∙ sym c.column_named.ensures ∙ ap option_copied c.in-Some-column_named.is in
    escrow_at engine side c.args.cursor.0 c.args.column.now found column c.in_ok-change-in-Some-column_named.change c.requires.beside c.in-Some.ensures named (sym c.in-None-sum_refusal.ensures)

pub returns-in-None-sum_refusal-clause-answer : goal.returns-in-None-sum_refusal-clause-answer
returns-in-None-sum_refusal-clause-answer c =
    let engine = c.args.engine.now in
    let side = c.args.local.now in
    let found = c.in-Some.found.now in
    let column = c.in-Some-column_named.column.now in
    let amount : to_z w32 (of_z w32 c.args.amount) ≡ c.args.amount = search rules in
    let made_is : c.in_ok-change-in-Some-column_named.change ≡ sum_at found column.id c.args.amount = c.in_ok-change-in-Some-column_named.ensures ∙ ap (λ (n : ℤ). sum_at found column.id n) amount in
    let made = sum_at found column.id c.args.amount in
    let is : IsAsked engine side c.args.cursor c.args.column.now c.args.amount found = record {
      sees = c.a_session_reads_its_view.ensures.records;
      conflicts = c.changes_are_refused_alike.ensures.conflicts;
      rooms = c.changes_are_refused_alike.ensures.room;
      shared = c.requires.shared;
      found = c.in-Some.ensures;
    } in
    let passed : first_refusal (place_in engine side.session found) ≡ None = sym (c.in-None.ensures ∙ ap (λ s. first_refusal (place_in engine s found)) c.session-session.ensures) in
    let named : column_named found.schema.columns c.args.column.now ≡ Some column =
    ap (λ (s : Schema). column_named s.columns c.args.column.now) (sym c.schema.ensures) ∙ sym c.column_named.ensures ∙ ap option_copied c.in-Some-column_named.is in
    let none : first_refusal (sum_in engine side.session side.state found column made) ≡ None =
    sym (c.in-None-sum_refusal.ensures ∙ ap (λ (m : Change). first_refusal (sum_in engine side.session side.state found column m)) made_is) in
    let sum = escrow_at engine side c.args.cursor.0 c.args.column.now found column made c.requires.beside c.in-Some.ensures named none in
    let row = row-at c.a_session_reads_its_view.ensures.rows engine side c.args.cursor.0 side.session found c.requires.beside c.in-Some.ensures refl in
    let step : c.change_step.result ≡ step_by false (changed_by side.session made) = made-as c.change_step.result c.session-session.result c.in_ok-change-in-Some-column_named.change side.session made false c.change_step.ensures c.session-session.ensures made_is in
    let number : c.number_seen-number.result ≡ escrow_value (values_seen engine side.session found) column.id.0 =
    c.number_seen-number.ensures ∙ ap (λ s. escrow_value (values_seen engine s found) column.id.0) c.session-session.ensures in
    let read : to_z w32 (of_z w32 c.number_seen-number.result) ≡ c.number_seen-number.result = search rules in
    let decision : c.summed.result ≡ summed_with (step_by false (changed_by side.session made)) (escrow_value (values_seen engine side.session found) column.id.0) =
    c.summed.ensures ∙ ap (λ (n : ℤ). summed_with c.change_step.result n) read ∙ ap (λ (s : Step). summed_with s c.number_seen-number.result) step ∙ ap (λ (n : ℤ). summed_with (step_by false (changed_by side.session made)) n) number in
    subst (Decides engine side (call.EscrowUpdate c.args.cursor c.args.column.now c.args.amount) side) (sym decision)
    (escrow-done engine side c.args.cursor c.args.column.now c.args.amount found column is passed named none (read-at engine side.session found column.id.0 passed row sum))

pub returns-in-None-sum_refusal-clause-decided : goal.returns-in-None-sum_refusal-clause-decided
returns-in-None-sum_refusal-clause-decided c =
    let engine = c.args.engine.now in
    let side = c.args.local.now in
    let found = c.in-Some.found.now in
    let column = c.in-Some-column_named.column.now in
    let amount : to_z w32 (of_z w32 c.args.amount) ≡ c.args.amount = search rules in
    let made_is : c.in_ok-change-in-Some-column_named.change ≡ sum_at found column.id c.args.amount = c.in_ok-change-in-Some-column_named.ensures ∙ ap (λ (n : ℤ). sum_at found column.id n) amount in
    let made = sum_at found column.id c.args.amount in
    let request = call.EscrowUpdate c.args.cursor c.args.column.now c.args.amount in
    let step : c.change_step.result ≡ step_by false (changed_by side.session made) = made-as c.change_step.result c.session-session.result c.in_ok-change-in-Some-column_named.change side.session made false c.change_step.ensures c.session-session.ensures made_is in
    let read : to_z w32 (of_z w32 c.number_seen-number.result) ≡ c.number_seen-number.result = search rules in
    let decision : c.summed.result ≡ summed_with (step_by false (changed_by side.session made)) c.number_seen-number.result =
    c.summed.ensures ∙ ap (λ (n : ℤ). summed_with c.change_step.result n) read ∙ ap (λ (s : Step). summed_with s c.number_seen-number.result) step in
    subst (IsDecision engine side request side) (sym decision)
    (escrow-decided engine side request made c.number_seen-number.result
    (subst (Decides engine side request side) decision (returns-in-None-sum_refusal-clause-answer c))
    (λ state h in_step. c.the_step_of_a_sum_is_lawful.ensures h.base h.dropped h.kept (inputs_by engine state side) c.args.cursor c.args.column.now c.args.amount h.reached in_step.agrees))
