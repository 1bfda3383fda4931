use Rattle.std.proofs.Common.{◌≡◌, false, Option, Some, None, refl, sym, ap, subst, ◌∙◌}
use Rattle.jet_base.specs.declared.words.Prepare.TheVariants as prepare
use Rattle.index_derive.specs.declared.log.Step.{Step}
use Rattle.column_set.specs.Refusals.{first_refusal}
use Rattle.session_local.specs.declared.decision.Decision.{Decision}
use Rattle.session_local.specs.declared.request.Request.TheVariants as call
use Rattle.session_local.specs.Preparing.{update_of}
use Rattle.session_local.specs.RecordCalls.{hold_at}
use Rattle.engine_parts.specs.Deciding.{Decides, IsDecision, IsLawfulStep}
use Rattle.record_decisions.specs.Changing.{step_by}
use Rattle.record_decisions.specs.Preparing.{replace_in, replace_of}
use Rattle.record_decisions.proofs.LocksAndDeletes.{changed_by, made-as}
use Rattle.record_decisions.proofs.PreparedCopies.{copied-at, lock_step, prepare-decided, prepare-done, prepare-refused, prepared_with, replace-prepares, replace-step}
use Rattle.engine_parts.specs.DecisionLaws.{inputs_by, lawful-step}
use Rattle.record_decisions.proofs.preparing.prepare_replace.Goals as goal

pub replace_at-requires : goal.replace_at-requires
replace_at-requires c =
    copied-at c.a_session_reads_its_view.ensures.rows c.args.engine.now c.args.local.now c.args.cursor.0 c.session-session.result.0 c.in-Some.found.now c.requires.beside c.records_are_formed.ensures c.in-Some.ensures c.session-session.ensures

pub returns-in-Some-replace_refusal-clause-answer : goal.returns-in-Some-replace_refusal-clause-answer
returns-in-Some-replace_refusal-clause-answer c =
    let engine = c.args.engine.now in
    let side = c.args.local.now in
    let found = c.in-Some.found.now in
    let prepares = replace-prepares c.a_session_reads_its_view.ensures.records c.changes_are_refused_alike.ensures.conflicts c.changes_are_refused_alike.ensures.room engine side c.args.cursor found c.requires.shared c.in-Some.ensures in
    rw c.refused.ensures
    (prepare-refused engine side (call.PrepareUpdate c.args.cursor prepare.Replace) (replace_in engine side.session side.state found) found (replace_of engine side.session found) (lock_step engine side.session found) c.in-Some-replace_refusal.refusal prepares
    (sym c.in-Some-replace_refusal.ensures))

pub returns-in_ok-prepared-in-None-clause-answer : goal.returns-in_ok-prepared-in-None-clause-answer
returns-in_ok-prepared-in-None-clause-answer c =
    let engine = c.args.engine.now in
    let side = c.args.local.now in
    let found = c.in-Some.found.now in
    let prepared = c.in_ok-prepared-in-None.prepared in
    let prepares = replace-prepares c.a_session_reads_its_view.ensures.records c.changes_are_refused_alike.ensures.conflicts c.changes_are_refused_alike.ensures.room engine side c.args.cursor found c.requires.shared c.in-Some.ensures in
    let none : first_refusal (replace_in engine side.session side.state found) ≡ None = sym c.in-None.ensures in
    let same : update_of prepared ≡ replace_of engine side.session found = c.in_ok-prepared-in-None.ensures.0 ∙ ap (λ s. replace_of engine s found) c.session-session.ensures in
    let step : c.change_step.result ≡ step_by false (changed_by side.session (hold_at found)) = made-as c.change_step.result c.session-session.result c.in_ok-change.change side.session (hold_at found) false c.change_step.ensures c.session-session.ensures c.in_ok-change.ensures in
    let decision : c.prepared_with.result ≡ prepared_with (lock_step engine side.session found) prepared =
    c.prepared_with.ensures ∙ ap (λ (s : Step). prepared_with (Some s) prepared) step ∙ ap (λ (s : Option Step). prepared_with s prepared) (sym (replace-step engine side found none)) in
    subst (Decides engine side (call.PrepareUpdate c.args.cursor prepare.Replace) side) (sym decision)
    (prepare-done engine side c.args.cursor prepare.Replace (replace_in engine side.session side.state found) found (replace_of engine side.session found) (lock_step engine side.session found) prepared prepares none c.in-Some.ensures same)

pub returns-in_ok-prepared-in-None-clause-decided : goal.returns-in_ok-prepared-in-None-clause-decided
returns-in_ok-prepared-in-None-clause-decided c =
    let engine = c.args.engine.now in
    let side = c.args.local.now in
    let found = c.in-Some.found.now in
    let prepared = c.in_ok-prepared-in-None.prepared in
    let request = call.PrepareUpdate c.args.cursor prepare.Replace in
    let step : c.change_step.result ≡ step_by false (changed_by side.session (hold_at found)) = made-as c.change_step.result c.session-session.result c.in_ok-change.change side.session (hold_at found) false c.change_step.ensures c.session-session.ensures c.in_ok-change.ensures in
    let decision : c.prepared_with.result ≡ prepared_with (Some (step_by false (changed_by side.session (hold_at found)))) prepared = c.prepared_with.ensures ∙ ap (λ (s : Step). prepared_with (Some s) prepared) step in
    let lawful = lawful-step engine side side request c.prepared_with.result (returns-in_ok-prepared-in-None-clause-answer c)
    (λ state h in_step. c.the_step_of_a_replace_is_lawful.ensures h.base h.dropped h.kept (inputs_by engine state side) c.args.cursor h.reached in_step.agrees) in
    subst (IsDecision engine side request side) (sym decision)
    (prepare-decided engine side c.args.cursor prepare.Replace found (Some (step_by false (changed_by side.session (hold_at found)))) prepared c.in-Some.ensures c.in_ok-prepared-in-None.ensures.1 refl
    (subst (λ (d : Decision). IsLawfulStep engine side d) decision lawful))
