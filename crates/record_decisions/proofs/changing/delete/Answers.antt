use Rattle.std.proofs.Common.{◌≡◌, None, refl, sym, ap, subst, ◌∙◌}
use Rattle.index_derive.specs.declared.log.Step.{Step}
use Rattle.column_set.specs.Refusals.{first_refusal}
use Rattle.session_local.specs.declared.request.Request.TheVariants as call
use Rattle.session_local.specs.RecordCalls.{drop_at}
use Rattle.engine_parts.specs.Deciding.{Decides, IsDecision}
use Rattle.record_decisions.specs.Changing.{delete_in, is_outside_in, step_by}
use Rattle.laws_engine.proofs.EngineLemmas.Decisions.{stepped_with}
use Rattle.engine_parts.specs.DecisionLaws.{inputs_by, decision-stepped}
use Rattle.record_decisions.proofs.LocksAndDeletes.{change-refused, change-done, changed_by, flushes-change, delete-changes, made-as}
use Rattle.record_decisions.proofs.changing.delete.Goals as goal

pub returns-in-Some-delete_refusal-clause-answer : goal.returns-in-Some-delete_refusal-clause-answer
returns-in-Some-delete_refusal-clause-answer c =
    let engine = c.args.engine.now in
    let side = c.args.local.now in
    let found = c.in-Some.found.now in
    let changes = delete-changes c.sessions_see_their_records.ensures c.changes_are_refused_alike.ensures.conflicts c.changes_are_refused_alike.ensures.room engine side c.args.cursor found c.requires.shared c.in-Some.ensures in
    rw c.refused.ensures
    (change-refused engine side (call.Delete c.args.cursor) (delete_in engine side.session side.state found) (drop_at found) c.in-Some-delete_refusal.refusal changes
    (sym c.in-Some-delete_refusal.ensures))

pub returns-in-None-clause-answer : goal.returns-in-None-clause-answer
returns-in-None-clause-answer c =
    let engine = c.args.engine.now in
    let side = c.args.local.now in
    let found = c.in-Some.found.now in
    let changes = delete-changes c.sessions_see_their_records.ensures c.changes_are_refused_alike.ensures.conflicts c.changes_are_refused_alike.ensures.room engine side c.args.cursor found c.requires.shared c.in-Some.ensures in
    let none : first_refusal (delete_in engine side.session side.state found) ≡ None = sym c.in-None.ensures in
    let alone = c.is_outside-outside.result in
    let outside : is_outside_in engine side.session ≡ alone = sym (c.is_outside-outside.ensures ∙ ap (λ s. is_outside_in engine s) c.session-session.ensures) in
    let step = made-as c.change_step.result c.session-session.result c.in_ok-change.change side.session (drop_at found) alone c.change_step.ensures c.session-session.ensures c.in_ok-change.ensures in
    let decision : c.done.result ≡ stepped_with (step_by alone (changed_by side.session (drop_at found))) None alone = c.done.ensures ∙ ap (λ (s : Step). stepped_with s None alone) step in
    subst (Decides engine side (call.Delete c.args.cursor) side) (sym decision)
    (change-done engine side (call.Delete c.args.cursor) (delete_in engine side.session side.state found) (drop_at found) alone changes none outside (λ local step flush. refl))

pub returns-in-None-clause-decided : goal.returns-in-None-clause-decided
returns-in-None-clause-decided c =
    let engine = c.args.engine.now in
    let side = c.args.local.now in
    let found = c.in-Some.found.now in
    let changes = delete-changes c.sessions_see_their_records.ensures c.changes_are_refused_alike.ensures.conflicts c.changes_are_refused_alike.ensures.room engine side c.args.cursor found c.requires.shared c.in-Some.ensures in
    let none : first_refusal (delete_in engine side.session side.state found) ≡ None = sym c.in-None.ensures in
    let alone = c.is_outside-outside.result in
    let outside : is_outside_in engine side.session ≡ alone = sym (c.is_outside-outside.ensures ∙ ap (λ s. is_outside_in engine s) c.session-session.ensures) in
    let step = made-as c.change_step.result c.session-session.result c.in_ok-change.change side.session (drop_at found) alone c.change_step.ensures c.session-session.ensures c.in_ok-change.ensures in
    let decision : c.done.result ≡ stepped_with (step_by alone (changed_by side.session (drop_at found))) None alone = c.done.ensures ∙ ap (λ (s : Step). stepped_with s None alone) step in
    subst (IsDecision engine side (call.Delete c.args.cursor) side) (sym decision)
    (decision-stepped engine side (call.Delete c.args.cursor) (step_by alone (changed_by side.session (drop_at found))) None alone
    (change-done engine side (call.Delete c.args.cursor) (delete_in engine side.session side.state found) (drop_at found) alone changes none outside (λ local step flush. refl))
    (λ state h step. c.the_step_of_a_delete_is_lawful.ensures h.base h.dropped h.kept (inputs_by engine state side) c.args.cursor h.reached step.agrees)
    (flushes-change (call.Delete c.args.cursor) side.session (drop_at found) alone))
