use Rattle.std.proofs.Common.{◌≡◌, false, None, refl, sym, ap, subst, ◌∙◌}
use Rattle.index_derive.specs.declared.log.Step.{Step}
use Rattle.column_set.specs.Refusals.{first_refusal}
use Rattle.session_local.specs.declared.request.Request.TheVariants as call
use Rattle.session_local.specs.RecordCalls.{hold_at}
use Rattle.engine_parts.specs.Deciding.{Decides, IsDecision}
use Rattle.record_decisions.specs.Changing.{lock_in, step_by}
use Rattle.laws_engine.proofs.EngineLemmas.Decisions.{stepped_with}
use Rattle.engine_parts.specs.DecisionLaws.{inputs_by, decision-stepped}
use Rattle.record_decisions.proofs.LocksAndDeletes.{change-refused, change-done, changed_by, flushes-change, lock-changes, lock-outside, made-as}
use Rattle.record_decisions.proofs.changing.get_lock.Goals as goal

pub returns-in-Some-lock_refusal-clause-answer : goal.returns-in-Some-lock_refusal-clause-answer
returns-in-Some-lock_refusal-clause-answer c =
    let engine = c.args.engine.now in
    let side = c.args.local.now in
    let found = c.in-Some.found.now in
    let changes = lock-changes c.sessions_see_their_records.ensures c.changes_are_refused_alike.ensures.conflicts c.changes_are_refused_alike.ensures.room engine side c.args.cursor found c.requires.shared c.in-Some.ensures in
    rw c.refused.ensures
    (change-refused engine side (call.GetLock c.args.cursor) (lock_in engine side.session found) (hold_at found) c.in-Some-lock_refusal.refusal changes
    (sym (c.in-Some-lock_refusal.ensures ∙ ap (λ s. first_refusal (lock_in engine s found)) c.session-session.ensures)))

pub returns-in-None-clause-answer : goal.returns-in-None-clause-answer
returns-in-None-clause-answer c =
    let engine = c.args.engine.now in
    let side = c.args.local.now in
    let found = c.in-Some.found.now in
    let changes = lock-changes c.sessions_see_their_records.ensures c.changes_are_refused_alike.ensures.conflicts c.changes_are_refused_alike.ensures.room engine side c.args.cursor found c.requires.shared c.in-Some.ensures in
    let none : first_refusal (lock_in engine side.session found) ≡ None = sym (c.in-None.ensures ∙ ap (λ s. first_refusal (lock_in engine s found)) c.session-session.ensures) in
    let step = made-as c.change_step.result c.session-session.result c.in_ok-change.change side.session (hold_at found) false c.change_step.ensures c.session-session.ensures c.in_ok-change.ensures in
    let decision : c.done.result ≡ stepped_with (step_by false (changed_by side.session (hold_at found))) None false = c.done.ensures ∙ ap (λ (s : Step). stepped_with s None false) step in
    subst (Decides engine side (call.GetLock c.args.cursor) side) (sym decision)
    (change-done engine side (call.GetLock c.args.cursor) (lock_in engine side.session found) (hold_at found) false changes none (lock-outside engine side.session found none) (λ local step flush. refl))

pub returns-in-None-clause-decided : goal.returns-in-None-clause-decided
returns-in-None-clause-decided c =
    let engine = c.args.engine.now in
    let side = c.args.local.now in
    let found = c.in-Some.found.now in
    let changes = lock-changes c.sessions_see_their_records.ensures c.changes_are_refused_alike.ensures.conflicts c.changes_are_refused_alike.ensures.room engine side c.args.cursor found c.requires.shared c.in-Some.ensures in
    let none : first_refusal (lock_in engine side.session found) ≡ None = sym (c.in-None.ensures ∙ ap (λ s. first_refusal (lock_in engine s found)) c.session-session.ensures) in
    let step = made-as c.change_step.result c.session-session.result c.in_ok-change.change side.session (hold_at found) false c.change_step.ensures c.session-session.ensures c.in_ok-change.ensures in
    let decision : c.done.result ≡ stepped_with (step_by false (changed_by side.session (hold_at found))) None false = c.done.ensures ∙ ap (λ (s : Step). stepped_with s None false) step in
    subst (IsDecision engine side (call.GetLock c.args.cursor) side) (sym decision)
    (decision-stepped engine side (call.GetLock c.args.cursor) (step_by false (changed_by side.session (hold_at found))) None false
    (change-done engine side (call.GetLock c.args.cursor) (lock_in engine side.session found) (hold_at found) false changes none (lock-outside engine side.session found none) (λ local step flush. refl))
    (λ state h step. c.the_step_of_a_lock_is_lawful.ensures h.base h.dropped h.kept (inputs_by engine state side) c.args.cursor h.reached step.agrees)
    (flushes-change (call.GetLock c.args.cursor) side.session (hold_at found) false))
