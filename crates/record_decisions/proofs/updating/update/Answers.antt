use Rattle.std.proofs.Common.{◌≡◌, refl, sym, ap, subst, ◌∙◌}
use Rattle.index_derive.specs.declared.log.Step.{Step}
use Rattle.session_local.specs.declared.request.Request.TheVariants as call
use Rattle.engine_parts.specs.Deciding.{Decides, IsDecision}
use Rattle.record_decisions.specs.Changing.{is_outside_in, step_by}
use Rattle.engine_parts.specs.DecisionLaws.{inputs_by}
use Rattle.record_decisions.proofs.LocksAndDeletes.{changed_by, made-as}
use Rattle.record_decisions.proofs.Updates.{decision-shown, shown_by_step, there_is, update-done, update-refused, update-shared}
use Rattle.record_decisions.proofs.updating.update.Goals as goal

pub made_put-requires-clause-there : goal.made_put-requires-clause-there
made_put-requires-clause-there c = there_is _ (update-shared c.args.local.now c.args.cursor c.requires.shared).1

pub show_bookmark-value-requires-clause-begun : goal.show_bookmark-value-requires-clause-begun
show_bookmark-value-requires-clause-begun c = (update-shared c.args.local.now c.args.cursor c.requires.shared).0

pub show_bookmark-value-requires-clause-short : goal.show_bookmark-value-requires-clause-short
show_bookmark-value-requires-clause-short c = let told = rw c.in-Ok-Ok.field-0-is at c.in-Ok-Ok.ensures.short in told

pub returns-in-Ok-Err-clause-answer : goal.returns-in-Ok-Err-clause-answer
returns-in-Ok-Err-clause-answer c =
    rw c.refused.ensures
    (update-refused c.sessions_see_their_records.ensures c.changes_are_refused_alike.ensures.room c.unique_keys_are_refused_alike.ensures c.args.engine.now c.args.local.now c.args.cursor c.in-Ok-Err.refusal c.requires.shared
    (rw c.in-Ok-Err.field-0-is at c.in-Ok-Err.ensures.made))

pub returns-clause-answer : goal.returns-clause-answer
returns-clause-answer c =
    let engine = c.args.engine.now in
    let side = c.args.local.now in
    let new = c.show_bookmark-value.new.local in
    let put = c.in-Ok-Ok.put in
    let value = c.show_bookmark-value.result in
    let alone = c.is_outside-outside.result in
    let outside : is_outside_in engine side.session ≡ alone = sym (c.is_outside-outside.ensures ∙ ap (λ s. is_outside_in engine s) c.session-session.ensures) in
    let step = made-as c.change_step.result c.session-session.result put side.session put alone c.change_step.ensures c.session-session.ensures refl in
    let decision : c.shown_with.result ≡ shown_by_step (step_by alone (changed_by side.session put)) value alone = c.shown_with.ensures ∙ ap (λ (s : Step). shown_by_step s value alone) step in
    subst (Decides engine side (call.Update c.args.cursor) new) (sym decision)
    (update-done c.sessions_see_their_records.ensures c.changes_are_refused_alike.ensures.room c.unique_keys_are_refused_alike.ensures engine side new c.args.cursor put value alone c.requires.shared
    (rw c.in-Ok-Ok.field-0-is at c.in-Ok-Ok.ensures.made) outside c.show_bookmark-value.ensures.shown c.show_bookmark-value.ensures.state)

pub returns-clause-decided : goal.returns-clause-decided
returns-clause-decided c =
    let engine = c.args.engine.now in
    let side = c.args.local.now in
    let new = c.show_bookmark-value.new.local in
    let put = c.in-Ok-Ok.put in
    let value = c.show_bookmark-value.result in
    let alone = c.is_outside-outside.result in
    let outside : is_outside_in engine side.session ≡ alone = sym (c.is_outside-outside.ensures ∙ ap (λ s. is_outside_in engine s) c.session-session.ensures) in
    let step = made-as c.change_step.result c.session-session.result put side.session put alone c.change_step.ensures c.session-session.ensures refl in
    let decision : c.shown_with.result ≡ shown_by_step (step_by alone (changed_by side.session put)) value alone = c.shown_with.ensures ∙ ap (λ (s : Step). shown_by_step s value alone) step in
    subst (IsDecision engine side (call.Update c.args.cursor) new) (sym decision)
    (decision-shown engine side new c.args.cursor put value alone
    (update-done c.sessions_see_their_records.ensures c.changes_are_refused_alike.ensures.room c.unique_keys_are_refused_alike.ensures engine side new c.args.cursor put value alone c.requires.shared
    (rw c.in-Ok-Ok.field-0-is at c.in-Ok-Ok.ensures.made) outside c.show_bookmark-value.ensures.shown c.show_bookmark-value.ensures.state)
    (λ state h step. c.the_step_of_an_update_is_lawful.ensures h.base h.dropped h.kept (inputs_by engine state side) c.args.cursor h.reached step.agrees)
    c.show_bookmark-value.ensures.session c.show_bookmark-value.ensures.state c.show_bookmark-value.ensures.named)
