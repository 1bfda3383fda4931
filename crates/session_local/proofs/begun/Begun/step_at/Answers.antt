use Rattle.std.proofs.Common.{◌==◌, Some, Ok, sym, ◌∙◌, subst}
use Rattle.session_local.specs.declared.reply.Reply.{Reply}
use Rattle.session_local.specs.Local.{OpenCursor}
use Rattle.session_local.specs.LocalCalls.{StepsBy}
use Rattle.session_local.proofs.Distinct.{missing-position}
use Rattle.session_local.proofs.Served.{other_step, unknown_step, changed_step, copied_step}
use Rattle.session_local.proofs.begun.Begun.step_at.Goals as goal

pub returns-in-Some-clause-step : goal.returns-in-Some-clause-step
returns-in-Some-clause-step c = other_step c.args.self.now c.args.request.now c.args.label.0 c.in-Some.field-0 c.requires.label (sym c.is_always_local.ensures ∙ c.if-not-is_always_local.true) (sym c.position.ensures ∙ c.in-Some.is)

pub returns-in-None-clause-step : goal.returns-in-None-clause-step
returns-in-None-clause-step c =
    let now = c.args.self.now in
    let missing = missing-position (λ (o : OpenCursor). o.label == c.args.label.0) now.cursors (sym c.position.ensures ∙ c.in-None.is) in
    subst (λ (r : Reply). StepsBy now c.args.request.now (Ok (Some r)) now) (sym c.without_value.ensures) (unknown_step now c.args.request.now c.args.label.0 c.requires.label missing)

pub returns-in-RetrieveColumn-clause-step : goal.returns-in-RetrieveColumn-clause-step
returns-in-RetrieveColumn-clause-step c =
    let w = c.in-RetrieveColumn in
    copied_step c.args.self.now c.show_copy.new.self c.args.request.now _ w.column w.sequence _ w.most c.args.label.0 c.show_copy.result w.is c.requires.label (sym c.is_always_local.ensures ∙ c.if-not-is_always_local.false) c.show_copy.ensures.shown c.show_copy.ensures.cursors c.show_copy.ensures.temps

pub returns-clause-step : goal.returns-clause-step
returns-clause-step c =
    let old = c.args.self.now in
    let new = c.change.new.self in
    subst (λ (r : Reply). StepsBy old c.args.request.now (Ok (Some r)) new) (sym c.without_value-2.ensures)
    (changed_step old new c.args.request.now c.args.label.0 c.in_ok-jet.jet c.requires.label (sym c.is_always_local.ensures ∙ c.if-not-is_always_local.false) c.in_default.not-RetrieveColumn c.in_ok-jet.ensures.change)
