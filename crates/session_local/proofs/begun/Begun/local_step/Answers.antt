use Rattle.std.proofs.Common.{◌==◌, Some, Ok, sym, ◌∙◌, subst}
use Rattle.session_local.specs.declared.reply.Reply.{Reply}
use Rattle.session_local.specs.Local.{OpenCursor}
use Rattle.session_local.specs.LocalCalls.{StepsBy}
use Rattle.session_local.proofs.Distinct.{missing-position}
use Rattle.session_local.proofs.Served.{taken_step, free_step}
use Rattle.session_local.proofs.begun.Begun.local_step.Goals as goal

pub returns-in-Some-clause-step : goal.returns-in-Some-clause-step
returns-in-Some-clause-step c =
    let now = c.args.self.now in
    subst (λ (r : Reply). StepsBy now c.args.request.now (Ok (Some r)) now) (sym c.without_value-in-Some.ensures)
    (taken_step now c.args.request.now c.in-OpenTable.cursor c.in-OpenTable.table c.in-Some.field-0 c.in-OpenTable.is (sym c.position.ensures ∙ c.in-Some.is))

pub returns-in-None-clause-step : goal.returns-in-None-clause-step
returns-in-None-clause-step c =
    let now = c.args.self.now in
    let missing = missing-position (λ (o : OpenCursor). o.label == c.in-OpenTable.cursor.0) now.cursors (sym c.position.ensures ∙ c.in-None.is) in
    free_step now c.args.request.now c.in-OpenTable.cursor c.in-OpenTable.table c.in-OpenTable.is missing
