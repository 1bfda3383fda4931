use Rattle.session_local.proofs.Served.{session-begun, answer_clause-begun, kept_clause-begun, answer_clause-not_begun}
use Rattle.session_local.proofs.answering.local_step.Goals as goal

pub returns-in_default-clause-answer : goal.returns-in_default-clause-answer
returns-in_default-clause-answer c =
    let inside = c.local.inside in
    answer_clause-not_begun inside.session.0 inside.begun c.args.local.now c.args.request.now c.step_not_begun.result c.in_default.is c.local.view_is c.step_not_begun.ensures

pub returns-clause-answer : goal.returns-clause-answer
returns-clause-answer c =
    let inside = c.local.inside in
    let held = c.in-Some.begun in
    let seen = session-begun inside.session.0 inside.begun held c.args.local.now c.in-Some.is c.local.view_is in
    answer_clause-begun inside.session.0 held c.local_step.new.self c.args.local.now c.args.request.now c.local_step.result seen c.local_step.ensures.step

pub returns-clause-kept : goal.returns-clause-kept
returns-clause-kept c =
    let inside = c.local.inside in
    let held = c.in-Some.begun in
    let seen = session-begun inside.session.0 inside.begun held c.args.local.now c.in-Some.is c.local.view_is in
    kept_clause-begun inside.session.0 held c.local_step.new.self c.args.local.now c.args.request.now c.local_step.result seen c.requires.well_formed c.local_step.ensures.step
