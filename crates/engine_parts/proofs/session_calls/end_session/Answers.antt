use Rattle.std.proofs.Common.{◌≡◌, false, None, refl, ap}
use Rattle.index_derive.specs.declared.log.EntryKind.TheVariants as entry
use Rattle.session_local.specs.declared.request.Request.TheVariants as call
use Rattle.laws_engine.proofs.EngineLemmas.Decisions.{one_by, session_of}
use Rattle.engine_parts.specs.DecisionLaws.{inputs_by, decision-stepped}
use Rattle.engine_parts.proofs.SessionCalls.{end_session-done}
use Rattle.engine_parts.proofs.session_calls.end_session.Goals as goal

pub returns-clause-answer : goal.returns-clause-answer
returns-clause-answer c =
    let label : c.session.result ≡ session_of c.args.local.now.session = ap session_of c.session.ensures in
    rw (c.done.ensures, c.one.ensures, label) (end_session-done c.args.engine.now c.args.local.now c.requires.shared)

pub returns-clause-decided : goal.returns-clause-decided
returns-clause-decided c =
    let label : c.session.result ≡ session_of c.args.local.now.session = ap session_of c.session.ensures in
    rw (c.done.ensures, c.one.ensures, label)
    (decision-stepped c.args.engine.now c.args.local.now call.EndSession (one_by c.args.local.now.session entry.Leave) None false (end_session-done c.args.engine.now c.args.local.now c.requires.shared)
    (λ state h step. c.steps_of_sessions_are_lawful.ensures.end (inputs_by c.args.engine.now state c.args.local.now) step.agrees) refl)
