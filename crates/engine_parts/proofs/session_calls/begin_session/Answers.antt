use Rattle.std.proofs.Common.{◌≡◌, false, List, Some, length, refl, sym, ap, ◌∙◌, arith}
use Rattle.index_derive.specs.declared.log.EntryKind.TheVariants as entry
use Rattle.session_local.specs.declared.request.Request.TheVariants as call
use Rattle.version_cleanup.specs.LiveSessions.{LiveState}
use Rattle.laws_engine.proofs.EngineLemmas.Decisions.{one_by, session_of}
use Rattle.engine_parts.specs.DecisionLaws.{inputs_by, decision-stepped}
use Rattle.engine_parts.proofs.SessionCalls.{full, room, begin_session-many, begin_session-full, begin_session-done}
use Rattle.engine_parts.proofs.session_calls.begin_session.Goals as goal

pub returns-then-len-ge-MAX_SESSIONS-clause-answer : goal.returns-then-len-ge-MAX_SESSIONS-clause-answer
returns-then-len-ge-MAX_SESSIONS-clause-answer c =
    let count : c.len.result ≡ length c.args.engine.now.sessions = c.len.ensures.count ∙ ap (λ (l : List LiveState). length l) c.sessions.ensures in
    rw c.refused.ensures (begin_session-many c.args.engine.now c.args.local.now c.requires.shared (full (length c.args.engine.now.sessions) 64 (omega (arith, count))))

pub returns-then-is_full-clause-answer : goal.returns-then-is_full-clause-answer
returns-then-is_full-clause-answer c =
    let count : c.len.result ≡ length c.args.engine.now.sessions = c.len.ensures.count ∙ ap (λ (l : List LiveState). length l) c.sessions.ensures in
    rw c.refused-then-is_full.ensures
    (begin_session-full c.args.engine.now c.args.local.now c.requires.shared (room (length c.args.engine.now.sessions) 64 (omega (arith, count))) (sym c.is_full.ensures ∙ c.if-is_full.true))

pub returns-in-Ok-clause-answer : goal.returns-in-Ok-clause-answer
returns-in-Ok-clause-answer c =
    let count : c.len.result ≡ length c.args.engine.now.sessions = c.len.ensures.count ∙ ap (λ (l : List LiveState). length l) c.sessions.ensures in
    let label : c.session.result ≡ session_of c.args.local.now.session = ap session_of c.session.ensures in
    rw (c.begun.ensures, label)
    (begin_session-done c.args.engine.now c.args.local.now c.in-Ok.buffers c.requires.shared (room (length c.args.engine.now.sessions) 64 (omega (arith, count))) (sym c.is_full.ensures ∙ c.if-is_full.false))

pub returns-in-Ok-clause-decided : goal.returns-in-Ok-clause-decided
returns-in-Ok-clause-decided c =
    let count : c.len.result ≡ length c.args.engine.now.sessions = c.len.ensures.count ∙ ap (λ (l : List LiveState). length l) c.sessions.ensures in
    let label : c.session.result ≡ session_of c.args.local.now.session = ap session_of c.session.ensures in
    rw (c.begun.ensures, label)
    (decision-stepped c.args.engine.now c.args.local.now call.BeginSession (one_by c.args.local.now.session entry.Enter) (Some c.in-Ok.buffers) false
    (begin_session-done c.args.engine.now c.args.local.now c.in-Ok.buffers c.requires.shared (room (length c.args.engine.now.sessions) 64 (omega (arith, count))) (sym c.is_full.ensures ∙ c.if-is_full.false))
    (λ state h step. c.steps_of_sessions_are_lawful.ensures.begin (inputs_by c.args.engine.now state c.args.local.now) step.agrees) refl)
