use Rattle.std.proofs.Common.{◌≡◌, true, false, None, refl, sym, ap, ◌∙◌, arith}
use Rattle.std.specs.Prelude.{◌==◌}
use Rattle.index_derive.specs.declared.log.EntryKind.TheVariants as entry
use Rattle.session_local.specs.declared.request.Request.TheVariants as call
use Rattle.version_cleanup.specs.LiveSessions.{levels_in}
use Rattle.laws_engine.proofs.EngineLemmas.Decisions.{one_by, session_of}
use Rattle.engine_parts.specs.DecisionLaws.{inputs_by, decision-stepped}
use Rattle.engine_parts.proofs.SessionCalls.{full, room, begin_transaction-deep, begin_transaction-full, begin_transaction-done}
use Rattle.engine_parts.proofs.session_calls.begin_transaction.Goals as goal

pub returns-then-levels-ge-MAX_LEVELS-clause-answer : goal.returns-then-levels-ge-MAX_LEVELS-clause-answer
returns-then-levels-ge-MAX_LEVELS-clause-answer c =
    let side = c.args.local.now in
    let levels : c.levels.result ≡ levels_in side.session c.args.engine.now.sessions = c.levels.ensures.levels ∙ ap (λ s. levels_in s c.args.engine.now.sessions) c.session-session.ensures in
    rw c.refused.ensures (begin_transaction-deep c.args.engine.now side c.requires.shared (full (levels_in side.session c.args.engine.now.sessions) 7 (omega (arith, levels))))

pub returns-then-is_full-clause-answer : goal.returns-then-is_full-clause-answer
returns-then-is_full-clause-answer c =
    let side = c.args.local.now in
    let levels : c.levels.result ≡ levels_in side.session c.args.engine.now.sessions = c.levels.ensures.levels ∙ ap (λ s. levels_in s c.args.engine.now.sessions) c.session-session.ensures in
    rw c.refused-then-is_full.ensures
    (begin_transaction-full c.args.engine.now side c.requires.shared (room (levels_in side.session c.args.engine.now.sessions) 7 (omega (arith, levels))) (sym c.is_full.ensures ∙ c.if-is_full.true))

pub returns-then-is_outside-clause-answer : goal.returns-then-is_outside-clause-answer
returns-then-is_outside-clause-answer c =
    let side = c.args.local.now in
    let levels : c.levels.result ≡ levels_in side.session c.args.engine.now.sessions = c.levels.ensures.levels ∙ ap (λ s. levels_in s c.args.engine.now.sessions) c.session-session.ensures in
    let label : c.session-session.result ≡ session_of side.session = ap session_of c.session-session.ensures in
    let outside : (levels_in side.session c.args.engine.now.sessions == 0) ≡ true = sym (c.is_outside.ensures ∙ ap (λ s. levels_in s c.args.engine.now.sessions == 0) c.session-session.ensures) ∙ c.if-is_outside.true in
    rw (c.done.ensures, c.one.ensures, label)
    (begin_transaction-done c.args.engine.now side true c.requires.shared (room (levels_in side.session c.args.engine.now.sessions) 7 (omega (arith, levels))) (sym c.is_full.ensures ∙ c.if-is_full.false) outside)

pub returns-then-is_outside-clause-decided : goal.returns-then-is_outside-clause-decided
returns-then-is_outside-clause-decided c =
    let side = c.args.local.now in
    let levels : c.levels.result ≡ levels_in side.session c.args.engine.now.sessions = c.levels.ensures.levels ∙ ap (λ s. levels_in s c.args.engine.now.sessions) c.session-session.ensures in
    let label : c.session-session.result ≡ session_of side.session = ap session_of c.session-session.ensures in
    let outside : (levels_in side.session c.args.engine.now.sessions == 0) ≡ true = sym (c.is_outside.ensures ∙ ap (λ s. levels_in s c.args.engine.now.sessions == 0) c.session-session.ensures) ∙ c.if-is_outside.true in
    rw (c.done.ensures, c.one.ensures, label)
    (decision-stepped c.args.engine.now side call.BeginTransaction (one_by side.session entry.Begin) None false
    (begin_transaction-done c.args.engine.now side true c.requires.shared (room (levels_in side.session c.args.engine.now.sessions) 7 (omega (arith, levels))) (sym c.is_full.ensures ∙ c.if-is_full.false) outside)
    (λ state h step. c.steps_of_transactions_are_lawful.ensures.begin (inputs_by c.args.engine.now state side) step.agrees) refl)

pub returns-else-is_outside-clause-answer : goal.returns-else-is_outside-clause-answer
returns-else-is_outside-clause-answer c =
    let side = c.args.local.now in
    let levels : c.levels.result ≡ levels_in side.session c.args.engine.now.sessions = c.levels.ensures.levels ∙ ap (λ s. levels_in s c.args.engine.now.sessions) c.session-session.ensures in
    let label : c.session-session.result ≡ session_of side.session = ap session_of c.session-session.ensures in
    let outside : (levels_in side.session c.args.engine.now.sessions == 0) ≡ false = sym (c.is_outside.ensures ∙ ap (λ s. levels_in s c.args.engine.now.sessions == 0) c.session-session.ensures) ∙ c.if-is_outside.false in
    rw (c.done-else-is_outside.ensures, c.one-else-is_outside.ensures, label)
    (begin_transaction-done c.args.engine.now side false c.requires.shared (room (levels_in side.session c.args.engine.now.sessions) 7 (omega (arith, levels))) (sym c.is_full.ensures ∙ c.if-is_full.false) outside)

pub returns-else-is_outside-clause-decided : goal.returns-else-is_outside-clause-decided
returns-else-is_outside-clause-decided c =
    let side = c.args.local.now in
    let levels : c.levels.result ≡ levels_in side.session c.args.engine.now.sessions = c.levels.ensures.levels ∙ ap (λ s. levels_in s c.args.engine.now.sessions) c.session-session.ensures in
    let label : c.session-session.result ≡ session_of side.session = ap session_of c.session-session.ensures in
    let outside : (levels_in side.session c.args.engine.now.sessions == 0) ≡ false = sym (c.is_outside.ensures ∙ ap (λ s. levels_in s c.args.engine.now.sessions == 0) c.session-session.ensures) ∙ c.if-is_outside.false in
    rw (c.done-else-is_outside.ensures, c.one-else-is_outside.ensures, label)
    (decision-stepped c.args.engine.now side call.BeginTransaction (one_by side.session entry.Save) None false
    (begin_transaction-done c.args.engine.now side false c.requires.shared (room (levels_in side.session c.args.engine.now.sessions) 7 (omega (arith, levels))) (sym c.is_full.ensures ∙ c.if-is_full.false) outside)
    (λ state h step. c.steps_of_transactions_are_lawful.ensures.begin (inputs_by c.args.engine.now state side) step.agrees) refl)
