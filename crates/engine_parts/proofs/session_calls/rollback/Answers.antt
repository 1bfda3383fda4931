use Rattle.std.proofs.Common.{◌≡◌, true, false, None, refl, sym, ap, subst, ◌∙◌}
use Rattle.std.specs.Prelude.{◌==◌}
use Rattle.index_derive.specs.declared.log.EntryKind.TheVariants as entry
use Rattle.session_local.specs.declared.request.Request.TheVariants as call
use Rattle.version_cleanup.specs.LiveSessions.{levels_in}
use Rattle.engine_parts.specs.Deciding.{Decides, IsDecision}
use Rattle.laws_engine.proofs.EngineLemmas.Decisions.{one_by, session_of}
use Rattle.engine_parts.specs.DecisionLaws.{inputs_by, decision-stepped}
use Rattle.engine_parts.proofs.SessionCalls.{rollback-outside, rollback-done}
use Rattle.engine_parts.proofs.session_calls.rollback.Goals as goal

pub returns-then-is_outside-clause-answer : goal.returns-then-is_outside-clause-answer
returns-then-is_outside-clause-answer c =
    let side = c.args.local.now in
    let outside : (levels_in side.session c.args.engine.now.sessions == 0) ≡ true = sym (c.is_outside.ensures ∙ ap (λ s. levels_in s c.args.engine.now.sessions == 0) c.session-session.ensures) ∙ c.if-is_outside.true in
    rw c.refused.ensures (rollback-outside c.args.engine.now side c.args.all c.requires.shared outside)

pub returns-then-all-clause-answer : goal.returns-then-all-clause-answer
returns-then-all-clause-answer c =
    let side = c.args.local.now in
    let label : c.session-session.result ≡ session_of side.session = ap session_of c.session-session.ensures in
    let outside : (levels_in side.session c.args.engine.now.sessions == 0) ≡ false = sym (c.is_outside.ensures ∙ ap (λ s. levels_in s c.args.engine.now.sessions == 0) c.session-session.ensures) ∙ c.if-is_outside.false in
    subst (λ all. Decides c.args.engine.now side (call.Rollback all) side c.done.result) (sym c.if-all.true)
    (rw (c.done.ensures, c.one.ensures, label) (rollback-done c.args.engine.now side true c.requires.shared outside))

pub returns-then-all-clause-decided : goal.returns-then-all-clause-decided
returns-then-all-clause-decided c =
    let side = c.args.local.now in
    let label : c.session-session.result ≡ session_of side.session = ap session_of c.session-session.ensures in
    let outside : (levels_in side.session c.args.engine.now.sessions == 0) ≡ false = sym (c.is_outside.ensures ∙ ap (λ s. levels_in s c.args.engine.now.sessions == 0) c.session-session.ensures) ∙ c.if-is_outside.false in
    subst (λ all. IsDecision c.args.engine.now side (call.Rollback all) side c.done.result) (sym c.if-all.true)
    (rw (c.done.ensures, c.one.ensures, label)
    (decision-stepped c.args.engine.now side (call.Rollback true) (one_by side.session entry.UndoAll) None false (rollback-done c.args.engine.now side true c.requires.shared outside)
    (λ state h step. c.steps_of_transactions_are_lawful.ensures.rollback (inputs_by c.args.engine.now state side) true step.agrees) refl))

pub returns-else-all-clause-answer : goal.returns-else-all-clause-answer
returns-else-all-clause-answer c =
    let side = c.args.local.now in
    let label : c.session-session.result ≡ session_of side.session = ap session_of c.session-session.ensures in
    let outside : (levels_in side.session c.args.engine.now.sessions == 0) ≡ false = sym (c.is_outside.ensures ∙ ap (λ s. levels_in s c.args.engine.now.sessions == 0) c.session-session.ensures) ∙ c.if-is_outside.false in
    subst (λ all. Decides c.args.engine.now side (call.Rollback all) side c.done-else-all.result) (sym c.if-all.false)
    (rw (c.done-else-all.ensures, c.one-else-all.ensures, label) (rollback-done c.args.engine.now side false c.requires.shared outside))

pub returns-else-all-clause-decided : goal.returns-else-all-clause-decided
returns-else-all-clause-decided c =
    let side = c.args.local.now in
    let label : c.session-session.result ≡ session_of side.session = ap session_of c.session-session.ensures in
    let outside : (levels_in side.session c.args.engine.now.sessions == 0) ≡ false = sym (c.is_outside.ensures ∙ ap (λ s. levels_in s c.args.engine.now.sessions == 0) c.session-session.ensures) ∙ c.if-is_outside.false in
    subst (λ all. IsDecision c.args.engine.now side (call.Rollback all) side c.done-else-all.result) (sym c.if-all.false)
    (rw (c.done-else-all.ensures, c.one-else-all.ensures, label)
    (decision-stepped c.args.engine.now side (call.Rollback false) (one_by side.session entry.Undo) None false (rollback-done c.args.engine.now side false c.requires.shared outside)
    (λ state h step. c.steps_of_transactions_are_lawful.ensures.rollback (inputs_by c.args.engine.now state side) false step.agrees) refl))
