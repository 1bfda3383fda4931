use Rattle.std.proofs.Common.{◌≡◌, false, None, refl, ap, ◌∙◌, arith}
use Rattle.std.specs.Prelude.{not}
use Rattle.index_derive.specs.declared.log.EntryKind.TheVariants as entry
use Rattle.session_local.specs.declared.request.Request.TheVariants as call
use Rattle.version_cleanup.specs.LiveSessions.{levels_in}
use Rattle.laws_engine.proofs.EngineLemmas.Decisions.{one_by, session_of}
use Rattle.engine_parts.specs.DecisionLaws.{inputs_by, decision-stepped}
use Rattle.engine_parts.proofs.SessionCalls.{no_levels, some_levels, above_one, at_most_one, commit_transaction-outside, commit_transaction-outer, commit_transaction-inner}
use Rattle.engine_parts.proofs.session_calls.commit_transaction.Goals as goal

pub returns-then-levels-eq0-clause-answer : goal.returns-then-levels-eq0-clause-answer
returns-then-levels-eq0-clause-answer c =
    let side = c.args.local.now in
    let levels : c.levels-levels.result ≡ levels_in side.session c.args.engine.now.sessions = c.levels-levels.ensures.levels ∙ ap (λ s. levels_in s c.args.engine.now.sessions) c.session-session.ensures in
    rw c.refused.ensures (commit_transaction-outside c.args.engine.now side c.args.lazy c.requires.shared (no_levels (levels_in side.session c.args.engine.now.sessions) (omega (arith, levels))))

pub returns-then-levels-gt1-clause-answer : goal.returns-then-levels-gt1-clause-answer
returns-then-levels-gt1-clause-answer c =
    let side = c.args.local.now in
    let levels : c.levels-levels.result ≡ levels_in side.session c.args.engine.now.sessions = c.levels-levels.ensures.levels ∙ ap (λ s. levels_in s c.args.engine.now.sessions) c.session-session.ensures in
    let label : c.session-session.result ≡ session_of side.session = ap session_of c.session-session.ensures in
    rw (c.done.ensures, c.one.ensures, label)
    (commit_transaction-inner c.args.engine.now side c.args.lazy c.requires.shared (some_levels (levels_in side.session c.args.engine.now.sessions) (λ z. omega (arith, levels, z))) (above_one (levels_in side.session c.args.engine.now.sessions) (omega (arith, levels))))

pub returns-then-levels-gt1-clause-decided : goal.returns-then-levels-gt1-clause-decided
returns-then-levels-gt1-clause-decided c =
    let side = c.args.local.now in
    let levels : c.levels-levels.result ≡ levels_in side.session c.args.engine.now.sessions = c.levels-levels.ensures.levels ∙ ap (λ s. levels_in s c.args.engine.now.sessions) c.session-session.ensures in
    let label : c.session-session.result ≡ session_of side.session = ap session_of c.session-session.ensures in
    rw (c.done.ensures, c.one.ensures, label)
    (decision-stepped c.args.engine.now side (call.CommitTransaction c.args.lazy) (one_by side.session entry.Release) None false
    (commit_transaction-inner c.args.engine.now side c.args.lazy c.requires.shared (some_levels (levels_in side.session c.args.engine.now.sessions) (λ z. omega (arith, levels, z))) (above_one (levels_in side.session c.args.engine.now.sessions) (omega (arith, levels))))
    (λ state h step. c.the_step_of_a_commit_is_lawful.ensures h.base h.dropped h.kept (inputs_by c.args.engine.now state side) c.args.lazy h.reached step.agrees) refl)

pub returns-else-levels-gt1-clause-answer : goal.returns-else-levels-gt1-clause-answer
returns-else-levels-gt1-clause-answer c =
    let side = c.args.local.now in
    let levels : c.levels-levels.result ≡ levels_in side.session c.args.engine.now.sessions = c.levels-levels.ensures.levels ∙ ap (λ s. levels_in s c.args.engine.now.sessions) c.session-session.ensures in
    let label : c.session-session.result ≡ session_of side.session = ap session_of c.session-session.ensures in
    rw (c.done-else-levels-gt1.ensures, c.one-else-levels-gt1.ensures, label)
    (commit_transaction-outer c.args.engine.now side c.args.lazy c.requires.shared (some_levels (levels_in side.session c.args.engine.now.sessions) (λ z. omega (arith, levels, z))) (at_most_one (levels_in side.session c.args.engine.now.sessions) (omega (arith, levels))))

pub returns-else-levels-gt1-clause-decided : goal.returns-else-levels-gt1-clause-decided
returns-else-levels-gt1-clause-decided c =
    let side = c.args.local.now in
    let levels : c.levels-levels.result ≡ levels_in side.session c.args.engine.now.sessions = c.levels-levels.ensures.levels ∙ ap (λ s. levels_in s c.args.engine.now.sessions) c.session-session.ensures in
    let label : c.session-session.result ≡ session_of side.session = ap session_of c.session-session.ensures in
    rw (c.done-else-levels-gt1.ensures, c.one-else-levels-gt1.ensures, label)
    (decision-stepped c.args.engine.now side (call.CommitTransaction c.args.lazy) (one_by side.session entry.Commit) None (not c.args.lazy)
    (commit_transaction-outer c.args.engine.now side c.args.lazy c.requires.shared (some_levels (levels_in side.session c.args.engine.now.sessions) (λ z. omega (arith, levels, z))) (at_most_one (levels_in side.session c.args.engine.now.sessions) (omega (arith, levels))))
    (λ state h step. c.the_step_of_a_commit_is_lawful.ensures h.base h.dropped h.kept (inputs_by c.args.engine.now state side) c.args.lazy h.reached step.agrees) refl)
