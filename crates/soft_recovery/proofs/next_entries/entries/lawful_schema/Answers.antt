use Rattle.std.proofs.Common.{List, sym, ap, ◌∙◌}
use Rattle.version_cleanup.specs.LiveSessions.{LiveState, is_live}
use Rattle.soft_recovery.proofs.Deciding.{step_dead, step_live}
use Rattle.soft_recovery.proofs.next_entries.entries.lawful_schema.Goals as goal

pub returns-then-has : goal.returns-then-has
returns-then-has c =
    step_live c.sessions_are_told.ensures.live c.args.engine.now c.args.session.0 c.args.made.now c.lawful_step.result
    (ap (λ (sessions : List LiveState). is_live c.args.session.0 sessions) (sym c.sessions.ensures) ∙ sym c.has.ensures ∙ c.if-has.true) c.lawful_step.ensures

pub returns-else-has : goal.returns-else-has
returns-else-has c =
    step_dead c.sessions_are_told.ensures.live c.args.engine.now c.args.session.0 c.args.made.now
    (ap (λ (sessions : List LiveState). is_live c.args.session.0 sessions) (sym c.sessions.ensures) ∙ sym c.has.ensures ∙ c.if-has.false)
