-- The transaction is that of the session at its place.
use Rattle.std.proofs.Common.{Option, sym, ap, ◌∙◌}
use Rattle.std.specs.Prelude.{option_and_then}
use Rattle.version_cleanup.specs.LiveSessions.{LiveState}
use Rattle.version_cleanup.proofs.Places.{find-none, transaction-here}
use Rattle.version_cleanup.proofs.sessions.Sessions.transaction.Goals as goal

pub returns-in-Some-clause-value : goal.returns-in-Some-clause-value
returns-in-Some-clause-value c =
    c.transaction.ensures.value ∙ transaction-here c.args.session.0 c.in-Some.place c.self.inside.lives.items c.args.self.now c.index.result.now
    (record { shown = c.self.view_is; live = c.self.invariant; at_place = sym c.place_of.ensures ∙ c.in-Some.is; is = c.index.ensures })

pub returns-in-None-clause-value : goal.returns-in-None-clause-value
returns-in-None-clause-value c =
    sym (ap (λ (o : Option LiveState). option_and_then (λ (s : LiveState). s.transaction) o) (find-none c.args.session.0 c.args.self.now (sym c.place_of.ensures ∙ c.in-None.is)))
