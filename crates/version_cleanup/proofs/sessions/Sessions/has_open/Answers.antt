-- The tables are those of the session at its place.
use Rattle.std.proofs.Common.{sym, ap, ◌∙◌}
use Rattle.version_cleanup.specs.LiveSessions.{has_table}
use Rattle.version_cleanup.proofs.Places.{find-none, open-here}
use Rattle.version_cleanup.proofs.sessions.Sessions.has_open.Goals as goal

pub returns-in-Some : goal.returns-in-Some
returns-in-Some c =
    c.has_open.ensures ∙ open-here c.args.session.0 c.args.table.0 c.in-Some.place c.self.inside.lives.items c.args.self.now c.index.result.now
    (record { shown = c.self.view_is; live = c.self.invariant; at_place = sym c.place_of.ensures ∙ c.in-Some.is; is = c.index.ensures })

pub returns-in-None : goal.returns-in-None
returns-in-None c = sym (ap (has_table c.args.table.0) (find-none c.args.session.0 c.args.self.now (sym c.place_of.ensures ∙ c.in-None.is)))
