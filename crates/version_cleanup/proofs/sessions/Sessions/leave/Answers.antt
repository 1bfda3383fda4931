-- The session at its place goes, and the others are not of its label.
use Rattle.std.proofs.Common.{sym, ap, subst, ◌∙◌}
use Rattle.version_cleanup.specs.LiveSessions.{left}
use Rattle.version_cleanup.specs.Shown.{AreLive}
use Rattle.version_cleanup.proofs.Places.{live-left, remove-is, remove-none}
use Rattle.version_cleanup.proofs.sessions.Sessions.leave.Goals as goal

pub invariant_of-self : goal.invariant_of-self
invariant_of-self c =
    let a = c.self.inside in
    subst AreLive (sym (c.remove.ensures.items ∙ remove-is c.args.session.0 c.in-Some.place a.lives.items c.args.self.now c.self.view_is c.self.invariant (sym c.place_of.ensures ∙ c.in-Some.is) ∙ ap (left c.args.session.0) (sym c.self.view_is)))
    (live-left c.args.session.0 a.lives.items c.self.invariant)

pub returns-in-Some : goal.returns-in-Some
returns-in-Some c =
    c.remove.ensures.items ∙ remove-is c.args.session.0 c.in-Some.place c.self.inside.lives.items c.args.self.now c.self.view_is c.self.invariant (sym c.place_of.ensures ∙ c.in-Some.is)

pub returns-in_default : goal.returns-in_default
returns-in_default c = remove-none c.args.session.0 c.args.self.now (sym c.place_of.ensures ∙ c.in_default.is)
