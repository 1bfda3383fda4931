-- The session at its place is changed, and the others are not of its label.
use Rattle.std.proofs.Common.{sym, ◌∙◌}
use Rattle.version_cleanup.proofs.Places.{level_less, level_less-label, level-is, level-none, live-set}
use Rattle.version_cleanup.proofs.sessions.Sessions.end_level.Goals as goal

pub invariant_of-self : goal.invariant_of-self
invariant_of-self c =
    live-set c.args.session.0 c.in-Some.place level_less c.self.inside.lives.items c.args.self.now c.index_mut.result.now c.end_level.new.self level_less-label
    (record { shown = c.self.view_is; live = c.self.invariant; at_place = sym c.place_of.ensures ∙ c.in-Some.is; is = c.index_mut.ensures.value }) c.end_level.ensures

pub returns-in-Some : goal.returns-in-Some
returns-in-Some c =
    level-is c.args.session.0 c.in-Some.place c.self.inside.lives.items c.args.self.now c.index_mut.result.now c.end_level.new.self
    (record { shown = c.self.view_is; live = c.self.invariant; at_place = sym c.place_of.ensures ∙ c.in-Some.is; is = c.index_mut.ensures.value }) c.end_level.ensures

pub returns-in_default : goal.returns-in_default
returns-in_default c = level-none c.args.session.0 c.args.self.now (sym c.place_of.ensures ∙ c.in_default.is)
