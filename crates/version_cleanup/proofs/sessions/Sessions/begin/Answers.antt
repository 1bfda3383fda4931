-- The session at its place is changed, and the others are not of its label.
use Rattle.std.proofs.Common.{refl, sym, ◌∙◌}
use Rattle.version_cleanup.specs.LiveSessions.{LiveState, began}
use Rattle.version_cleanup.proofs.Places.{live-set, set-is, set-none}
use Rattle.version_cleanup.proofs.sessions.Sessions.begin.Goals as goal

pub invariant_of-self : goal.invariant_of-self
invariant_of-self c =
    live-set c.args.session.0 c.in-Some.place (began c.args.number) c.self.inside.lives.items c.args.self.now c.index_mut.result.now c.begin.new.self (λ (s : LiveState). refl)
    (record { shown = c.self.view_is; live = c.self.invariant; at_place = sym c.place_of.ensures ∙ c.in-Some.is; is = c.index_mut.ensures.value }) c.begin.ensures

pub returns-in-Some : goal.returns-in-Some
returns-in-Some c =
    set-is c.args.session.0 c.in-Some.place (began c.args.number) c.self.inside.lives.items c.args.self.now c.index_mut.result.now c.begin.new.self
    (record { shown = c.self.view_is; live = c.self.invariant; at_place = sym c.place_of.ensures ∙ c.in-Some.is; is = c.index_mut.ensures.value }) c.begin.ensures

pub returns-in_default : goal.returns-in_default
returns-in_default c = set-none c.args.session.0 (began c.args.number) c.args.self.now (sym c.place_of.ensures ∙ c.in_default.is)
