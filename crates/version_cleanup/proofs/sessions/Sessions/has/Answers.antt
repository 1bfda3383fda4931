-- The session stands at a place exactly where it is live.
use Rattle.std.proofs.Common.{◌≡◌, ℕ, List, Option, Some, None, sym, ap, ◌∙◌}
use Rattle.std.specs.Prelude.{is_some}
use Rattle.std.specs.List.{position}
use Rattle.version_cleanup.specs.LiveSessions.{LiveState, is_live, new_session}
use Rattle.version_cleanup.proofs.Places.{find-found, find-none, found, has_label}
use Rattle.version_cleanup.proofs.sessions.Sessions.has.Goals as goal

has-place : (label : ℕ) (sessions : List LiveState) (o : Option ℕ) → position (has_label label) sessions ≡ o → is_some o ≡ is_live label sessions
has-place label sessions None e = sym (ap (is_some {T = LiveState}) (find-none label sessions e))
has-place label sessions (Some place) e = sym (ap (is_some {T = LiveState}) (find-found label place sessions (new_session 0) (found label place sessions e)))

pub returns : goal.returns
returns c = c.is_some.ensures ∙ has-place c.args.session.0 c.args.self.now c.place_of.result (sym c.place_of.ensures)
