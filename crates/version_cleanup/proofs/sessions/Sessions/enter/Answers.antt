-- The new session stands at its place among at most 63 others.
use Rattle.std.proofs.Common.{◌≡◌, false, List, refl, ap, subst, ◌∙◌, arith}
use Rattle.std.specs.Prelude.{is_ok, if◌then◌else◌}
use Rattle.std.specs.List.{insert}
use Rattle.version_cleanup.specs.LiveSessions.{LiveState, insert_session, is_live, new_session}
use Rattle.version_cleanup.proofs.Places.{live-inserted}
use Rattle.version_cleanup.proofs.sessions.Sessions.enter.Goals as goal

pub invariant_of-self : goal.invariant_of-self
invariant_of-self c =
    let items = c.self.inside.lives.items in let new : LiveState = new_session c.args.session.0 in
    let at_place : insert items c.place_for-place.result new ≡ insert_session new items = subst (λ (l : List LiveState). insert l c.place_for-place.result new ≡ insert_session new l) c.deref.ensures.value (c.place_for-place.ensures.place new refl) in
    let none : is_live new.label items ≡ false = ap (is_live new.label) c.self.view_is ∙ c.requires in
    live-inserted (is_ok c.insert.result) c.place_for-place.result new items c.insert.new.self.items
    (subst (λ (s : LiveState). c.insert.new.self.items ≡ (if is_ok c.insert.result then insert items c.place_for-place.result s else items)) c.new-live.ensures c.insert.ensures.items)
    at_place c.self.invariant none (omega (arith, c.len.ensures, c.if-len-ge-MAX_SESSIONS.false, c.self.inside.lives.ok))
