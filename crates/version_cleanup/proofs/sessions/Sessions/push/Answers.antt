-- The new session stands behind at most 63 others.
use Rattle.std.proofs.Common.{◌≡◌, true, ap, ◌∙◌, arith}
use Rattle.std.specs.Prelude.{is_ok, nat_lt}
use Rattle.std.specs.List.{list_all}
use Rattle.version_cleanup.proofs.Places.{live-pushed}
use Rattle.version_cleanup.proofs.sessions.Sessions.push.Goals as goal

pub invariant_of-self : goal.invariant_of-self
invariant_of-self c =
    let items = c.self.inside.lives.items in
    let last : list_all (λ s. nat_lt s.label c.args.live.label) items ≡ true = ap (list_all (λ s. nat_lt s.label c.args.live.label)) c.self.view_is ∙ c.requires in
    live-pushed (is_ok c.push.result) c.args.live items c.push.new.self.items c.push.ensures.items c.self.invariant last (omega (arith, c.len.ensures, c.if-len-ge-MAX_SESSIONS.false, c.self.inside.lives.ok))
