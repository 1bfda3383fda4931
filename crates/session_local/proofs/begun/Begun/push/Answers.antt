use Rattle.std.proofs.Common.{ap, rules}
use Rattle.session_local.specs.SessionSide.{HeldState}
use Rattle.session_local.proofs.Distinct.{are_distinct-push}
use Rattle.session_local.proofs.begun.Begun.push.Goals as goal

pub invariant_of-self : goal.invariant_of-self
invariant_of-self c =
    let same = ap (λ (h : HeldState). h.cursors) c.self.view_is in
    record {
      distinct = rw c.in-Ok.ensures.items (are_distinct-push c.self.inside.cursors.items c.args.cursor c.self.invariant.distinct (rw same c.requires.free));
      few = search rules;
      room = search rules;
    }
