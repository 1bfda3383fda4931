use Rattle.std.proofs.Common.{not, ◌==◌, length, sym, ◌∙◌, ap, arith, rules}
use Rattle.session_local.specs.Local.{OpenCursor}
use Rattle.session_local.specs.SessionSide.{HeldState}
use Rattle.session_local.proofs.Distinct.{are_distinct-filter, within_position, remove-position, none-position}
use Rattle.session_local.proofs.begun.Begun.remove.Goals as goal

pub take_out-requires : goal.take_out-requires
take_out-requires c =
    let same = ap (λ (h : HeldState). h.cursors) c.self.view_is in
    let told = within_position (λ (o : OpenCursor). o.label == c.args.label.0) c.args.self.now.cursors c.in-Some.at (sym c.position.ensures ∙ c.in-Some.is) in
    omega (arith, ap length same, told.1)

pub invariant_of-self : goal.invariant_of-self
invariant_of-self c =
    let same = ap (λ (h : HeldState). h.cursors) c.self.view_is in
    let distinct = c.self.invariant.distinct in
    let place = rw (← same) at (sym c.position.ensures ∙ c.in-Some.is) in
    let kept = remove-position c.args.label.0 c.self.inside.cursors.items c.in-Some.at distinct place in
    record {
      distinct = rw (c.take_out.ensures.items, kept) (are_distinct-filter (λ (o : OpenCursor). not (o.label == c.args.label.0)) c.self.inside.cursors.items distinct);
      few = search rules;
      room = search rules;
    }

pub returns-in-Some-clause-cursors : goal.returns-in-Some-clause-cursors
returns-in-Some-clause-cursors c =
    let same = ap (λ (h : HeldState). h.cursors) c.self.view_is in
    let place = rw (← same) at (sym c.position.ensures ∙ c.in-Some.is) in
    rw (← same) (c.take_out.ensures.items ∙ remove-position c.args.label.0 c.self.inside.cursors.items c.in-Some.at c.self.invariant.distinct place)

pub returns-in_default-clause-cursors : goal.returns-in_default-clause-cursors
returns-in_default-clause-cursors c = sym (none-position c.args.label.0 c.args.self.now.cursors (sym c.position.ensures ∙ c.in_default.is))
