use Rattle.std.proofs.Common.{◌≡◌, map, ap, ◌∙◌, arith, rules}
use Rattle.std.specs.Vec.{with_items}
use Rattle.std.proofs.lemmas.List.{with_items_is}
use Rattle.session_local.specs.Local.{unprepared}
use Rattle.session_local.proofs.Distinct.{labels-unprepared}
use Rattle.session_local.proofs.begun.Begun.drop_prepared.Goals as goal

pub invariant_of-self : goal.invariant_of-self
invariant_of-self c =
    let items : (with_items c.self.inside.cursors c.drop_each.new.cursors).items ≡ map unprepared c.self.inside.cursors.items =
    with_items_is c.self.inside.cursors c.drop_each.new.cursors (omega (arith, c.drop_each.auto.cursors, c.deref_mut.ensures.len))
    ∙ c.drop_each.ensures
    ∙ ap (λ cs. map unprepared cs) c.deref_mut.ensures.value in
    record {
      distinct = rw (items, labels-unprepared c.self.inside.cursors.items) c.self.invariant.distinct;
      few = search rules;
      room = search rules;
    }
