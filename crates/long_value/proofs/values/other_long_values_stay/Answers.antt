use Rattle.std.proofs.Common.{◌∙◌}
use Rattle.long_value.proofs.values.other_long_values_stay.Goals as goal

pub returns : goal.returns
returns c old new before after store values e has apart =
    let t = c.other_tree_stays.ensures old new before after store.tree e has.tree apart in
    (record { tree = t.0; whole = has.whole; nodes = t.1 ∙ has.nodes }, t.2, t.3)
