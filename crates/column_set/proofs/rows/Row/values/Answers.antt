use Rattle.std.proofs.Common.{sym, ap, ◌∙◌}
use Rattle.column_set.specs.Rows.{is_well_formed, values_in_order}
use Rattle.column_set.proofs.Grouping.{values_in_order-grouped, is_well_formed-grouped}
use Rattle.column_set.proofs.rows.Row.values.Goals as goal

pub returns-clause-values : goal.returns-clause-values
returns-clause-values c = c.as_slice.ensures ∙ sym (values_in_order-grouped c.self.inside.values) ∙ ap values_in_order c.self.view_is

pub returns-clause-well_formed : goal.returns-clause-well_formed
returns-clause-well_formed c = sym (ap is_well_formed c.self.view_is) ∙ is_well_formed-grouped c.self.inside.values c.self.invariant
