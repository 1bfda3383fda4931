use Rattle.std.proofs.Common.{ap, sym, subst, ℕ, List, ◌∙◌}
use Rattle.std.specs.Prelude.{IsTrue}
use Rattle.column_set.specs.Record.{is_record}
use Rattle.column_set.proofs.Edits.{field_at, values_in_gap, with_values-values_of}
use Rattle.column_set.proofs.field_list.FieldList.values.Goals as goal

-- the field at the column's place has the values
pub returns-in-Ok-clause-values : goal.returns-in-Ok-clause-values
returns-in-Ok-clause-values c = c.values.ensures ∙ ap (λ (field : ℕ × List (List ℕ)). field.1) (field_at _ _ c.self.view_is _ _ _ c.index.ensures c.in-Ok.ensures.found)

pub returns-in-Ok-clause-same : goal.returns-in-Ok-clause-same
returns-in-Ok-clause-same c = with_values-values_of c.args.self.now c.args.column.0 (subst (λ (l : List (ℕ × List (List ℕ))). IsTrue (is_record l)) c.self.view_is c.self.invariant.formed)

pub returns-in-Err-clause-values : goal.returns-in-Err-clause-values
returns-in-Err-clause-values c = sym (values_in_gap _ _ _ c.in-Err.ensures.absent)

pub returns-in-Err-clause-same : goal.returns-in-Err-clause-same
returns-in-Err-clause-same c = with_values-values_of c.args.self.now c.args.column.0 (subst (λ (l : List (ℕ × List (List ℕ))). IsTrue (is_record l)) c.self.view_is c.self.invariant.formed)
