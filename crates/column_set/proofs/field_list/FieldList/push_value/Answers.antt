use Rattle.std.proofs.Common.{ap, sym, ◌∙◌, is_ok, if◌then◌else◌, List, ℕ, [], ◌∷◌, ◌++◌}
use Rattle.column_set.specs.RecordValues.{with_values}
use Rattle.column_set.proofs.Edits.{values_in_gap}
use Rattle.column_set.proofs.field_list.FieldList.push_value.Goals as goal

-- a column without a value has only the new one
pub returns-in-Err : goal.returns-in-Err
returns-in-Err c = c.insert.ensures ∙ ap (λ (values : List (List ℕ)). if is_ok c.insert.result then with_values c.args.self.now c.args.column.0 (values ++ c.args.value ∷ []) else c.args.self.now) (sym (values_in_gap _ _ _ c.in-Err.ensures.absent))
