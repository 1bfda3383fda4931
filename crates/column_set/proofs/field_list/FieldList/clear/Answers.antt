use Rattle.std.proofs.Common.{sym}
use Rattle.column_set.proofs.Edits.{no_values_in_gap}
use Rattle.column_set.proofs.field_list.FieldList.clear.Goals as goal

pub returns-in_default : goal.returns-in_default
returns-in_default c = sym (no_values_in_gap _ _ _ c.in_default.ensures.absent)
