use Rattle.std.proofs.Common.{ap, sym, ◌∙◌}
use Rattle.std.specs.List.{flat_map}
use Rattle.column_set.specs.Rows.{is_row, value_bytes, values_in_order}
use Rattle.column_set.specs.RowReading.{row_in}
use Rattle.column_set.proofs.Spelling.{row_in_spelled, bytes_behind_count}
use Rattle.column_set.proofs.row_ref.RowRef.values.Goals as goal

pub returns-clause-found : goal.returns-clause-found
returns-clause-found c = sym (ap is_row c.self.view_is) ∙ (row_in_spelled c.self.inside.bytes.now c.self.invariant).formed

pub returns-clause-spelled : goal.returns-clause-spelled
returns-clause-spelled c =
    bytes_behind_count c.self.inside.bytes.now (row_in c.self.inside.bytes.now) (row_in_spelled c.self.inside.bytes.now c.self.invariant)
    ∙ ap (λ row. flat_map value_bytes (values_in_order row)) c.self.view_is
