use Rattle.std.proofs.Common.{[], List, ℕ, Some, refl, subst}
use Rattle.column_set.specs.RowReading.{row_in}
use Rattle.column_set.specs.Rows.{values_in_order}
use Rattle.long_rows.specs.ReferenceCounts.{with_all_released}
use Rattle.long_rows.specs.RowReferences.{identifiers}
use Rattle.column_set.specs.OtherValues.{StandIn}
use Rattle.table_trees.specs.StoredTables.{table_long_values}
use Rattle.table_trees.specs.ValuesChanged.{HasLongValues}
use Rattle.table_trees.proofs.GivingUp.{none_kept}
use Rattle.table_trees.proofs.WholeRow.{row_stands}
use Rattle.table_trees.proofs.kept_rows.rows.release_row.Goals as goal

nothing : StandIn [] []
nothing = record { fit = tt; spelled = refl }

pub release_values-requires-clause-there : goal.release_values-requires-clause-there
release_values-requires-clause-there c = (values_in_order (row_in c.args.row.now), row_stands c.rows_are_read_back.ensures c.args.row.now c.requires.row, c.requires.there)

pub release_values-requires-clause-kept : goal.release_values-requires-clause-kept
release_values-requires-clause-kept c = ([], nothing)

pub returns-clause-tables : goal.returns-clause-tables
returns-clause-tables c =
    let xs = values_in_order (row_in c.args.row.now) in
    subst (λ (ids : List (List ℕ)). HasLongValues c.args.table.0 (with_all_released ids (table_long_values c.args.trees.now.tables c.args.table.0)) c.args.trees.now.tables c.release_values.new.trees.tables) (none_kept (identifiers (Some (row_in c.args.row.now))))
    (c.release_values.ensures.tables xs [] (row_stands c.rows_are_read_back.ensures c.args.row.now c.requires.row) nothing)
