use Rattle.column_set.specs.RowReading.{row_in}
use Rattle.column_set.specs.Rows.{values_in_order}
use Rattle.table_trees.proofs.WholeRow.{row_stands}
use Rattle.table_trees.proofs.kept_rows.rows.release_removed.Goals as goal

pub release_values-requires-clause-there : goal.release_values-requires-clause-there
release_values-requires-clause-there c = (values_in_order (row_in c.args.row.now), row_stands c.rows_are_read_back.ensures c.args.row.now c.requires.row, c.requires.there)

pub release_values-requires-clause-kept : goal.release_values-requires-clause-kept
release_values-requires-clause-kept c = (values_in_order (row_in c.args.rewritten.now), row_stands c.rows_are_read_back.ensures c.args.rewritten.now c.requires.rewritten)

pub returns-clause-tables : goal.returns-clause-tables
returns-clause-tables c =
    c.release_values.ensures.tables (values_in_order (row_in c.args.row.now)) (values_in_order (row_in c.args.rewritten.now))
    (row_stands c.rows_are_read_back.ensures c.args.row.now c.requires.row) (row_stands c.rows_are_read_back.ensures c.args.rewritten.now c.requires.rewritten)
