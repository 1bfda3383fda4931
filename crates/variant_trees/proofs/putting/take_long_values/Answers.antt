use Rattle.std.proofs.Common.{sym, ◌∙◌}
use Rattle.column_set.specs.RowReading.{row_in}
use Rattle.column_set.specs.Rows.{values_in_order}
use Rattle.long_rows.specs.KeptRows.{given_values}
use Rattle.variant_trees.proofs.NothingTaken.{nothing_given, takes_nothing}
use Rattle.variant_trees.proofs.putting.take_long_values.Goals as goal

pub returns-then-is_here-clause-ok : goal.returns-then-is_here-clause-ok
returns-then-is_here-clause-ok c =
    takes_nothing c.args.table.0 c.args.trees.now.tables (given_values (row_in c.args.row.now) c.args.values.now)
    (nothing_given c.args.values.now (values_in_order (row_in c.args.row.now)) (sym c.requires.here ∙ c.if-is_here.true) c.requires.form)
