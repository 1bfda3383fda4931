use Rattle.std.proofs.Common.{sym}
use Rattle.table_trees.specs.StoredTables.{table_long_values}
use Rattle.table_trees.proofs.ReadWhole.{count_seen}
use Rattle.table_trees.proofs.kept_rows.shown.ShownRowValues.count.Goals as goal

pub returns : goal.returns
returns c = count_seen (table_long_values c.self.inside.trees.now.tables c.self.inside.table.0) c.self.inside.row c.args.self.now c.args.column.0 c.count.result (sym c.self.view_is) c.count.ensures
