use Rattle.std.proofs.Common.{refl}
use Rattle.image_live.proofs.RowsFound.{not_defined, not_opened, rows_found}
use Rattle.image_live.proofs.tables.ImageTables.rows_of.Goals as goal

pub returns-in_default : goal.returns-in_default
returns-in_default c = λ tables are. not_defined c.args.self.now tables c.args.table.0 c.in_default.ensures are

pub returns-in_default-trees_of : goal.returns-in_default-trees_of
returns-in_default-trees_of c = λ tables are. not_opened c.args.self.now tables c.args.table.0 c.in_default-trees_of.ensures are

pub returns : goal.returns
returns c = λ tables are. rows_found c.args.self.now tables c.args.table.0 c.in-Some.definition.now c.in-Some-trees_of.trees.now _ c.in-Some.ensures c.in-Some-trees_of.ensures refl refl refl refl are
