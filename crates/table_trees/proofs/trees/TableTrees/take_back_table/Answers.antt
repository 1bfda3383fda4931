-- The catalog has the nodes before again, and all tables stay.
use Rattle.std.proofs.Common.{map, ap}
use Rattle.index_derive.specs.declared.schema_calls.SchemaStep.TheVariants as step
use Rattle.table_trees.specs.StoredTrees.{StoredCatalog, roots_by_number}
use Rattle.table_trees.specs.TableParts.{tree_roots}
use Rattle.table_trees.proofs.KeptSteps.{shows_after, stands_beside, step_shown, tables_beside}
use Rattle.table_trees.proofs.StoreChanges.{catalog_same}
use Rattle.table_trees.proofs.trees.TableTrees.take_back_table.Goals as goal

pub take_back_table-requires : goal.take_back_table-requires
take_back_table-requires c = let r = c.requires in ((roots_by_number (map tree_roots c.self.inside.tables.items)), r.0, r.1, (step_shown c.self.inside.space c.self.inside.catalog c.self.inside.tables.items c.args.self.now r.0 (step.CreateTable c.args.table r.1) c.self.invariant c.self.view_is r.2), r.3)

pub invariant_of-self : goal.invariant_of-self
invariant_of-self c = (stands_beside (record { tables = c.tables_stay.ensures.tables; catalog = c.tables_stay.ensures.catalog }) c.self.invariant (c.take_back_table.ensures (roots_by_number (map tree_roots c.self.inside.tables.items)) c.requires.0 c.requires.1 (step_shown c.self.inside.space c.self.inside.catalog c.self.inside.tables.items c.args.self.now c.requires.0 (step.CreateTable c.args.table c.requires.1) c.self.invariant c.self.view_is c.requires.2) c.requires.3).becomes).are

pub returns-clause-shown : goal.returns-clause-shown
returns-clause-shown c = λ catalog name shows same. shows_after c.self.inside.tables.items (c.take_back_table.ensures (roots_by_number (map tree_roots c.self.inside.tables.items)) catalog name (step_shown c.self.inside.space c.self.inside.catalog c.self.inside.tables.items c.args.self.now catalog (step.CreateTable c.args.table name) c.self.invariant c.self.view_is shows) same)

pub returns-clause-tables : goal.returns-clause-tables
returns-clause-tables c = tables_beside c.self.inside.catalog (stands_beside (record { tables = c.tables_stay.ensures.tables; catalog = c.tables_stay.ensures.catalog }) c.self.invariant (c.take_back_table.ensures (roots_by_number (map tree_roots c.self.inside.tables.items)) c.requires.0 c.requires.1 (step_shown c.self.inside.space c.self.inside.catalog c.self.inside.tables.items c.args.self.now c.requires.0 (step.CreateTable c.args.table c.requires.1) c.self.invariant c.self.view_is c.requires.2) c.requires.3).becomes) c.self.view_is

pub returns-clause-roots : goal.returns-clause-roots
returns-clause-roots c = ap (λ (s : StoredCatalog). s.roots) (catalog_same c.self.view_is)
