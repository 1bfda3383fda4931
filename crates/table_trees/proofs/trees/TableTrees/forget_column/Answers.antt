-- The catalog loses its nodes, and all tables stay.
use Rattle.std.proofs.Common.{map, ap}
use Rattle.table_trees.specs.StoredTrees.{StoredCatalog, roots_by_number}
use Rattle.table_trees.specs.TableParts.{tree_roots}
use Rattle.table_trees.proofs.KeptSteps.{holds_shown, shows_after, stands_beside, tables_beside}
use Rattle.table_trees.proofs.StoreChanges.{catalog_same}
use Rattle.table_trees.proofs.trees.TableTrees.forget_column.Goals as goal

pub delete_column-requires : goal.delete_column-requires
delete_column-requires c = let r = c.requires in ((roots_by_number (map tree_roots c.self.inside.tables.items)), r.0, (holds_shown c.self.inside.space c.self.inside.catalog c.self.inside.tables.items c.args.self.now r.0 c.self.invariant c.self.view_is r.1), r.2)

pub invariant_of-self : goal.invariant_of-self
invariant_of-self c = (stands_beside (record { tables = c.tables_stay.ensures.tables; catalog = c.tables_stay.ensures.catalog }) c.self.invariant (c.delete_column.ensures (roots_by_number (map tree_roots c.self.inside.tables.items)) c.requires.0 (holds_shown c.self.inside.space c.self.inside.catalog c.self.inside.tables.items c.args.self.now c.requires.0 c.self.invariant c.self.view_is c.requires.1) c.requires.2).becomes).are

pub returns-clause-shown : goal.returns-clause-shown
returns-clause-shown c catalog shows has = shows_after c.self.inside.tables.items (c.delete_column.ensures (roots_by_number (map tree_roots c.self.inside.tables.items)) catalog (holds_shown c.self.inside.space c.self.inside.catalog c.self.inside.tables.items c.args.self.now catalog c.self.invariant c.self.view_is shows) has)

pub returns-clause-tables : goal.returns-clause-tables
returns-clause-tables c = tables_beside c.self.inside.catalog (stands_beside (record { tables = c.tables_stay.ensures.tables; catalog = c.tables_stay.ensures.catalog }) c.self.invariant (c.delete_column.ensures (roots_by_number (map tree_roots c.self.inside.tables.items)) c.requires.0 (holds_shown c.self.inside.space c.self.inside.catalog c.self.inside.tables.items c.args.self.now c.requires.0 c.self.invariant c.self.view_is c.requires.1) c.requires.2).becomes) c.self.view_is

pub returns-clause-roots : goal.returns-clause-roots
returns-clause-roots c = ap (λ (s : StoredCatalog). s.roots) (catalog_same c.self.view_is)
