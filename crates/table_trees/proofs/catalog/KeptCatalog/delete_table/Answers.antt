-- The tree does it; a catalog that has the table has a tree.
use Rattle.jet_base.specs.Ids.{table_id}
use Rattle.index_derive.specs.declared.schema_calls.SchemaStep.TheVariants as step
use Rattle.jet_catalog.specs.Catalog.{catalog_after}
use Rattle.table_trees.proofs.Catalogs.{has_tree, holds_tree, tree_follows}
use Rattle.table_trees.proofs.catalog.KeptCatalog.delete_table.Goals as goal

pub delete_table-requires : goal.delete_table-requires
delete_table-requires c = let r = c.requires in (r.0, r.1, holds_tree c.args.space.now c.args.self.now.tree c.in-Some.tree r.0 r.1 c.in-Some.is r.2, r.3)

pub returns-in-Some : goal.returns-in-Some
returns-in-Some c roots catalog holds takes = let f = c.delete_table.ensures in tree_follows c.tree_pages_are_own.ensures c.args.space.now c.args.self.now.tree c.in-Some.tree c.delete_table.new.space c.delete_table.new.self roots (catalog_after catalog (step.DeleteTable (table_id c.args.table.now.id))) c.in-Some.is holds.tree (f roots catalog (holds_tree c.args.space.now c.args.self.now.tree c.in-Some.tree roots catalog c.in-Some.is holds) takes)

pub returns-in-None : goal.returns-in-None
returns-in-None c = let r = c.requires in has_tree c.args.space.now c.args.self.now.tree r.0 r.1 c.args.table.now.id c.args.table.now c.in-None.is r.2 r.3
