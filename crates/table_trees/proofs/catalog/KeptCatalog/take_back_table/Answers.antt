-- The tree does it; a catalog with a new table has a tree.
use Rattle.index_derive.specs.declared.schema_calls.SchemaStep.TheVariants as step
use Rattle.table_trees.proofs.Catalogs.{new_table_has_tree, step_in_tree, tree_follows}
use Rattle.table_trees.proofs.catalog.KeptCatalog.take_back_table.Goals as goal

pub take_back_table-requires : goal.take_back_table-requires
take_back_table-requires c = let r = c.requires in (r.0, r.1, r.2, step_in_tree c.args.space.now c.args.self.now.tree c.in-Some.tree r.0 r.1 (step.CreateTable c.args.table r.2) c.in-Some.is r.3, r.4)

pub returns-in-Some : goal.returns-in-Some
returns-in-Some c = λ roots catalog name holds same. tree_follows c.tree_pages_are_own.ensures c.args.space.now c.args.self.now.tree c.in-Some.tree c.take_back_table.new.space c.take_back_table.new.self roots catalog c.in-Some.is holds.tree (c.take_back_table.ensures roots catalog name (step_in_tree c.args.space.now c.args.self.now.tree c.in-Some.tree roots catalog (step.CreateTable c.args.table name) c.in-Some.is holds) same)

pub returns-in-None : goal.returns-in-None
returns-in-None c = let r = c.requires in new_table_has_tree c.args.space.now c.args.self.now.tree r.0 r.1 c.args.table r.2 c.in-None.is r.3
