-- The tree does it; a catalog that has the table has a tree.
use Rattle.jet_base.specs.Ids.{table_id}
use Rattle.index_derive.specs.declared.schema_calls.SchemaStep.TheVariants as step
use Rattle.table_trees.proofs.Catalogs.{column_has_tree, step_in_tree, tree_follows}
use Rattle.table_trees.proofs.catalog.KeptCatalog.take_back_column.Goals as goal

pub take_back_column-requires : goal.take_back_column-requires
take_back_column-requires c = let r = c.requires in (r.0, r.1, step_in_tree c.args.space.now c.args.self.now.tree c.in-Some.tree r.0 r.1 (step.AddColumn (table_id c.args.table.now.id) c.args.column.now) c.in-Some.is r.2, r.3)

pub returns-in-Some : goal.returns-in-Some
returns-in-Some c = λ roots catalog holds has. tree_follows c.tree_pages_are_own.ensures c.args.space.now c.args.self.now.tree c.in-Some.tree c.take_back_column.new.space c.take_back_column.new.self roots catalog c.in-Some.is holds.tree (c.take_back_column.ensures roots catalog (step_in_tree c.args.space.now c.args.self.now.tree c.in-Some.tree roots catalog (step.AddColumn (table_id c.args.table.now.id) c.args.column.now) c.in-Some.is holds) has)

pub returns-in-None : goal.returns-in-None
returns-in-None c = let r = c.requires in column_has_tree c.args.space.now c.args.self.now.tree r.0 r.1 c.args.table.now c.args.column.now c.in-None.is r.2 r.3.there
