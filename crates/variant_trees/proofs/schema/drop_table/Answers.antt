use Rattle.std.proofs.Common.{List, ap, subst, sym, ◌∙◌}
use Rattle.index_derive.specs.declared.schema_calls.SchemaStep.{SchemaStep}
use Rattle.index_derive.specs.declared.schema_calls.SchemaStep.TheVariants as step
use Rattle.jet_catalog.specs.Catalog.{CatalogState, catalog_after}
use Rattle.table_trees.specs.StoredTables.{table_long_values, StoredTable, has_table, without_table}
use Rattle.table_trees.specs.StoredTrees.{without_table_roots}
use Rattle.variant_trees.proofs.KeptSteps.{shows_in, shows_other}
use Rattle.variant_trees.proofs.MadeTables.{OldValues, a_tree, delete_made, gone}
use Rattle.variant_trees.proofs.schema.drop_table.Goals as goal

pub remove_table-requires : goal.remove_table-requires
remove_table-requires c = ap (λ (t : List StoredTable). has_table t c.args.table.0) c.forget_table.ensures.tables ∙ a_tree (table_long_values c.args.trees.now.tables) c.args.catalog.now.tables c.args.trees.now.tables c.requires.kept c.args.table.0 c.requires.there

pub returns-clause-made : goal.returns-clause-made
returns-clause-made c =
    delete_made (record { nodes = c.tables_without_one.ensures.nodes; indexes = c.tables_without_one.ensures.indexes })
    c.args.made.now c.args.table c.requires.step c.args.catalog.now c.args.trees.now.tables c.requires.kept c.delete_table.new.self
    (c.delete_table.ensures ∙ ap (λ (s : SchemaStep). catalog_after c.args.catalog.now s) (sym c.requires.step)) c.remove_table.new.self.tables
    (c.remove_table.ensures.tables ∙ ap (without_table c.args.table.0) c.forget_table.ensures.tables)
    (subst (λ (t : List StoredTable). OldValues c.args.table.0 c.args.trees.now.tables t) (sym (c.remove_table.ensures.tables ∙ ap (without_table c.args.table.0) c.forget_table.ensures.tables)) (record {
      own = c.tables_without_one.ensures.no_long_values c.args.trees.now.tables c.args.table.0;
      others = c.tables_without_one.ensures.long_values c.args.trees.now.tables c.args.table.0;
      own_nodes = c.tables_without_one.ensures.no_nodes c.args.trees.now.tables c.args.table.0;
      nodes = c.tables_without_one.ensures.nodes c.args.trees.now.tables c.args.table.0;
    })) c.requires.counts

pub returns-clause-shown : goal.returns-clause-shown
returns-clause-shown c =
    let after : CatalogState = catalog_after c.args.catalog.now (step.DeleteTable c.args.table) in
    shows_other c.remove_table.new.self.catalog after c.delete_table.new.self c.delete_table.ensures
    (shows_in (without_table_roots c.args.table.0 c.forget_table.new.trees.catalog) c.remove_table.new.self.catalog after c.remove_table.ensures.catalog
    (c.other_roots_are_not_shown.ensures.table_goes c.forget_table.new.trees.catalog after c.args.table.0 c.forget_table.ensures.shown (gone c.args.table.0 c.args.catalog.now.tables)))
