use Rattle.std.proofs.Common.{List, ap, ◌∙◌}
use Rattle.index_derive.specs.declared.schema_calls.SchemaStep.TheVariants as step
use Rattle.jet_catalog.specs.Catalog.{CatalogState, catalog_after}
use Rattle.table_trees.specs.ShownCatalogs.{ShowsCatalog}
use Rattle.table_trees.specs.StoredTables.{table_long_values, StoredTable, has_index, table_nodes, without_index}
use Rattle.table_trees.specs.StoredTrees.{without_root_of}
use Rattle.variant_trees.proofs.KeptSteps.{index_gone, old_index, shows_after, shows_in, shows_other}
use Rattle.variant_trees.proofs.MadeIndexes.{index_deleted, index_there}
use Rattle.variant_trees.proofs.Stepping.{counts_stay}
use Rattle.variant_trees.proofs.schema.drop_index.Goals as goal

pub forget_index-requires : goal.forget_index-requires
forget_index-requires c = (c.args.catalog.now, c.requires.shown, old_index c.args.catalog.now c.args.table c.args.index c.requires.there)

pub remove_index-requires : goal.remove_index-requires
remove_index-requires c =
    ap (λ (t : List StoredTable). has_index t c.args.table.0 c.args.index.0) c.forget_index.ensures.tables ∙ index_there (table_long_values c.args.trees.now.tables) c.args.catalog.now.tables c.args.trees.now.tables c.requires.kept c.args.table.0 c.args.index.0 c.requires.there

pub returns-in-Ok-clause-ok : goal.returns-in-Ok-clause-ok
returns-in-Ok-clause-ok c =
    index_deleted (record { others = c.indexes_without_one.ensures.others; nodes = c.indexes_after_a_change.ensures.nodes; tables = c.indexes_after_a_change.ensures.others })
    c.args.made.now c.args.table c.args.index c.requires.step c.args.catalog.now c.args.trees.now.tables c.tables.ensures.numbered c.requires.there c.requires.kept
    c.make.new.self c.in-Ok.ensures.made c.remove_index.new.self.tables (c.remove_index.ensures.tables ∙ ap (without_index c.args.table.0 c.args.index.0) c.forget_index.ensures.tables)
    (λ table. ap (λ (t : List StoredTable). table_long_values t table) (c.remove_index.ensures.tables ∙ ap (without_index c.args.table.0 c.args.index.0) c.forget_index.ensures.tables) ∙ c.indexes_after_a_change.ensures.long_values c.args.trees.now.tables c.args.table.0 table _)
    (counts_stay c.args.trees.now.tables c.remove_index.new.self.tables
    (λ table. ap (λ (t : List StoredTable). table_long_values t table) (c.remove_index.ensures.tables ∙ ap (without_index c.args.table.0 c.args.index.0) c.forget_index.ensures.tables) ∙ c.indexes_after_a_change.ensures.long_values c.args.trees.now.tables c.args.table.0 table _)
    (λ table. ap (λ (t : List StoredTable). table_nodes t table) (c.remove_index.ensures.tables ∙ ap (without_index c.args.table.0 c.args.index.0) c.forget_index.ensures.tables) ∙ c.indexes_after_a_change.ensures.nodes c.args.trees.now.tables c.args.table.0 table _) c.requires.counts)

pub returns-in-Ok-clause-shown : goal.returns-in-Ok-clause-shown
returns-in-Ok-clause-shown c =
    let after : CatalogState = catalog_after c.args.catalog.now (step.DeleteIndex c.args.table c.args.index) in
    let forgotten : ShowsCatalog c.forget_index.new.self.catalog after = c.forget_index.ensures.shown c.args.catalog.now c.requires.shown (old_index c.args.catalog.now c.args.table c.args.index c.requires.there) in
    shows_after c.remove_index.new.self.catalog c.args.catalog.now c.make.new.self c.args.made.now (step.DeleteIndex c.args.table c.args.index) c.requires.step c.in-Ok.ensures.made
    (shows_in (without_root_of c.args.table.0 c.args.index.0 c.forget_index.new.self.catalog) c.remove_index.new.self.catalog after c.remove_index.ensures.catalog
    (c.other_roots_are_not_shown.ensures.index_goes c.forget_index.new.self.catalog after c.args.table.0 c.args.index.0 forgotten (index_gone c.args.catalog.now c.args.table c.args.index)))

pub returns-in-Err-clause-shown : goal.returns-in-Err-clause-shown
returns-in-Err-clause-shown c = shows_other c.args.trees.now.catalog c.args.catalog.now c.make.new.self c.in-Err.ensures.kept c.requires.shown
