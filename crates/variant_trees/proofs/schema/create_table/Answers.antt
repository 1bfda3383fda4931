use Rattle.std.proofs.Common.{List, ap, ◌∙◌}
use Rattle.database_state.specs.Table.{table_with_id}
use Rattle.jet_catalog.specs.Catalog.{CatalogState}
use Rattle.table_trees.specs.StoredTables.{table_long_values, StoredTable, has_table, table_nodes, without_table}
use Rattle.table_trees.specs.StoredTrees.{with_table_roots, without_table_roots}
use Rattle.variant_trees.proofs.KeptSteps.{shows_in}
use Rattle.variant_trees.proofs.MadeTables.{create_made, given_back, new_there, no_tree, none_new}
use Rattle.variant_trees.proofs.Stepping.{counts_stay}
use Rattle.variant_trees.proofs.schema.create_table.Goals as goal

pub add_table-requires : goal.add_table-requires
add_table-requires c = (no_tree (table_long_values c.args.trees.now.tables) c.args.catalog.now.tables c.args.trees.now.tables c.requires.kept c.args.table.0 (none_new c.args.catalog.now.greatest_table c.args.catalog.now.tables c.tables.ensures.numbered c.args.table.0 c.requires.new_id))

pub keep_and_make-requires-clause-there : goal.keep_and_make-requires-clause-there
keep_and_make-requires-clause-there c = (ap (λ (t : List StoredTable). has_table t c.args.table.0) c.in-Ok.ensures.ok ∙ new_there c.args.trees.now.tables c.args.table.0)

pub keep_and_make-requires-clause-shown : goal.keep_and_make-requires-clause-shown
keep_and_make-requires-clause-shown c = (shows_in (with_table_roots c.args.table.0 c.in-Ok.ensures.rooted.0 c.in-Ok.ensures.rooted.1 c.args.trees.now.catalog) c.add_table.new.self.catalog c.args.catalog.now c.in-Ok.ensures.rooted.2 (c.other_roots_are_not_shown.ensures.table_comes c.args.trees.now.catalog c.args.catalog.now c.args.table.0 c.in-Ok.ensures.rooted.0 c.in-Ok.ensures.rooted.1 c.requires.shown (none_new c.args.catalog.now.greatest_table c.args.catalog.now.tables c.tables.ensures.numbered c.args.table.0 c.requires.new_id)))

pub remove_table-requires : goal.remove_table-requires
remove_table-requires c = ap (λ (t : List StoredTable). has_table t c.args.table.0) c.keep_and_make.ensures.tables ∙ (ap (λ (t : List StoredTable). has_table t c.args.table.0) c.in-Ok.ensures.ok ∙ new_there c.args.trees.now.tables c.args.table.0)

pub returns-in-Ok-keep_and_make-clause-ok : goal.returns-in-Ok-keep_and_make-clause-ok
returns-in-Ok-keep_and_make-clause-ok c =
    create_made (record { nodes = c.tables_beside_a_new_one.ensures.nodes; indexes = c.tables_beside_a_new_one.ensures.indexes })
    c.args.made.now c.args.table c.args.name.now c.requires.step c.args.catalog.now c.args.trees.now.tables c.requires.kept c.tables.ensures.numbered c.requires.new_id
    c.keep_and_make.new.catalog c.in-Ok-keep_and_make.ensures.made c.keep_and_make.new.trees.tables (c.keep_and_make.ensures.tables ∙ c.in-Ok.ensures.ok)
    (λ table. ap (λ (t : List StoredTable). table_long_values t table) (c.keep_and_make.ensures.tables ∙ c.in-Ok.ensures.ok) ∙ c.tables_beside_a_new_one.ensures.long_values c.args.trees.now.tables c.args.table.0 table)
    (counts_stay c.args.trees.now.tables c.keep_and_make.new.trees.tables
    (λ table. ap (λ (t : List StoredTable). table_long_values t table) (c.keep_and_make.ensures.tables ∙ c.in-Ok.ensures.ok) ∙ c.tables_beside_a_new_one.ensures.long_values c.args.trees.now.tables c.args.table.0 table)
    (λ table. ap (λ (t : List StoredTable). table_nodes t table) (c.keep_and_make.ensures.tables ∙ c.in-Ok.ensures.ok) ∙ c.tables_beside_a_new_one.ensures.nodes c.args.trees.now.tables c.args.table.0 table) c.requires.counts)

pub returns-in-Err-keep_and_make-clause-err : goal.returns-in-Err-keep_and_make-clause-err
returns-in-Err-keep_and_make-clause-err c = (
  c.in-Err-keep_and_make.ensures.err,
  c.remove_table.ensures.tables ∙ ap (λ (t : List StoredTable). without_table c.args.table.0 t) (c.keep_and_make.ensures.tables ∙ c.in-Ok.ensures.ok)
      ∙ given_back c.args.trees.now.tables c.args.table.0 (no_tree (table_long_values c.args.trees.now.tables) c.args.catalog.now.tables c.args.trees.now.tables c.requires.kept c.args.table.0 (none_new c.args.catalog.now.greatest_table c.args.catalog.now.tables c.tables.ensures.numbered c.args.table.0 c.requires.new_id)),
)

pub returns-in-Err-keep_and_make-clause-shown : goal.returns-in-Err-keep_and_make-clause-shown
returns-in-Err-keep_and_make-clause-shown c =
    shows_in (without_table_roots c.args.table.0 c.keep_and_make.new.trees.catalog) c.remove_table.new.self.catalog c.keep_and_make.new.catalog c.remove_table.ensures.catalog
    (c.other_roots_are_not_shown.ensures.table_goes c.keep_and_make.new.trees.catalog c.keep_and_make.new.catalog c.args.table.0 c.keep_and_make.ensures.shown
    (ap (λ (k : CatalogState). table_with_id k.tables c.args.table.0) c.in-Err-keep_and_make.ensures.err ∙ (none_new c.args.catalog.now.greatest_table c.args.catalog.now.tables c.tables.ensures.numbered c.args.table.0 c.requires.new_id)))

pub returns-in-Err-clause-shown : goal.returns-in-Err-clause-shown
returns-in-Err-clause-shown c = shows_in c.args.trees.now.catalog c.add_table.new.self.catalog c.args.catalog.now c.in-Err.ensures.kept c.requires.shown
