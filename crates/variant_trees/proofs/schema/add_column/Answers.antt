use Rattle.std.proofs.Common.{List, sym, ap, subst, ◌∙◌}
use Rattle.std.specs.Prelude.{IsSomeAnd}
use Rattle.database_state.specs.Table.{table_with_id}
use Rattle.index_derive.specs.declared.schema_calls.SchemaStep.TheVariants as step
use Rattle.jet_catalog.specs.Catalog.{CatalogState}
use Rattle.stored_variants.specs.SchemaSteps.{IsColumnFor, IsMade}
use Rattle.table_trees.specs.StoredTables.{table_long_values, StoredTable, has_table}
use Rattle.table_trees.specs.ShownCatalogs.{ShowsStep}
use Rattle.variant_trees.proofs.KeptSteps.{column_for, shows_after, shows_in, some_of}
use Rattle.variant_trees.proofs.MadeColumns.{column_made}
use Rattle.variant_trees.proofs.MadeTables.{a_tree}
use Rattle.variant_trees.proofs.schema.add_column.Goals as goal

pub keep_column-requires-clause-there : goal.keep_column-requires-clause-there
keep_column-requires-clause-there c =
    a_tree (table_long_values c.args.trees.now.tables) c.args.catalog.now.tables c.args.trees.now.tables c.requires.kept c.args.table.0 (some_of (IsColumnFor c.args.column.now) _ (column_for (table_long_values c.args.trees.now.tables) c.args.column.now c.args.table.0 c.args.catalog.now.tables c.args.trees.now.tables c.requires.fits))

pub keep_column-requires-clause-fits : goal.keep_column-requires-clause-fits
keep_column-requires-clause-fits c = column_for (table_long_values c.args.trees.now.tables) c.args.column.now c.args.table.0 c.args.catalog.now.tables c.args.trees.now.tables c.requires.fits

pub take_back_column-requires-clause-there : goal.take_back_column-requires-clause-there
take_back_column-requires-clause-there c =
    ap (λ (t : List StoredTable). has_table t c.args.table.0) c.keep_column.ensures.tables
    ∙ a_tree (table_long_values c.args.trees.now.tables) c.args.catalog.now.tables c.args.trees.now.tables c.requires.kept c.args.table.0 (some_of (IsColumnFor c.args.column.now) _ (column_for (table_long_values c.args.trees.now.tables) c.args.column.now c.args.table.0 c.args.catalog.now.tables c.args.trees.now.tables c.requires.fits))

pub take_back_column-requires-clause-known : goal.take_back_column-requires-clause-known
take_back_column-requires-clause-known c =
    subst (λ (k : CatalogState). IsSomeAnd (table_with_id k.tables c.args.table.0) (IsColumnFor c.args.column.now)) (sym c.in-Err-make.ensures.kept)
    (column_for (table_long_values c.args.trees.now.tables) c.args.column.now c.args.table.0 c.args.catalog.now.tables c.args.trees.now.tables c.requires.fits)

pub take_back_column-requires-clause-step : goal.take_back_column-requires-clause-step
take_back_column-requires-clause-step c = subst (λ (k : CatalogState). ShowsStep c.keep_column.new.trees.catalog k (step.AddColumn c.args.table c.args.column.now)) (sym c.in-Err-make.ensures.kept) c.in-Ok.ensures.ok

pub returns-in-Ok-make-clause-ok : goal.returns-in-Ok-make-clause-ok
returns-in-Ok-make-clause-ok c =
    subst (λ (t : List StoredTable). IsMade c.args.made.now c.args.catalog.now c.args.trees.now.tables c.make.new.self t) (sym c.keep_column.ensures.tables)
    (column_made c.args.made.now c.args.table c.args.column.now c.requires.step c.args.catalog.now c.args.trees.now.tables c.nodes_are_in_order.ensures.sorted c.requires.taken c.requires.kept c.make.new.self c.in-Ok-make.ensures.made c.requires.counts)

pub returns-in-Ok-make-clause-shown : goal.returns-in-Ok-make-clause-shown
returns-in-Ok-make-clause-shown c = shows_after c.keep_column.new.trees.catalog c.args.catalog.now c.make.new.self c.args.made.now (step.AddColumn c.args.table c.args.column.now) c.requires.step c.in-Ok-make.ensures.made (c.in-Ok.ensures.ok).after

pub returns-in-Err-make-clause-err : goal.returns-in-Err-make-clause-err
returns-in-Err-make-clause-err c = (c.in-Err-make.ensures.kept, c.take_back_column.ensures.tables ∙ c.keep_column.ensures.tables)

pub returns-in-Err-clause-shown : goal.returns-in-Err-clause-shown
returns-in-Err-clause-shown c = shows_in c.args.trees.now.catalog c.keep_column.new.trees.catalog c.args.catalog.now c.in-Err.ensures.err c.requires.shown
