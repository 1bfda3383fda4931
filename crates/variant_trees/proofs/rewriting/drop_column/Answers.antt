use Rattle.index_derive.specs.Entries.{column_is_used}
use Rattle.std.proofs.Common.{◌≡◌, false, map, List, [], sym, subst}
use Rattle.std.specs.List.{AllByRecursion}
use Rattle.index_derive.specs.declared.schema_calls.SchemaStep.TheVariants as step
use Rattle.table_trees.specs.StoredTables.{table_long_values, StoredTable, table_nodes}
use Rattle.stored_variants.specs.CountedValues.{AreCounted}
use Rattle.variant_trees.specs.LostColumns.{HasNodes, HoldsRecord, LosesValues, node_without}
use Rattle.variant_trees.proofs.KeptSteps.{old_column, shows_after, shows_in, shows_other}
use Rattle.variant_trees.proofs.LostColumns.{column_deleted, table_holds}
use Rattle.variant_trees.proofs.LostRows.{RowLaws}
use Rattle.variant_trees.proofs.rewriting.drop_column.Goals as goal

pub remove_values-requires-clause-rows : goal.remove_values-requires-clause-rows
remove_values-requires-clause-rows c =
    subst (λ (t : List StoredTable). AllByRecursion (HoldsRecord (table_long_values t c.args.table.0)) (table_nodes t c.args.table.0)) (sym c.forget_column.ensures.tables)
    (table_holds (table_long_values c.args.trees.now.tables) c.args.catalog.now.tables c.args.trees.now.tables c.args.table.0 (λ t. column_is_used c.args.column t.indexes ≡ false) c.requires.kept c.nodes_are_in_order.ensures.sorted c.requires.unused)

pub remove_values-requires-clause-counts : goal.remove_values-requires-clause-counts
remove_values-requires-clause-counts c = subst (λ (t : List StoredTable). AreCounted t []) (sym c.forget_column.ensures.tables) c.requires.counts

pub returns-in-Ok-clause-ok : goal.returns-in-Ok-clause-ok
returns-in-Ok-clause-ok c =
    let laws : RowLaws = record {
      read = c.rows_are_read_back.ensures;
      formed = c.rows_without_a_column.ensures.formed;
      shorter = c.rows_without_a_column.ensures.shorter;
      shown = c.rows_without_a_columns_values.ensures.shown;
      stand = c.rows_without_a_columns_values.ensures.stand;
    } in
    column_deleted laws c.args.made.now c.args.table c.args.column c.requires.step c.args.catalog.now c.args.trees.now.tables c.remove_values.new.trees.tables c.tables.ensures.numbered c.nodes_are_in_order.ensures.sorted c.nodes_are_in_order-in-Ok.ensures.sorted
    c.requires.unused (subst (λ (t : List StoredTable). HasNodes c.args.table.0 (map (node_without c.args.column.0) (table_nodes t c.args.table.0)) t c.remove_values.new.trees.tables) c.forget_column.ensures.tables c.remove_values.ensures.nodes)
    (subst (λ (t : List StoredTable). LosesValues c.args.table.0 t c.remove_values.new.trees.tables) c.forget_column.ensures.tables c.remove_values.ensures.values)
    c.requires.kept c.requires.counts c.make.new.self c.in-Ok.ensures.made

pub forget_column-requires : goal.forget_column-requires
forget_column-requires c = (c.args.catalog.now, c.requires.shown, old_column c.args.catalog.now c.args.table c.args.column c.requires.there)

pub returns-in-Ok-clause-shown : goal.returns-in-Ok-clause-shown
returns-in-Ok-clause-shown c =
    shows_after c.remove_values.new.trees.catalog c.args.catalog.now c.make.new.self c.args.made.now (step.DeleteColumn c.args.table c.args.column) c.requires.step c.in-Ok.ensures.made
    (shows_in c.forget_column.new.self.catalog c.remove_values.new.trees.catalog _ c.remove_values.ensures.catalog (c.forget_column.ensures.shown c.args.catalog.now c.requires.shown (old_column c.args.catalog.now c.args.table c.args.column c.requires.there)))

pub returns-in-Err-clause-shown : goal.returns-in-Err-clause-shown
returns-in-Err-clause-shown c = shows_other c.args.trees.now.catalog c.args.catalog.now c.make.new.self c.in-Err.ensures.kept c.requires.shown
