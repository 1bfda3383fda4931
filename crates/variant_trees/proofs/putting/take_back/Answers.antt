use Rattle.std.proofs.Common.{List, Option, option_map, sym, ap, subst, ◌∙◌}
use Rattle.table_trees.specs.StoredTables.{table_long_values, StoredTable, table_nodes}
use Rattle.variant_trees.specs.GoneKeys.{held_from, LosesRecord}
use Rattle.stored_variants.specs.PutRecords.{record_keys}
use Rattle.variant_trees.specs.PutStages.{HasVariantKeys, IsSame}
use Rattle.stored_variants.specs.RecordRows.{TableValues, record_of, row_under}
use Rattle.column_set.specs.RecordValues.{RecordFields}
use Rattle.variant_trees.proofs.HalfPuts.{row_stays, table_stays, taken_back, taken_back_with_node}
use Rattle.variant_trees.proofs.putting.take_back.Goals as goal

-- src/putting.rt:158:1
pub returns-then-is_new-clause-back : goal.returns-then-is_new-clause-back
returns-then-is_new-clause-back c =
    λ base half long is variants.
    subst (λ (trees : List StoredTable). IsSame c.args.table.0 c.args.schema.now base trees) (sym c.remove.ensures.tables)
    (taken_back_with_node (record { named = c.nodes_after_a_change.ensures.named; others = c.nodes_after_a_change.ensures.others; indexes = c.nodes_after_a_change.ensures.indexes; values = c.nodes_after_a_change.ensures.long_values; put = c.nodes_by_bookmark.ensures.put; removed = c.nodes_by_bookmark.ensures.removed; replaced = c.nodes_by_bookmark.ensures.replaced; widened = c.nodes_by_bookmark.ensures.widened })
    c.args.schema.now c.args.values.now c.args.table.0 c.args.bookmark.now (option_map (record_of (table_long_values c.args.trees.now.tables c.args.table.0)) (row_under (table_nodes base c.args.table.0) c.args.bookmark.now)) (held_from (table_long_values c.args.trees.now.tables) 0 c.args.versions.now) base c.args.trees.now.tables c.take_keys.new.trees.tables
    c.requires.rules half c.take_keys.ensures.others
    (subst (λ (newest : Option RecordFields). LosesRecord newest (held_from (table_long_values c.args.trees.now.tables) 0 c.args.versions.now) c.args.schema.now c.args.table.0 c.args.bookmark.now c.args.values.now c.args.trees.now.tables c.take_keys.new.trees.tables)
    (ap (option_map (record_of (table_long_values c.args.trees.now.tables c.args.table.0))) (row_stays c.args.table.0 c.args.bookmark.now (record_keys c.args.schema.now.indexes c.args.schema.now c.args.values.now) base c.args.trees.now.tables half)) c.take_keys.ensures.keys)
    (subst (λ (longs : TableValues). HasVariantKeys (option_map (record_of (longs c.args.table.0)) (row_under (table_nodes base c.args.table.0) c.args.bookmark.now)) (held_from longs 0 c.args.versions.now) c.args.schema.now c.args.table.0 c.args.bookmark.now base) (λ i t. sym (long t) i) variants) long (table_stays c.args.table.0 c.args.trees.now.tables c.take_keys.new.trees.tables c.take_keys.ensures.others.numbers ∙ c.requires.there) (sym c.if-is_new.true ∙ is))

-- src/putting.rt:158:1
pub returns-else-is_new-clause-back : goal.returns-else-is_new-clause-back
returns-else-is_new-clause-back c =
    λ base half long is variants.
    taken_back
    c.args.schema.now c.args.values.now c.args.table.0 c.args.bookmark.now (option_map (record_of (table_long_values c.args.trees.now.tables c.args.table.0)) (row_under (table_nodes base c.args.table.0) c.args.bookmark.now)) (held_from (table_long_values c.args.trees.now.tables) 0 c.args.versions.now) base c.args.trees.now.tables c.take_keys.new.trees.tables
    c.requires.rules half c.take_keys.ensures.others
    (subst (λ (newest : Option RecordFields). LosesRecord newest (held_from (table_long_values c.args.trees.now.tables) 0 c.args.versions.now) c.args.schema.now c.args.table.0 c.args.bookmark.now c.args.values.now c.args.trees.now.tables c.take_keys.new.trees.tables)
    (ap (option_map (record_of (table_long_values c.args.trees.now.tables c.args.table.0))) (row_stays c.args.table.0 c.args.bookmark.now (record_keys c.args.schema.now.indexes c.args.schema.now c.args.values.now) base c.args.trees.now.tables half)) c.take_keys.ensures.keys)
    (subst (λ (longs : TableValues). HasVariantKeys (option_map (record_of (longs c.args.table.0)) (row_under (table_nodes base c.args.table.0) c.args.bookmark.now)) (held_from longs 0 c.args.versions.now) c.args.schema.now c.args.table.0 c.args.bookmark.now base) (λ i t. sym (long t) i) variants) long (sym c.if-is_new.false ∙ is)
