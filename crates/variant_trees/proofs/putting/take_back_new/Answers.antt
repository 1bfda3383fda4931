use Rattle.std.proofs.Common.{List, Option, ℕ, sym, ap, subst, ◌∙◌}
use Rattle.std.specs.Prelude.{IfSome, is_none, is_some, option_and_then, option_map}
use Rattle.btree_inplace.specs.Order.{get_in}
use Rattle.long_value.specs.Values.{Values}
use Rattle.table_trees.specs.StoredTables.{table_long_values, StoredTable, table_nodes}
use Rattle.variant_trees.specs.GoneKeys.{held_from, table_numbers}
use Rattle.stored_variants.specs.PutRecords.{record_keys}
use Rattle.variant_trees.specs.PutStages.{HasVariantKeys, IsHalfPut}
use Rattle.stored_variants.specs.RecordRows.{IsRecordRow, record_of, row_in_node, row_under}
use Rattle.variant_trees.proofs.HalfPuts.{table_stays}
use Rattle.variant_trees.proofs.RoomMade.{same_table_numbers}
use Rattle.variant_trees.proofs.NewPuts.{emptied, emptied_at}
use Rattle.variant_trees.proofs.putting.take_back_new.Goals as goal

pub take_back-requires-clause-newest : goal.take_back-requires-clause-newest
take_back-requires-clause-newest c =
    subst (λ (v : Values). IfSome (row_under (table_nodes c.replace.new.self.tables c.args.table.0) c.args.bookmark.now) (IsRecordRow v)) (sym (ap (λ (trees : List StoredTable). table_long_values trees c.args.table.0) c.replace.ensures.tables ∙ c.nodes_after_a_change.ensures.long_values c.args.trees.now.tables c.args.table.0 c.args.table.0 _))
    (subst (λ (trees : List StoredTable). IfSome (row_under (table_nodes trees c.args.table.0) c.args.bookmark.now) (IsRecordRow (table_long_values c.args.trees.now.tables c.args.table.0))) (sym c.replace.ensures.tables)
    (subst (λ (o : Option (List ℕ)). IfSome (option_and_then row_in_node o) (IsRecordRow (table_long_values c.args.trees.now.tables c.args.table.0))) (sym (emptied_at (record { named = c.nodes_after_a_change.ensures.named; others = c.nodes_after_a_change.ensures.others; indexes = c.nodes_after_a_change.ensures.indexes; values = c.nodes_after_a_change.ensures.long_values; put = c.nodes_by_bookmark.ensures.put; removed = c.nodes_by_bookmark.ensures.removed; replaced = c.nodes_by_bookmark.ensures.replaced; widened = c.nodes_by_bookmark.ensures.widened }) c.args.table.0 c.args.bookmark.now c.args.trees.now.tables c.requires.there c.requires.node)) tt))

pub take_back-requires-clause-there : goal.take_back-requires-clause-there
take_back-requires-clause-there c =
    table_stays c.args.table.0 c.args.trees.now.tables c.replace.new.self.tables (ap table_numbers c.replace.ensures.tables ∙ same_table_numbers c.args.table.0 _ c.args.trees.now.tables) ∙ c.requires.there

pub take_back-requires-clause-new_node : goal.take_back-requires-clause-new_node
take_back-requires-clause-new_node c = λ is.
    ap (λ (trees : List StoredTable). is_some (get_in (table_nodes trees c.args.table.0) c.args.bookmark.now)) c.replace.ensures.tables
    ∙ ap is_some (emptied_at (record { named = c.nodes_after_a_change.ensures.named; others = c.nodes_after_a_change.ensures.others; indexes = c.nodes_after_a_change.ensures.indexes; values = c.nodes_after_a_change.ensures.long_values; put = c.nodes_by_bookmark.ensures.put; removed = c.nodes_by_bookmark.ensures.removed; replaced = c.nodes_by_bookmark.ensures.replaced; widened = c.nodes_by_bookmark.ensures.widened }) c.args.table.0 c.args.bookmark.now c.args.trees.now.tables c.requires.there c.requires.node)

pub returns-clause-back : goal.returns-clause-back
returns-clause-back c = λ base row put long absent variants.
    c.take_back.ensures.back base
    (subst (λ (trees : List StoredTable). IsHalfPut c.args.table.0 c.args.bookmark.now (record_keys c.args.schema.now.indexes c.args.schema.now c.args.values.now) base trees) (sym c.replace.ensures.tables)
    (emptied (record { named = c.nodes_after_a_change.ensures.named; others = c.nodes_after_a_change.ensures.others; indexes = c.nodes_after_a_change.ensures.indexes; values = c.nodes_after_a_change.ensures.long_values; put = c.nodes_by_bookmark.ensures.put; removed = c.nodes_by_bookmark.ensures.removed; replaced = c.nodes_by_bookmark.ensures.replaced; widened = c.nodes_by_bookmark.ensures.widened }) c.args.table.0 c.args.bookmark.now row (record_keys c.args.schema.now.indexes c.args.schema.now c.args.values.now) base c.args.trees.now.tables c.requires.there absent put))
    (λ other. ap (λ (trees : List StoredTable). table_long_values trees other) c.replace.ensures.tables ∙ c.nodes_after_a_change.ensures.long_values c.args.trees.now.tables c.args.table.0 other _ ∙ long other)
    (sym (ap is_none absent))
    (subst (λ (o : Option (List ℕ)). HasVariantKeys (option_map (record_of (table_long_values base c.args.table.0)) (option_and_then row_in_node o)) (held_from (table_long_values base) 0 c.args.versions.now) c.args.schema.now c.args.table.0 c.args.bookmark.now base) (sym absent) variants)
