use Rattle.std.proofs.Common.{List, sym, subst, ◌∙◌}
use Rattle.std.specs.Prelude.{option_map}
use Rattle.table_trees.specs.StoredTables.{table_long_values, StoredTable, table_nodes}
use Rattle.laws_engine.specs.Variants.{has_variant}
use Rattle.variant_trees.specs.GoneKeys.{held_from}
use Rattle.variant_trees.specs.LeftVariants.{LosesNode}
use Rattle.stored_variants.specs.RecordRows.{record_of, row_under}
use Rattle.stored_variants.proofs.Dropped.{TreeLaws}
use Rattle.variant_trees.proofs.LostNodes.{node_goes, node_with_variant}
use Rattle.variant_trees.proofs.variants.take_node.Goals as goal

pub returns-then-not-is_record_before-clause-node : goal.returns-then-not-is_record_before-clause-node
returns-then-not-is_record_before-clause-node c =
    let laws : TreeLaws = record {
      named = c.nodes_after_a_change.ensures.named;
      others = c.nodes_after_a_change.ensures.others;
      indexes = c.nodes_after_a_change.ensures.indexes;
      values = c.nodes_after_a_change.ensures.long_values;
      replaced = c.nodes_by_bookmark.ensures.replaced;
    } in
    subst (λ (trees : List StoredTable). LosesNode (has_variant (option_map (record_of (table_long_values c.args.trees.now.tables c.args.table.0)) (row_under (table_nodes c.args.trees.now.tables c.args.table.0) c.args.bookmark.now)) (held_from (table_long_values c.args.trees.now.tables) c.args.from c.args.versions.now) c.args.table.0 c.args.bookmark.now) c.args.table.0 c.args.bookmark.now c.args.trees.now.tables trees)
    (sym c.remove.ensures.tables)
    (node_goes (table_long_values c.args.trees.now.tables) laws c.nodes_by_bookmark.ensures.removed c.args.table.0 c.args.bookmark.now (held_from (table_long_values c.args.trees.now.tables) c.args.from c.args.versions.now) c.args.trees.now.tables (c.nodes_are_in_order.ensures.sorted c.args.table.0)
    (sym c.has_empty_node.ensures ∙ c.if-has_empty_node.true) (sym (c.is_record_before.ensures (table_long_values c.args.trees.now.tables)) ∙ c.if-not-is_record_before.true))

pub returns-else-not-is_record_before-clause-node : goal.returns-else-not-is_record_before-clause-node
returns-else-not-is_record_before-clause-node c =
    node_with_variant (table_long_values c.args.trees.now.tables) c.args.table.0 c.args.bookmark.now (held_from (table_long_values c.args.trees.now.tables) c.args.from c.args.versions.now) c.args.trees.now.tables
    (sym (c.is_record_before.ensures (table_long_values c.args.trees.now.tables)) ∙ c.if-not-is_record_before.false)
