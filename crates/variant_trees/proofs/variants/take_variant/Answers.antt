use Rattle.std.proofs.Common.{List, drop, sym, ap, subst, ◌∙◌}
use Rattle.std.specs.Prelude.{option_map}
use Rattle.page_image.specs.Page.{Node}
use Rattle.table_trees.specs.StoredTables.{table_long_values, table_nodes}
use Rattle.laws_engine.specs.Variants.{has_variant}
use Rattle.variant_trees.specs.GoneKeys.{held_from}
use Rattle.variant_trees.specs.LeftVariants.{LosesNode}
use Rattle.stored_variants.specs.RecordRows.{TableValues, record_of, row_under}
use Rattle.variant_trees.proofs.LeftNodes.{Goes, left_goes, rows_then}
use Rattle.stored_variants.specs.CountedValues.{newest_rows}
use Rattle.stored_variants.proofs.NodeRecords.{record_at}
use Rattle.variant_trees.specs.GoneRecords.{gone_fields}
use Rattle.variant_trees.proofs.variants.take_variant.Goals as goal

goes : (c : goal.After-take_node) → Goes (option_map (record_of (table_long_values c.args.trees.now.tables c.args.table.0)) (row_under (table_nodes c.args.trees.now.tables c.args.table.0) c.args.bookmark.now)) (held_from (table_long_values c.args.trees.now.tables) c.args.from c.args.versions.now) c.args.schema.now c.args.table.0 c.args.bookmark.now (gone_fields (table_long_values c.args.trees.now.tables c.args.table.0) c.args.gone) c.args.trees.now.tables c.take_keys.new.trees.tables c.take_node.new.trees.tables
goes c = record {
  changes = c.take_keys.ensures.others;
  keys = c.take_keys.ensures.keys;
  node =
      subst (λ (longs : TableValues). LosesNode (has_variant (option_map (record_of (longs c.args.table.0)) (row_under (table_nodes c.args.trees.now.tables c.args.table.0) c.args.bookmark.now)) (held_from longs c.args.from c.args.versions.now) c.args.table.0 c.args.bookmark.now) c.args.table.0 c.args.bookmark.now c.take_keys.new.trees.tables c.take_node.new.trees.tables)
      (λ i table. c.take_keys.ensures.others.values table i)
      (subst (λ (nodes : List Node). LosesNode (has_variant (option_map (record_of (table_long_values c.take_keys.new.trees.tables c.args.table.0)) (row_under nodes c.args.bookmark.now)) (held_from (table_long_values c.take_keys.new.trees.tables) c.args.from c.args.versions.now) c.args.table.0 c.args.bookmark.now) c.args.table.0 c.args.bookmark.now c.take_keys.new.trees.tables c.take_node.new.trees.tables)
      (c.take_keys.ensures.others.nodes c.args.table.0) c.take_node.ensures.node);
}

pub returns-clause-kept : goal.returns-clause-kept
returns-clause-kept c = λ tables ids same left.
    left_goes (table_long_values c.args.trees.now.tables) (option_map (record_of (table_long_values c.args.trees.now.tables c.args.table.0)) (row_under (table_nodes c.args.trees.now.tables c.args.table.0) c.args.bookmark.now)) (drop c.args.from c.args.versions.now) c.args.schema.now c.args.table.0 c.args.bookmark.now (gone_fields (table_long_values c.args.trees.now.tables c.args.table.0) c.args.gone)
    c.args.trees.now.tables c.take_keys.new.trees.tables c.take_node.new.trees.tables (goes c)
    (sym (record_at (table_long_values c.args.trees.now.tables c.args.table.0) (table_nodes c.args.trees.now.tables c.args.table.0) (c.nodes_are_in_order.ensures.sorted c.args.table.0) c.args.bookmark.now)) tables ids same left

pub returns-clause-newest : goal.returns-clause-newest
returns-clause-newest c = λ tables.
    rows_then (table_long_values c.args.trees.now.tables) (option_map (record_of (table_long_values c.args.trees.now.tables c.args.table.0)) (row_under (table_nodes c.args.trees.now.tables c.args.table.0) c.args.bookmark.now)) (held_from (table_long_values c.args.trees.now.tables) c.args.from c.args.versions.now) c.args.schema.now c.args.table.0 c.args.bookmark.now (gone_fields (table_long_values c.args.trees.now.tables c.args.table.0) c.args.gone)
    c.args.trees.now.tables c.take_keys.new.trees.tables c.take_node.new.trees.tables (goes c) tables

pub returns-clause-rows : goal.returns-clause-rows
returns-clause-rows c = λ other. c.take_node.ensures.node.newest other ∙ ap newest_rows (c.take_keys.ensures.others.nodes other)

pub returns-clause-values : goal.returns-clause-values
returns-clause-values c = λ other. c.take_node.ensures.node.values other ∙ c.take_keys.ensures.others.values other
