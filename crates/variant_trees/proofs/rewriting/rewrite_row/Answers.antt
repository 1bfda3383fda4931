use Rattle.std.proofs.Common.{List, ap, ◌∙◌}
use Rattle.long_rows.proofs.Taken.{ValueLaws}
use Rattle.table_trees.specs.StoredTables.{StoredTable, has_table, table_long_values}
use Rattle.variant_trees.proofs.RewrittenRows.{RewriteLaws, Rewrites, gives_up, nodes_rewritten, rewritten_there}
use Rattle.variant_trees.proofs.UndoneThere.{spelled_row}
use Rattle.variant_trees.proofs.rewriting.rewrite_row.Goals as goal

pub release_removed-requires-clause-table : goal.release_removed-requires-clause-table
release_removed-requires-clause-table c = ap (λ (trees : List StoredTable). has_table trees c.args.table.0) c.replace.ensures.tables ∙ c.nodes_after_a_change.ensures.there c.args.trees.now.tables c.args.table.0 c.args.table.0 _ ∙ c.requires.table

pub release_removed-requires-clause-row : goal.release_removed-requires-clause-row
release_removed-requires-clause-row c = spelled_row (table_long_values c.args.trees.now.tables c.args.table.0) c.args.row.now c.requires.row

pub release_removed-requires-clause-rewritten : goal.release_removed-requires-clause-rewritten
release_removed-requires-clause-rewritten c = spelled_row (table_long_values c.args.trees.now.tables c.args.table.0) c.args.rewritten.now c.requires.rewritten

pub release_removed-requires-clause-there : goal.release_removed-requires-clause-there
release_removed-requires-clause-there c =
    rewritten_there c.args.trees.now.tables c.replace.new.self.tables c.args.table.0 c.args.bookmark.now c.args.row.now (c.nodes_are_in_order.ensures.sorted c.args.table.0) c.requires.node c.requires.counts
    (ap (λ (trees : List StoredTable). table_long_values trees c.args.table.0) c.replace.ensures.tables ∙ c.nodes_after_a_change.ensures.long_values c.args.trees.now.tables c.args.table.0 c.args.table.0 _)

pub returns-clause-nodes : goal.returns-clause-nodes
returns-clause-nodes c =
    let laws : RewriteLaws = record {
      named = c.nodes_after_a_change.ensures.named;
      others = c.nodes_after_a_change.ensures.others;
      values = c.nodes_after_a_change.ensures.long_values;
      replaced = c.nodes_by_bookmark.ensures.replaced;
      counted = c.values_keep_their_counts.ensures.rewritten;
    } in
    let r : Rewrites c.args.trees.now.tables c.replace.new.self.tables c.release_removed.new.trees.tables c.args.table.0 c.args.bookmark.now c.args.row.now c.args.rewritten.now = record {
      there = c.requires.table;
      node = c.requires.node;
      rewritten = c.requires.rewritten;
      fewer = c.requires.fewer;
      counts = c.requires.counts;
      sorted = c.nodes_are_in_order.ensures.sorted c.args.table.0;
      sorted_then = c.nodes_are_in_order-2.ensures.sorted c.args.table.0;
      replaced = c.replace.ensures.tables;
      released = c.release_removed.ensures.tables;
    } in
    nodes_rewritten laws c.nodes_after_a_change.ensures.indexes c.args.trees.now.tables c.replace.new.self.tables c.release_removed.new.trees.tables c.args.table.0 c.args.bookmark.now c.args.row.now c.args.rewritten.now r

pub returns-clause-values : goal.returns-clause-values
returns-clause-values c =
    let laws : RewriteLaws = record {
      named = c.nodes_after_a_change.ensures.named;
      others = c.nodes_after_a_change.ensures.others;
      values = c.nodes_after_a_change.ensures.long_values;
      replaced = c.nodes_by_bookmark.ensures.replaced;
      counted = c.values_keep_their_counts.ensures.rewritten;
    } in
    let r : Rewrites c.args.trees.now.tables c.replace.new.self.tables c.release_removed.new.trees.tables c.args.table.0 c.args.bookmark.now c.args.row.now c.args.rewritten.now = record {
      there = c.requires.table;
      node = c.requires.node;
      rewritten = c.requires.rewritten;
      fewer = c.requires.fewer;
      counts = c.requires.counts;
      sorted = c.nodes_are_in_order.ensures.sorted c.args.table.0;
      sorted_then = c.nodes_are_in_order-2.ensures.sorted c.args.table.0;
      replaced = c.replace.ensures.tables;
      released = c.release_removed.ensures.tables;
    } in
    let value_laws : ValueLaws = record {
      put = c.values_after_a_change.ensures.put;
      beside = c.values_after_a_change.ensures.beside;
      more = c.references_after_a_change.ensures.more;
      more_beside = c.references_after_a_change.ensures.more_beside;
      less = c.references_after_a_change.ensures.less;
      less_beside = c.references_after_a_change.ensures.less_beside;
    } in
    gives_up laws value_laws c.args.trees.now.tables c.replace.new.self.tables c.release_removed.new.trees.tables c.args.table.0 c.args.bookmark.now c.args.row.now c.args.rewritten.now r
