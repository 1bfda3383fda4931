use Rattle.std.proofs.Common.{ℕ, ◌≤◌, List, [], Option, Some, None, length, sym, ap, subst, ◌∙◌, arith}
use Rattle.std.specs.Prelude.{IfSome, not, option_and_then, unwrap_or}
use Rattle.stored_variants.specs.RecordRows.{row_in_node, row_under}
use Rattle.table_trees.specs.StoredTables.{table_nodes}
use Rattle.variant_trees.specs.PutStages.{row_if}
use Rattle.variant_trees.proofs.UndoneThere.{short_row}
use Rattle.variant_trees.proofs.putting.row_before.Goals as goal

short : (o : Option (List ℕ)) → IfSome o (λ row. length row ≤ 1700) → length (unwrap_or o []) ≤ 4096
short None low = omega arith
short (Some row) low = omega (arith, low)

pub returns-then-is_new-clause-row : goal.returns-then-is_new-clause-row
returns-then-is_new-clause-row c = sym (ap (λ b. row_if (not b) (row_under (table_nodes c.args.trees.now.tables c.args.table.0) c.args.bookmark.now)) c.if-is_new.true)

pub returns-else-is_new-clause-row : goal.returns-else-is_new-clause-row
returns-else-is_new-clause-row c =
    c.row_in_node.ensures ∙ ap (option_and_then row_in_node) c.get.ensures
    ∙ sym (ap (λ b. row_if (not b) (row_under (table_nodes c.args.trees.now.tables c.args.table.0) c.args.bookmark.now)) c.if-is_new.false)

pub returns-else-is_new-clause-small : goal.returns-else-is_new-clause-small
returns-else-is_new-clause-small c =
    subst (λ (o : Option (List ℕ)). length (unwrap_or o []) ≤ 4096) (sym (c.row_in_node.ensures ∙ ap (option_and_then row_in_node) c.get.ensures))
    (short (row_under (table_nodes c.args.trees.now.tables c.args.table.0) c.args.bookmark.now) (short_row (table_nodes c.args.trees.now.tables c.args.table.0) (c.nodes_are_in_order.ensures.short c.args.table.0) c.args.bookmark.now))
