use Rattle.std.proofs.Common.{◌≡◌, ◌+◌, ◌≤◌, ℕ, List, Option, length, sym, ap, subst, ◌∙◌, arith}
use Rattle.std.specs.Prelude.{IfSome, option_and_then, option_copied}
use Rattle.common_lemmas.proofs.Booleans.{impossible}
use Rattle.table_trees.specs.StoredTables.{table_nodes}
use Rattle.stored_variants.specs.RecordRows.{row_in_node}
use Rattle.variant_trees.proofs.UndoneThere.{short_row}
use Rattle.variant_trees.proofs.undoing.copied_row.Goals as goal

within : (n m : ℕ) → n ≡ 0 → m ≤ 1700 → n + m ≤ 1700
within n m none low = omega arith

pub unreachable-requires : goal.unreachable-requires
unreachable-requires c =
    let is = sym (ap option_copied c.in-Some.is) ∙ c.row_in_node.ensures ∙ ap (option_and_then row_in_node) c.get.ensures in
    let low : length c.in-Some.row.now ≤ 1700 = subst (λ (o : Option (List ℕ)). IfSome o (λ row. length row ≤ 1700)) (sym is) (short_row (table_nodes c.args.trees.now.tables c.args.table.0) (c.nodes_are_in_order.ensures.short c.args.table.0) c.args.bookmark.now) in
    let none : length c.new-copy.result.items ≡ 0 = ap (λ (items : List ℕ). length items) c.new-copy.ensures in
    impossible (c.in-Err.ensures.variant.1 (within (length c.new-copy.result.items) (length c.in-Some.row.now) none low))
