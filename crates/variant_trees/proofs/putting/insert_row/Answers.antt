use Rattle.std.proofs.Common.{List, sym, subst, ◌∙◌}
use Rattle.table_trees.specs.StoredTables.{StoredTable}
use Rattle.variant_trees.specs.PutStages.{HasNewRow}
use Rattle.variant_trees.proofs.NewPuts.{row_if_absent}
use Rattle.variant_trees.proofs.putting.insert_row.Goals as goal

pub returns-in-Ok-clause-new : goal.returns-in-Ok-clause-new
returns-in-Ok-clause-new c = λ none.
    subst (λ (trees : List StoredTable). HasNewRow c.args.table.0 c.args.bookmark.now c.args.row.now c.args.trees.now.tables trees)
    (sym c.in-Ok.ensures.ok)
    (row_if_absent (record { named = c.nodes_after_a_change.ensures.named; others = c.nodes_after_a_change.ensures.others; indexes = c.nodes_after_a_change.ensures.indexes; values = c.nodes_after_a_change.ensures.long_values; put = c.nodes_by_bookmark.ensures.put; removed = c.nodes_by_bookmark.ensures.removed; replaced = c.nodes_by_bookmark.ensures.replaced; widened = c.nodes_by_bookmark.ensures.widened }) c.args.trees.now.tables c.args.table.0 c.args.bookmark.now c.args.row.now c.requires.there (sym c.in-Ok.ensures.there ∙ none))
