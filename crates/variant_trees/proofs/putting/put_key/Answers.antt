use Rattle.std.proofs.Common.{List, sym, subst, ◌∙◌}
use Rattle.table_trees.specs.StoredTables.{StoredTable, index_entries, with_entries}
use Rattle.index_tree.specs.Entries.{insert_entry_if_absent}
use Rattle.variant_trees.specs.PutStages.{HasKeys, one_key}
use Rattle.variant_trees.proofs.KeysPut.{has_put}
use Rattle.variant_trees.proofs.putting.put_key.Goals as goal

pub returns-in-Ok-clause-ok : goal.returns-in-Ok-clause-ok
returns-in-Ok-clause-ok c =
    subst (λ (trees : List StoredTable). HasKeys c.args.table.0 c.args.bookmark.now (one_key c.args.index.0 c.args.key.now) c.args.trees.now.tables trees)
    (sym (c.in-Ok.ensures.ok ∙ (λ i. with_entries c.args.table.0 c.args.index.0 (insert_entry_if_absent (c.as_bytes-key.ensures.value i, c.args.bookmark.now) (index_entries c.args.trees.now.tables c.args.table.0 c.args.index.0)) c.args.trees.now.tables)))
    (has_put (record { named = c.indexes_after_a_change.ensures.named; others = c.indexes_after_a_change.ensures.others; nodes = c.indexes_after_a_change.ensures.nodes; values = c.indexes_after_a_change.ensures.long_values })
    (record { named = c.entries_after_a_change.ensures.named; others = c.entries_after_a_change.ensures.others })
    c.args.trees.now.tables c.args.table.0 c.args.index.0 c.args.key.now c.args.bookmark.now c.requires.there)
