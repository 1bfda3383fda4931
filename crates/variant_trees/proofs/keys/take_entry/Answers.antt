use Rattle.std.proofs.Common.{ℕ, List, sym, ap, subst, ◌∙◌}
use Rattle.laws_versions.specs.KeptEntries.{has_entry, without_entry}
use Rattle.table_trees.specs.StoredTables.{StoredTable, index_entries}
use Rattle.variant_trees.specs.GoneKeys.{ChangesEntries}
use Rattle.variant_trees.proofs.EntryTrees.{IndexLaws, entries_changed, entry_taken, index_there}
use Rattle.variant_trees.proofs.keys.take_entry.Goals as goal

pub returns-then-has_entry-clause-others : goal.returns-then-has_entry-clause-others
returns-then-has_entry-clause-others c =
    let laws : IndexLaws = record { named = c.indexes_after_a_change.ensures.named; others = c.indexes_after_a_change.ensures.others; nodes = c.indexes_after_a_change.ensures.nodes; values = c.indexes_after_a_change.ensures.long_values } in
    let there = index_there c.args.trees.now.tables c.args.table.0 c.args.index.0 c.as_bytes-key.result.now c.args.bookmark.now (sym c.has_entry.ensures ∙ c.if-has_entry.true) in
    subst (λ (trees : List StoredTable). ChangesEntries c.args.table.0 c.args.trees.now.tables trees) (sym c.remove_entry.ensures.tables)
    (entries_changed laws c.args.trees.now.tables c.args.table.0 c.args.index.0 (without_entry c.as_bytes-key.result.now c.args.bookmark.now (index_entries c.args.trees.now.tables c.args.table.0 c.args.index.0)) there)

pub returns-then-has_entry-clause-indexes : goal.returns-then-has_entry-clause-indexes
returns-then-has_entry-clause-indexes c = λ other apart.
    ap (λ (trees : List StoredTable). index_entries trees c.args.table.0 other) c.remove_entry.ensures.tables
    ∙ c.entries_after_a_change.ensures.others c.args.trees.now.tables c.args.table.0 c.args.index.0 other (without_entry c.as_bytes-key.result.now c.args.bookmark.now (index_entries c.args.trees.now.tables c.args.table.0 c.args.index.0)) apart

pub returns-then-has_entry-clause-entry : goal.returns-then-has_entry-clause-entry
returns-then-has_entry-clause-entry c = λ k own.
    let there = index_there c.args.trees.now.tables c.args.table.0 c.args.index.0 c.as_bytes-key.result.now c.args.bookmark.now (sym c.has_entry.ensures ∙ c.if-has_entry.true) in
    let entries = index_entries c.args.trees.now.tables c.args.table.0 c.args.index.0 in
    ap (λ (trees : List StoredTable). has_entry k own (index_entries trees c.args.table.0 c.args.index.0)) c.remove_entry.ensures.tables
    ∙ ap (has_entry k own) (c.entries_after_a_change.ensures.named c.args.trees.now.tables c.args.table.0 c.args.index.0 (without_entry c.as_bytes-key.result.now c.args.bookmark.now entries) there)
    ∙ ap (λ (key : List ℕ). has_entry k own (without_entry key c.args.bookmark.now entries)) c.as_bytes-key.ensures.value
    ∙ entry_taken c.args.key.now c.args.bookmark.now entries k own
