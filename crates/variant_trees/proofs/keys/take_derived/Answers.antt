use Rattle.std.proofs.Common.{◌&&◌, not, bytes_eq, ap, ◌∙◌}
use Rattle.std.specs.List.{list_any}
use Rattle.laws_versions.specs.KeptEntries.{has_entry}
use Rattle.table_trees.specs.StoredTables.{index_entries}
use Rattle.variant_trees.proofs.keys.take_derived.Goals as goal

pub returns-in-Ok-clause-keys : goal.returns-in-Ok-clause-keys
returns-in-Ok-clause-keys c = λ key own.
    c.take_entries.ensures.entries key own
    ∙ ap (λ b. has_entry key own (index_entries c.args.trees.now.tables c.args.table.0 c.args.rule.now.id.0) && not (bytes_eq own c.args.bookmark.now && b)) (ap (list_any (bytes_eq key)) c.as_slice.ensures ∙ c.in-Ok.ensures key)
