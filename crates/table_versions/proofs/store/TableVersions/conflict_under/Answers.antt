use Rattle.std.proofs.Common.{sym, ap, ◌∙◌}
use Rattle.database_state.specs.Conflicts.{yields_key}
use Rattle.database_state.specs.Table.{record_in}
use Rattle.table_versions.specs.KeyConflicts.{conflicts_under}
use Rattle.stored_variants.specs.StoredVersions.{StoredVersions}
use Rattle.table_versions.proofs.store.TableVersions.conflict_under.Goals as goal
use Rattle.table_trees.specs.StoredTables.{table_long_values}

pub returns-else-has_concurrent : goal.returns-else-has_concurrent
returns-else-has_concurrent c =
    let newest = yields_key c.args.rule.now c.args.schema.now c.args.key.now (record_in c.args.self.now.store.tables c.args.table.0 c.args.bookmark.now) in
    sym (c.has_concurrent.ensures c.if-has_concurrent.false (table_long_values c.self.inside.trees.tables) c.args.rule.now c.args.schema.now c.args.key.now newest)
    ∙ ap (λ (v : StoredVersions). conflicts_under c.args.reader c.args.rule.now c.args.schema.now c.args.key.now newest c.args.table.0 c.args.bookmark.now v.store.held) c.self.view_is
