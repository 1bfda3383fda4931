use Rattle.std.proofs.Common.{Bool, map, ap, ◌∙◌}
use Rattle.database_state.specs.Conflicts.{yields_key}
use Rattle.database_state.specs.Table.{record_in}
use Rattle.table_versions.specs.KeyConflicts.{conflicts_under}
use Rattle.stored_variants.specs.RecordRows.{held_record_in}
use Rattle.stored_variants.specs.StoredVersions.{StoredVersions}
use Rattle.table_versions.proofs.StoredConflicts.{rows_before}
use Rattle.table_versions.proofs.store.TableVersions.conflict_with_changes.Goals as goal
use Rattle.table_trees.specs.StoredTables.{table_long_values}

pub conflict_in-requires-clause-rows : goal.conflict_in-requires-clause-rows
conflict_in-requires-clause-rows c = rows_before (table_long_values c.self.inside.trees.tables) c.self.inside.catalog.tables c.self.inside.trees.tables c.self.inside.versions c.self.invariant.kept.changes

pub returns : goal.returns
returns c =
    let newest = yields_key c.args.rule.now c.args.schema.now c.args.key.now (record_in c.args.self.now.store.tables c.args.table.0 c.args.bookmark.now) in
    c.conflict_in.ensures
    ∙ ap (λ (b : Bool). conflicts_under c.args.reader c.args.rule.now c.args.schema.now c.args.key.now b c.args.table.0 c.args.bookmark.now (map (held_record_in (table_long_values c.self.inside.trees.tables)) c.self.inside.versions))
    (c.has_key-newest.ensures ∙ ap (yields_key c.args.rule.now c.args.schema.now c.args.key.now) c.newest.ensures)
    ∙ ap (λ (v : StoredVersions). conflicts_under c.args.reader c.args.rule.now c.args.schema.now c.args.key.now newest c.args.table.0 c.args.bookmark.now v.store.held) c.self.view_is
