use Rattle.std.proofs.Common.{ap, ◌∙◌}
use Rattle.laws_engine.specs.HeldRecords.{has_conflict}
use Rattle.stored_variants.specs.StoredVersions.{StoredVersions}
use Rattle.table_versions.proofs.OldestChange.{same_conflicts}
use Rattle.table_versions.proofs.store.TableVersions.conflict.Goals as goal
use Rattle.table_trees.specs.StoredTables.{table_long_values}

pub returns : goal.returns
returns c =
    c.conflict.ensures ∙ same_conflicts (table_long_values c.self.inside.trees.tables) c.args.reader c.args.change.now c.self.inside.versions
    ∙ ap (λ (v : StoredVersions). has_conflict c.args.reader c.args.change.now v.store.held) c.self.view_is
