use Rattle.std.proofs.Common.{map, sym, ap, ◌∙◌}
use Rattle.jet_catalog.specs.Catalog.{without_rows}
use Rattle.stored_variants.specs.StoredVersions.{StoredVersions}
use Rattle.stored_variants.proofs.Tables.{definitions}
use Rattle.table_versions.proofs.store.TableVersions.tables.Goals as goal
use Rattle.table_trees.specs.StoredTables.{table_long_values}

pub returns : goal.returns
returns c =
    c.tables.ensures.tables ∙ sym c.self.invariant.kept.plain ∙ sym (definitions (table_long_values c.self.inside.trees.tables) c.self.inside.trees.tables c.self.inside.catalog.tables)
    ∙ ap (λ (v : StoredVersions). map without_rows v.store.tables) c.self.view_is
