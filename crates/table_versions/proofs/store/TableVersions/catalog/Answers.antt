use Rattle.std.proofs.Common.{ℕ, List, map, sym, ap, ◌∙◌}
use Rattle.database_state.specs.Table.{Table}
use Rattle.jet_catalog.specs.Catalog.{CatalogState, without_rows}
use Rattle.stored_variants.specs.StoredVersions.{StoredVersions}
use Rattle.stored_variants.proofs.Tables.{definitions}
use Rattle.table_versions.proofs.store.TableVersions.catalog.Goals as goal
use Rattle.table_trees.specs.StoredTables.{table_long_values}

pub returns : goal.returns
returns c =
    let made : ℕ → List Table → CatalogState = λ greatest tables. record { greatest_table = greatest; tables = tables } in
    ap (made c.self.inside.catalog.greatest_table) (sym c.self.invariant.kept.plain ∙ sym (definitions (table_long_values c.self.inside.trees.tables) c.self.inside.trees.tables c.self.inside.catalog.tables))
    ∙ ap (λ (v : StoredVersions). made v.greatest_table (map without_rows v.store.tables)) c.self.view_is
