use Rattle.std.proofs.Common.{List, option_map, sym, ap, ◌∙◌}
use Rattle.database_state.specs.Table.{Table, table_with_id}
use Rattle.jet_catalog.specs.Catalog.{without_rows}
use Rattle.stored_variants.specs.StoredVersions.{StoredVersions}
use Rattle.stored_variants.proofs.Tables.{defined, table_at}
use Rattle.table_versions.proofs.store.TableVersions.by_id.Goals as goal
use Rattle.table_trees.specs.StoredTables.{table_long_values}

pub returns : goal.returns
returns c =
    let tables = c.self.inside.catalog.tables in
    let trees = c.self.inside.trees.tables in
    let id = c.args.table.0 in
    c.by_id.ensures
    ∙ ap (λ (ts : List Table). table_with_id ts id) (sym c.self.invariant.kept.plain)
    ∙ c.tables_are_found_without_records.ensures.numbered tables id
    ∙ sym (defined (table_long_values c.self.inside.trees.tables) trees (table_with_id tables id))
    ∙ ap (option_map without_rows) (sym (table_at (table_long_values c.self.inside.trees.tables) trees tables id))
    ∙ ap (λ (v : StoredVersions). option_map without_rows (table_with_id v.store.tables id)) c.self.view_is
