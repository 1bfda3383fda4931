use Rattle.std.proofs.Common.{List, option_map, sym, ap, ◌∙◌}
use Rattle.database_state.specs.Table.{Table, table_named}
use Rattle.jet_catalog.specs.Catalog.{without_rows}
use Rattle.stored_variants.specs.StoredVersions.{StoredVersions}
use Rattle.stored_variants.proofs.Tables.{defined, named_at}
use Rattle.table_versions.proofs.store.TableVersions.lookup.Goals as goal
use Rattle.table_trees.specs.StoredTables.{table_long_values}

pub returns : goal.returns
returns c =
    let tables = c.self.inside.catalog.tables in
    let trees = c.self.inside.trees.tables in
    let name = c.args.name.now in
    c.lookup.ensures
    ∙ ap (λ (ts : List Table). table_named ts name) (sym c.self.invariant.kept.plain)
    ∙ c.tables_are_found_without_records.ensures.named tables name
    ∙ sym (defined (table_long_values c.self.inside.trees.tables) trees (table_named tables name))
    ∙ ap (option_map without_rows) (sym (named_at (table_long_values c.self.inside.trees.tables) trees tables name))
    ∙ ap (λ (v : StoredVersions). option_map without_rows (table_named v.store.tables name)) c.self.view_is
