use Rattle.std.proofs.Common.{List, ℕ, Option, sym, ap, ◌∙◌, arith}
use Rattle.column_set.specs.ChangedRecords.{changed_bookmark, changed_table}
use Rattle.database_state.specs.Table.{record_in}
use Rattle.table_trees.specs.StoredTables.{table_long_values, table_nodes}
use Rattle.stored_variants.specs.RecordRows.{row_under}
use Rattle.stored_variants.specs.StoredVersions.{StoredVersions}
use Rattle.table_versions.proofs.Span.{RowSizes, longest_fits, same_room}
use Rattle.stored_variants.proofs.Tables.{newest_at, newest_is_row}
use Rattle.table_versions.proofs.store.TableVersions.fits.Goals as goal

pub fits-requires : goal.fits-requires
fits-requires c = omega (arith, c.longest_row.ensures)

pub returns-then-fits : goal.returns-then-fits
returns-then-fits c =
    let sizes : RowSizes = record { bytes = c.size_of_a_row.ensures.bytes; size = c.size_of_a_row.ensures.record_size } in
    let table : ℕ = changed_table c.args.change.now in
    let bookmark : List ℕ = changed_bookmark c.args.change.now in
    let row : Option (List ℕ) = row_under (table_nodes c.self.inside.trees.tables table) bookmark in
    let is = newest_is_row (table_long_values c.self.inside.trees.tables) c.self.inside.catalog.tables c.self.inside.trees.tables c.self.inside.versions c.self.invariant.kept table bookmark in
    sym (longest_fits (table_long_values c.self.inside.trees.tables table) c.args.by c.args.change.now row is c.longest_row.result.now c.longest_row.ensures c.self.inside.versions (sym c.fits.ensures ∙ c.if-fits.true))
    ∙ same_room (table_long_values c.self.inside.trees.tables) sizes c.args.by c.args.change.now row is c.self.inside.versions c.args.self.now.store
    (ap (λ (v : StoredVersions). v.store.held) c.self.view_is)
    (sym (newest_at (table_long_values c.self.inside.trees.tables) c.self.inside.trees.tables c.self.inside.catalog.tables c.self.invariant.kept.numbers c.nodes_are_in_order.ensures.sorted table bookmark)
    ∙ ap (λ (v : StoredVersions). record_in v.store.tables table bookmark) c.self.view_is)
