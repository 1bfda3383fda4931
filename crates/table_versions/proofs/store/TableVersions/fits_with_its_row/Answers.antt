use Rattle.std.proofs.Common.{◌≡◌, Option, List, ℕ, option_map, sym, ap, subst, ◌∙◌}
use Rattle.std.specs.Prelude.{IfSome, option_copied}
use Rattle.column_set.specs.ChangedRecords.{changed_bookmark, changed_table}
use Rattle.database_state.specs.Table.{record_in}
use Rattle.table_trees.specs.StoredTables.{table_long_values, table_nodes}
use Rattle.stored_variants.specs.RecordRows.{IsRecordRow, record_of, row_under}
use Rattle.stored_variants.specs.StoredVersions.{StoredVersions}
use Rattle.stored_variants.proofs.Tables.{newest_at, newest_is_row}
use Rattle.table_versions.proofs.Span.{RowSizes, same_room, small_row}
use Rattle.table_versions.proofs.store.TableVersions.fits_with_its_row.Goals as goal

-- the row that was found is that of the change
row_is : (c : goal.After-newest_row-before) → option_copied c.newest_row-before.result ≡ row_under (table_nodes c.self.inside.trees.tables (changed_table c.args.change.now)) (changed_bookmark c.args.change.now)
row_is c = c.newest_row-before.ensures ∙ (λ i. row_under (table_nodes c.self.inside.trees.tables (c.table.ensures i)) ((c.as_bytes.ensures ∙ c.bookmark.ensures) i))

is_row : (c : goal.After-newest_row-before) → IfSome (option_copied c.newest_row-before.result) (IsRecordRow (table_long_values c.self.inside.trees.tables (changed_table c.args.change.now)))
is_row c =
    subst (λ (row : Option (List ℕ)). IfSome row (IsRecordRow (table_long_values c.self.inside.trees.tables (changed_table c.args.change.now)))) (sym (row_is c))
    (newest_is_row (table_long_values c.self.inside.trees.tables) c.self.inside.catalog.tables c.self.inside.trees.tables c.self.inside.versions c.self.invariant.kept (changed_table c.args.change.now) (changed_bookmark c.args.change.now))

pub fits-requires : goal.fits-requires
fits-requires c = small_row (table_long_values c.self.inside.trees.tables (changed_table c.args.change.now)) (option_copied c.newest_row-before.result) (is_row c)

pub returns : goal.returns
returns c =
    let sizes : RowSizes = record { bytes = c.size_of_a_row.ensures.bytes; size = c.size_of_a_row.ensures.record_size } in
    c.fits.ensures
    ∙ same_room (table_long_values c.self.inside.trees.tables) sizes c.args.by c.args.change.now (option_copied c.newest_row-before.result) (is_row c.before) c.self.inside.versions c.args.self.now.store
    (ap (λ (v : StoredVersions). v.store.held) c.self.view_is)
    (ap (option_map (record_of (table_long_values c.self.inside.trees.tables (changed_table c.args.change.now)))) (row_is c.before)
    ∙ sym (newest_at (table_long_values c.self.inside.trees.tables) c.self.inside.trees.tables c.self.inside.catalog.tables c.self.invariant.kept.numbers c.nodes_are_in_order.ensures.sorted (changed_table c.args.change.now) (changed_bookmark c.args.change.now))
    ∙ ap (λ (v : StoredVersions). record_in v.store.tables (changed_table c.args.change.now) (changed_bookmark c.args.change.now)) c.self.view_is)
