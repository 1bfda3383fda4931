use Rattle.std.proofs.Common.{List, ℕ, Option, map, option_map, sym, ap, subst, ◌∙◌}
use Rattle.std.specs.Prelude.{IfSome}
use Rattle.column_set.specs.RecordValues.{RecordFields}
use Rattle.database_state.specs.Table.{record_in}
use Rattle.table_trees.specs.StoredTables.{table_long_values, table_nodes}
use Rattle.version_store.specs.HeldChanges.{seen_row}
use Rattle.laws_engine.specs.HeldRecords.{seen_record}
use Rattle.stored_variants.specs.RecordRows.{IsRecordRow, record_of, row_under}
use Rattle.stored_variants.specs.StoredVersions.{StoredVersions}
use Rattle.stored_variants.specs.VersionsView.{with_newest}
use Rattle.stored_variants.proofs.Tables.{newest_at, newest_is_row}
use Rattle.table_versions.proofs.SeenRecords.{record_seen, row_seen_is, seen_is, seen_is_row, seen_shows}
use Rattle.table_versions.proofs.store.TableVersions.look_up.Goals as goal

pub in_place-requires : goal.in_place-requires
in_place-requires c =
    let longs = table_long_values c.self.inside.trees.tables in
    let vals = longs c.args.table.0 in
    let row = row_under (table_nodes c.self.inside.trees.tables c.args.table.0) c.args.bookmark.now in
    let seen = seen_row c.args.table.0 c.args.bookmark.now c.args.reader c.self.inside.versions in
    subst (λ (o : Option (List ℕ)). IfSome o (IsRecordRow vals)) (sym c.shown_row-row.ensures)
    (row_seen_is vals row seen (newest_is_row longs c.self.inside.catalog.tables c.self.inside.trees.tables c.self.inside.versions c.self.invariant.kept c.args.table.0 c.args.bookmark.now)
    (seen_is_row longs c.self.inside.catalog.tables c.self.inside.trees.tables c.args.table.0 c.args.bookmark.now c.args.reader c.self.inside.versions c.self.invariant.kept.changes))

pub returns : goal.returns
returns c =
    let longs = table_long_values c.self.inside.trees.tables in
    let vals = longs c.args.table.0 in
    let row = row_under (table_nodes c.self.inside.trees.tables c.args.table.0) c.args.bookmark.now in
    let seen = seen_row c.args.table.0 c.args.bookmark.now c.args.reader c.self.inside.versions in
    let newest = record_in (map (with_newest c.self.inside.trees.tables) c.self.inside.catalog.tables) c.args.table.0 c.args.bookmark.now in
    c.in_place.ensures
    ∙ ap (option_map (record_of vals)) c.shown_row-row.ensures
    ∙ seen_shows vals row seen
    ∙ ap (λ (o : Option RecordFields). record_seen vals o seen) (sym (newest_at longs c.self.inside.trees.tables c.self.inside.catalog.tables c.self.invariant.kept.numbers c.nodes_are_in_order.ensures.sorted c.args.table.0 c.args.bookmark.now))
    ∙ sym (seen_is longs c.args.table.0 c.args.bookmark.now c.args.reader newest c.self.inside.versions)
    ∙ ap (λ (v : StoredVersions). seen_record c.args.table.0 c.args.bookmark.now c.args.reader (record_in v.store.tables c.args.table.0 c.args.bookmark.now) v.store.held) c.self.view_is
