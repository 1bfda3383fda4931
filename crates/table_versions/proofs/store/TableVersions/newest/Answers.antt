use Rattle.std.proofs.Common.{List, ℕ, Option, option_map, sym, ap, subst, ◌∙◌}
use Rattle.std.specs.Prelude.{IfSome}
use Rattle.database_state.specs.Table.{record_in}
use Rattle.table_trees.specs.StoredTables.{table_long_values}
use Rattle.stored_variants.specs.RecordRows.{IsRecordRow, record_of}
use Rattle.stored_variants.specs.StoredVersions.{StoredVersions}
use Rattle.stored_variants.proofs.Tables.{newest_at, newest_is_row}
use Rattle.table_versions.proofs.store.TableVersions.newest.Goals as goal

pub in_place-requires : goal.in_place-requires
in_place-requires c =
    let longs = table_long_values c.self.inside.trees.tables in
    subst (λ (o : Option (List ℕ)). IfSome o (IsRecordRow (longs c.args.table.0))) (sym c.newest_row.ensures)
    (newest_is_row longs c.self.inside.catalog.tables c.self.inside.trees.tables c.self.inside.versions c.self.invariant.kept c.args.table.0 c.args.bookmark.now)

pub returns : goal.returns
returns c =
    let longs = table_long_values c.self.inside.trees.tables in
    c.in_place.ensures
    ∙ ap (option_map (record_of (longs c.args.table.0))) c.newest_row.ensures
    ∙ sym (newest_at longs c.self.inside.trees.tables c.self.inside.catalog.tables c.self.invariant.kept.numbers c.nodes_are_in_order.ensures.sorted c.args.table.0 c.args.bookmark.now)
    ∙ ap (λ (v : StoredVersions). record_in v.store.tables c.args.table.0 c.args.bookmark.now) c.self.view_is
