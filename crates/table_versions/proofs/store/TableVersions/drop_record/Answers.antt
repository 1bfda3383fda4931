use Rattle.std.proofs.Common.{◌≡◌, ℕ, ◌≤◌, List, [], ◌∷◌, ◌++◌, length, Option, option_map, sym, ap, subst, ◌∙◌}
use Rattle.std.specs.Prelude.{IfSome, is_some, option_and_then, option_copied, unwrap_or}
use Rattle.column_set.specs.ChangedRecords.{changed_bookmark, changed_table}
use Rattle.database_state.specs.Table.{record_in}
use Rattle.table_trees.specs.StoredTables.{table_long_values, table_nodes}
use Rattle.version_store.specs.HeldChanges.{has_room as has_room_for_row, new_change}
use Rattle.stored_variants.specs.RecordRows.{IsRecordRow, record_of, row_in_node, row_under}
use Rattle.stored_variants.specs.StoredVersions.{StoredVersions, has_room}
use Rattle.stored_variants.proofs.Dropped.{TreeLaws, emptied}
use Rattle.table_versions.proofs.DroppedRecords.{IsAfterDrop, after_drop, has_extent, row_there}
use Rattle.table_versions.proofs.Span.{RowSizes, same_room, small_row}
use Rattle.stored_variants.proofs.Tables.{newest_at, newest_is_row}
use Rattle.table_versions.proofs.StepInStore.{parts_of_store, still_shown}
use Rattle.table_versions.proofs.store.TableVersions.drop_record.Goals as goal

pub push-requires : goal.push-requires
push-requires c =
    subst (λ (row : Option (List ℕ)). length (unwrap_or row []) ≤ 4096) (sym (c.row_in_node-before.ensures ∙ ap (option_and_then row_in_node) c.get.ensures))
    (small_row (table_long_values c.self.inside.trees.tables c.table-table.result.0) (row_under (table_nodes c.self.inside.trees.tables c.table-table.result.0) c.as_bytes-bookmark.result.now)
    (newest_is_row (table_long_values c.self.inside.trees.tables) c.self.inside.catalog.tables c.self.inside.trees.tables c.self.inside.versions c.self.invariant.kept c.table-table.result.0 c.as_bytes-bookmark.result.now))

pub replace-requires : goal.replace-requires
replace-requires c =
    has_extent (table_nodes c.self.inside.trees.tables c.table-table.result.0) c.as_bytes-bookmark.result.now
    ((λ i. is_some (row_under (table_nodes c.self.inside.trees.tables (c.table-table.ensures i)) ((c.as_bytes-bookmark.ensures ∙ c.bookmark.ensures) i)))
    ∙ row_there c.self.inside.newest_put c.self.inside.catalog c.self.inside.trees.tables c.self.inside.versions c.self.invariant.kept c.nodes_are_in_order.ensures.sorted c.args.self.now c.self.view_is
    (changed_table c.args.change.now) (changed_bookmark c.args.change.now) c.requires.there)

after : (c : goal.After-nodes_are_in_order-in-Ok) → IsAfterDrop c.self.inside.newest_put c.self.inside.catalog c.replace.new.self.tables c.push.new.self c.args.by c.args.change.now c.args.self.now
after c =
    let sizes : RowSizes = record { bytes = c.size_of_a_row.ensures.bytes; size = c.size_of_a_row.ensures.record_size } in
    let laws : TreeLaws = record {
      named = c.nodes_after_a_change.ensures.named;
      others = c.nodes_after_a_change.ensures.others;
      indexes = c.nodes_after_a_change.ensures.indexes;
      values = c.nodes_after_a_change.ensures.long_values;
      replaced = c.nodes_by_bookmark.ensures.replaced;
    } in
    after_drop sizes laws c.values_keep_their_counts.ensures.changed c.self.inside.newest_put c.self.inside.catalog c.self.inside.trees.tables c.self.inside.versions (parts_of_store c.self.inside.newest_put c.self.inside.catalog c.self.inside.trees c.self.inside.versions c.self.invariant) c.nodes_are_in_order.ensures.sorted c.nodes_are_in_order.ensures.short c.args.self.now c.self.view_is
    c.args.by c.args.change.now c.requires.drop c.requires.there
    c.replace.new.self.tables (c.replace.ensures.tables ∙ (λ i. emptied c.self.inside.trees.tables (c.table-table.ensures i) ((c.as_bytes-bookmark.ensures ∙ c.bookmark.ensures) i)))
    (λ other. c.nodes_after_a_change.ensures.long_values c.self.inside.trees.tables (changed_table c.args.change.now) other _) c.nodes_are_in_order-in-Ok.ensures.sorted
    c.push.new.self
    (c.in-Ok.ensures.ok
    ∙ ap (λ (row : Option (List ℕ)). c.self.inside.versions ++ new_change c.args.by c.args.change.now row ∷ [])
    (c.row_in_node-before.ensures ∙ ap (option_and_then row_in_node) c.get.ensures ∙ (λ i. row_under (table_nodes c.self.inside.trees.tables (c.table-table.ensures i)) ((c.as_bytes-bookmark.ensures ∙ c.bookmark.ensures) i))))

pub invariant_of-self : goal.invariant_of-self
invariant_of-self c = record {
  kept = (after c).stored.kept;
  shows = still_shown c.self.inside.catalog c.self.inside.trees.catalog c.replace.new.self.catalog c.replace.ensures.catalog c.self.invariant.shows;
  counts = (after c).stored.counts;
  entries = (after c).stored.entries;
}

pub returns-in-Ok-clause-ok : goal.returns-in-Ok-clause-ok
returns-in-Ok-clause-ok c = (after c).shown

pub returns-in-Ok-clause-over : goal.returns-in-Ok-clause-over
returns-in-Ok-clause-over c =
    let sizes : RowSizes = record { bytes = c.size_of_a_row.ensures.bytes; size = c.size_of_a_row.ensures.record_size } in
    let row_is = c.row_in_node-before.ensures ∙ ap (option_and_then row_in_node) c.get.ensures ∙ (λ i. row_under (table_nodes c.self.inside.trees.tables (c.table-table.ensures i)) ((c.as_bytes-bookmark.ensures ∙ c.bookmark.ensures) i)) in
    let is_row : IfSome (option_copied c.row_in_node-before.result) (IsRecordRow (table_long_values c.self.inside.trees.tables (changed_table c.args.change.now))) = subst (λ (row : Option (List ℕ)). IfSome row (IsRecordRow (table_long_values c.self.inside.trees.tables (changed_table c.args.change.now)))) (sym row_is)
    (newest_is_row (table_long_values c.self.inside.trees.tables) c.self.inside.catalog.tables c.self.inside.trees.tables c.self.inside.versions c.self.invariant.kept (changed_table c.args.change.now) (changed_bookmark c.args.change.now)) in
    let room : has_room_for_row c.args.by c.args.change.now (option_copied c.row_in_node-before.result) c.self.inside.versions ≡ has_room c.args.by c.args.change.now c.args.self.now.store =
    same_room (table_long_values c.self.inside.trees.tables) sizes c.args.by c.args.change.now (option_copied c.row_in_node-before.result) is_row c.self.inside.versions c.args.self.now.store (ap (λ (v : StoredVersions). v.store.held) c.self.view_is)
    (ap (option_map (record_of (table_long_values c.self.inside.trees.tables (changed_table c.args.change.now)))) row_is
    ∙ sym (newest_at (table_long_values c.self.inside.trees.tables) c.self.inside.trees.tables c.self.inside.catalog.tables c.self.invariant.kept.numbers c.nodes_are_in_order.ensures.sorted (changed_table c.args.change.now) (changed_bookmark c.args.change.now))
    ∙ ap (λ (v : StoredVersions). record_in v.store.tables (changed_table c.args.change.now) (changed_bookmark c.args.change.now)) c.self.view_is) in
    (λ e. sym room ∙ c.in-Ok.ensures.over.0 e, λ e. c.in-Ok.ensures.over.1 (room ∙ e))

pub returns-in-Err-clause-over : goal.returns-in-Err-clause-over
returns-in-Err-clause-over c =
    let sizes : RowSizes = record { bytes = c.size_of_a_row.ensures.bytes; size = c.size_of_a_row.ensures.record_size } in
    let row_is = c.row_in_node-before.ensures ∙ ap (option_and_then row_in_node) c.get.ensures ∙ (λ i. row_under (table_nodes c.self.inside.trees.tables (c.table-table.ensures i)) ((c.as_bytes-bookmark.ensures ∙ c.bookmark.ensures) i)) in
    let is_row : IfSome (option_copied c.row_in_node-before.result) (IsRecordRow (table_long_values c.self.inside.trees.tables (changed_table c.args.change.now))) = subst (λ (row : Option (List ℕ)). IfSome row (IsRecordRow (table_long_values c.self.inside.trees.tables (changed_table c.args.change.now)))) (sym row_is)
    (newest_is_row (table_long_values c.self.inside.trees.tables) c.self.inside.catalog.tables c.self.inside.trees.tables c.self.inside.versions c.self.invariant.kept (changed_table c.args.change.now) (changed_bookmark c.args.change.now)) in
    let room : has_room_for_row c.args.by c.args.change.now (option_copied c.row_in_node-before.result) c.self.inside.versions ≡ has_room c.args.by c.args.change.now c.args.self.now.store =
    same_room (table_long_values c.self.inside.trees.tables) sizes c.args.by c.args.change.now (option_copied c.row_in_node-before.result) is_row c.self.inside.versions c.args.self.now.store (ap (λ (v : StoredVersions). v.store.held) c.self.view_is)
    (ap (option_map (record_of (table_long_values c.self.inside.trees.tables (changed_table c.args.change.now)))) row_is
    ∙ sym (newest_at (table_long_values c.self.inside.trees.tables) c.self.inside.trees.tables c.self.inside.catalog.tables c.self.invariant.kept.numbers c.nodes_are_in_order.ensures.sorted (changed_table c.args.change.now) (changed_bookmark c.args.change.now))
    ∙ ap (λ (v : StoredVersions). record_in v.store.tables (changed_table c.args.change.now) (changed_bookmark c.args.change.now)) c.self.view_is) in
    (λ e. sym room ∙ c.in-Err.ensures.over.0 e, λ e. c.in-Err.ensures.over.1 (room ∙ e))
