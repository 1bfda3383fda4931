use Rattle.std.proofs.Common.{◌≡◌, ◌≤◌, ℕ, List, Some, length, refl, sym, ap, subst, ◌∙◌}
use Rattle.column_set.specs.RowReading.{row_in}
use Rattle.table_trees.specs.StoredNodes.{node_after}
use Rattle.table_trees.specs.StoredTables.{table_long_values, table_nodes}
use Rattle.std.specs.Prelude.{option_and_then}
use Rattle.long_rows.specs.ReferenceCounts.{NamesNoOther}
use Rattle.variant_trees.specs.LostColumns.{row_without}
use Rattle.stored_variants.specs.RecordRows.{IsRecordRow, row_in_node, row_under}
use Rattle.stored_variants.proofs.NodeWalks.{IsNode, next_node}
use Rattle.variant_trees.proofs.LostRows.{RowLaws, row_is}
use Rattle.variant_trees.proofs.RemovedValues.{fewer_names, none_lost, one_lost, read_now}
use Rattle.variant_trees.proofs.RewrittenNodes.{all_rewritten, moved_room, next_table, next_there, none_rewritten, replaced_next, room_of_next, row_of_next, same_next, smaller_next}
use Rattle.variant_trees.proofs.UndoneThere.{row_some, spelled_row}
use Rattle.variant_trees.proofs.rewriting.remove_values.Goals.{In-Some}
use Rattle.variant_trees.proofs.rewriting.remove_values.Goals as goal

pub loop-bookmark-init : goal.loop-bookmark-init
loop-bookmark-init c = record {
  done = record {
    nodes = sym (none_rewritten c.args.column.0 (table_nodes c.args.trees.now.tables c.args.table.0));
    others = λ id apart. refl;
    indexes = λ id. refl;
    numbers = refl;
  };
  lost = none_lost c.args.table.0 c.args.trees.now.tables c.requires.rows (c.requires.counts c.args.table.0);
  catalog = refl;
}

-- the node that was found, and its row
found_of : (c : In-Some) → node_after c.loop-bookmark.place (table_nodes c.args.trees.now.tables c.args.table.0) ≡ Some (c.in-Some.bookmark.now, c.in-Some.bytes.now)
found_of c =
    sym (same_next c.loop-bookmark.place c.args.column.0 (table_nodes c.args.trees.now.tables c.args.table.0)) ∙ sym (ap (node_after c.loop-bookmark.place) c.loop-bookmark.invariant.done.nodes) ∙ sym c.in-Some.ensures.node

next_of : (c : In-Some) → IsNode c.loop-bookmark.place (table_nodes c.args.trees.now.tables c.args.table.0) c.in-Some.bookmark.now c.in-Some.bytes.now
next_of c = next_node c.loop-bookmark.place (table_nodes c.args.trees.now.tables c.args.table.0) c.in-Some.bookmark.now c.in-Some.bytes.now (found_of c)

row_of : (c : In-Some) → IsRecordRow (table_long_values c.args.trees.now.tables c.args.table.0) c.in-Some.bytes.now
row_of c = row_of_next (table_long_values c.args.trees.now.tables c.args.table.0) c.loop-bookmark.place (table_nodes c.args.trees.now.tables c.args.table.0) c.in-Some.bookmark.now c.in-Some.bytes.now (next_of c) c.requires.rows

pub write_without_column-requires-clause-formed : goal.write_without_column-requires-clause-formed
write_without_column-requires-clause-formed c = spelled_row (table_long_values c.args.trees.now.tables c.args.table.0) c.in-Some.bytes.now (row_of (goal.at.write_without_column-requires-clause-formed c).In-Some)

pub write_without_column-requires-clause-small : goal.write_without_column-requires-clause-small
write_without_column-requires-clause-small c = (row_of (goal.at.write_without_column-requires-clause-small c).In-Some).small

pub copy_row-requires : goal.copy_row-requires
copy_row-requires c = (row_of (goal.at.copy_row-requires c).In-Some).small

pub rewrite_row-requires-clause-table : goal.rewrite_row-requires-clause-table
rewrite_row-requires-clause-table c =
    let place = (goal.at.rewrite_row-requires-clause-table c).In-Some in
    let row = row_of place in
    let laws : RowLaws = record {
      read = c.rows_are_read_back.ensures;
      formed = c.rows_without_a_column.ensures.formed;
      shorter = c.rows_without_a_column.ensures.shorter;
      shown = c.rows_without_a_columns_values.ensures.shown;
      stand = c.rows_without_a_columns_values.ensures.stand;
    } in
    let written : c.as_slice-in-Some.result.now ≡ row_without c.args.column.0 c.in-Some.bytes.now = c.as_slice-in-Some.ensures.value ∙ c.write_without_column.ensures (row_in c.in-Some.bytes.now) row.formed row.spelled in
    let copied : c.as_slice.result.now ≡ c.in-Some.bytes.now = c.as_slice.ensures.value ∙ c.copy_row.ensures in
    let key : c.as_bytes.result.now ≡ c.in-Some.bookmark.now = c.as_bytes.ensures.value ∙ c.own_entry-found.ensures.key in
    let got = next_there c.args.table.0 c.loop-bookmark.place c.args.column.0 c.args.trees.now.tables c.loop-bookmark.trees.tables c.in-Some.bookmark.now c.in-Some.bytes.now (next_of place) c.loop-bookmark.invariant.done in
    let some = row_some (table_long_values c.args.trees.now.tables c.args.table.0) c.in-Some.bytes.now row in
    let now = read_now c.args.table.0 c.args.trees.now.tables c.loop-bookmark.trees.tables c.in-Some.bookmark.now c.in-Some.bytes.now c.loop-bookmark.invariant.lost got some in
    next_table c.args.table.0 c.loop-bookmark.place c.args.column.0 c.args.trees.now.tables c.loop-bookmark.trees.tables c.in-Some.bookmark.now c.in-Some.bytes.now (next_of place) c.loop-bookmark.invariant.done

pub rewrite_row-requires-clause-node : goal.rewrite_row-requires-clause-node
rewrite_row-requires-clause-node c =
    let place = (goal.at.rewrite_row-requires-clause-node c).In-Some in
    let row = row_of place in
    let laws : RowLaws = record {
      read = c.rows_are_read_back.ensures;
      formed = c.rows_without_a_column.ensures.formed;
      shorter = c.rows_without_a_column.ensures.shorter;
      shown = c.rows_without_a_columns_values.ensures.shown;
      stand = c.rows_without_a_columns_values.ensures.stand;
    } in
    let written : c.as_slice-in-Some.result.now ≡ row_without c.args.column.0 c.in-Some.bytes.now = c.as_slice-in-Some.ensures.value ∙ c.write_without_column.ensures (row_in c.in-Some.bytes.now) row.formed row.spelled in
    let copied : c.as_slice.result.now ≡ c.in-Some.bytes.now = c.as_slice.ensures.value ∙ c.copy_row.ensures in
    let key : c.as_bytes.result.now ≡ c.in-Some.bookmark.now = c.as_bytes.ensures.value ∙ c.own_entry-found.ensures.key in
    let got = next_there c.args.table.0 c.loop-bookmark.place c.args.column.0 c.args.trees.now.tables c.loop-bookmark.trees.tables c.in-Some.bookmark.now c.in-Some.bytes.now (next_of place) c.loop-bookmark.invariant.done in
    let some = row_some (table_long_values c.args.trees.now.tables c.args.table.0) c.in-Some.bytes.now row in
    let now = read_now c.args.table.0 c.args.trees.now.tables c.loop-bookmark.trees.tables c.in-Some.bookmark.now c.in-Some.bytes.now c.loop-bookmark.invariant.lost got some in
    ap (row_under (table_nodes c.loop-bookmark.trees.tables c.args.table.0)) key ∙ ap (option_and_then row_in_node) got ∙ some ∙ ap (λ (bytes : List ℕ). Some bytes) (sym copied)

pub rewrite_row-requires-clause-row : goal.rewrite_row-requires-clause-row
rewrite_row-requires-clause-row c =
    let place = (goal.at.rewrite_row-requires-clause-row c).In-Some in
    let row = row_of place in
    let laws : RowLaws = record {
      read = c.rows_are_read_back.ensures;
      formed = c.rows_without_a_column.ensures.formed;
      shorter = c.rows_without_a_column.ensures.shorter;
      shown = c.rows_without_a_columns_values.ensures.shown;
      stand = c.rows_without_a_columns_values.ensures.stand;
    } in
    let written : c.as_slice-in-Some.result.now ≡ row_without c.args.column.0 c.in-Some.bytes.now = c.as_slice-in-Some.ensures.value ∙ c.write_without_column.ensures (row_in c.in-Some.bytes.now) row.formed row.spelled in
    let copied : c.as_slice.result.now ≡ c.in-Some.bytes.now = c.as_slice.ensures.value ∙ c.copy_row.ensures in
    let key : c.as_bytes.result.now ≡ c.in-Some.bookmark.now = c.as_bytes.ensures.value ∙ c.own_entry-found.ensures.key in
    let got = next_there c.args.table.0 c.loop-bookmark.place c.args.column.0 c.args.trees.now.tables c.loop-bookmark.trees.tables c.in-Some.bookmark.now c.in-Some.bytes.now (next_of place) c.loop-bookmark.invariant.done in
    let some = row_some (table_long_values c.args.trees.now.tables c.args.table.0) c.in-Some.bytes.now row in
    let now = read_now c.args.table.0 c.args.trees.now.tables c.loop-bookmark.trees.tables c.in-Some.bookmark.now c.in-Some.bytes.now c.loop-bookmark.invariant.lost got some in
    subst (IsRecordRow (table_long_values c.loop-bookmark.trees.tables c.args.table.0)) (sym copied) now.0

pub rewrite_row-requires-clause-rewritten : goal.rewrite_row-requires-clause-rewritten
rewrite_row-requires-clause-rewritten c =
    let place = (goal.at.rewrite_row-requires-clause-rewritten c).In-Some in
    let row = row_of place in
    let laws : RowLaws = record {
      read = c.rows_are_read_back.ensures;
      formed = c.rows_without_a_column.ensures.formed;
      shorter = c.rows_without_a_column.ensures.shorter;
      shown = c.rows_without_a_columns_values.ensures.shown;
      stand = c.rows_without_a_columns_values.ensures.stand;
    } in
    let written : c.as_slice-in-Some.result.now ≡ row_without c.args.column.0 c.in-Some.bytes.now = c.as_slice-in-Some.ensures.value ∙ c.write_without_column.ensures (row_in c.in-Some.bytes.now) row.formed row.spelled in
    let copied : c.as_slice.result.now ≡ c.in-Some.bytes.now = c.as_slice.ensures.value ∙ c.copy_row.ensures in
    let key : c.as_bytes.result.now ≡ c.in-Some.bookmark.now = c.as_bytes.ensures.value ∙ c.own_entry-found.ensures.key in
    let got = next_there c.args.table.0 c.loop-bookmark.place c.args.column.0 c.args.trees.now.tables c.loop-bookmark.trees.tables c.in-Some.bookmark.now c.in-Some.bytes.now (next_of place) c.loop-bookmark.invariant.done in
    let some = row_some (table_long_values c.args.trees.now.tables c.args.table.0) c.in-Some.bytes.now row in
    let now = read_now c.args.table.0 c.args.trees.now.tables c.loop-bookmark.trees.tables c.in-Some.bookmark.now c.in-Some.bytes.now c.loop-bookmark.invariant.lost got some in
    subst (IsRecordRow (table_long_values c.loop-bookmark.trees.tables c.args.table.0)) (sym written) (row_is (table_long_values c.loop-bookmark.trees.tables c.args.table.0) laws c.args.column.0 c.in-Some.bytes.now now.0)

pub rewrite_row-requires-clause-fewer : goal.rewrite_row-requires-clause-fewer
rewrite_row-requires-clause-fewer c =
    let place = (goal.at.rewrite_row-requires-clause-fewer c).In-Some in
    let row = row_of place in
    let laws : RowLaws = record {
      read = c.rows_are_read_back.ensures;
      formed = c.rows_without_a_column.ensures.formed;
      shorter = c.rows_without_a_column.ensures.shorter;
      shown = c.rows_without_a_columns_values.ensures.shown;
      stand = c.rows_without_a_columns_values.ensures.stand;
    } in
    let written : c.as_slice-in-Some.result.now ≡ row_without c.args.column.0 c.in-Some.bytes.now = c.as_slice-in-Some.ensures.value ∙ c.write_without_column.ensures (row_in c.in-Some.bytes.now) row.formed row.spelled in
    let copied : c.as_slice.result.now ≡ c.in-Some.bytes.now = c.as_slice.ensures.value ∙ c.copy_row.ensures in
    let key : c.as_bytes.result.now ≡ c.in-Some.bookmark.now = c.as_bytes.ensures.value ∙ c.own_entry-found.ensures.key in
    let got = next_there c.args.table.0 c.loop-bookmark.place c.args.column.0 c.args.trees.now.tables c.loop-bookmark.trees.tables c.in-Some.bookmark.now c.in-Some.bytes.now (next_of place) c.loop-bookmark.invariant.done in
    let some = row_some (table_long_values c.args.trees.now.tables c.args.table.0) c.in-Some.bytes.now row in
    let now = read_now c.args.table.0 c.args.trees.now.tables c.loop-bookmark.trees.tables c.in-Some.bookmark.now c.in-Some.bytes.now c.loop-bookmark.invariant.lost got some in
    subst (λ (bytes : List ℕ). NamesNoOther (Some (row_in bytes)) (Some (row_in c.as_slice.result.now))) (sym written)
    (subst (λ (bytes : List ℕ). NamesNoOther (Some (row_in (row_without c.args.column.0 c.in-Some.bytes.now))) (Some (row_in bytes))) (sym copied)
    (fewer_names (table_long_values c.args.trees.now.tables c.args.table.0) laws c.rows_without_a_columns_values.ensures.names c.args.column.0 c.in-Some.bytes.now row))

pub rewrite_row-requires-clause-room : goal.rewrite_row-requires-clause-room
rewrite_row-requires-clause-room c =
    let place = (goal.at.rewrite_row-requires-clause-room c).In-Some in
    let row = row_of place in
    let laws : RowLaws = record {
      read = c.rows_are_read_back.ensures;
      formed = c.rows_without_a_column.ensures.formed;
      shorter = c.rows_without_a_column.ensures.shorter;
      shown = c.rows_without_a_columns_values.ensures.shown;
      stand = c.rows_without_a_columns_values.ensures.stand;
    } in
    let written : c.as_slice-in-Some.result.now ≡ row_without c.args.column.0 c.in-Some.bytes.now = c.as_slice-in-Some.ensures.value ∙ c.write_without_column.ensures (row_in c.in-Some.bytes.now) row.formed row.spelled in
    let copied : c.as_slice.result.now ≡ c.in-Some.bytes.now = c.as_slice.ensures.value ∙ c.copy_row.ensures in
    let key : c.as_bytes.result.now ≡ c.in-Some.bookmark.now = c.as_bytes.ensures.value ∙ c.own_entry-found.ensures.key in
    let got = next_there c.args.table.0 c.loop-bookmark.place c.args.column.0 c.args.trees.now.tables c.loop-bookmark.trees.tables c.in-Some.bookmark.now c.in-Some.bytes.now (next_of place) c.loop-bookmark.invariant.done in
    let some = row_some (table_long_values c.args.trees.now.tables c.args.table.0) c.in-Some.bytes.now row in
    let now = read_now c.args.table.0 c.args.trees.now.tables c.loop-bookmark.trees.tables c.in-Some.bookmark.now c.in-Some.bytes.now c.loop-bookmark.invariant.lost got some in
    let low : length (row_without c.args.column.0 c.in-Some.bytes.now) ≤ length c.in-Some.bytes.now =
    subst (λ (bytes : List ℕ). length (row_without c.args.column.0 c.in-Some.bytes.now) ≤ length bytes) (sym row.spelled) (c.rows_without_a_column.ensures.shorter (row_in c.in-Some.bytes.now) c.args.column.0) in
    moved_room _ (table_nodes c.loop-bookmark.trees.tables c.args.table.0) c.in-Some.bookmark.now c.as_bytes.result.now (row_without c.args.column.0 c.in-Some.bytes.now) c.as_slice-in-Some.result.now
    (sym c.loop-bookmark.invariant.done.nodes) (sym key) (sym written)
    (room_of_next c.loop-bookmark.place c.args.column.0 (table_nodes c.args.trees.now.tables c.args.table.0) c.in-Some.bookmark.now c.in-Some.bytes.now (next_of place) (c.nodes_are_in_order.ensures.short c.args.table.0) low)

pub loop-bookmark-smaller : goal.loop-bookmark-smaller
loop-bookmark-smaller c =
    smaller_next c.loop-bookmark.place (table_nodes c.args.trees.now.tables c.args.table.0) c.in-Some.bookmark.now c.in-Some.bytes.now c.own_entry-found.result.key c.own_entry-found.result.bookmark
    (found_of (goal.at.loop-bookmark-smaller c).In-Some) c.own_entry-found.ensures.key c.own_entry-found.ensures.bookmark

pub loop-bookmark-preserved : goal.loop-bookmark-preserved
loop-bookmark-preserved c =
    let place = (goal.at.loop-bookmark-preserved c).In-Some in
    let row = row_of place in
    let laws : RowLaws = record {
      read = c.rows_are_read_back.ensures;
      formed = c.rows_without_a_column.ensures.formed;
      shorter = c.rows_without_a_column.ensures.shorter;
      shown = c.rows_without_a_columns_values.ensures.shown;
      stand = c.rows_without_a_columns_values.ensures.stand;
    } in
    let written : c.as_slice-in-Some.result.now ≡ row_without c.args.column.0 c.in-Some.bytes.now = c.as_slice-in-Some.ensures.value ∙ c.write_without_column.ensures (row_in c.in-Some.bytes.now) row.formed row.spelled in
    let copied : c.as_slice.result.now ≡ c.in-Some.bytes.now = c.as_slice.ensures.value ∙ c.copy_row.ensures in
    let key : c.as_bytes.result.now ≡ c.in-Some.bookmark.now = c.as_bytes.ensures.value ∙ c.own_entry-found.ensures.key in
    let got = next_there c.args.table.0 c.loop-bookmark.place c.args.column.0 c.args.trees.now.tables c.loop-bookmark.trees.tables c.in-Some.bookmark.now c.in-Some.bytes.now (next_of place) c.loop-bookmark.invariant.done in
    let some = row_some (table_long_values c.args.trees.now.tables c.args.table.0) c.in-Some.bytes.now row in
    let now = read_now c.args.table.0 c.args.trees.now.tables c.loop-bookmark.trees.tables c.in-Some.bookmark.now c.in-Some.bytes.now c.loop-bookmark.invariant.lost got some in record {
      done =
          replaced_next c.args.table.0 c.loop-bookmark.place c.args.column.0 c.args.trees.now.tables c.loop-bookmark.trees.tables c.in-Some.bookmark.now c.in-Some.bytes.now (next_of place) (c.nodes_are_in_order.ensures.sorted c.args.table.0) c.loop-bookmark.invariant.done
          c.as_bytes.result.now c.own_entry-found.result.key c.own_entry-found.result.bookmark c.as_slice-in-Some.result.now key c.own_entry-found.ensures.key c.own_entry-found.ensures.bookmark written
          c.rewrite_row.new.trees.tables c.rewrite_row.ensures.nodes;
      lost =
          one_lost laws c.nodes_by_bookmark.ensures.replaced c.args.table.0 c.args.column.0 c.args.trees.now.tables c.loop-bookmark.trees.tables c.rewrite_row.new.trees.tables c.in-Some.bookmark.now c.in-Some.bytes.now c.as_bytes.result.now c.as_slice-in-Some.result.now row
          c.loop-bookmark.invariant.lost got key written c.rewrite_row.ensures.nodes c.rewrite_row.ensures.values;
      catalog = c.rewrite_row.ensures.catalog ∙ c.loop-bookmark.invariant.catalog;
    }

pub returns-clause-nodes : goal.returns-clause-nodes
returns-clause-nodes c = record {
  nodes = c.loop-bookmark.invariant.done.nodes
      ∙ all_rewritten c.loop-bookmark.place c.args.column.0 (table_nodes c.args.trees.now.tables c.args.table.0) (c.in_default.ensures.node ∙ ap (node_after c.loop-bookmark.place) c.loop-bookmark.invariant.done.nodes);
  others = c.loop-bookmark.invariant.done.others;
  indexes = c.loop-bookmark.invariant.done.indexes;
  numbers = c.loop-bookmark.invariant.done.numbers;
}

pub returns-clause-values : goal.returns-clause-values
returns-clause-values c = c.loop-bookmark.invariant.lost
