use Rattle.std.proofs.Common.{◌≡◌, ℕ, ◌≤◌, List, length, Option, refl, sym, ap, subst, ◌∙◌}
use Rattle.std.specs.Prelude.{IfSome, IsSomeAnd, pos}
use Rattle.btree_inplace.specs.Order.{extent_in}
use Rattle.column_set.specs.RowReading.{row_in}
use Rattle.table_trees.specs.StoredTables.{StoredTable, table_long_values, table_nodes}
use Rattle.stored_variants.specs.RecordRows.{IsRecordRow}
use Rattle.stored_variants.proofs.Dropped.{TreeLaws, room_in}
use Rattle.variant_trees.proofs.SummedRows.{SumLaws, no_sum_shown, sum_done, written_over}
use Rattle.variant_trees.proofs.sums.add_in_place.Goals as goal

pub replace-requires : goal.replace-requires
replace-requires c =
    let text = c.as_slice.ensures.value ∙ written_over c.in-Some.row.items c.add_to_number.new.row (c.add_to_number.ensures.length ∙ ap length c.as_mut_slice.ensures.value) in
    let long : length c.as_slice.result.now ≡ length c.in-Some.row.items = ap length text ∙ c.add_to_number.ensures.length ∙ ap length c.as_mut_slice.ensures.value in
    subst (λ n. IsSomeAnd (extent_in (table_nodes c.args.trees.now.tables c.args.table.0) c.args.bookmark.now) (λ extent. n ≤ extent)) (sym long)
    (subst (λ (o : Option (List ℕ)). IfSome o (λ row. IsSomeAnd (extent_in (table_nodes c.args.trees.now.tables c.args.table.0) c.args.bookmark.now) (λ extent. length row ≤ extent))) (sym c.in-Some.ensures)
    (room_in (table_nodes c.args.trees.now.tables c.args.table.0) (c.nodes_are_in_order.ensures.short c.args.table.0) c.args.bookmark.now))

pub returns-in-Some-clause-kept : goal.returns-in-Some-clause-kept
returns-in-Some-clause-kept c = λ tables held named kept.
    let rows : SumLaws = record {
      read = c.rows_are_read_back.ensures;
      formed = c.rows_with_another_value.ensures.formed;
      length = c.rows_with_another_value.ensures.length;
    } in
    let laws : TreeLaws = record {
      named = c.nodes_after_a_change.ensures.named;
      others = c.nodes_after_a_change.ensures.others;
      indexes = c.nodes_after_a_change.ensures.indexes;
      values = c.nodes_after_a_change.ensures.long_values;
      replaced = c.nodes_by_bookmark.ensures.replaced;
    } in
    let row = c.in-Some.row.items in
    let is : IsRecordRow (table_long_values c.args.trees.now.tables c.args.table.0) row = subst (λ (o : Option (List ℕ)). IfSome o (IsRecordRow (table_long_values c.args.trees.now.tables c.args.table.0))) (sym c.in-Some.ensures) c.requires in
    let text = c.as_slice.ensures.value ∙ written_over row c.add_to_number.new.row (c.add_to_number.ensures.length ∙ ap length c.as_mut_slice.ensures.value) in
    (sum_done rows laws c.args.trees.now.tables c.replace.new.self.tables c.args.table c.args.bookmark.now row c.args.column c.args.addend c.as_slice.result.now (sym c.in-Some.ensures) c.nodes_are_in_order.ensures.sorted c.nodes_are_in_order-in-Some.ensures.sorted c.replace.ensures.tables
    (λ number found long. text ∙ c.add_to_number.ensures.sum (row_in row) number is.formed (c.as_mut_slice.ensures.value ∙ is.spelled) found long) tables held named kept (pos c.args.addend) refl).kept

pub returns-in-Some-clause-counts : goal.returns-in-Some-clause-counts
returns-in-Some-clause-counts c = λ tables held named kept.
    let rows : SumLaws = record {
      read = c.rows_are_read_back.ensures;
      formed = c.rows_with_another_value.ensures.formed;
      length = c.rows_with_another_value.ensures.length;
    } in
    let laws : TreeLaws = record {
      named = c.nodes_after_a_change.ensures.named;
      others = c.nodes_after_a_change.ensures.others;
      indexes = c.nodes_after_a_change.ensures.indexes;
      values = c.nodes_after_a_change.ensures.long_values;
      replaced = c.nodes_by_bookmark.ensures.replaced;
    } in
    let row = c.in-Some.row.items in
    let is : IsRecordRow (table_long_values c.args.trees.now.tables c.args.table.0) row = subst (λ (o : Option (List ℕ)). IfSome o (IsRecordRow (table_long_values c.args.trees.now.tables c.args.table.0))) (sym c.in-Some.ensures) c.requires in
    let text = c.as_slice.ensures.value ∙ written_over row c.add_to_number.new.row (c.add_to_number.ensures.length ∙ ap length c.as_mut_slice.ensures.value) in
    (sum_done rows laws c.args.trees.now.tables c.replace.new.self.tables c.args.table c.args.bookmark.now row c.args.column c.args.addend c.as_slice.result.now (sym c.in-Some.ensures) c.nodes_are_in_order.ensures.sorted c.nodes_are_in_order-in-Some.ensures.sorted c.replace.ensures.tables
    (λ number found long. text ∙ c.add_to_number.ensures.sum (row_in row) number is.formed (c.as_mut_slice.ensures.value ∙ is.spelled) found long) tables held named kept (pos c.args.addend) refl).counts

pub returns-in-Some-clause-values : goal.returns-in-Some-clause-values
returns-in-Some-clause-values c = λ n. ap (λ (trees : List StoredTable). table_long_values trees n) c.replace.ensures.tables ∙ c.nodes_after_a_change.ensures.long_values c.args.trees.now.tables c.args.table.0 n _

pub returns-in-Some-clause-shown : goal.returns-in-Some-clause-shown
returns-in-Some-clause-shown c = λ tables held named kept amount told.
    let rows : SumLaws = record {
      read = c.rows_are_read_back.ensures;
      formed = c.rows_with_another_value.ensures.formed;
      length = c.rows_with_another_value.ensures.length;
    } in
    let laws : TreeLaws = record {
      named = c.nodes_after_a_change.ensures.named;
      others = c.nodes_after_a_change.ensures.others;
      indexes = c.nodes_after_a_change.ensures.indexes;
      values = c.nodes_after_a_change.ensures.long_values;
      replaced = c.nodes_by_bookmark.ensures.replaced;
    } in
    let row = c.in-Some.row.items in
    let is : IsRecordRow (table_long_values c.args.trees.now.tables c.args.table.0) row = subst (λ (o : Option (List ℕ)). IfSome o (IsRecordRow (table_long_values c.args.trees.now.tables c.args.table.0))) (sym c.in-Some.ensures) c.requires in
    let text = c.as_slice.ensures.value ∙ written_over row c.add_to_number.new.row (c.add_to_number.ensures.length ∙ ap length c.as_mut_slice.ensures.value) in
    (sum_done rows laws c.args.trees.now.tables c.replace.new.self.tables c.args.table c.args.bookmark.now row c.args.column c.args.addend c.as_slice.result.now (sym c.in-Some.ensures) c.nodes_are_in_order.ensures.sorted c.nodes_are_in_order-in-Some.ensures.sorted c.replace.ensures.tables
    (λ number found long. text ∙ c.add_to_number.ensures.sum (row_in row) number is.formed (c.as_mut_slice.ensures.value ∙ is.spelled) found long) tables held named kept amount told).shown

pub returns-in-None-clause-shown : goal.returns-in-None-clause-shown
returns-in-None-clause-shown c = λ tables held named kept amount is. no_sum_shown (table_long_values c.args.trees.now.tables) c.args.trees.now.tables c.nodes_are_in_order.ensures.sorted c.args.table c.args.bookmark.now c.args.column amount (sym c.in-None.ensures) tables
