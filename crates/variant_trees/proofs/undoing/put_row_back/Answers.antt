use Rattle.std.proofs.Common.{◌≡◌, ℕ, true, List, [], map, Option, Some, None, sym, ap, subst, ◌∙◌}
use Rattle.std.specs.Prelude.{IfSome, IsTrue, is_some, option_copied, unwrap_or}
use Rattle.std.specs.List.{AllByRecursion}
use Rattle.column_set.specs.RowReading.{row_in}
use Rattle.column_set.specs.Rows.{IsRowBytes}
use Rattle.cursor_nav.specs.Places.{are_sorted}
use Rattle.long_rows.specs.WholeRows.{is_whole}
use Rattle.long_value.specs.Values.{Values}
use Rattle.table_trees.specs.StoredNodes.{bookmark_entries}
use Rattle.table_trees.specs.StoredTables.{StoredTable, table_long_values, table_nodes}
use Rattle.version_store.specs.HeldChanges.{HeldChange}
use Rattle.variant_trees.specs.GoneKeys.{AreRows}
use Rattle.variant_trees.specs.LeftVariants.{AreLeft}
use Rattle.stored_variants.specs.CountedValues.{newest_rows}
use Rattle.stored_variants.specs.PutRecords.{HasKeysOf}
use Rattle.stored_variants.specs.RecordRows.{IsRecordRow, TableValues, record_of, row_under}
use Rattle.stored_variants.specs.VersionsKept.{AreKeptWith}
use Rattle.stored_variants.specs.VersionsView.{with_newest_by}
use Rattle.stored_variants.proofs.Dropped.{TreeLaws}
use Rattle.variant_trees.proofs.PutsBack.{Reads, all_back, back_spelled, left_back, newest_read, node_of_bytes, none_back, room_read, rows_back, rows_unchanged, shown_back, shown_unchanged}
use Rattle.variant_trees.proofs.Refilled.{Fills}
use Rattle.variant_trees.proofs.UndoneThere.{fills, mapped_at, node_of_row, spelled_row}
use Rattle.variant_trees.proofs.undoing.put_row_back.Goals as goal

pub replace-requires : goal.replace-requires
replace-requires c =
    let reads : Reads c.args.schema.now c.args.table.0 c.args.trees.now.tables c.args.versions.now c.args.place c.bookmark_at-bookmark.result.now c.bytes_of-row.result.now = record {
      change = c.requires.can.0;
      can = c.requires.can.1;
      is_bookmark = mapped_at (λ (h : HeldChange). h.bookmark) c.args.versions.now c.args.place c.requires.can.0 c.bookmark_at-bookmark.result.now c.requires.can.1.at c.bookmark_at-bookmark.ensures;
      is_row = ap (λ (o : Option (List ℕ)). unwrap_or o []) (mapped_at (λ (h : HeldChange). h.before) c.args.versions.now c.args.place c.requires.can.0 (option_copied c.before_at.result) c.requires.can.1.at c.before_at.ensures) ∙ sym c.bytes_of-row.ensures;
    } in
    let under : row_under (table_nodes c.args.trees.now.tables c.args.table.0) c.bookmark_at-bookmark.result.now ≡ Some c.in-Some.newest.now = ap (row_under (table_nodes c.args.trees.now.tables c.args.table.0)) (sym reads.is_bookmark) ∙ c.requires.newest c.requires.can.0 c.requires.can.1.at ∙ ap option_copied c.in-Some.is in
    room_read c.args.schema.now c.args.table.0 c.args.trees.now.tables c.args.versions.now c.args.place c.bookmark_at-bookmark.result.now c.bytes_of-row.result.now reads (node_of_row (table_nodes c.args.trees.now.tables c.args.table.0) c.bookmark_at-bookmark.result.now (ap is_some under))

pub take_variant-requires-clause-rules : goal.take_variant-requires-clause-rules
take_variant-requires-clause-rules c =
    let reads : Reads c.args.schema.now c.args.table.0 c.args.trees.now.tables c.args.versions.now c.args.place c.bookmark_at-bookmark.result.now c.bytes_of-row.result.now = record {
      change = c.requires.can.0;
      can = c.requires.can.1;
      is_bookmark = mapped_at (λ (h : HeldChange). h.bookmark) c.args.versions.now c.args.place c.requires.can.0 c.bookmark_at-bookmark.result.now c.requires.can.1.at c.bookmark_at-bookmark.ensures;
      is_row = ap (λ (o : Option (List ℕ)). unwrap_or o []) (mapped_at (λ (h : HeldChange). h.before) c.args.versions.now c.args.place c.requires.can.0 (option_copied c.before_at.result) c.requires.can.1.at c.before_at.ensures) ∙ sym c.bytes_of-row.ensures;
    } in
    let under : row_under (table_nodes c.args.trees.now.tables c.args.table.0) c.bookmark_at-bookmark.result.now ≡ Some c.in-Some.newest.now = ap (row_under (table_nodes c.args.trees.now.tables c.args.table.0)) (sym reads.is_bookmark) ∙ c.requires.newest c.requires.can.0 c.requires.can.1.at ∙ ap option_copied c.in-Some.is in
    let spelled = newest_read c.args.schema.now c.args.table.0 c.args.trees.now.tables c.args.versions.now c.args.place c.bookmark_at-bookmark.result.now c.bytes_of-row.result.now reads c.in-Some.newest.now under in
    let same : (n : ℕ) → table_long_values c.replace.new.self.tables n ≡ table_long_values c.args.trees.now.tables n = λ n. ap (λ (trees : List StoredTable). table_long_values trees n) c.replace.ensures.tables ∙ c.nodes_after_a_change.ensures.long_values c.args.trees.now.tables c.args.table.0 n _ in
    subst (λ (v : Values). AllByRecursion (HasKeysOf c.args.schema.now (record_of v c.in-Some.newest.now)) c.args.schema.now.indexes) (sym (same c.args.table.0)) spelled.1

pub take_variant-requires-clause-gone : goal.take_variant-requires-clause-gone
take_variant-requires-clause-gone c =
    let reads : Reads c.args.schema.now c.args.table.0 c.args.trees.now.tables c.args.versions.now c.args.place c.bookmark_at-bookmark.result.now c.bytes_of-row.result.now = record {
      change = c.requires.can.0;
      can = c.requires.can.1;
      is_bookmark = mapped_at (λ (h : HeldChange). h.bookmark) c.args.versions.now c.args.place c.requires.can.0 c.bookmark_at-bookmark.result.now c.requires.can.1.at c.bookmark_at-bookmark.ensures;
      is_row = ap (λ (o : Option (List ℕ)). unwrap_or o []) (mapped_at (λ (h : HeldChange). h.before) c.args.versions.now c.args.place c.requires.can.0 (option_copied c.before_at.result) c.requires.can.1.at c.before_at.ensures) ∙ sym c.bytes_of-row.ensures;
    } in
    let under : row_under (table_nodes c.args.trees.now.tables c.args.table.0) c.bookmark_at-bookmark.result.now ≡ Some c.in-Some.newest.now = ap (row_under (table_nodes c.args.trees.now.tables c.args.table.0)) (sym reads.is_bookmark) ∙ c.requires.newest c.requires.can.0 c.requires.can.1.at ∙ ap option_copied c.in-Some.is in
    let spelled = newest_read c.args.schema.now c.args.table.0 c.args.trees.now.tables c.args.versions.now c.args.place c.bookmark_at-bookmark.result.now c.bytes_of-row.result.now reads c.in-Some.newest.now under in
    let same : (n : ℕ) → table_long_values c.replace.new.self.tables n ≡ table_long_values c.args.trees.now.tables n = λ n. ap (λ (trees : List StoredTable). table_long_values trees n) c.replace.ensures.tables ∙ c.nodes_after_a_change.ensures.long_values c.args.trees.now.tables c.args.table.0 n _ in
    subst (λ (v : Values). IsRowBytes c.in-Some.newest.now × IsTrue (is_whole v (row_in c.in-Some.newest.now))) (sym (same c.args.table.0)) (spelled_row (table_long_values c.args.trees.now.tables c.args.table.0) c.in-Some.newest.now spelled.0, spelled.0.whole)

pub take_variant-requires-clause-newest : goal.take_variant-requires-clause-newest
take_variant-requires-clause-newest c =
    let reads : Reads c.args.schema.now c.args.table.0 c.args.trees.now.tables c.args.versions.now c.args.place c.bookmark_at-bookmark.result.now c.bytes_of-row.result.now = record {
      change = c.requires.can.0;
      can = c.requires.can.1;
      is_bookmark = mapped_at (λ (h : HeldChange). h.bookmark) c.args.versions.now c.args.place c.requires.can.0 c.bookmark_at-bookmark.result.now c.requires.can.1.at c.bookmark_at-bookmark.ensures;
      is_row = ap (λ (o : Option (List ℕ)). unwrap_or o []) (mapped_at (λ (h : HeldChange). h.before) c.args.versions.now c.args.place c.requires.can.0 (option_copied c.before_at.result) c.requires.can.1.at c.before_at.ensures) ∙ sym c.bytes_of-row.ensures;
    } in
    let laws : TreeLaws = record {
      named = c.nodes_after_a_change.ensures.named;
      others = c.nodes_after_a_change.ensures.others;
      indexes = c.nodes_after_a_change.ensures.indexes;
      values = c.nodes_after_a_change.ensures.long_values;
      replaced = c.nodes_by_bookmark.ensures.replaced;
    } in
    let under : row_under (table_nodes c.args.trees.now.tables c.args.table.0) c.bookmark_at-bookmark.result.now ≡ Some c.in-Some.newest.now = ap (row_under (table_nodes c.args.trees.now.tables c.args.table.0)) (sym reads.is_bookmark) ∙ c.requires.newest c.requires.can.0 c.requires.can.1.at ∙ ap option_copied c.in-Some.is in
    let known : Fills laws c.args.trees.now.tables c.args.table.0 c.bookmark_at-bookmark.result.now c.bytes_of-row.result.now = fills laws c.args.trees.now.tables c.args.table.0 c.bookmark_at-bookmark.result.now c.bytes_of-row.result.now (node_of_row (table_nodes c.args.trees.now.tables c.args.table.0) c.bookmark_at-bookmark.result.now (ap is_some under)) c.nodes_are_in_order.ensures.sorted
    (λ n. subst (λ (trees : List StoredTable). are_sorted (bookmark_entries (table_nodes trees n)) ≡ true) c.replace.ensures.tables (c.nodes_are_in_order-in-Some.ensures.sorted n)) in
    let same : (n : ℕ) → table_long_values c.replace.new.self.tables n ≡ table_long_values c.args.trees.now.tables n = λ n. ap (λ (trees : List StoredTable). table_long_values trees n) c.replace.ensures.tables ∙ c.nodes_after_a_change.ensures.long_values c.args.trees.now.tables c.args.table.0 n _ in
    subst (λ (v : Values). IfSome (row_under (table_nodes c.replace.new.self.tables c.args.table.0) c.bookmark_at-bookmark.result.now) (IsRecordRow v)) (sym (same c.args.table.0))
    (subst (λ (trees : List StoredTable). IfSome (row_under (table_nodes trees c.args.table.0) c.bookmark_at-bookmark.result.now) (IsRecordRow (table_long_values c.args.trees.now.tables c.args.table.0))) (sym c.replace.ensures.tables) (back_spelled laws c.args.schema.now c.args.table.0 c.args.trees.now.tables c.args.versions.now c.args.place c.bookmark_at-bookmark.result.now c.bytes_of-row.result.now reads known))

pub take_variant-requires-clause-rows : goal.take_variant-requires-clause-rows
take_variant-requires-clause-rows c =
    let same : (n : ℕ) → table_long_values c.replace.new.self.tables n ≡ table_long_values c.args.trees.now.tables n = λ n. ap (λ (trees : List StoredTable). table_long_values trees n) c.replace.ensures.tables ∙ c.nodes_after_a_change.ensures.long_values c.args.trees.now.tables c.args.table.0 n _ in
    subst (λ (longs : TableValues). AreRows longs c.args.versions.now) (λ i n. sym (same n) i) c.requires.rows

pub take_variant-requires-clause-bookmark : goal.take_variant-requires-clause-bookmark
take_variant-requires-clause-bookmark c =
    let reads : Reads c.args.schema.now c.args.table.0 c.args.trees.now.tables c.args.versions.now c.args.place c.bookmark_at-bookmark.result.now c.bytes_of-row.result.now = record {
      change = c.requires.can.0;
      can = c.requires.can.1;
      is_bookmark = mapped_at (λ (h : HeldChange). h.bookmark) c.args.versions.now c.args.place c.requires.can.0 c.bookmark_at-bookmark.result.now c.requires.can.1.at c.bookmark_at-bookmark.ensures;
      is_row = ap (λ (o : Option (List ℕ)). unwrap_or o []) (mapped_at (λ (h : HeldChange). h.before) c.args.versions.now c.args.place c.requires.can.0 (option_copied c.before_at.result) c.requires.can.1.at c.before_at.ensures) ∙ sym c.bytes_of-row.ensures;
    } in
    let under : row_under (table_nodes c.args.trees.now.tables c.args.table.0) c.bookmark_at-bookmark.result.now ≡ Some c.in-Some.newest.now = ap (row_under (table_nodes c.args.trees.now.tables c.args.table.0)) (sym reads.is_bookmark) ∙ c.requires.newest c.requires.can.0 c.requires.can.1.at ∙ ap option_copied c.in-Some.is in
    let spelled = newest_read c.args.schema.now c.args.table.0 c.args.trees.now.tables c.args.versions.now c.args.place c.bookmark_at-bookmark.result.now c.bytes_of-row.result.now reads c.in-Some.newest.now under in
    spelled.2

pub replace-requires-then-not-is_empty : goal.replace-requires-then-not-is_empty
replace-requires-then-not-is_empty c =
    let reads : Reads c.args.schema.now c.args.table.0 c.args.trees.now.tables c.args.versions.now c.args.place c.bookmark_at-bookmark.result.now c.bytes_of-row.result.now = record {
      change = c.requires.can.0;
      can = c.requires.can.1;
      is_bookmark = mapped_at (λ (h : HeldChange). h.bookmark) c.args.versions.now c.args.place c.requires.can.0 c.bookmark_at-bookmark.result.now c.requires.can.1.at c.bookmark_at-bookmark.ensures;
      is_row = ap (λ (o : Option (List ℕ)). unwrap_or o []) (mapped_at (λ (h : HeldChange). h.before) c.args.versions.now c.args.place c.requires.can.0 (option_copied c.before_at.result) c.requires.can.1.at c.before_at.ensures) ∙ sym c.bytes_of-row.ensures;
    } in
    room_read c.args.schema.now c.args.table.0 c.args.trees.now.tables c.args.versions.now c.args.place c.bookmark_at-bookmark.result.now c.bytes_of-row.result.now reads (node_of_bytes c.args.schema.now c.args.table.0 c.args.trees.now.tables c.args.versions.now c.args.place c.bookmark_at-bookmark.result.now c.bytes_of-row.result.now reads (sym c.is_empty.ensures ∙ c.if-not-is_empty.true))

pub returns-in-Some-clause-kept : goal.returns-in-Some-clause-kept
returns-in-Some-clause-kept c = λ tables held h has was named kept.
    let reads : Reads c.args.schema.now c.args.table.0 c.args.trees.now.tables c.args.versions.now c.args.place c.bookmark_at-bookmark.result.now c.bytes_of-row.result.now = record {
      change = c.requires.can.0;
      can = c.requires.can.1;
      is_bookmark = mapped_at (λ (h : HeldChange). h.bookmark) c.args.versions.now c.args.place c.requires.can.0 c.bookmark_at-bookmark.result.now c.requires.can.1.at c.bookmark_at-bookmark.ensures;
      is_row = ap (λ (o : Option (List ℕ)). unwrap_or o []) (mapped_at (λ (h : HeldChange). h.before) c.args.versions.now c.args.place c.requires.can.0 (option_copied c.before_at.result) c.requires.can.1.at c.before_at.ensures) ∙ sym c.bytes_of-row.ensures;
    } in
    let laws : TreeLaws = record {
      named = c.nodes_after_a_change.ensures.named;
      others = c.nodes_after_a_change.ensures.others;
      indexes = c.nodes_after_a_change.ensures.indexes;
      values = c.nodes_after_a_change.ensures.long_values;
      replaced = c.nodes_by_bookmark.ensures.replaced;
    } in
    let under : row_under (table_nodes c.args.trees.now.tables c.args.table.0) c.bookmark_at-bookmark.result.now ≡ Some c.in-Some.newest.now = ap (row_under (table_nodes c.args.trees.now.tables c.args.table.0)) (sym reads.is_bookmark) ∙ c.requires.newest c.requires.can.0 c.requires.can.1.at ∙ ap option_copied c.in-Some.is in
    let known : Fills laws c.args.trees.now.tables c.args.table.0 c.bookmark_at-bookmark.result.now c.bytes_of-row.result.now = fills laws c.args.trees.now.tables c.args.table.0 c.bookmark_at-bookmark.result.now c.bytes_of-row.result.now (node_of_row (table_nodes c.args.trees.now.tables c.args.table.0) c.bookmark_at-bookmark.result.now (ap is_some under)) c.nodes_are_in_order.ensures.sorted
    (λ n. subst (λ (trees : List StoredTable). are_sorted (bookmark_entries (table_nodes trees n)) ≡ true) c.replace.ensures.tables (c.nodes_are_in_order-in-Some.ensures.sorted n)) in
    let same : (n : ℕ) → table_long_values c.replace.new.self.tables n ≡ table_long_values c.args.trees.now.tables n = λ n. ap (λ (trees : List StoredTable). table_long_values trees n) c.replace.ensures.tables ∙ c.nodes_after_a_change.ensures.long_values c.args.trees.now.tables c.args.table.0 n _ in
    subst (λ (longs : TableValues). AreKeptWith longs tables c.take_variant.new.trees.tables c.args.versions.now) (λ i n. same n i)
    (c.take_variant.ensures.kept tables has.ids has.same
    (subst (λ (longs : TableValues). AreLeft longs tables c.replace.new.self.tables c.args.versions.now c.args.table.0 c.bookmark_at-bookmark.result.now (record_of (longs c.args.table.0) c.in-Some.newest.now)) (λ i n. sym (same n) i)
    (subst (λ (trees : List StoredTable). AreLeft (table_long_values c.args.trees.now.tables) tables trees c.args.versions.now c.args.table.0 c.bookmark_at-bookmark.result.now (record_of (table_long_values c.args.trees.now.tables c.args.table.0) c.in-Some.newest.now)) (sym c.replace.ensures.tables)
    (left_back laws c.args.schema.now c.args.table.0 c.args.trees.now.tables c.args.versions.now c.args.place c.bookmark_at-bookmark.result.now c.bytes_of-row.result.now reads known c.in-Some.newest.now under tables held h was kept))))

pub returns-in-Some-clause-shown : goal.returns-in-Some-clause-shown
returns-in-Some-clause-shown c = λ tables h at.
    let reads : Reads c.args.schema.now c.args.table.0 c.args.trees.now.tables c.args.versions.now c.args.place c.bookmark_at-bookmark.result.now c.bytes_of-row.result.now = record {
      change = c.requires.can.0;
      can = c.requires.can.1;
      is_bookmark = mapped_at (λ (h : HeldChange). h.bookmark) c.args.versions.now c.args.place c.requires.can.0 c.bookmark_at-bookmark.result.now c.requires.can.1.at c.bookmark_at-bookmark.ensures;
      is_row = ap (λ (o : Option (List ℕ)). unwrap_or o []) (mapped_at (λ (h : HeldChange). h.before) c.args.versions.now c.args.place c.requires.can.0 (option_copied c.before_at.result) c.requires.can.1.at c.before_at.ensures) ∙ sym c.bytes_of-row.ensures;
    } in
    let laws : TreeLaws = record {
      named = c.nodes_after_a_change.ensures.named;
      others = c.nodes_after_a_change.ensures.others;
      indexes = c.nodes_after_a_change.ensures.indexes;
      values = c.nodes_after_a_change.ensures.long_values;
      replaced = c.nodes_by_bookmark.ensures.replaced;
    } in
    let under : row_under (table_nodes c.args.trees.now.tables c.args.table.0) c.bookmark_at-bookmark.result.now ≡ Some c.in-Some.newest.now = ap (row_under (table_nodes c.args.trees.now.tables c.args.table.0)) (sym reads.is_bookmark) ∙ c.requires.newest c.requires.can.0 c.requires.can.1.at ∙ ap option_copied c.in-Some.is in
    let known : Fills laws c.args.trees.now.tables c.args.table.0 c.bookmark_at-bookmark.result.now c.bytes_of-row.result.now = fills laws c.args.trees.now.tables c.args.table.0 c.bookmark_at-bookmark.result.now c.bytes_of-row.result.now (node_of_row (table_nodes c.args.trees.now.tables c.args.table.0) c.bookmark_at-bookmark.result.now (ap is_some under)) c.nodes_are_in_order.ensures.sorted
    (λ n. subst (λ (trees : List StoredTable). are_sorted (bookmark_entries (table_nodes trees n)) ≡ true) c.replace.ensures.tables (c.nodes_are_in_order-in-Some.ensures.sorted n)) in
    let same : (n : ℕ) → table_long_values c.replace.new.self.tables n ≡ table_long_values c.args.trees.now.tables n = λ n. ap (λ (trees : List StoredTable). table_long_values trees n) c.replace.ensures.tables ∙ c.nodes_after_a_change.ensures.long_values c.args.trees.now.tables c.args.table.0 n _ in
    ap (λ (longs : TableValues). map (with_newest_by longs c.take_variant.new.trees.tables) tables) (λ i n. sym (same n) i) ∙ c.take_variant.ensures.newest tables
    ∙ ap (λ (longs : TableValues). map (with_newest_by longs c.replace.new.self.tables) tables) (λ i n. same n i)
    ∙ ap (λ (trees : List StoredTable). map (with_newest_by (table_long_values c.args.trees.now.tables) trees) tables) c.replace.ensures.tables ∙ shown_back laws c.args.schema.now c.args.table.0 c.args.trees.now.tables c.args.versions.now c.args.place c.bookmark_at-bookmark.result.now c.bytes_of-row.result.now reads known tables h at

pub returns-in-Some-clause-rows : goal.returns-in-Some-clause-rows
returns-in-Some-clause-rows c = λ h at other.
    let reads : Reads c.args.schema.now c.args.table.0 c.args.trees.now.tables c.args.versions.now c.args.place c.bookmark_at-bookmark.result.now c.bytes_of-row.result.now = record {
      change = c.requires.can.0;
      can = c.requires.can.1;
      is_bookmark = mapped_at (λ (h : HeldChange). h.bookmark) c.args.versions.now c.args.place c.requires.can.0 c.bookmark_at-bookmark.result.now c.requires.can.1.at c.bookmark_at-bookmark.ensures;
      is_row = ap (λ (o : Option (List ℕ)). unwrap_or o []) (mapped_at (λ (h : HeldChange). h.before) c.args.versions.now c.args.place c.requires.can.0 (option_copied c.before_at.result) c.requires.can.1.at c.before_at.ensures) ∙ sym c.bytes_of-row.ensures;
    } in
    let laws : TreeLaws = record {
      named = c.nodes_after_a_change.ensures.named;
      others = c.nodes_after_a_change.ensures.others;
      indexes = c.nodes_after_a_change.ensures.indexes;
      values = c.nodes_after_a_change.ensures.long_values;
      replaced = c.nodes_by_bookmark.ensures.replaced;
    } in
    let under : row_under (table_nodes c.args.trees.now.tables c.args.table.0) c.bookmark_at-bookmark.result.now ≡ Some c.in-Some.newest.now = ap (row_under (table_nodes c.args.trees.now.tables c.args.table.0)) (sym reads.is_bookmark) ∙ c.requires.newest c.requires.can.0 c.requires.can.1.at ∙ ap option_copied c.in-Some.is in
    let known : Fills laws c.args.trees.now.tables c.args.table.0 c.bookmark_at-bookmark.result.now c.bytes_of-row.result.now = fills laws c.args.trees.now.tables c.args.table.0 c.bookmark_at-bookmark.result.now c.bytes_of-row.result.now (node_of_row (table_nodes c.args.trees.now.tables c.args.table.0) c.bookmark_at-bookmark.result.now (ap is_some under)) c.nodes_are_in_order.ensures.sorted
    (λ n. subst (λ (trees : List StoredTable). are_sorted (bookmark_entries (table_nodes trees n)) ≡ true) c.replace.ensures.tables (c.nodes_are_in_order-in-Some.ensures.sorted n)) in
    c.take_variant.ensures.rows other ∙ ap (λ (trees : List StoredTable). newest_rows (table_nodes trees other)) c.replace.ensures.tables ∙ rows_back laws c.args.schema.now c.args.table.0 c.args.trees.now.tables c.args.versions.now c.args.place c.bookmark_at-bookmark.result.now c.bytes_of-row.result.now reads known h at other

pub returns-in-Some-clause-values : goal.returns-in-Some-clause-values
returns-in-Some-clause-values c = λ other.
    let same : (n : ℕ) → table_long_values c.replace.new.self.tables n ≡ table_long_values c.args.trees.now.tables n = λ n. ap (λ (trees : List StoredTable). table_long_values trees n) c.replace.ensures.tables ∙ c.nodes_after_a_change.ensures.long_values c.args.trees.now.tables c.args.table.0 n _ in
    c.take_variant.ensures.values other ∙ same other

pub returns-then-not-is_empty-clause-kept : goal.returns-then-not-is_empty-clause-kept
returns-then-not-is_empty-clause-kept c = λ tables held h has was named kept.
    let reads : Reads c.args.schema.now c.args.table.0 c.args.trees.now.tables c.args.versions.now c.args.place c.bookmark_at-bookmark.result.now c.bytes_of-row.result.now = record {
      change = c.requires.can.0;
      can = c.requires.can.1;
      is_bookmark = mapped_at (λ (h : HeldChange). h.bookmark) c.args.versions.now c.args.place c.requires.can.0 c.bookmark_at-bookmark.result.now c.requires.can.1.at c.bookmark_at-bookmark.ensures;
      is_row = ap (λ (o : Option (List ℕ)). unwrap_or o []) (mapped_at (λ (h : HeldChange). h.before) c.args.versions.now c.args.place c.requires.can.0 (option_copied c.before_at.result) c.requires.can.1.at c.before_at.ensures) ∙ sym c.bytes_of-row.ensures;
    } in
    let laws : TreeLaws = record {
      named = c.nodes_after_a_change.ensures.named;
      others = c.nodes_after_a_change.ensures.others;
      indexes = c.nodes_after_a_change.ensures.indexes;
      values = c.nodes_after_a_change.ensures.long_values;
      replaced = c.nodes_by_bookmark.ensures.replaced;
    } in
    let under : row_under (table_nodes c.args.trees.now.tables c.args.table.0) c.bookmark_at-bookmark.result.now ≡ None = ap (row_under (table_nodes c.args.trees.now.tables c.args.table.0)) (sym reads.is_bookmark) ∙ c.requires.newest c.requires.can.0 c.requires.can.1.at ∙ ap option_copied c.in-None.is in
    let known : Fills laws c.args.trees.now.tables c.args.table.0 c.bookmark_at-bookmark.result.now c.bytes_of-row.result.now = fills laws c.args.trees.now.tables c.args.table.0 c.bookmark_at-bookmark.result.now c.bytes_of-row.result.now (node_of_bytes c.args.schema.now c.args.table.0 c.args.trees.now.tables c.args.versions.now c.args.place c.bookmark_at-bookmark.result.now c.bytes_of-row.result.now reads (sym c.is_empty.ensures ∙ c.if-not-is_empty.true)) c.nodes_are_in_order.ensures.sorted
    (λ n. subst (λ (trees : List StoredTable). are_sorted (bookmark_entries (table_nodes trees n)) ≡ true) c.replace-then-not-is_empty.ensures.tables (c.nodes_are_in_order-then-not-is_empty.ensures.sorted n)) in
    subst (λ (trees : List StoredTable). AreKeptWith (table_long_values c.args.trees.now.tables) tables trees c.args.versions.now) (sym c.replace-then-not-is_empty.ensures.tables) (all_back laws c.args.schema.now c.args.table.0 c.args.trees.now.tables c.args.versions.now c.args.place c.bookmark_at-bookmark.result.now c.bytes_of-row.result.now reads known under tables held h was kept)

pub returns-then-not-is_empty-clause-shown : goal.returns-then-not-is_empty-clause-shown
returns-then-not-is_empty-clause-shown c = λ tables h at.
    let reads : Reads c.args.schema.now c.args.table.0 c.args.trees.now.tables c.args.versions.now c.args.place c.bookmark_at-bookmark.result.now c.bytes_of-row.result.now = record {
      change = c.requires.can.0;
      can = c.requires.can.1;
      is_bookmark = mapped_at (λ (h : HeldChange). h.bookmark) c.args.versions.now c.args.place c.requires.can.0 c.bookmark_at-bookmark.result.now c.requires.can.1.at c.bookmark_at-bookmark.ensures;
      is_row = ap (λ (o : Option (List ℕ)). unwrap_or o []) (mapped_at (λ (h : HeldChange). h.before) c.args.versions.now c.args.place c.requires.can.0 (option_copied c.before_at.result) c.requires.can.1.at c.before_at.ensures) ∙ sym c.bytes_of-row.ensures;
    } in
    let laws : TreeLaws = record {
      named = c.nodes_after_a_change.ensures.named;
      others = c.nodes_after_a_change.ensures.others;
      indexes = c.nodes_after_a_change.ensures.indexes;
      values = c.nodes_after_a_change.ensures.long_values;
      replaced = c.nodes_by_bookmark.ensures.replaced;
    } in
    let known : Fills laws c.args.trees.now.tables c.args.table.0 c.bookmark_at-bookmark.result.now c.bytes_of-row.result.now = fills laws c.args.trees.now.tables c.args.table.0 c.bookmark_at-bookmark.result.now c.bytes_of-row.result.now (node_of_bytes c.args.schema.now c.args.table.0 c.args.trees.now.tables c.args.versions.now c.args.place c.bookmark_at-bookmark.result.now c.bytes_of-row.result.now reads (sym c.is_empty.ensures ∙ c.if-not-is_empty.true)) c.nodes_are_in_order.ensures.sorted
    (λ n. subst (λ (trees : List StoredTable). are_sorted (bookmark_entries (table_nodes trees n)) ≡ true) c.replace-then-not-is_empty.ensures.tables (c.nodes_are_in_order-then-not-is_empty.ensures.sorted n)) in
    ap (λ (trees : List StoredTable). map (with_newest_by (table_long_values c.args.trees.now.tables) trees) tables) c.replace-then-not-is_empty.ensures.tables ∙ shown_back laws c.args.schema.now c.args.table.0 c.args.trees.now.tables c.args.versions.now c.args.place c.bookmark_at-bookmark.result.now c.bytes_of-row.result.now reads known tables h at

pub returns-then-not-is_empty-clause-rows : goal.returns-then-not-is_empty-clause-rows
returns-then-not-is_empty-clause-rows c = λ h at other.
    let reads : Reads c.args.schema.now c.args.table.0 c.args.trees.now.tables c.args.versions.now c.args.place c.bookmark_at-bookmark.result.now c.bytes_of-row.result.now = record {
      change = c.requires.can.0;
      can = c.requires.can.1;
      is_bookmark = mapped_at (λ (h : HeldChange). h.bookmark) c.args.versions.now c.args.place c.requires.can.0 c.bookmark_at-bookmark.result.now c.requires.can.1.at c.bookmark_at-bookmark.ensures;
      is_row = ap (λ (o : Option (List ℕ)). unwrap_or o []) (mapped_at (λ (h : HeldChange). h.before) c.args.versions.now c.args.place c.requires.can.0 (option_copied c.before_at.result) c.requires.can.1.at c.before_at.ensures) ∙ sym c.bytes_of-row.ensures;
    } in
    let laws : TreeLaws = record {
      named = c.nodes_after_a_change.ensures.named;
      others = c.nodes_after_a_change.ensures.others;
      indexes = c.nodes_after_a_change.ensures.indexes;
      values = c.nodes_after_a_change.ensures.long_values;
      replaced = c.nodes_by_bookmark.ensures.replaced;
    } in
    let known : Fills laws c.args.trees.now.tables c.args.table.0 c.bookmark_at-bookmark.result.now c.bytes_of-row.result.now = fills laws c.args.trees.now.tables c.args.table.0 c.bookmark_at-bookmark.result.now c.bytes_of-row.result.now (node_of_bytes c.args.schema.now c.args.table.0 c.args.trees.now.tables c.args.versions.now c.args.place c.bookmark_at-bookmark.result.now c.bytes_of-row.result.now reads (sym c.is_empty.ensures ∙ c.if-not-is_empty.true)) c.nodes_are_in_order.ensures.sorted
    (λ n. subst (λ (trees : List StoredTable). are_sorted (bookmark_entries (table_nodes trees n)) ≡ true) c.replace-then-not-is_empty.ensures.tables (c.nodes_are_in_order-then-not-is_empty.ensures.sorted n)) in
    ap (λ (trees : List StoredTable). newest_rows (table_nodes trees other)) c.replace-then-not-is_empty.ensures.tables ∙ rows_back laws c.args.schema.now c.args.table.0 c.args.trees.now.tables c.args.versions.now c.args.place c.bookmark_at-bookmark.result.now c.bytes_of-row.result.now reads known h at other

pub returns-then-not-is_empty-clause-values : goal.returns-then-not-is_empty-clause-values
returns-then-not-is_empty-clause-values c = λ other.
    ap (λ (trees : List StoredTable). table_long_values trees other) c.replace-then-not-is_empty.ensures.tables ∙ c.nodes_after_a_change.ensures.long_values c.args.trees.now.tables c.args.table.0 other _

pub returns-else-not-is_empty-clause-kept : goal.returns-else-not-is_empty-clause-kept
returns-else-not-is_empty-clause-kept c = λ tables held h has was named kept.
    let reads : Reads c.args.schema.now c.args.table.0 c.args.trees.now.tables c.args.versions.now c.args.place c.bookmark_at-bookmark.result.now c.bytes_of-row.result.now = record {
      change = c.requires.can.0;
      can = c.requires.can.1;
      is_bookmark = mapped_at (λ (h : HeldChange). h.bookmark) c.args.versions.now c.args.place c.requires.can.0 c.bookmark_at-bookmark.result.now c.requires.can.1.at c.bookmark_at-bookmark.ensures;
      is_row = ap (λ (o : Option (List ℕ)). unwrap_or o []) (mapped_at (λ (h : HeldChange). h.before) c.args.versions.now c.args.place c.requires.can.0 (option_copied c.before_at.result) c.requires.can.1.at c.before_at.ensures) ∙ sym c.bytes_of-row.ensures;
    } in
    let under : row_under (table_nodes c.args.trees.now.tables c.args.table.0) c.bookmark_at-bookmark.result.now ≡ None = ap (row_under (table_nodes c.args.trees.now.tables c.args.table.0)) (sym reads.is_bookmark) ∙ c.requires.newest c.requires.can.0 c.requires.can.1.at ∙ ap option_copied c.in-None.is in
    none_back c.args.schema.now c.args.table.0 c.args.trees.now.tables c.args.versions.now c.args.place c.bookmark_at-bookmark.result.now c.bytes_of-row.result.now reads c.nodes_are_in_order.ensures.sorted under (sym c.is_empty.ensures ∙ c.if-not-is_empty.false) tables held h was kept

pub returns-else-not-is_empty-clause-shown : goal.returns-else-not-is_empty-clause-shown
returns-else-not-is_empty-clause-shown c = λ tables h at.
    let reads : Reads c.args.schema.now c.args.table.0 c.args.trees.now.tables c.args.versions.now c.args.place c.bookmark_at-bookmark.result.now c.bytes_of-row.result.now = record {
      change = c.requires.can.0;
      can = c.requires.can.1;
      is_bookmark = mapped_at (λ (h : HeldChange). h.bookmark) c.args.versions.now c.args.place c.requires.can.0 c.bookmark_at-bookmark.result.now c.requires.can.1.at c.bookmark_at-bookmark.ensures;
      is_row = ap (λ (o : Option (List ℕ)). unwrap_or o []) (mapped_at (λ (h : HeldChange). h.before) c.args.versions.now c.args.place c.requires.can.0 (option_copied c.before_at.result) c.requires.can.1.at c.before_at.ensures) ∙ sym c.bytes_of-row.ensures;
    } in
    let under : row_under (table_nodes c.args.trees.now.tables c.args.table.0) c.bookmark_at-bookmark.result.now ≡ None = ap (row_under (table_nodes c.args.trees.now.tables c.args.table.0)) (sym reads.is_bookmark) ∙ c.requires.newest c.requires.can.0 c.requires.can.1.at ∙ ap option_copied c.in-None.is in
    shown_unchanged c.args.schema.now c.args.table.0 c.args.trees.now.tables c.args.versions.now c.args.place c.bookmark_at-bookmark.result.now c.bytes_of-row.result.now reads c.nodes_are_in_order.ensures.sorted under (sym c.is_empty.ensures ∙ c.if-not-is_empty.false) tables h at

pub returns-else-not-is_empty-clause-rows : goal.returns-else-not-is_empty-clause-rows
returns-else-not-is_empty-clause-rows c = λ h at other.
    let reads : Reads c.args.schema.now c.args.table.0 c.args.trees.now.tables c.args.versions.now c.args.place c.bookmark_at-bookmark.result.now c.bytes_of-row.result.now = record {
      change = c.requires.can.0;
      can = c.requires.can.1;
      is_bookmark = mapped_at (λ (h : HeldChange). h.bookmark) c.args.versions.now c.args.place c.requires.can.0 c.bookmark_at-bookmark.result.now c.requires.can.1.at c.bookmark_at-bookmark.ensures;
      is_row = ap (λ (o : Option (List ℕ)). unwrap_or o []) (mapped_at (λ (h : HeldChange). h.before) c.args.versions.now c.args.place c.requires.can.0 (option_copied c.before_at.result) c.requires.can.1.at c.before_at.ensures) ∙ sym c.bytes_of-row.ensures;
    } in
    let under : row_under (table_nodes c.args.trees.now.tables c.args.table.0) c.bookmark_at-bookmark.result.now ≡ None = ap (row_under (table_nodes c.args.trees.now.tables c.args.table.0)) (sym reads.is_bookmark) ∙ c.requires.newest c.requires.can.0 c.requires.can.1.at ∙ ap option_copied c.in-None.is in
    rows_unchanged c.args.schema.now c.args.table.0 c.args.trees.now.tables c.args.versions.now c.args.place c.bookmark_at-bookmark.result.now c.bytes_of-row.result.now reads c.nodes_are_in_order.ensures.sorted under (sym c.is_empty.ensures ∙ c.if-not-is_empty.false) h at other
