use Rattle.std.proofs.Common.{◌≡◌, ℕ, ◌<◌, List, [], Option, Some, option_map, sym, ap, subst, ◌∙◌}
use Rattle.std.specs.Prelude.{IsSome}
use Rattle.column_set.specs.RowReading.{row_in}
use Rattle.column_set.specs.Rows.{IsRowBytes}
use Rattle.database_state.specs.State.{undone}
use Rattle.long_rows.specs.RowReferences.{identifiers, references}
use Rattle.long_rows.proofs.Taken.{ValueLaws}
use Rattle.long_value.specs.Values.{Values, value_of}
use Rattle.stored_variants.proofs.Dropped.{has_trees}
use Rattle.stored_variants.specs.RecordRows.{row_under}
use Rattle.table_trees.specs.StoredTables.{table_long_values, table_nodes}
use Rattle.version_store.specs.HeldChanges.{HeldChange, with_status}
use Rattle.variant_trees.proofs.OpenUndone.{place_now, was_undone}
use Rattle.variant_trees.proofs.Released.{Releases}
use Rattle.variant_trees.proofs.UndoneRows.{change_named, gives_up_nothing, is_back, newest_spelled, newest_there, undone_counted}
use Rattle.variant_trees.proofs.UndoneThere.{mapped_at, place_in, spelled_row}
use Rattle.variant_trees.proofs.undoing.put_back_in.Goals as goal

pub bookmark_at-requires : goal.bookmark_at-requires
bookmark_at-requires c = place_in c.args.versions.now c.args.place c.requires.can.0 c.requires.can.1.at

pub put_row_back-requires-clause-newest : goal.put_row_back-requires-clause-newest
put_row_back-requires-clause-newest c = λ h at.
    ap (row_under (table_nodes c.args.trees.now.tables c.args.table.0)) (mapped_at (λ (x : HeldChange). x.bookmark) c.args.versions.now c.args.place h c.bookmark_at.result.now at c.bookmark_at.ensures)
    ∙ sym c.in-Some.ensures ∙ ap (λ (bytes : List ℕ). Some bytes) (sym c.as_slice-row.ensures.value)

pub release_row-requires-clause-table : goal.release_row-requires-clause-table
release_row-requires-clause-table c =
    let tables = c.requires.was.0 in
    let held = c.requires.was.1.0 in
    let h = c.requires.was.1.1.0 in
    let was = c.requires.was.1.1.2 in
    has_trees c.put_row_back.new.trees.tables tables c.args.table.0 (c.put_row_back.ensures.kept tables held h c.requires.was.1.1.1 (was_undone tables c.args.trees.now.tables c.args.versions.now c.args.place c.args.table.0 held h was c.requires.was.1.1.3) was.named was.kept).numbers
    ∙ change_named tables c.args.trees.now.tables c.args.versions.now c.args.place c.args.table.0 held h was

pub release_row-requires-clause-row : goal.release_row-requires-clause-row
release_row-requires-clause-row c =
    let under : row_under (table_nodes c.args.trees.now.tables c.args.table.0) c.bookmark_at.result.now ≡ Some c.in-Some.newest.items = sym c.in-Some.ensures in
    subst IsRowBytes (sym c.as_slice-row.ensures.value)
    (spelled_row (table_long_values c.args.trees.now.tables c.args.table.0) c.in-Some.newest.items (newest_spelled c.requires.was.0 c.args.trees.now.tables c.requires.was.1.0 c.requires.was.1.1.2.kept c.args.table.0 c.bookmark_at.result.now c.in-Some.newest.items under))

pub release_row-requires-clause-there : goal.release_row-requires-clause-there
release_row-requires-clause-there c = λ id some.
    let under : row_under (table_nodes c.args.trees.now.tables c.args.table.0) c.bookmark_at.result.now ≡ Some c.in-Some.newest.items = sym c.in-Some.ensures in
    subst (λ (v : Values). IsSome (value_of id v)) (sym (c.put_row_back.ensures.values c.args.table.0))
    (newest_there c.args.trees.now.tables c.requires.was.1.0 c.requires.was.1.1.2.counts c.nodes_are_in_order.ensures.sorted c.args.table.0 c.bookmark_at.result.now c.in-Some.newest.items under id (subst (λ (bytes : List ℕ). 0 < references id (Some (row_in bytes))) c.as_slice-row.ensures.value some))

pub returns-in-Some-clause-back : goal.returns-in-Some-clause-back
returns-in-Some-clause-back c = λ tables held h schema was rewrites.
    let laws : ValueLaws = record {
      put = c.values_after_a_change.ensures.put;
      beside = c.values_after_a_change.ensures.beside;
      more = c.references_after_a_change.ensures.more;
      more_beside = c.references_after_a_change.ensures.more_beside;
      less = c.references_after_a_change.ensures.less;
      less_beside = c.references_after_a_change.ensures.less_beside;
    } in
    let at = place_now tables c.args.trees.now.tables c.args.versions.now c.args.place c.args.table.0 held h was in
    let ids : List (List ℕ) = identifiers (Some (row_in c.as_slice-row.result.now)) in
    let names : identifiers (option_map row_in (row_under (table_nodes c.args.trees.now.tables c.args.table.0) h.bookmark)) ≡ ids =
    ap (λ (o : Option (List ℕ)). identifiers (option_map row_in o))
    (ap (row_under (table_nodes c.args.trees.now.tables c.args.table.0)) (mapped_at (λ (x : HeldChange). x.bookmark) c.args.versions.now c.args.place (with_status undone h) c.bookmark_at.result.now at c.bookmark_at.ensures)
    ∙ sym c.in-Some.ensures ∙ ap (λ (bytes : List ℕ). Some bytes) (sym c.as_slice-row.ensures.value)) in
    let r : Releases laws tables c.args.trees.now.tables c.put_row_back.new.trees.tables c.release_row.new.trees.tables c.args.table.0 ids c.args.versions.now = record {
      distinct = schema.ids;
      values = c.put_row_back.ensures.values;
      kept = c.put_row_back.ensures.kept tables held h schema (was_undone tables c.args.trees.now.tables c.args.versions.now c.args.place c.args.table.0 held h was rewrites) was.named was.kept;
      sorted = c.nodes_are_in_order-in-Some.ensures.sorted;
      released = c.release_row.ensures.tables;
      counts = undone_counted c.values_keep_their_counts.ensures.undone tables c.args.trees.now.tables c.put_row_back.new.trees.tables c.release_row.new.trees.tables c.args.versions.now c.args.place c.args.table.0 held h was c.nodes_are_in_order.ensures.sorted
          c.put_row_back.ensures.values (c.put_row_back.ensures.rows (with_status undone h) at) ids names c.release_row.ensures.tables;
    } in
    is_back laws tables c.args.trees.now.tables c.put_row_back.new.trees.tables c.release_row.new.trees.tables c.args.versions.now c.args.place c.args.table.0 held h was rewrites ids r (c.put_row_back.ensures.shown tables (with_status undone h) at)

pub put_row_back-requires-in-None-clause-newest : goal.put_row_back-requires-in-None-clause-newest
put_row_back-requires-in-None-clause-newest c = λ h at.
    ap (row_under (table_nodes c.args.trees.now.tables c.args.table.0)) (mapped_at (λ (x : HeldChange). x.bookmark) c.args.versions.now c.args.place h c.bookmark_at.result.now at c.bookmark_at.ensures) ∙ sym c.in-None.ensures

pub returns-in-None-clause-back : goal.returns-in-None-clause-back
returns-in-None-clause-back c = λ tables held h schema was rewrites.
    let laws : ValueLaws = record {
      put = c.values_after_a_change.ensures.put;
      beside = c.values_after_a_change.ensures.beside;
      more = c.references_after_a_change.ensures.more;
      more_beside = c.references_after_a_change.ensures.more_beside;
      less = c.references_after_a_change.ensures.less;
      less_beside = c.references_after_a_change.ensures.less_beside;
    } in
    let at = place_now tables c.args.trees.now.tables c.args.versions.now c.args.place c.args.table.0 held h was in
    let names : identifiers (option_map row_in (row_under (table_nodes c.args.trees.now.tables c.args.table.0) h.bookmark)) ≡ [] =
    ap (λ (o : Option (List ℕ)). identifiers (option_map row_in o))
    (ap (row_under (table_nodes c.args.trees.now.tables c.args.table.0)) (mapped_at (λ (x : HeldChange). x.bookmark) c.args.versions.now c.args.place (with_status undone h) c.bookmark_at.result.now at c.bookmark_at.ensures)
    ∙ sym c.in-None.ensures) in
    let r : Releases laws tables c.args.trees.now.tables c.put_row_back-in-None.new.trees.tables c.put_row_back-in-None.new.trees.tables c.args.table.0 [] c.args.versions.now = record {
      distinct = schema.ids;
      values = c.put_row_back-in-None.ensures.values;
      kept = c.put_row_back-in-None.ensures.kept tables held h schema (was_undone tables c.args.trees.now.tables c.args.versions.now c.args.place c.args.table.0 held h was rewrites) was.named was.kept;
      sorted = c.nodes_are_in_order-in-None.ensures.sorted;
      released = gives_up_nothing c.args.table.0 c.put_row_back-in-None.new.trees.tables;
      counts = undone_counted c.values_keep_their_counts.ensures.undone tables c.args.trees.now.tables c.put_row_back-in-None.new.trees.tables c.put_row_back-in-None.new.trees.tables c.args.versions.now c.args.place c.args.table.0 held h was c.nodes_are_in_order.ensures.sorted
          c.put_row_back-in-None.ensures.values (c.put_row_back-in-None.ensures.rows (with_status undone h) at) [] names (gives_up_nothing c.args.table.0 c.put_row_back-in-None.new.trees.tables);
    } in
    is_back laws tables c.args.trees.now.tables c.put_row_back-in-None.new.trees.tables c.put_row_back-in-None.new.trees.tables c.args.versions.now c.args.place c.args.table.0 held h was rewrites [] r (c.put_row_back-in-None.ensures.shown tables (with_status undone h) at)
