use Rattle.std.proofs.Common.{ℕ, List, subst, ◌∙◌}
use Rattle.std.specs.Prelude.{option_copied}
use Rattle.column_set.specs.RowReading.{row_in}
use Rattle.column_set.specs.Rows.{RowFields, row_bytes}
use Rattle.long_rows.specs.KeptRows.{given_values, kept_row}
use Rattle.stored_variants.specs.PutRecords.{record_keys}
use Rattle.stored_variants.proofs.Outcomes.{on_ok}
use Rattle.variant_trees.specs.PutStages.{IsPut, put_found}
use Rattle.variant_trees.proofs.PutRows.{IsKeptRow, KeepLaws, is_kept_row}
use Rattle.variant_trees.proofs.putting.put_record.Goals as goal

pub put_row-requires-clause-row : goal.put_row-requires-clause-row
put_row-requires-clause-row c =
    let laws : KeepLaws = record {
      read = c.rows_are_read_back.ensures;
      form = c.form_of_a_kept_row.ensures.form;
      row = c.form_of_a_kept_row.ensures.row;
      names = c.kept_rows_stand_for_their_records.ensures.names;
      take = c.kept_rows_stand_for_their_records.ensures.take;
    } in
    let kept : IsKeptRow (put_found c.args.by.number c.args.trees.now.tables c.args.table.0 c.args.bookmark.now (option_copied c.args.copied)) c.args.values.now c.as_slice-bytes.result.now = is_kept_row laws (put_found c.args.by.number c.args.trees.now.tables c.args.table.0 c.args.bookmark.now (option_copied c.args.copied)) c.args.values.now c.as_slice-bytes.result.now c.requires.may (c.as_slice-bytes.ensures.value ∙ c.in-Ok.ensures.row) in
    kept.bytes

pub put_row-requires-clause-form : goal.put_row-requires-clause-form
put_row-requires-clause-form c =
    let laws : KeepLaws = record {
      read = c.rows_are_read_back.ensures;
      form = c.form_of_a_kept_row.ensures.form;
      row = c.form_of_a_kept_row.ensures.row;
      names = c.kept_rows_stand_for_their_records.ensures.names;
      take = c.kept_rows_stand_for_their_records.ensures.take;
    } in
    let kept : IsKeptRow (put_found c.args.by.number c.args.trees.now.tables c.args.table.0 c.args.bookmark.now (option_copied c.args.copied)) c.args.values.now c.as_slice-bytes.result.now = is_kept_row laws (put_found c.args.by.number c.args.trees.now.tables c.args.table.0 c.args.bookmark.now (option_copied c.args.copied)) c.args.values.now c.as_slice-bytes.result.now c.requires.may (c.as_slice-bytes.ensures.value ∙ c.in-Ok.ensures.row) in
    kept.form

pub put_row-requires-clause-may : goal.put_row-requires-clause-may
put_row-requires-clause-may c =
    let laws : KeepLaws = record {
      read = c.rows_are_read_back.ensures;
      form = c.form_of_a_kept_row.ensures.form;
      row = c.form_of_a_kept_row.ensures.row;
      names = c.kept_rows_stand_for_their_records.ensures.names;
      take = c.kept_rows_stand_for_their_records.ensures.take;
    } in
    let kept : IsKeptRow (put_found c.args.by.number c.args.trees.now.tables c.args.table.0 c.args.bookmark.now (option_copied c.args.copied)) c.args.values.now c.as_slice-bytes.result.now = is_kept_row laws (put_found c.args.by.number c.args.trees.now.tables c.args.table.0 c.args.bookmark.now (option_copied c.args.copied)) c.args.values.now c.as_slice-bytes.result.now c.requires.may (c.as_slice-bytes.ensures.value ∙ c.in-Ok.ensures.row) in
    kept.may

pub put_row-requires-clause-names : goal.put_row-requires-clause-names
put_row-requires-clause-names c =
    let laws : KeepLaws = record {
      read = c.rows_are_read_back.ensures;
      form = c.form_of_a_kept_row.ensures.form;
      row = c.form_of_a_kept_row.ensures.row;
      names = c.kept_rows_stand_for_their_records.ensures.names;
      take = c.kept_rows_stand_for_their_records.ensures.take;
    } in
    let kept : IsKeptRow (put_found c.args.by.number c.args.trees.now.tables c.args.table.0 c.args.bookmark.now (option_copied c.args.copied)) c.args.values.now c.as_slice-bytes.result.now = is_kept_row laws (put_found c.args.by.number c.args.trees.now.tables c.args.table.0 c.args.bookmark.now (option_copied c.args.copied)) c.args.values.now c.as_slice-bytes.result.now c.requires.may (c.as_slice-bytes.ensures.value ∙ c.in-Ok.ensures.row) in
    kept.names

pub returns-clause-put : goal.returns-clause-put
returns-clause-put c =
    let laws : KeepLaws = record {
      read = c.rows_are_read_back.ensures;
      form = c.form_of_a_kept_row.ensures.form;
      row = c.form_of_a_kept_row.ensures.row;
      names = c.kept_rows_stand_for_their_records.ensures.names;
      take = c.kept_rows_stand_for_their_records.ensures.take;
    } in
    let kept : IsKeptRow (put_found c.args.by.number c.args.trees.now.tables c.args.table.0 c.args.bookmark.now (option_copied c.args.copied)) c.args.values.now c.as_slice-bytes.result.now = is_kept_row laws (put_found c.args.by.number c.args.trees.now.tables c.args.table.0 c.args.bookmark.now (option_copied c.args.copied)) c.args.values.now c.as_slice-bytes.result.now c.requires.may (c.as_slice-bytes.ensures.value ∙ c.in-Ok.ensures.row) in
    on_ok c.put_row.result c.put_row.ensures.put (λ put.
    subst (λ (r : RowFields). IsPut c.args.table.0 c.args.bookmark.now (row_bytes (kept_row (put_found c.args.by.number c.args.trees.now.tables c.args.table.0 c.args.bookmark.now (option_copied c.args.copied)) c.args.values.now)) (given_values r c.args.values.now) (record_keys c.args.schema.now.indexes c.args.schema.now c.args.values.now) c.args.trees.now.tables c.put_row.new.trees.tables) kept.read
    (subst (λ (row : List ℕ). IsPut c.args.table.0 c.args.bookmark.now row (given_values (row_in c.as_slice-bytes.result.now) c.args.values.now) (record_keys c.args.schema.now.indexes c.args.schema.now c.args.values.now) c.args.trees.now.tables c.put_row.new.trees.tables)
    (c.as_slice-bytes.ensures.value ∙ c.in-Ok.ensures.row) put))
