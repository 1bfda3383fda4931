use Rattle.std.proofs.Common.{◌≡◌, ℕ, List, [], ◌-◌, length, take, drop, sym, ap, subst, ◌∙◌}
use Rattle.common_lemmas.proofs.Results.{OnOk-then}
use Rattle.column_set.specs.RecordValues.{RecordFields}
use Rattle.column_set.specs.RowReading.{row_in}
use Rattle.column_set.specs.Rows.{values_in_order}
use Rattle.long_rows.specs.ReferenceCounts.{with_all_taken}
use Rattle.table_trees.specs.StoredTables.{table_long_values}
use Rattle.table_trees.specs.NamedValues.{given_of, values_left}
use Rattle.table_trees.specs.ValuesChanged.{HasLongValues}
use Rattle.table_trees.proofs.TakingAll.{MayAll}
use Rattle.table_trees.proofs.WholeRow.{count_left, given_left, may_left, row_stands}
use Rattle.table_trees.proofs.kept_rows.rows.take_row.Goals as goal

pub take_values-requires-clause-may : goal.take_values-requires-clause-may
take_values-requires-clause-may c =
    subst (λ (f : RecordFields). MayAll (take (length c.args.row.now - 2) (drop 2 c.args.row.now)) (values_left [] f) (table_long_values c.args.trees.now.tables c.args.table.0)) (sym c.fields.ensures.fields)
    (may_left c.rows_are_read_back.ensures c.args.row.now c.args.values.now (table_long_values c.args.trees.now.tables c.args.table.0) c.requires.row c.requires.form c.requires.may)

pub returns-clause-ok : goal.returns-clause-ok
returns-clause-ok c =
    let row = row_in c.args.row.now in
    let fields = c.args.values.now in
    let values = table_long_values c.args.trees.now.tables c.args.table.0 in
    let same : given_of (values_in_order row) (values_left [] c.fields.result.now) ≡ given_of (values_in_order row) (values_left [] fields) = ap (λ (f : RecordFields). given_of (values_in_order row) (values_left [] f)) c.fields.ensures.fields in
    OnOk-then c.take_values.result
    (λ all. subst (λ (l : List (List ℕ × List ℕ)). HasLongValues c.args.table.0 (with_all_taken l values) c.args.trees.now.tables c.take_values.new.trees.tables) (same ∙ given_left row fields)
    (all (values_in_order row) (row_stands c.rows_are_read_back.ensures c.args.row.now c.requires.row) (count_left row fields c.requires.form ∙ sym (ap (λ (f : RecordFields). length (values_left [] f)) c.fields.ensures.fields))))
    c.take_values.ensures.ok
