use Rattle.column_set.specs.RowReading.{row_in}
use Rattle.column_set.specs.Rows.{values_in_order}
use Rattle.image_contents.proofs.ValuesStand.{fits_else, fits_then, row_is, values_stand_in}
use Rattle.image_contents.proofs.rows.fitting.row_fits.Goals as goal

pub new-requires : goal.new-requires
new-requires c = c.requires

pub returns-then-values_stand : goal.returns-then-values_stand
returns-then-values_stand c =
    let bytes = c.args.row.now in
    fits_then c.rows_are_read_back.ensures c.args.columns.now bytes c.new.result c.values_stand.result c.has_kept_values.result c.requires (row_is c.rows_are_read_back.ensures bytes c.new.result c.requires c.new.ensures.only)
    (c.values_stand.ensures (values_in_order (row_in bytes)) (values_stand_in c.rows_are_read_back.ensures bytes c.requires)) c.if-values_stand.true c.has_kept_values.ensures

pub returns-else-values_stand : goal.returns-else-values_stand
returns-else-values_stand c =
    let bytes = c.args.row.now in
    fits_else c.rows_are_read_back.ensures c.args.columns.now bytes c.values_stand.result c.requires
    (c.values_stand.ensures (values_in_order (row_in bytes)) (values_stand_in c.rows_are_read_back.ensures bytes c.requires)) c.if-values_stand.false
