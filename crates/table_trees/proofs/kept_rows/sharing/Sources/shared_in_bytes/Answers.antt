use Rattle.std.proofs.Common.{Bool, Some, None, if◌then◌else◌, sym, ap, ◌∙◌}
use Rattle.column_set.specs.RowReading.{row_in}
use Rattle.table_trees.specs.StoredTables.{table_long_values}
use Rattle.table_trees.proofs.Shared.{shared_found, shared_missing}
use Rattle.table_trees.proofs.kept_rows.sharing.Sources.shared_in_bytes.Goals as goal

pub returns-then-may_share : goal.returns-then-may_share
returns-then-may_share c =
    ap (λ (b : Bool). if b then Some (c.in-Some.entry, c.in-Some.place) else None) (sym c.if-may_share.true)
    ∙ shared_found (table_long_values c.args.self.now.trees.now.tables c.args.self.now.table.0) (row_in c.args.row.now) c.new.result c.args.column.0 c.args.at c.args.value.now c.in-Some.entry c.in-Some.place c.in-Some.field-0-2 c.may_share.result
    (ap row_in c.new.ensures.spelled ∙ c.rows_are_read_back.ensures c.new.result c.new.ensures.found) c.in-Some.ensures c.may_share.ensures

pub returns-else-may_share : goal.returns-else-may_share
returns-else-may_share c =
    ap (λ (b : Bool). if b then Some (c.in-Some.entry, c.in-Some.place) else None) (sym c.if-may_share.false)
    ∙ shared_found (table_long_values c.args.self.now.trees.now.tables c.args.self.now.table.0) (row_in c.args.row.now) c.new.result c.args.column.0 c.args.at c.args.value.now c.in-Some.entry c.in-Some.place c.in-Some.field-0-2 c.may_share.result
    (ap row_in c.new.ensures.spelled ∙ c.rows_are_read_back.ensures c.new.result c.new.ensures.found) c.in-Some.ensures c.may_share.ensures

pub returns-in-None : goal.returns-in-None
returns-in-None c =
    shared_missing (table_long_values c.args.self.now.trees.now.tables c.args.self.now.table.0) (row_in c.args.row.now) c.new.result c.args.column.0 c.args.at c.args.value.now
    (ap row_in c.new.ensures.spelled ∙ c.rows_are_read_back.ensures c.new.result c.new.ensures.found) c.in-None.ensures
