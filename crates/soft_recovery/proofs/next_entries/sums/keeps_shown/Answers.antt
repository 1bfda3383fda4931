use Rattle.std.proofs.Common.{sym, subst, ◌∙◌, List, true, ◌≡◌}
use Rattle.std.specs.List.{AllByRecursion}
use Rattle.column_set.specs.declared.columns.Column.{Column}
use Rattle.laws_versions.specs.EscrowNumbers.{holds_number}
use Rattle.soft_recovery.specs.ShownSums.{keeps_column}
use Rattle.soft_recovery.proofs.ShownSums.{each_at, failed_at, passed_all, passed_more}
use Rattle.soft_recovery.proofs.next_entries.sums.keeps_shown.Goals as goal

pub keeps_column-requires : goal.keeps_column-requires
keeps_column-requires c = record {
  sum = each_at (λ (column : Column). column.escrow ≡ true → holds_number c.args.row.now column.id.0 ≡ true) c.as_slice-column-items.result.now c.loop-column.column-index c.column-item.result
      (subst (λ (columns : List Column). AllByRecursion (λ (column : Column). column.escrow ≡ true → holds_number c.args.row.now column.id.0 ≡ true) columns) (sym c.as_slice-column-items.ensures) c.requires.sums)
      c.loop-column-test.true c.column-item.is;
}

pub returns-then-not-keeps_column : goal.returns-then-not-keeps_column
returns-then-not-keeps_column c =
    failed_at (keeps_column c.args.engine.now c.args.session.0 c.args.table.0 c.args.bookmark.now c.args.row.now c.args.values.now) c.as_slice-column-items.result.now c.args.schema.now.columns c.loop-column.column-index c.column-item.result
    c.as_slice-column-items.ensures c.loop-column-test.true c.column-item.is (sym c.keeps_column.ensures ∙ c.if-not-keeps_column.true)

pub loop-column-preserved : goal.loop-column-preserved
loop-column-preserved c =
    passed_more (keeps_column c.args.engine.now c.args.session.0 c.args.table.0 c.args.bookmark.now c.args.row.now c.args.values.now) c.as_slice-column-items.result.now c.loop-column.column-index c.column-item.result
    c.loop-column-test.true c.column-item.is c.loop-column.invariant (sym c.keeps_column.ensures ∙ c.if-not-keeps_column.false)

pub returns : goal.returns
returns c =
    passed_all (keeps_column c.args.engine.now c.args.session.0 c.args.table.0 c.args.bookmark.now c.args.row.now c.args.values.now) c.as_slice-column-items.result.now c.args.schema.now.columns c.loop-column.column-index
    c.as_slice-column-items.ensures c.loop-column-test.false c.loop-column.invariant
