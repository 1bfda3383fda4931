use Rattle.std.proofs.Common.{sym, ◌∙◌}
use Rattle.std.specs.Prelude.{is_some}
use Rattle.database_state.specs.Table.{row_at}
use Rattle.index_derive.specs.Entries.{is_escrow_column}
use Rattle.soft_recovery.specs.LawfulEntries.{rows_in}
use Rattle.soft_recovery.proofs.Deciding.{sum_refused, sum_taken}
use Rattle.soft_recovery.proofs.next_entries.changes.takes_sum.Goals as goal

pub returns-then-is_escrow_column : goal.returns-then-is_escrow_column
returns-then-is_escrow_column c =
    sum_taken c.args.engine.now (λ state. is_some (row_at (rows_in state c.args.session.0 c.args.table.0) c.args.bookmark.now)) (is_escrow_column c.args.schema.now c.args.column.0) c.sees_record.result
    (sym c.is_escrow_column.ensures ∙ c.if-is_escrow_column.true) c.sees_record.ensures

pub returns-else-is_escrow_column : goal.returns-else-is_escrow_column
returns-else-is_escrow_column c =
    sum_refused c.args.engine.now (λ state. is_some (row_at (rows_in state c.args.session.0 c.args.table.0) c.args.bookmark.now)) (is_escrow_column c.args.schema.now c.args.column.0) (sym c.is_escrow_column.ensures ∙ c.if-is_escrow_column.false)
