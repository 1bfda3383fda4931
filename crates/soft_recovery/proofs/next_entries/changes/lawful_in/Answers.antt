use Rattle.std.proofs.Common.{◌&&◌, ℕ, List, subst}
use Rattle.std.specs.Prelude.{is_some, IfOk}
use Rattle.column_set.specs.declared.changes.Change.{Change}
use Rattle.column_set.specs.ChangedRecords.{changed_table}
use Rattle.index_derive.specs.Entries.{is_escrow_column}
use Rattle.database_state.specs.Table.{row_at}
use Rattle.record_decisions.specs.Updating.{IsSchemaOf}
use Rattle.soft_recovery.specs.LawfulEntries.{IsTold, is_lawful_put_in, rows_in}
use Rattle.soft_recovery.proofs.Deciding.{drop_told, hold_told, put_told, sum_told}
use Rattle.soft_recovery.proofs.next_entries.changes.lawful_in.Goals as goal

pub lawful_put-requires-clause-named : goal.lawful_put-requires-clause-named
lawful_put-requires-clause-named c = subst (λ (made : Change). IsSchemaOf c.args.engine.now (changed_table made) c.args.schema.now) c.in-Put.is c.requires.named

pub returns-in-Put : goal.returns-in-Put
returns-in-Put c =
    put_told c.args.engine.now c.args.session.0 c.args.schema.now c.args.change.now c.in-Put.table c.in-Put.bookmark c.in-Put.copied c.in-Put.values c.lawful_put.result c.in-Put.is c.requires.named
    (subst (λ (b : List ℕ). IfOk c.lawful_put.result (IsTold c.args.engine.now (λ state. is_lawful_put_in state c.args.session.0 c.in-Put.table.0 c.args.schema.now b c.in-Put.copied c.in-Put.values))) c.as_bytes.ensures c.lawful_put.ensures)

pub returns-in-Drop : goal.returns-in-Drop
returns-in-Drop c =
    drop_told c.args.engine.now c.args.session.0 c.args.schema.now c.args.change.now c.in-Drop.table c.in-Drop.bookmark c.sees_record.result c.in-Drop.is c.requires.named
    (subst (λ (b : List ℕ). IsTold c.args.engine.now (λ state. is_some (row_at (rows_in state c.args.session.0 c.in-Drop.table.0) b)) c.sees_record.result) c.as_bytes-in-Drop.ensures c.sees_record.ensures)

pub returns-in-Hold : goal.returns-in-Hold
returns-in-Hold c =
    hold_told c.args.engine.now c.args.session.0 c.args.schema.now c.args.change.now c.in-Hold.table c.in-Hold.bookmark c.sees_record-in-Hold.result c.in-Hold.is c.requires.named
    (subst (λ (b : List ℕ). IsTold c.args.engine.now (λ state. is_some (row_at (rows_in state c.args.session.0 c.in-Hold.table.0) b)) c.sees_record-in-Hold.result) c.as_bytes-in-Hold.ensures c.sees_record-in-Hold.ensures)

pub returns-in-Add : goal.returns-in-Add
returns-in-Add c =
    sum_told c.args.engine.now c.args.session.0 c.args.schema.now c.args.change.now c.in-Add.table c.in-Add.bookmark c.in-Add.column c.in-Add.amount c.takes_sum.result c.in-Add.is c.requires.named
    (subst (λ (b : List ℕ). IsTold c.args.engine.now (λ state. is_some (row_at (rows_in state c.args.session.0 c.in-Add.table.0) b) && is_escrow_column c.args.schema.now c.in-Add.column.0) c.takes_sum.result) c.as_bytes-in-Add.ensures c.takes_sum.ensures)
