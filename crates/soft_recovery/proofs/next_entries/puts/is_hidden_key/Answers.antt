use Rattle.std.proofs.Common.{Bool, subst}
use Rattle.std.specs.Prelude.{is_some}
use Rattle.database_state.specs.State.{DatabaseState}
use Rattle.database_state.specs.Table.{row_at}
use Rattle.soft_recovery.specs.LawfulEntries.{IsTold, rows_in}
use Rattle.soft_recovery.proofs.Placing.{next_key, seen_key}
use Rattle.soft_recovery.proofs.next_entries.puts.is_hidden_key.Goals as goal

pub returns-then-sees_record : goal.returns-then-sees_record
returns-then-sees_record c =
    let test : DatabaseState → Bool = λ state. is_some (row_at (rows_in state c.args.session.0 c.args.table.0) c.args.bookmark.now) in
    seen_key c.args.engine.now test c.args.bookmark.now (subst (IsTold c.args.engine.now test) c.if-sees_record.true c.sees_record.ensures)

pub returns : goal.returns
returns c =
    let test : DatabaseState → Bool = λ state. is_some (row_at (rows_in state c.args.session.0 c.args.table.0) c.args.bookmark.now) in
    next_key c.args.engine.now test c.args.bookmark.now c.is_next_number.result (subst (IsTold c.args.engine.now test) c.if-sees_record.false c.sees_record.ensures) c.is_next_number.ensures
