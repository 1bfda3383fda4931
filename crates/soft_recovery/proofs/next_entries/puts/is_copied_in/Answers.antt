use Rattle.std.proofs.Common.{ℕ, true, List, Option, refl, sym, subst}
use Rattle.std.specs.Prelude.{is_some}
use Rattle.database_state.specs.Lawful.{is_copied_in}
use Rattle.database_state.specs.Table.{row_at}
use Rattle.soft_recovery.specs.LawfulEntries.{IsTold, rows_in}
use Rattle.soft_recovery.proofs.next_entries.puts.is_copied_in.Goals as goal

pub returns-in-Some : goal.returns-in-Some
returns-in-Some c =
    subst (λ (copied : Option (List ℕ)). IsTold c.args.engine.now (λ state. is_copied_in (rows_in state c.args.session.0 c.args.table.0) copied) c.sees_record.result) (sym c.in-Some.is)
    (subst (λ (b : List ℕ). IsTold c.args.engine.now (λ state. is_some (row_at (rows_in state c.args.session.0 c.args.table.0) b)) c.sees_record.result) c.as_bytes.ensures c.sees_record.ensures)

pub returns-in-None : goal.returns-in-None
returns-in-None c =
    subst (λ (copied : Option (List ℕ)). IsTold c.args.engine.now (λ state. is_copied_in (rows_in state c.args.session.0 c.args.table.0) copied) true) (sym c.in-None.is) (λ state h. refl)
