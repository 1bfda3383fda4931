use Rattle.std.proofs.Common.{false, Ok, sym, ◌∙◌}
use Rattle.column_set.specs.ChangedRecords.{changed_table}
use Rattle.database_state.specs.Table.{table_with_id}
use Rattle.soft_recovery.proofs.Deciding.{change_goes, change_stopped, named_by, table_lacks}
use Rattle.soft_recovery.proofs.next_entries.changes.lawful_change.Goals as goal

pub returns-then-is_hindered : goal.returns-then-is_hindered
returns-then-is_hindered c =
    change_stopped c.sessions_are_told.ensures.levels c.conflicts_are_told.ensures.write c.args.engine.now c.args.session.0 c.args.change.now (sym c.is_hindered.ensures ∙ c.if-is_hindered.true)

pub lawful_in-requires-clause-named : goal.lawful_in-requires-clause-named
lawful_in-requires-clause-named c =
    named_by (table_with_id c.args.engine.now.store.tables (changed_table c.args.change.now)) c.in-Some.table.now c.schema.result.now c.in-Some.ensures c.schema.ensures

pub returns-in-Some : goal.returns-in-Some
returns-in-Some c =
    change_goes c.sessions_are_told.ensures.levels c.conflicts_are_told.ensures.write c.args.engine.now c.args.session.0 c.args.change.now c.lawful_in.result (sym c.is_hindered.ensures ∙ c.if-is_hindered.false) c.lawful_in.ensures

pub returns-in-None : goal.returns-in-None
returns-in-None c =
    change_goes c.sessions_are_told.ensures.levels c.conflicts_are_told.ensures.write c.args.engine.now c.args.session.0 c.args.change.now (Ok false) (sym c.is_hindered.ensures ∙ c.if-is_hindered.false)
    (table_lacks c.tables_are_told.ensures.numbered c.args.engine.now c.args.session.0 c.args.change.now c.in-None.ensures)
