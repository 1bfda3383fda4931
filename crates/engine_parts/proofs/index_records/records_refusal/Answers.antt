use Rattle.std.proofs.Common.{sym, ap, ◌∙◌}
use Rattle.column_set.specs.Refusals.{Refusals, first_refusal}
use Rattle.database_state.specs.Table.{schema_of}
use Rattle.engine_parts.specs.CreatingIndexes.{rows_shown}
use Rattle.engine_parts.proofs.BroughtRecords.{brought_refused, refuses_none}
use Rattle.engine_parts.proofs.index_records.records_refusal.Goals as goal

pub returns-in_ok-brought : goal.returns-in_ok-brought
returns-in_ok-brought c =
    c.refusal.ensures
    ∙ ap (λ (r : Refusals). first_refusal r) (brought_refused c.args.rule.now (schema_of c.args.table.now) (rows_shown c.args.reader c.args.tables.now.store c.args.table.now.id) c.in_ok-brought.brought c.in_ok-brought.ensures)

pub returns-else-asks_of_records : goal.returns-else-asks_of_records
returns-else-asks_of_records c =
    sym (refuses_none c.args.rule.now (schema_of c.args.table.now) (rows_shown c.args.reader c.args.tables.now.store c.args.table.now.id) (sym c.asks_of_records.ensures ∙ c.if-asks_of_records.false))
