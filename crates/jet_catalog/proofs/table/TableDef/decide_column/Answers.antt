use Rattle.std.proofs.Common.{◌≡◌, ℕ, sym, ap, ◌∙◌}
use Rattle.jet_base.specs.declared.ids.ColumnId.{ColumnId}
use Rattle.jet_base.specs.declared.ids.TableId.{TableId}
use Rattle.index_derive.specs.declared.schema_calls.SchemaStep.{SchemaStep}
use Rattle.index_derive.specs.declared.schema_calls.SchemaStep.TheVariants.{AddColumn}
use Rattle.database_state.specs.SchemaChanges.{column_refusals}
use Rattle.database_state.specs.SchemaSteps.{asked_column}
use Rattle.jet_catalog.proofs.Answered.{answer-refused, answer-made}
use Rattle.jet_catalog.proofs.table.TableDef.decide_column.Goals as goal

pub returns-in-Err : goal.returns-in-Err
returns-in-Err c =
    let column = asked_column c.args.self.now c.args.name.now c.args.kind c.args.flags in
    let id : ColumnId = column.id in
    let made : SchemaStep = AddColumn (record { 0 = c.args.self.now.id }) column in
    answer-refused (column_refusals c.args.has_records c.args.self.now column) id made c.in-Err.refusal (sym c.number_for_column.ensures ∙ c.in-Err.is)

pub returns-in_ok-copy-in-Ok : goal.returns-in_ok-copy-in-Ok
returns-in_ok-copy-in-Ok c =
    let column = asked_column c.args.self.now c.args.name.now c.args.kind c.args.flags in
    let id : ColumnId = column.id in
    let made : SchemaStep = AddColumn (record { 0 = c.args.self.now.id }) column in
    let answered = answer-made (column_refusals c.args.has_records c.args.self.now column) id c.in-Ok.id made (sym c.number_for_column.ensures ∙ c.in-Ok.is) in
    let numbered : ℕ → TableId = λ n. record { 0 = n } in
    let table : c.id.result ≡ numbered c.args.self.now.id = ap numbered c.id.ensures in
    rw (answered.1, answered.0, table, c.in_ok-copy-in-Ok.ensures, c.is_tagged.ensures)
