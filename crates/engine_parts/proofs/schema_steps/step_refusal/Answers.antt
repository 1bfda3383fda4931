use Rattle.std.proofs.Common.{◌≡◌, Option, Some, sym, ap, subst}
use Rattle.std.specs.Prelude.{IfOk, option_copied}
use Rattle.column_set.specs.Refusals.{first_refusal}
use Rattle.database_state.specs.Table.{Table, schema_of}
use Rattle.laws_engine.specs.EngineState.{EngineState}
use Rattle.index_derive.specs.declared.rules.IndexRule.{IndexRule}
use Rattle.index_derive.specs.declared.schema_calls.SchemaStep.{SchemaStep}
use Rattle.stored_variants.specs.StoredVersions.{StoredVersions}
use Rattle.version_cleanup.specs.Cleaning.{reader_in}
use Rattle.version_store.specs.declared.calls.Reader.{Reader}
use Rattle.engine_parts.specs.CreatingIndexes.{row_refusals, rows_shown, step_refusals_in}
use Rattle.engine_parts.proofs.schema_steps.step_refusal.Goals as goal

pub returns-in-CreateIndex : goal.returns-in-CreateIndex
returns-in-CreateIndex c =
    let engine : EngineState = c.args.engine.now in
    let index : IndexRule = c.in-CreateIndex.index in
    let table : Table = c.in-Some.table.now in
    let seen : IfOk c.records_refusal.result (λ refusal. refusal ≡ first_refusal (row_refusals index (schema_of table) (rows_shown c.reader.result engine.store table.id))) =
    subst (λ (stored : StoredVersions). IfOk c.records_refusal.result (λ refusal. refusal ≡ first_refusal (row_refusals index (schema_of table) (rows_shown c.reader.result stored.store table.id)))) c.tables.ensures c.records_refusal.ensures in
    let own : IfOk c.records_refusal.result (λ refusal. refusal ≡ first_refusal (row_refusals index (schema_of table) (rows_shown (reader_in c.args.session.0 engine.sessions) engine.store table.id))) =
    subst (λ (reader : Reader). IfOk c.records_refusal.result (λ refusal. refusal ≡ first_refusal (row_refusals index (schema_of table) (rows_shown reader engine.store table.id)))) c.reader.ensures seen in
    let made : IfOk c.records_refusal.result (λ refusal. refusal ≡ first_refusal (step_refusals_in engine c.args.session.0 (Some table) c.args.made.now)) =
    subst (λ (made : SchemaStep). IfOk c.records_refusal.result (λ refusal. refusal ≡ first_refusal (step_refusals_in engine c.args.session.0 (Some table) made))) (sym c.in-CreateIndex.is) own in
    subst (λ (found : Option Table). IfOk c.records_refusal.result (λ refusal. refusal ≡ first_refusal (step_refusals_in engine c.args.session.0 found c.args.made.now))) (sym (ap option_copied c.in-Some.is)) made
