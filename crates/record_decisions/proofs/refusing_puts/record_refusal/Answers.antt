use Rattle.std.proofs.Common.{sym, ap, subst, ◌∙◌}
use Rattle.cursor_nav.specs.Navigation.{CursorState}
use Rattle.column_set.specs.RecordValues.{RecordFields}
use Rattle.column_set.specs.Refusals.{first_refusal}
use Rattle.database_state.specs.Puts.{null_refusals}
use Rattle.session_local.specs.Preparing.{update_of}
use Rattle.record_decisions.specs.Updating.{HasLegalRules, keys_in, own_key}
use Rattle.record_decisions.proofs.PutSteps.{keys-asked, values-refused, values-taken}
use Rattle.record_decisions.proofs.refusing_puts.record_refusal.Goals as goal

pub values_refusal-requires : goal.values_refusal-requires
values_refusal-requires c = record { rules = subst HasLegalRules (sym c.schema-schema.ensures) c.requires.rules }

pub keys_refusal-requires-clause-rules : goal.keys_refusal-requires-clause-rules
keys_refusal-requires-clause-rules c = subst HasLegalRules (sym c.schema-schema.ensures) c.requires.rules

pub keys_refusal-requires-clause-key : goal.keys_refusal-requires-clause-key
keys_refusal-requires-clause-key c = c.requires.key ∙ (λ i. own_key (sym c.schema-schema.ensures i) (sym c.values-values.ensures i))

pub keys_refusal-requires-clause-taken : goal.keys_refusal-requires-clause-taken
keys_refusal-requires-clause-taken c =
    ap (λ (values : RecordFields). first_refusal (null_refusals c.schema-schema.result.now values)) c.values-values.ensures
    ∙ values-taken c.schema-schema.result.now (update_of c.args.prepared.now) (rw c.in-Ok-None.field-0-is at c.in-Ok-None.ensures)

pub returns-in-Ok-None : goal.returns-in-Ok-None
returns-in-Ok-None c =
    keys-asked c.args.engine.now c.args.session.0 c.args.found.now (update_of c.args.prepared.now) c.table-table.result.0 c.schema-schema.result.now c.keys_refusal.result
    (c.table-table.ensures ∙ ap (λ (cursor : CursorState). cursor.table) c.cursor.ensures) c.schema-schema.ensures (rw c.in-Ok-None.field-0-is at c.in-Ok-None.ensures)
    (c.keys_refusal.ensures ∙ (λ i. first_refusal (keys_in c.args.engine.now c.args.session.0 c.table-table.result.0 c.schema-schema.result.now (c.replaced_by-own.ensures i) (c.values-values.ensures i))))

pub returns-in-Ok-Some : goal.returns-in-Ok-Some
returns-in-Ok-Some c =
    values-refused c.args.engine.now c.args.session.0 c.args.found.now (update_of c.args.prepared.now) c.schema-schema.result.now c.in-Ok-Some.refusal c.schema-schema.ensures (rw c.in-Ok-Some.field-0-is at c.in-Ok-Some.ensures)
