use Rattle.session_local.specs.Preparing.{update_of}
use Rattle.record_decisions.proofs.PutSteps.{values-changed, values-missing, values-passed}
use Rattle.record_decisions.proofs.refusing_puts.values_refusal.Goals as goal

pub returns-then-is_missing_a_value : goal.returns-then-is_missing_a_value
returns-then-is_missing_a_value c =
    values-missing c.args.schema.now (update_of c.args.prepared.now) c.values-values.result.now c.is_missing_a_value.result c.values-values.ensures c.is_missing_a_value.ensures c.if-is_missing_a_value.true

pub returns-then-is_primary_changed : goal.returns-then-is_primary_changed
returns-then-is_primary_changed c =
    values-changed c.args.schema.now (update_of c.args.prepared.now) c.values-values.result.now c.is_missing_a_value.result c.is_primary_changed.result c.values-values.ensures c.is_missing_a_value.ensures c.if-is_missing_a_value.false
    c.is_primary_changed.ensures c.if-is_primary_changed.true

pub returns-else-is_primary_changed : goal.returns-else-is_primary_changed
returns-else-is_primary_changed c =
    values-passed c.args.schema.now (update_of c.args.prepared.now) c.values-values.result.now c.is_missing_a_value.result c.is_primary_changed.result c.null_refusal.result c.values-values.ensures c.is_missing_a_value.ensures c.if-is_missing_a_value.false
    c.is_primary_changed.ensures c.if-is_primary_changed.false c.null_refusal.ensures
