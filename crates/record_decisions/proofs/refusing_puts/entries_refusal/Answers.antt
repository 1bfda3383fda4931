use Rattle.record_decisions.proofs.IndexRefusals.{entries-allowed}
use Rattle.record_decisions.proofs.refusing_puts.entries_refusal.Goals as goal

pub returns-then-not-rule-2 : goal.returns-then-not-rule-2
returns-then-not-rule-2 c = entries-allowed c.args.rule.now c.args.schema.now c.args.values.now c.if-not-rule.true c.if-not-rule-2.true
