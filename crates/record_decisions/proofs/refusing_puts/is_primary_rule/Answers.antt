use Rattle.record_decisions.proofs.OwnKeys.{primary-again}
use Rattle.record_decisions.proofs.refusing_puts.is_primary_rule.Goals as goal

pub returns-in-Some : goal.returns-in-Some
returns-in-Some c = λ same. primary-again c.args.schema.now c.in-Some.primary.now c.args.rule.now c.requires.rules c.in-Some.ensures c.requires.rule same
