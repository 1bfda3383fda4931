use Rattle.record_decisions.specs.Updating.{entry_refusals}
use Rattle.record_decisions.proofs.RuleByRule.{PassedTo}
use Rattle.record_decisions.proofs.refusing_puts.null_refusal.Given as goal

-- no index so far refuses the record
abbrev pub invariant-loop-rule : goal.invariant-loop-rule
invariant-loop-rule l = PassedTo (entry_refusals l.schema l.values) l.rule-items l.rule-index
