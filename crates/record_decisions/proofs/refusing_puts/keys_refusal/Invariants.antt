use Rattle.std.specs.Prelude.{option_copied}
use Rattle.index_derive.specs.Entries.{is_unique}
use Rattle.record_decisions.specs.Updating.{rule_refusals}
use Rattle.record_decisions.proofs.RuleByRule.{PassedTo, asked_where}
use Rattle.record_decisions.proofs.refusing_puts.keys_refusal.Given as goal

-- no unique index so far refuses a key of the record
abbrev pub invariant-loop-rule : goal.invariant-loop-rule
invariant-loop-rule l =
    PassedTo (asked_where is_unique (rule_refusals l.engine l.fn.session.0 l.table.0 l.schema (option_copied l.fn.own) l.values)) l.rule-items l.rule-index
