use Rattle.std.proofs.Common.{sym, ap, ◌∙◌}
use Rattle.std.specs.Prelude.{option_copied}
use Rattle.record_decisions.proofs.OwnKeys.{is-flagged, key-of-rule}
use Rattle.record_decisions.proofs.refusing_puts.unique_refusal.Goals as goal

pub primary_refusal-requires-clause-primary : goal.primary_refusal-requires-clause-primary
primary_refusal-requires-clause-primary c = is-flagged c.args.schema.now c.args.rule.now (c.is_primary_rule.ensures c.if-is_primary_rule.true)

pub returns-then-is_primary_rule : goal.returns-then-is_primary_rule
returns-then-is_primary_rule c =
    c.primary_refusal.ensures c.args.values.now c.requires.taken (key-of-rule c.args.schema.now c.args.values.now c.args.rule.now c.in-Some.key.now (c.is_primary_rule.ensures c.if-is_primary_rule.true) (ap option_copied (sym c.in-Some.is) ∙ c.requires.key))
