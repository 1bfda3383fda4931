use Rattle.std.proofs.Common.{List, ap, ◌∙◌}
use Rattle.std.specs.List.{flat_map}
use Rattle.index_derive.specs.declared.rules.IndexRule.{IndexRule}
use Rattle.column_set.specs.Refusals.{first_refusal}
use Rattle.record_decisions.specs.Updating.{entry_refusals}
use Rattle.record_decisions.proofs.RuleByRule.{placed, refused-at}
use Rattle.record_decisions.proofs.refusing_puts.null_refusal.Goals as goal

pub entries_refusal-requires-clause-legal : goal.entries_refusal-requires-clause-legal
entries_refusal-requires-clause-legal c =
    (c.requires.rules c.loop-rule.rule-index c.rule-item.result (placed c.as_slice-rule-items.result.now _ c.loop-rule.rule-index c.rule-item.result c.as_slice-rule-items.ensures c.loop-rule-test.true c.rule-item.is)).1

pub entries_refusal-requires-clause-short : goal.entries_refusal-requires-clause-short
entries_refusal-requires-clause-short c =
    (c.requires.rules c.loop-rule.rule-index c.rule-item.result (placed c.as_slice-rule-items.result.now _ c.loop-rule.rule-index c.rule-item.result c.as_slice-rule-items.ensures c.loop-rule-test.true c.rule-item.is)).2

pub returns-in-Ok-Some : goal.returns-in-Ok-Some
returns-in-Ok-Some c =
    let asked = entry_refusals c.args.schema.now c.args.values.now in
    refused-at asked c.as_slice-rule-items.result.now c.loop-rule.rule-index c.rule-item.result c.in-Ok-Some.refusal c.loop-rule.invariant c.loop-rule-test.true c.rule-item.is (rw c.in-Ok-Some.field-0-is at c.in-Ok-Some.ensures)
    ∙ ap (λ (rules : List IndexRule). first_refusal (flat_map asked rules)) c.as_slice-rule-items.ensures
