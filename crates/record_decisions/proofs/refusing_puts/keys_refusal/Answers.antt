use Rattle.std.proofs.Common.{List, Some, None, sym, ap, ◌∙◌}
use Rattle.std.specs.Prelude.{option_copied}
use Rattle.std.specs.List.{flat_map}
use Rattle.index_derive.specs.declared.rules.IndexRule.{IndexRule}
use Rattle.index_derive.specs.Entries.{is_unique}
use Rattle.column_set.specs.Refusals.{Refusals, first_refusal}
use Rattle.stored_variants.specs.StoredVersions.{StoredVersions}
use Rattle.record_decisions.specs.Updating.{rule_refusals}
use Rattle.record_decisions.proofs.IndexRefusals.{rule-taken, rule-told}
use Rattle.record_decisions.proofs.RuleByRule.{asked_where, filter-asked, passed-all, passed-more, placed, refused-at}
use Rattle.record_decisions.proofs.refusing_puts.keys_refusal.Goals as goal

pub rule_refusal-requires-clause-taken : goal.rule_refusal-requires-clause-taken
rule_refusal-requires-clause-taken c =
    rule-taken c.args.schema.now c.args.values.now c.loop-rule.rule-index c.rule-item.result c.requires.taken
    (placed c.as_slice-rule-items.result.now _ c.loop-rule.rule-index c.rule-item.result c.as_slice-rule-items.ensures c.loop-rule-test.true c.rule-item.is)

pub returns-in-Some : goal.returns-in-Some
returns-in-Some c =
    let schema = c.args.schema.now in
    let own = option_copied c.args.own in
    let values = c.args.values.now in
    let rules : IndexRule → Refusals = rule_refusals c.args.engine.now c.args.session.0 c.args.table.0 schema own values in
    refused-at (asked_where is_unique rules) c.as_slice-rule-items.result.now c.loop-rule.rule-index c.rule-item.result c.in-Some.refusal c.loop-rule.invariant c.loop-rule-test.true c.rule-item.is
    (rule-told c.args.engine.now c.args.session.0 c.args.table.0 schema own values c.rule-item.result c.reader-reader.result c.tables-tables.result.now.store (Some c.in-Some.refusal)
    c.reader-reader.ensures (ap (λ (tables : StoredVersions). tables.store) c.tables-tables.ensures) c.in-Some.ensures)
    ∙ ap (λ (items : List IndexRule). first_refusal (flat_map (asked_where is_unique rules) items)) c.as_slice-rule-items.ensures
    ∙ sym (ap (λ (refusals : Refusals). first_refusal refusals) (filter-asked is_unique rules schema.indexes))

pub loop-rule-preserved : goal.loop-rule-preserved
loop-rule-preserved c =
    let schema = c.args.schema.now in
    let own = option_copied c.args.own in
    let values = c.args.values.now in
    let rules : IndexRule → Refusals = rule_refusals c.args.engine.now c.args.session.0 c.args.table.0 schema own values in
    passed-more (asked_where is_unique rules) c.as_slice-rule-items.result.now c.loop-rule.rule-index c.rule-item.result c.loop-rule.invariant c.loop-rule-test.true c.rule-item.is
    (rule-told c.args.engine.now c.args.session.0 c.args.table.0 schema own values c.rule-item.result c.reader-reader.result c.tables-tables.result.now.store None
    c.reader-reader.ensures (ap (λ (tables : StoredVersions). tables.store) c.tables-tables.ensures) c.in-None.ensures)

pub returns : goal.returns
returns c =
    let schema = c.args.schema.now in
    let asked = rule_refusals c.args.engine.now c.args.session.0 c.args.table.0 schema (option_copied c.args.own) c.args.values.now in
    passed-all (asked_where is_unique asked) c.as_slice-rule-items.result.now c.loop-rule.rule-index c.loop-rule.invariant c.loop-rule-test.false
    ∙ ap (λ (rules : List IndexRule). first_refusal (flat_map (asked_where is_unique asked) rules)) c.as_slice-rule-items.ensures
    ∙ sym (ap (λ (refusals : Refusals). first_refusal refusals) (filter-asked is_unique asked schema.indexes))
