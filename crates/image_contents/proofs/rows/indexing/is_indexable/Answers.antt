use Rattle.std.proofs.Common.{sym, ◌∙◌}
use Rattle.image_contents.proofs.IndexesTake.{passed_all, passes_one, placed, refused_at}
use Rattle.image_contents.proofs.rows.indexing.is_indexable.Goals as goal

pub takes-requires-clause-legal : goal.takes-requires-clause-legal
takes-requires-clause-legal g c = (c.requires c.loop-rule.rule-index c.rule-item.result (placed c.as_slice-rule-items.result.now _ c.loop-rule.rule-index c.rule-item.result c.as_slice-rule-items.ensures c.loop-rule-test.true c.rule-item.is)).0

pub takes-requires-clause-short : goal.takes-requires-clause-short
takes-requires-clause-short g c = (c.requires c.loop-rule.rule-index c.rule-item.result (placed c.as_slice-rule-items.result.now _ c.loop-rule.rule-index c.rule-item.result c.as_slice-rule-items.ensures c.loop-rule-test.true c.rule-item.is)).1

pub returns-in-Ok-false : goal.returns-in-Ok-false
returns-in-Ok-false g c =
    refused_at c.args.schema.now (g.R.Values.fields c.args.values.now) c.as_slice-rule-items.result.now c.loop-rule.rule-index c.rule-item.result c.as_slice-rule-items.ensures c.loop-rule.invariant c.loop-rule-test.true c.rule-item.is
    (sym c.in-Ok-false.field-0-test ∙ c.in-Ok-false.ensures)

pub loop-rule-preserved : goal.loop-rule-preserved
loop-rule-preserved g c =
    passes_one c.args.schema.now (g.R.Values.fields c.args.values.now) c.as_slice-rule-items.result.now c.loop-rule.rule-index c.rule-item.result c.loop-rule.invariant c.loop-rule-test.true c.rule-item.is
    (sym c.in-Ok-true.field-0-test ∙ c.in-Ok-true.ensures)

pub returns : goal.returns
returns g c = passed_all c.args.schema.now (g.R.Values.fields c.args.values.now) c.as_slice-rule-items.result.now c.loop-rule.rule-index c.as_slice-rule-items.ensures c.loop-rule.invariant c.loop-rule-test.false
