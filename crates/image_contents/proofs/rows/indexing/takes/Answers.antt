use Rattle.image_contents.proofs.IndexesTake.{allowed}
use Rattle.image_contents.proofs.rows.indexing.takes.Goals as goal

pub returns-then-not-rule-2 : goal.returns-then-not-rule-2
returns-then-not-rule-2 g c = allowed c.args.rule.now c.args.schema.now (g.R.Values.fields c.args.values.now) c.if-not-rule.true c.if-not-rule-2.true
