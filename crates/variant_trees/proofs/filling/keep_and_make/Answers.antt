use Rattle.std.proofs.Common.{sym, ◌∙◌}
use Rattle.index_derive.specs.declared.schema_calls.SchemaStep.TheVariants as step
use Rattle.jet_catalog.specs.Catalog.{catalog_after}
use Rattle.variant_trees.proofs.KeptSteps.{index_back, index_came, shows_after, shows_in, shows_other}
use Rattle.variant_trees.proofs.filling.keep_and_make.Goals as goal

pub keep_index-requires-clause-step : goal.keep_index-requires-clause-step
keep_index-requires-clause-step c = (c.args.catalog.now, c.requires.shown, c.requires.new)

pub forget_index-requires : goal.forget_index-requires
forget_index-requires c = (
  catalog_after c.args.catalog.now (step.CreateIndex c.args.table c.args.rule.now),
  c.in-Ok.ensures.ok c.args.catalog.now c.requires.shown c.requires.new,
  index_came c.args.catalog.now c.args.table c.args.rule.now c.requires.new,
)

pub returns-in-Ok-make-clause-shown : goal.returns-in-Ok-make-clause-shown
returns-in-Ok-make-clause-shown c =
    shows_after c.keep_index.new.self.catalog c.args.catalog.now c.make.new.self c.args.made.now (step.CreateIndex c.args.table c.args.rule.now) c.requires.step c.in-Ok-make.ensures.made (c.in-Ok.ensures.ok c.args.catalog.now c.requires.shown c.requires.new)

pub returns-in-Err-make-clause-shown : goal.returns-in-Err-make-clause-shown
returns-in-Err-make-clause-shown c =
    shows_other c.forget_index.new.self.catalog (catalog_after (catalog_after c.args.catalog.now (step.CreateIndex c.args.table c.args.rule.now)) (step.DeleteIndex c.args.table c.args.rule.now.id)) c.make.new.self
    (c.in-Err-make.ensures.kept ∙ sym (index_back c.args.catalog.now c.args.table c.args.rule.now c.tables.ensures.numbered c.requires.new))
    (c.forget_index.ensures.shown (catalog_after c.args.catalog.now (step.CreateIndex c.args.table c.args.rule.now)) (c.in-Ok.ensures.ok c.args.catalog.now c.requires.shown c.requires.new) (index_came c.args.catalog.now c.args.table c.args.rule.now c.requires.new))

pub returns-in-Err-clause-shown : goal.returns-in-Err-clause-shown
returns-in-Err-clause-shown c = shows_in c.args.trees.now.catalog c.keep_index.new.self.catalog c.args.catalog.now c.in-Err.ensures.err c.requires.shown
