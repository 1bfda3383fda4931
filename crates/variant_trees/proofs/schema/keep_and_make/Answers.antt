use Rattle.std.proofs.Common.{sym, ap, ◌∙◌}
use Rattle.index_derive.specs.declared.schema_calls.SchemaStep.TheVariants as step
use Rattle.jet_catalog.specs.Catalog.{CatalogState}
use Rattle.variant_trees.proofs.KeptSteps.{shows_after, shows_in, shows_other, step_kept}
use Rattle.variant_trees.proofs.schema.keep_and_make.Goals as goal

pub keep_table-requires-clause-step : goal.keep_table-requires-clause-step
keep_table-requires-clause-step c = (c.args.catalog.now, c.requires.shown, (record { numbered = c.tables.ensures.numbered; new = c.requires.new_id; fits = c.requires.named }))

pub take_back_table-requires : goal.take_back_table-requires
take_back_table-requires c = (c.args.catalog.now, c.args.name.now, (step_kept c.args.trees.now.catalog c.keep_table.new.self.catalog c.args.catalog.now (step.CreateTable c.args.table c.args.name.now) c.requires.shown c.keep_table.ensures.roots (c.in-Ok.ensures.ok c.args.catalog.now c.requires.shown (record { numbered = c.tables.ensures.numbered; new = c.requires.new_id; fits = c.requires.named }))), sym (c.greatest.ensures ∙ ap (λ (k : CatalogState). k.greatest_table) c.in-Err-make.ensures.kept))

pub returns-in-Ok-make-clause-shown : goal.returns-in-Ok-make-clause-shown
returns-in-Ok-make-clause-shown c = shows_after c.keep_table.new.self.catalog c.args.catalog.now c.make.new.self c.args.made.now (step.CreateTable c.args.table c.args.name.now) c.requires.step c.in-Ok-make.ensures.made (c.in-Ok.ensures.ok c.args.catalog.now c.requires.shown (record { numbered = c.tables.ensures.numbered; new = c.requires.new_id; fits = c.requires.named }))

pub returns-in-Err-make-clause-shown : goal.returns-in-Err-make-clause-shown
returns-in-Err-make-clause-shown c =
    shows_other c.take_back_table.new.self.catalog c.args.catalog.now c.make.new.self c.in-Err-make.ensures.kept
    (c.take_back_table.ensures.shown c.args.catalog.now c.args.name.now (step_kept c.args.trees.now.catalog c.keep_table.new.self.catalog c.args.catalog.now (step.CreateTable c.args.table c.args.name.now) c.requires.shown c.keep_table.ensures.roots (c.in-Ok.ensures.ok c.args.catalog.now c.requires.shown (record { numbered = c.tables.ensures.numbered; new = c.requires.new_id; fits = c.requires.named }))) (sym (c.greatest.ensures ∙ ap (λ (k : CatalogState). k.greatest_table) c.in-Err-make.ensures.kept)))

pub returns-in-Err-clause-shown : goal.returns-in-Err-clause-shown
returns-in-Err-clause-shown c = shows_in c.args.trees.now.catalog c.keep_table.new.self.catalog c.args.catalog.now c.in-Err.ensures.err c.requires.shown
