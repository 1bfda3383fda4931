use Rattle.std.proofs.Common.{sym, subst}
use Rattle.jet_base.specs.declared.ids.TableId.{TableId}
use Rattle.index_derive.specs.declared.schema_calls.SchemaStep.TheVariants as step
use Rattle.table_trees.specs.ShownCatalogs.{ShowsStep}
use Rattle.variant_trees.proofs.KeptSteps.{found_itself, found_step, found_there}
use Rattle.variant_trees.proofs.schema.take_back_column.Goals as goal

pub take_back_column-requires-clause-there : goal.take_back_column-requires-clause-there
take_back_column-requires-clause-there c = found_there c.args.table.0 c.in-Some.known.now c.args.catalog.now.tables c.args.trees.now.tables c.in-Some.ensures c.requires.there

pub take_back_column-requires-clause-step : goal.take_back_column-requires-clause-step
take_back_column-requires-clause-step c = (
  c.args.catalog.now,
  subst (λ (id : TableId). ShowsStep c.args.trees.now.catalog c.args.catalog.now (step.AddColumn id c.args.column.now)) (sym (found_step c.args.table c.in-Some.known.now c.args.catalog.now.tables c.in-Some.ensures)) c.requires.step,
  found_itself c.args.table.0 c.in-Some.known.now c.args.catalog.now.tables c.in-Some.ensures,
)

pub returns-clause-shown : goal.returns-clause-shown
returns-clause-shown c =
    c.take_back_column.ensures.shown c.args.catalog.now
    (subst (λ (id : TableId). ShowsStep c.args.trees.now.catalog c.args.catalog.now (step.AddColumn id c.args.column.now)) (sym (found_step c.args.table c.in-Some.known.now c.args.catalog.now.tables c.in-Some.ensures)) c.requires.step)
    (found_itself c.args.table.0 c.in-Some.known.now c.args.catalog.now.tables c.in-Some.ensures)
