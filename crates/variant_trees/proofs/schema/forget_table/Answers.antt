use Rattle.std.proofs.Common.{subst}
use Rattle.jet_base.specs.declared.ids.TableId.{TableId}
use Rattle.index_derive.specs.declared.schema_calls.SchemaStep.TheVariants as step
use Rattle.jet_catalog.specs.Catalog.{catalog_after}
use Rattle.table_trees.specs.ShownCatalogs.{ShowsCatalog}
use Rattle.variant_trees.proofs.KeptSteps.{found_itself, found_step}
use Rattle.variant_trees.proofs.schema.forget_table.Goals as goal

pub forget_table-requires : goal.forget_table-requires
forget_table-requires c = (c.args.catalog.now, c.requires.shown, found_itself c.args.table.0 c.in-Some.known.now c.args.catalog.now.tables c.in-Some.ensures)

pub returns-clause-shown : goal.returns-clause-shown
returns-clause-shown c =
    subst (λ (id : TableId). ShowsCatalog c.forget_table.new.self.catalog (catalog_after c.args.catalog.now (step.DeleteTable id))) (found_step c.args.table c.in-Some.known.now c.args.catalog.now.tables c.in-Some.ensures)
    (c.forget_table.ensures.shown c.args.catalog.now c.requires.shown (found_itself c.args.table.0 c.in-Some.known.now c.args.catalog.now.tables c.in-Some.ensures))
