use Rattle.std.proofs.Common.{◌≡◌, ℕ, ap, subst, ◌∙◌}
use Rattle.database_state.specs.SchemaChanges.{with_column_id}
use Rattle.database_state.specs.Table.{GreatestColumns}
use Rattle.jet_base.specs.declared.ids.TableId.{TableId}
use Rattle.index_derive.specs.declared.schema_calls.SchemaStep.TheVariants as step
use Rattle.jet_catalog.specs.Catalog.{catalog_after}
use Rattle.table_trees.specs.ShownCatalogs.{ShowsCatalog}
use Rattle.stored_variants.proofs.Outcomes.{on_ok}
use Rattle.variant_trees.proofs.KeptSteps.{found_step, found_there, new_column, step_kept}
use Rattle.variant_trees.proofs.schema.keep_column.Goals as goal

-- the copy of the greatest columns, with the new one
given_is : (new copy greatest : GreatestColumns) (id : ℕ) → new ≡ with_column_id copy id → copy ≡ greatest → new ≡ with_column_id greatest id
given_is new copy greatest id e same = e ∙ ap (λ (g : GreatestColumns). with_column_id g id) same

pub keep_column-requires-clause-there : goal.keep_column-requires-clause-there
keep_column-requires-clause-there c = found_there c.args.table.0 c.in-Some.known.now c.args.catalog.now.tables c.args.trees.now.tables c.in-Some.ensures c.requires.there

pub keep_column-requires-clause-step : goal.keep_column-requires-clause-step
keep_column-requires-clause-step c = (c.args.catalog.now, c.requires.shown, new_column c.args.catalog.now c.args.table.0 c.in-Some.known.now c.args.column.now c.give.new.self c.in-Some.ensures c.requires.fits (given_is c.give.new.self _ c.in-Some.known.now.greatest c.args.column.now.id.0 c.give.ensures (c.given.view_is ∙ c.greatest-given.ensures)))

pub returns-clause-ok : goal.returns-clause-ok
returns-clause-ok c =
    on_ok c.keep_column.result c.keep_column.ensures.ok
    (λ kept.
    step_kept c.args.trees.now.catalog c.keep_column.new.self.catalog c.args.catalog.now (step.AddColumn c.args.table c.args.column.now) c.requires.shown c.keep_column.ensures.roots
    (subst (λ (id : TableId). ShowsCatalog c.keep_column.new.self.catalog (catalog_after c.args.catalog.now (step.AddColumn id c.args.column.now))) (found_step c.args.table c.in-Some.known.now c.args.catalog.now.tables c.in-Some.ensures)
    (kept c.args.catalog.now c.requires.shown (new_column c.args.catalog.now c.args.table.0 c.in-Some.known.now c.args.column.now c.give.new.self c.in-Some.ensures c.requires.fits (given_is c.give.new.self _ c.in-Some.known.now.greatest c.args.column.now.id.0 c.give.ensures (c.given.view_is ∙ c.greatest-given.ensures))))))
