use Rattle.std.proofs.Common.{◌≡◌, Option, None, Some, refl, sym, ap, subst, ◌∙◌}
use Rattle.std.specs.Prelude.{IfSome, option_copied}
use Rattle.column_set.specs.Refusals.{first_refusal}
use Rattle.database_state.specs.SchemaSteps.{called_name}
use Rattle.database_state.specs.Table.{Table, table_named}
use Rattle.jet_catalog.specs.Catalog.{CatalogState, IsNumbered}
use Rattle.engine_parts.specs.CreatingIndexes.{HasKeys}
use Rattle.engine_parts.specs.SchemaRequests.{catalog_in, decided_in, engine_table, sessions_in}
use Rattle.engine_parts.proofs.SchemaSteps.{SchemaLaws, catalog_shown, decided-as, has-keys, step-allowed, step-refused, step-stopped}
use Rattle.engine_parts.proofs.schema_steps.decide_schema.Goals as goal

pub sessions_refusal-requires : goal.sessions_refusal-requires
sessions_refusal-requires c =
    let catalog : c.catalog-catalog.result.now ≡ catalog_in c.args.engine.now = c.catalog-catalog.ensures ∙ ap catalog_shown c.tables.ensures in
    c.called_table-found.ensures.found ∙ ap (λ (k : CatalogState). table_named k.tables (called_name c.args.call.now)) catalog

pub step_refusal-requires : goal.step_refusal-requires
step_refusal-requires c =
    subst (λ (found : Option Table). IfSome found (HasKeys c.in-Ok.made)) (sym c.called_table-found.ensures.found)
    (has-keys c.catalog-catalog.result.now c.has_records.result c.args.call.now c.in-Ok.made c.requires (sym c.in_ok-refusal-in-None.ensures.decided ∙ c.in-Ok.is))

pub returns-in-Some : goal.returns-in-Some
returns-in-Some c =
    let engine = c.args.engine.now in
    let called = c.args.call.now in
    let laws : SchemaLaws = record { composed = c.refusals_of_a_call.ensures; steps = c.calls_ask_the_same_without_records.ensures.step; decisions = c.calls_ask_the_same_without_records.ensures.decided; named = c.tables_are_found_without_records.ensures.named; settled = c.newest_records_are_told.ensures.shown; uses = c.uses_are_told.ensures; catalog = c.tables_are_told.ensures.catalog } in
    let catalog : c.catalog-catalog.result.now ≡ catalog_in engine = c.catalog-catalog.ensures ∙ ap catalog_shown c.tables.ensures in
    let rise : IsNumbered (catalog_in engine) = subst IsNumbered catalog c.called_table-found.ensures.numbered in
    step-stopped laws engine c.args.session.0 called c.in-Some.refusal rise (sym c.in-Some.ensures)

pub returns-in-Err : goal.returns-in-Err
returns-in-Err c =
    let engine = c.args.engine.now in
    let called = c.args.call.now in
    let laws : SchemaLaws = record { composed = c.refusals_of_a_call.ensures; steps = c.calls_ask_the_same_without_records.ensures.step; decisions = c.calls_ask_the_same_without_records.ensures.decided; named = c.tables_are_found_without_records.ensures.named; settled = c.newest_records_are_told.ensures.shown; uses = c.uses_are_told.ensures; catalog = c.tables_are_told.ensures.catalog } in
    let catalog : c.catalog-catalog.result.now ≡ catalog_in engine = c.catalog-catalog.ensures ∙ ap catalog_shown c.tables.ensures in
    let rise : IsNumbered (catalog_in engine) = subst IsNumbered catalog c.called_table-found.ensures.numbered in
    let found : option_copied c.called_table-found.result ≡ engine_table engine called = c.called_table-found.ensures.found ∙ ap (λ (k : CatalogState). table_named k.tables (called_name called)) catalog in
    let free : first_refusal (sessions_in engine c.args.session.0 called) ≡ None = sym c.in-None.ensures in
    let decided : c.in_ok-refusal-in-None.field-0 ≡ decided_in engine c.args.session.0 called =
    decided-as engine c.args.session.0 c.args.session.0 called c.catalog-catalog.result.now (option_copied c.called_table-found.result) c.has_records.result c.in_ok-refusal-in-None.field-0 catalog found refl c.has_records.ensures c.in_ok-refusal-in-None.ensures.decided in
    step-refused laws engine c.args.session.0 called c.in-Err.refusal rise free (sym decided ∙ c.in-Err.is)

pub returns-in-Some-2 : goal.returns-in-Some-2
returns-in-Some-2 c =
    let engine = c.args.engine.now in
    let called = c.args.call.now in
    let laws : SchemaLaws = record { composed = c.refusals_of_a_call.ensures; steps = c.calls_ask_the_same_without_records.ensures.step; decisions = c.calls_ask_the_same_without_records.ensures.decided; named = c.tables_are_found_without_records.ensures.named; settled = c.newest_records_are_told.ensures.shown; uses = c.uses_are_told.ensures; catalog = c.tables_are_told.ensures.catalog } in
    let catalog : c.catalog-catalog.result.now ≡ catalog_in engine = c.catalog-catalog.ensures ∙ ap catalog_shown c.tables.ensures in
    let rise : IsNumbered (catalog_in engine) = subst IsNumbered catalog c.called_table-found.ensures.numbered in
    let found : option_copied c.called_table-found.result ≡ engine_table engine called = c.called_table-found.ensures.found ∙ ap (λ (k : CatalogState). table_named k.tables (called_name called)) catalog in
    let free : first_refusal (sessions_in engine c.args.session.0 called) ≡ None = sym c.in-None.ensures in
    let decided : c.in_ok-refusal-in-None.field-0 ≡ decided_in engine c.args.session.0 called =
    decided-as engine c.args.session.0 c.args.session.0 called c.catalog-catalog.result.now (option_copied c.called_table-found.result) c.has_records.result c.in_ok-refusal-in-None.field-0 catalog found refl c.has_records.ensures c.in_ok-refusal-in-None.ensures.decided in
    step-allowed laws engine c.args.session.0 called c.in-Ok.made c.args.session.0 (option_copied c.called_table-found.result) (Some c.in-Some-2.refusal) rise free (sym decided ∙ c.in-Ok.is) refl found
    (sym c.in-Some-2.is ∙ c.in_ok-refusal-in-Ok.ensures)

pub returns-in-None-2 : goal.returns-in-None-2
returns-in-None-2 c =
    let engine = c.args.engine.now in
    let called = c.args.call.now in
    let laws : SchemaLaws = record { composed = c.refusals_of_a_call.ensures; steps = c.calls_ask_the_same_without_records.ensures.step; decisions = c.calls_ask_the_same_without_records.ensures.decided; named = c.tables_are_found_without_records.ensures.named; settled = c.newest_records_are_told.ensures.shown; uses = c.uses_are_told.ensures; catalog = c.tables_are_told.ensures.catalog } in
    let catalog : c.catalog-catalog.result.now ≡ catalog_in engine = c.catalog-catalog.ensures ∙ ap catalog_shown c.tables.ensures in
    let rise : IsNumbered (catalog_in engine) = subst IsNumbered catalog c.called_table-found.ensures.numbered in
    let found : option_copied c.called_table-found.result ≡ engine_table engine called = c.called_table-found.ensures.found ∙ ap (λ (k : CatalogState). table_named k.tables (called_name called)) catalog in
    let free : first_refusal (sessions_in engine c.args.session.0 called) ≡ None = sym c.in-None.ensures in
    let decided : c.in_ok-refusal-in-None.field-0 ≡ decided_in engine c.args.session.0 called =
    decided-as engine c.args.session.0 c.args.session.0 called c.catalog-catalog.result.now (option_copied c.called_table-found.result) c.has_records.result c.in_ok-refusal-in-None.field-0 catalog found refl c.has_records.ensures c.in_ok-refusal-in-None.ensures.decided in
    step-allowed laws engine c.args.session.0 called c.in-Ok.made c.args.session.0 (option_copied c.called_table-found.result) None rise free (sym decided ∙ c.in-Ok.is) refl found
    (sym c.in-None-2.is ∙ c.in_ok-refusal-in-Ok.ensures)
