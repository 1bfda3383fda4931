use Rattle.std.proofs.Common.{◌≡◌, true, false, Some, None, sym, ap, ◌∙◌}
use Rattle.engine_parts.specs.SchemaRequests.{catalog_in}
use Rattle.soft_recovery.specs.LawfulSteps.{makes_named}
use Rattle.soft_recovery.proofs.DecidedSteps.{StepLaws, called-built, catalog_shown, lawful-decided, lawful-uncalled, unnamed}
use Rattle.soft_recovery.proofs.next_entries.schema.lawful_step.Goals as goal

pub is_asked-requires : goal.is_asked-requires
is_asked-requires c =
    called-built c.catalog-catalog.result.now.tables c.args.made.now c.in-Some.call (sym c.in_ok-call.ensures ∙ c.in-Some.is) (sym c.makes_named.ensures ∙ c.if-makes_named.true) c.requires.built

pub returns-in-Some : goal.returns-in-Some
returns-in-Some c =
    let engine = c.args.engine.now in
    let laws : StepLaws = record { named = c.tables_are_found_without_records.ensures.named; finds = c.tables_are_found_without_records.ensures.numbered; next = c.steps_of_calls_have_next_numbers.ensures; tables = c.tables_are_told.ensures.tables; catalog = c.tables_are_told.ensures.catalog } in
    let shown : c.catalog-catalog.result.now ≡ catalog_in engine = c.catalog-catalog.ensures ∙ ap catalog_shown c.tables.ensures in
    lawful-decided laws engine c.catalog-catalog.result.now c.args.session.0 c.args.made.now c.in-Some.call c.is_asked.result c.requires.names c.tables-numbered.ensures.numbered (sym c.makes_named.ensures ∙ c.if-makes_named.true)
    c.requires.built shown (sym c.in-Some.is ∙ c.in_ok-call.ensures) c.is_asked.ensures

pub returns-in-None : goal.returns-in-None
returns-in-None c =
    let engine = c.args.engine.now in
    let laws : StepLaws = record { named = c.tables_are_found_without_records.ensures.named; finds = c.tables_are_found_without_records.ensures.numbered; next = c.steps_of_calls_have_next_numbers.ensures; tables = c.tables_are_told.ensures.tables; catalog = c.tables_are_told.ensures.catalog } in
    let shown : c.catalog-catalog.result.now ≡ catalog_in engine = c.catalog-catalog.ensures ∙ ap catalog_shown c.tables.ensures in
    lawful-uncalled laws engine c.catalog-catalog.result.now c.args.session.0 c.args.made.now shown (sym c.in-None.is ∙ c.in_ok-call.ensures)

pub returns-else-makes_named : goal.returns-else-makes_named
returns-else-makes_named c = λ state h. sym (unnamed state c.args.session.0 c.args.made.now (sym c.makes_named.ensures ∙ c.if-makes_named.false))
