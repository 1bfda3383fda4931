use Rattle.std.proofs.Common.{◌≡◌, true, map, sym, subst, ◌∙◌}
use Rattle.std.specs.Prelude.{IfSome, Option}
use Rattle.catalog_grammar.specs.CatalogBytes.{item_node}
use Rattle.catalog_grammar.specs.Catalogs.{CatalogTable, rise_above}
use Rattle.image_findings.specs.CatalogFindings.{CatalogTold, catalog_told}
use Rattle.image_opening.proofs.ManyTables.{few_told, too_many, untold}
use Rattle.image_opening.proofs.catalog.told_by_items.Goals as goal

pub returns-then-has_many_tables-clause-fault : goal.returns-then-has_many_tables-clause-fault
returns-then-has_many_tables-clause-fault c = too_many c.args.items.now c.requires.fit (sym c.has_many_tables.ensures ∙ c.if-has_many_tables.true)

pub returns-in-Ok-Some-clause-told : goal.returns-in-Ok-Some-clause-told
returns-in-Ok-Some-clause-told c = sym c.in-Ok-Some.ensures.told ∙ c.in-Ok-Some.field-0-is

pub returns-in-Ok-Some-clause-rising : goal.returns-in-Ok-Some-clause-rising
returns-in-Ok-Some-clause-rising c =
    subst (λ (o : Option CatalogTold). IfSome o (λ told. rise_above 0 (map (λ (x : CatalogTable). x.table.id.0) told.tables) ≡ true)) c.in-Ok-Some.field-0-is c.in-Ok-Some.ensures.rising

pub returns-in-Ok-Some-clause-few : goal.returns-in-Ok-Some-clause-few
returns-in-Ok-Some-clause-few c = few_told c.args.items.now _ c.requires.fit (sym c.has_many_tables.ensures ∙ c.if-has_many_tables.false) (sym c.in-Ok-Some.ensures.told ∙ c.in-Ok-Some.field-0-is)

pub returns-in-Ok-None-clause-fault : goal.returns-in-Ok-None-clause-fault
returns-in-Ok-None-clause-fault c = untold (catalog_told (map item_node c.args.items.now)) (sym c.in-Ok-None.ensures.told ∙ c.in-Ok-None.field-0-is)
