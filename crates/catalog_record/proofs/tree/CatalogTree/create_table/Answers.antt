use Rattle.std.proofs.Common.{◌≡◌, ap, ◌∙◌}
use Rattle.index_derive.specs.declared.schema_calls.SchemaStep.TheVariants as step
use Rattle.database_state.specs.SchemaChanges.{new_table}
use Rattle.jet_catalog.specs.Catalog.{catalog_after}
use Rattle.catalog_grammar.specs.declared.items.CatalogItem.TheVariants as item
use Rattle.catalog_record.specs.Buffers.{text_of}
use Rattle.catalog_grammar.specs.CatalogSteps.{item_of_table}
use Rattle.catalog_grammar.proofs.StepNodes.{table_made}
use Rattle.catalog_record.proofs.Keeping.{absent_now, both_now, new_table_is, table_through}
use Rattle.catalog_record.proofs.tree.CatalogTree.create_table.Goals as goal

pub add-requires-clause-absent : goal.add-requires-clause-absent
add-requires-clause-absent c =
    let roots = c.requires.0 in
    let catalog = c.requires.1 in
    let holds = c.requires.2 in
    let x = c.requires.3 in
    let it = item_of_table roots (new_table c.args.table.0 c.args.name.now) in
    let node : c.write_table.new.self ≡ text_of it = c.write_table.ensures ∙ ap text_of (new_table_is roots c.args.table c.args.name.now c.none.result c.args.records c.args.long_values c.none.ensures x.records_root x.long_values_root) in
    absent_now c.args.space.now c.args.self.now roots catalog it c.write_table.new.self holds node
    (table_made roots catalog c.args.table c.args.name.now (table_through roots catalog c.args.table c.args.name.now c.args.records c.args.long_values holds.writable x)).absent

pub returns-clause-ok : goal.returns-clause-ok
returns-clause-ok c = λ roots catalog holds x.
    let it = item_of_table roots (new_table c.args.table.0 c.args.name.now) in
    let node : c.write_table.new.self ≡ text_of it = c.write_table.ensures ∙ ap text_of (new_table_is roots c.args.table c.args.name.now c.none.result c.args.records c.args.long_values c.none.ensures x.records_root x.long_values_root) in
    let through = table_through roots catalog c.args.table c.args.name.now c.args.records c.args.long_values holds.writable x in
    let after = catalog_after catalog (step.CreateTable c.args.table c.args.name.now) in
    let f = both_now c.args.space.now c.args.self.now c.add.new.space c.add.new.self c.replace.new.space c.replace.new.self roots catalog after it (item.Greatest c.args.table.0) c.write_table.new.self c.write_greatest.new.self holds node c.write_greatest.ensures
    (table_made roots catalog c.args.table c.args.name.now through) through.after c.in_ok-add.ensures.ok c.replace.ensures.becomes in
    (f.becomes, f.holds)
