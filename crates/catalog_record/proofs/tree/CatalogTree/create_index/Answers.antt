use Rattle.std.proofs.Common.{◌≡◌, ap, ◌∙◌}
use Rattle.common_lemmas.proofs.Results.{OnOk-then}
use Rattle.index_derive.specs.declared.schema_calls.SchemaStep.TheVariants as step
use Rattle.jet_catalog.specs.Catalog.{catalog_after}
use Rattle.catalog_record.specs.Buffers.{text_of}
use Rattle.catalog_grammar.specs.CatalogSteps.{item_of_index}
use Rattle.catalog_grammar.proofs.StepNodes.{here, index_made}
use Rattle.catalog_record.proofs.Keeping.{absent_now, added_now, index_is, index_through}
use Rattle.catalog_record.proofs.tree.CatalogTree.create_index.Goals as goal

pub add-requires-clause-absent : goal.add-requires-clause-absent
add-requires-clause-absent c =
    let roots = c.requires.0 in
    let catalog = c.requires.1 in
    let holds = c.requires.2 in
    let x = c.requires.3 in
    let it = item_of_index roots x.t c.args.rule.now in
    let node : c.write_index.new.self ≡ text_of it = c.write_index.ensures ∙ ap text_of (index_is roots x.t c.args.table c.args.root c.args.rule.now (here roots catalog c.args.table.0 x.t x.there holds.writable).is x.root_is) in
    absent_now c.args.space.now c.args.self.now roots catalog it c.write_index.new.self holds node
    (index_made roots catalog c.args.table c.args.rule.now x.t x.there (index_through roots catalog c.args.table c.args.root c.args.rule.now holds.writable x)).absent

pub returns-clause-ok : goal.returns-clause-ok
returns-clause-ok c = OnOk-then c.add.result (λ b roots catalog holds x.
    let it = item_of_index roots x.t c.args.rule.now in
    let node : c.write_index.new.self ≡ text_of it = c.write_index.ensures ∙ ap text_of (index_is roots x.t c.args.table c.args.root c.args.rule.now (here roots catalog c.args.table.0 x.t x.there holds.writable).is x.root_is) in
    let through = index_through roots catalog c.args.table c.args.root c.args.rule.now holds.writable x in
    let made = index_made roots catalog c.args.table c.args.rule.now x.t x.there through in
    let after = catalog_after catalog (step.CreateIndex c.args.table c.args.rule.now) in
    let f = added_now c.args.space.now c.args.self.now c.add.new.space c.add.new.self roots catalog after it c.write_index.new.self holds node made.nodes through.after b in
    (f.becomes, f.holds)) c.add.ensures.ok
