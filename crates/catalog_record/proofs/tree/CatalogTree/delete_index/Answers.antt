use Rattle.index_derive.specs.declared.schema_calls.SchemaStep.TheVariants as step
use Rattle.jet_catalog.specs.Catalog.{catalog_after}
use Rattle.catalog_grammar.specs.CatalogBytes.{catalog_key}
use Rattle.catalog_grammar.proofs.StepNodes.{index_deleted}
use Rattle.catalog_record.proofs.Keeping.{gone_now, there_now}
use Rattle.catalog_record.proofs.tree.CatalogTree.delete_index.Goals as goal

pub remove-requires-clause-there : goal.remove-requires-clause-there
remove-requires-clause-there c =
    let holds = c.requires.2 in
    let x = c.requires.3 in
    there_now c.args.space.now c.args.self.now c.requires.0 c.requires.1 (catalog_key 3 c.args.table.0 c.args.index.0) c.key_of.result holds c.key_of.ensures
    (index_deleted c.requires.0 c.requires.1 c.args.table c.args.index x.t x.there x.has holds.writable).there

pub returns : goal.returns
returns c = λ roots catalog holds x.
    let gone = index_deleted roots catalog c.args.table c.args.index x.t x.there x.has holds.writable in
    let after = catalog_after catalog (step.DeleteIndex c.args.table c.args.index) in
    let f = gone_now c.args.space.now c.args.self.now c.remove.new.space c.remove.new.self roots catalog after (catalog_key 3 c.args.table.0 c.args.index.0) c.key_of.result holds c.key_of.ensures gone.nodes gone.fits c.remove.ensures in
    (f.becomes, f.holds)
