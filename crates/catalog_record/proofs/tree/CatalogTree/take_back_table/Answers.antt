use Rattle.std.proofs.Common.{sym, ap, ◌∙◌}
use Rattle.index_derive.specs.declared.schema_calls.SchemaStep.TheVariants as step
use Rattle.catalog_grammar.specs.CatalogBytes.{catalog_key}
use Rattle.catalog_grammar.specs.declared.items.CatalogItem.TheVariants as item
use Rattle.catalog_record.specs.Buffers.{text_of}
use Rattle.catalog_grammar.proofs.TakenBack.{table_taken_back}
use Rattle.catalog_record.proofs.Keeping.{back_length, back_now, back_there}
use Rattle.catalog_record.proofs.tree.CatalogTree.take_back_table.Goals as goal

pub remove-requires-clause-there : goal.remove-requires-clause-there
remove-requires-clause-there c =
    let r = c.requires in
    back_there c.args.space.now c.args.self.now r.0 r.1 (step.CreateTable c.args.table r.2) (catalog_key 1 c.args.table.0 0) c.key_of.result (item.Greatest r.1.greatest_table) r.3 c.key_of.ensures (table_taken_back r.0 r.1 c.args.table r.2 r.3.through)

pub replace-requires-clause-same_length : goal.replace-requires-clause-same_length
replace-requires-clause-same_length c =
    let r = c.requires in
    back_length c.args.space.now c.args.self.now c.remove.new.space c.remove.new.self r.0 r.1 (step.CreateTable c.args.table r.2) (catalog_key 1 c.args.table.0 0) c.key_of.result (item.Greatest r.1.greatest_table) c.write_greatest.new.self r.3 c.key_of.ensures
    (c.write_greatest.ensures ∙ ap (λ n. text_of (item.Greatest n)) (sym r.4)) (table_taken_back r.0 r.1 c.args.table r.2 r.3.through) c.remove.ensures

pub returns : goal.returns
returns c = λ roots catalog name holds same.
    let f = back_now c.args.space.now c.args.self.now c.remove.new.space c.remove.new.self c.replace.new.space c.replace.new.self roots catalog (step.CreateTable c.args.table name) (catalog_key 1 c.args.table.0 0) c.key_of.result (item.Greatest catalog.greatest_table) c.write_greatest.new.self holds c.key_of.ensures
    (c.write_greatest.ensures ∙ ap (λ n. text_of (item.Greatest n)) (sym same)) (table_taken_back roots catalog c.args.table name holds.through) c.remove.ensures c.replace.ensures.becomes in
    (f.becomes, f.holds)
