use Rattle.std.proofs.Common.{ap, ◌∙◌}
use Rattle.jet_base.specs.Ids.{table_id}
use Rattle.index_derive.specs.declared.schema_calls.SchemaStep.TheVariants as step
use Rattle.log_grammar.specs.EntryBytes.{name_fits}
use Rattle.catalog_grammar.specs.CatalogBytes.{catalog_key}
use Rattle.catalog_record.specs.Buffers.{text_of}
use Rattle.catalog_grammar.specs.CatalogSteps.{item_of_table}
use Rattle.catalog_grammar.proofs.TakenBack.{column_taken_back}
use Rattle.catalog_record.proofs.Keeping.{back_length, back_now, back_there, name_is_written, same_table_is}
use Rattle.catalog_record.proofs.tree.CatalogTree.take_back_column.Goals as goal

pub remove-requires-clause-there : goal.remove-requires-clause-there
remove-requires-clause-there c =
    let r = c.requires in
    let t = c.args.table.now in
    let column = c.args.column.now in
    back_there c.args.space.now c.args.self.now r.0 r.1 (step.AddColumn (table_id t.id) column) (catalog_key 2 t.id column.id.0) c.key_of.result (item_of_table r.0 t) r.2 (c.key_of.ensures ∙ ap (λ n. catalog_key 2 n column.id.0) c.id-id.ensures) (column_taken_back r.0 r.1 (table_id t.id) column t r.3.there r.2.through)

pub write_table-requires : goal.write_table-requires
write_table-requires c = let r = c.requires in ap name_fits c.name.ensures ∙ name_is_written r.0 r.1 c.args.table.now.id c.args.table.now r.3.there r.2.through.before

pub replace-requires-clause-same_length : goal.replace-requires-clause-same_length
replace-requires-clause-same_length c =
    let r = c.requires in
    let t = c.args.table.now in
    let column = c.args.column.now in
    back_length c.args.space.now c.args.self.now c.remove.new.space c.remove.new.self r.0 r.1 (step.AddColumn (table_id t.id) column) (catalog_key 2 t.id column.id.0) c.key_of.result (item_of_table r.0 t) c.write_table.new.self r.2 (c.key_of.ensures ∙ ap (λ n. catalog_key 2 n column.id.0) c.id-id.ensures)
    (c.write_table.ensures ∙ ap text_of (same_table_is r.0 t c.id-id.result c.name.result.now c.greatest.result.now c.args.records c.args.long_values c.id-id.ensures c.name.ensures c.greatest.ensures r.3.records_root r.3.long_values_root)) (column_taken_back r.0 r.1 (table_id t.id) column t r.3.there r.2.through) c.remove.ensures

pub returns : goal.returns
returns c = λ roots catalog holds has.
    let t = c.args.table.now in
    let column = c.args.column.now in
    let f = back_now c.args.space.now c.args.self.now c.remove.new.space c.remove.new.self c.replace.new.space c.replace.new.self roots catalog (step.AddColumn (table_id t.id) column) (catalog_key 2 t.id column.id.0) c.key_of.result (item_of_table roots t) c.write_table.new.self holds (c.key_of.ensures ∙ ap (λ n. catalog_key 2 n column.id.0) c.id-id.ensures)
    (c.write_table.ensures ∙ ap text_of (same_table_is roots t c.id-id.result c.name.result.now c.greatest.result.now c.args.records c.args.long_values c.id-id.ensures c.name.ensures c.greatest.ensures has.records_root has.long_values_root)) (column_taken_back roots catalog (table_id t.id) column t has.there holds.through) c.remove.ensures c.replace.ensures.becomes in
    (f.becomes, f.holds)
