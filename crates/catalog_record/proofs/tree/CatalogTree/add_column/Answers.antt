use Rattle.std.proofs.Common.{◌≡◌, sym, ap, subst, ◌∙◌}
use Rattle.std.specs.Prelude.{IsTrue}
use Rattle.common_lemmas.proofs.Booleans.{and_right}
use Rattle.common_lemmas.proofs.Results.{OnErr-from}
use Rattle.jet_base.specs.declared.ids.TableId.{TableId}
use Rattle.column_set.specs.declared.columns.Column.{Column}
use Rattle.column_set.specs.RecordValues.{tagged_if_long}
use Rattle.database_state.specs.Table.{Table}
use Rattle.jet_base.specs.Ids.{table_id}
use Rattle.index_derive.specs.declared.schema_calls.SchemaStep.TheVariants as step
use Rattle.database_state.specs.SchemaChanges.{with_column}
use Rattle.jet_catalog.specs.Catalog.{catalog_after}
use Rattle.log_grammar.specs.EntryBytes.{column_fits, name_fits}
use Rattle.catalog_grammar.specs.declared.items.CatalogItem.TheVariants as item
use Rattle.catalog_record.specs.Buffers.{NodeText, text_of}
use Rattle.catalog_record.specs.CatalogTrees.{CatalogBecomes, nodes_in}
use Rattle.catalog_grammar.specs.CatalogSteps.{item_of_column, item_of_table, nodes_of_catalog}
use Rattle.catalog_grammar.proofs.StepNodes.{column_made}
use Rattle.catalog_record.proofs.TableParts.{none_out}
use Rattle.catalog_record.proofs.Keeping.{absent_now, both_now, column_is, column_through, name_is_written, same_length_now, table_is}
use Rattle.catalog_record.proofs.tree.CatalogTree.add_column.Goals as goal

-- the node that is written is that of the column as the table has it
written : (t : Table) (id : TableId) (made column : Column) (node : NodeText) → id.0 ≡ t.id → made ≡ tagged_if_long column → node ≡ text_of (item.Column id made) → node ≡ text_of (item_of_column t (tagged_if_long column))
written t id made column node same is own = own ∙ ap (λ (k : Column). text_of (item.Column id k)) is ∙ ap text_of (column_is t id (tagged_if_long column) same)

pub returns-in_err-made-clause-err : goal.returns-in_err-made-clause-err
returns-in_err-made-clause-err c =
    OnErr-from c.from_residual.result (CatalogBecomes c.args.space.now c.args.self.now c.args.space.now c.args.self.now (nodes_in c.args.space.now c.args.self.now)) (none_out c.args.space.now c.args.self.now c.requires.2.tree)

pub write_column-requires : goal.write_column-requires
write_column-requires c = subst (λ (k : Column). IsTrue (column_fits k)) (sym c.in_ok-made.ensures) (and_right _ _ c.requires.3.fits)

pub add-requires-clause-absent : goal.add-requires-clause-absent
add-requires-clause-absent c =
    let roots = c.requires.0 in
    let catalog = c.requires.1 in
    let holds = c.requires.2 in
    let x = c.requires.3 in
    let t = c.args.table.now in
    let column = c.args.column.now in
    absent_now c.args.space.now c.args.self.now roots catalog (item_of_column t (tagged_if_long column)) c.write_column.new.self holds (written t c.id.result c.in_ok-made.made column c.write_column.new.self c.id.ensures c.in_ok-made.ensures c.write_column.ensures)
    (column_made roots catalog (table_id t.id) column t x.there (column_through roots catalog t column c.args.greatest.now c.args.records c.args.long_values holds.writable x)).absent

pub write_table-requires : goal.write_table-requires
write_table-requires c = ap name_fits c.name.ensures ∙ name_is_written c.requires.0 c.requires.1 c.args.table.now.id c.args.table.now c.requires.3.there c.requires.2.writable

pub replace-requires-clause-same_length : goal.replace-requires-clause-same_length
replace-requires-clause-same_length c =
    let roots = c.requires.0 in
    let catalog = c.requires.1 in
    let holds = c.requires.2 in
    let x = c.requires.3 in
    let t = c.args.table.now in
    let column = c.args.column.now in
    let node = written t c.id.result c.in_ok-made.made column c.write_column.new.self c.id.ensures c.in_ok-made.ensures c.write_column.ensures in
    let other : c.write_table.new.self ≡ text_of (item_of_table roots (with_column column t)) = c.write_table.ensures ∙ ap text_of (table_is roots t column c.id-2.result c.name.result.now c.args.greatest.now c.args.records c.args.long_values c.id-2.ensures c.name.ensures x.greatest_is x.records_root x.long_values_root) in
    let after = catalog_after catalog (step.AddColumn (table_id t.id) column) in
    same_length_now c.args.space.now c.args.self.now c.add.new.space c.add.new.self roots catalog (nodes_of_catalog roots after) (item_of_column t (tagged_if_long column)) (item_of_table roots (with_column column t)) c.write_column.new.self c.write_table.new.self holds node other
    (column_made roots catalog (table_id t.id) column t x.there (column_through roots catalog t column c.args.greatest.now c.args.records c.args.long_values holds.writable x)) c.in_ok-add.ensures.ok

pub returns-clause-ok : goal.returns-clause-ok
returns-clause-ok c = λ roots catalog holds x.
    let t = c.args.table.now in
    let column = c.args.column.now in
    let node = written t c.id.result c.in_ok-made.made column c.write_column.new.self c.id.ensures c.in_ok-made.ensures c.write_column.ensures in
    let other : c.write_table.new.self ≡ text_of (item_of_table roots (with_column column t)) = c.write_table.ensures ∙ ap text_of (table_is roots t column c.id-2.result c.name.result.now c.args.greatest.now c.args.records c.args.long_values c.id-2.ensures c.name.ensures x.greatest_is x.records_root x.long_values_root) in
    let through = column_through roots catalog t column c.args.greatest.now c.args.records c.args.long_values holds.writable x in
    let after = catalog_after catalog (step.AddColumn (table_id t.id) column) in
    let f = both_now c.args.space.now c.args.self.now c.add.new.space c.add.new.self c.replace.new.space c.replace.new.self roots catalog after (item_of_column t (tagged_if_long column)) (item_of_table roots (with_column column t)) c.write_column.new.self c.write_table.new.self holds node other
    (column_made roots catalog (table_id t.id) column t x.there through) through.after c.in_ok-add.ensures.ok c.replace.ensures.becomes in
    (f.becomes, f.holds)
