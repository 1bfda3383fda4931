use Rattle.std.proofs.Common.{◌∙◌}
use Rattle.catalog_record.specs.CatalogTrees.{nodes_in}
use Rattle.catalog_record.proofs.TableParts.{columns_there, indexes_gone, indexes_there, parts_out, table_out, table_there}
use Rattle.catalog_record.proofs.tree.CatalogTree.delete_table.Goals as goal

pub remove_indexes-requires-clause-there : goal.remove_indexes-requires-clause-there
remove_indexes-requires-clause-there c =
    let holds = c.requires.2 in
    indexes_there c.requires.0 c.requires.1 c.args.table.now c.id-id.result c.indexes.result.now (nodes_in c.args.space.now c.args.self.now) c.requires.3 holds.writable c.id-id.ensures c.indexes.ensures holds.nodes

pub remove_columns-requires-clause-there : goal.remove_columns-requires-clause-there
remove_columns-requires-clause-there c =
    let holds = c.requires.2 in
    columns_there c.requires.0 c.requires.1 c.args.table.now c.id-id.result c.columns.result.now (nodes_in c.remove_indexes.new.space c.remove_indexes.new.tree) c.requires.3 holds.writable c.id-id.ensures c.columns.ensures
    (c.remove_indexes.ensures.nodes ∙ indexes_gone c.requires.0 c.requires.1 c.args.table.now c.id-id.result c.indexes.result.now (nodes_in c.args.space.now c.args.self.now) c.id-id.ensures c.indexes.ensures holds.nodes)

pub remove-requires-clause-there : goal.remove-requires-clause-there
remove-requires-clause-there c =
    let holds = c.requires.2 in
    let parts = parts_out c.requires.0 c.requires.1 c.args.table.now c.args.space.now c.remove_indexes.new.space c.remove_columns.new.space c.args.self.now c.remove_indexes.new.tree c.remove_columns.new.tree c.id-id.result c.indexes.result.now c.columns.result.now c.id-id.ensures c.indexes.ensures c.columns.ensures holds.nodes c.remove_indexes.ensures c.remove_columns.ensures in
    table_there c.requires.0 c.requires.1 c.args.table.now c.args.space.now c.remove_columns.new.space c.args.self.now c.remove_columns.new.tree c.id-id.result c.key_of.result c.requires.3 holds.writable c.id-id.ensures c.key_of.ensures parts

pub returns : goal.returns
returns c = λ roots catalog holds found.
    let parts = parts_out roots catalog c.args.table.now c.args.space.now c.remove_indexes.new.space c.remove_columns.new.space c.args.self.now c.remove_indexes.new.tree c.remove_columns.new.tree c.id-id.result c.indexes.result.now c.columns.result.now c.id-id.ensures c.indexes.ensures c.columns.ensures holds.nodes c.remove_indexes.ensures c.remove_columns.ensures in
    let f = table_out roots catalog c.args.table.now c.args.space.now c.remove_columns.new.space c.remove.new.space c.args.self.now c.remove_columns.new.tree c.remove.new.self c.id-id.result c.key_of.result found holds.writable c.id-id.ensures c.key_of.ensures parts c.remove.ensures in
    (f.becomes, f.holds)
