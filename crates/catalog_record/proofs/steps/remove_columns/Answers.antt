use Rattle.std.proofs.Common.{◌≡◌, ap, ◌∙◌, get_or}
use Rattle.column_set.specs.declared.columns.Column.{Column}
use Rattle.catalog_grammar.specs.CatalogBytes.{item_key}
use Rattle.catalog_grammar.specs.declared.items.CatalogItem.TheVariants as item
use Rattle.catalog_record.proofs.TableParts.{next_there, one_more_out}
use Rattle.catalog_record.proofs.steps.remove_columns.Goals as goal

pub remove-requires-clause-there : goal.remove-requires-clause-there
remove-requires-clause-there c =
    let column = c.column-item.result in
    let key : c.key_of.result ≡ item_key (item.Column c.args.table (get_or c.args.columns.now c.loop-column.column-index column)) = c.key_of.ensures ∙ ap (λ (x : Column). item_key (item.Column c.args.table x)) c.column-item.is in
    next_there (item.Column c.args.table) c.args.space.now c.loop-column.space c.args.tree.now c.loop-column.tree c.args.columns.now c.loop-column.column-index column c.key_of.result key c.loop-column.invariant (c.requires.there c.loop-column.column-index column c.loop-column-test.true)

pub loop-column-preserved : goal.loop-column-preserved
loop-column-preserved c =
    let column = c.column-item.result in
    let key : c.key_of.result ≡ item_key (item.Column c.args.table (get_or c.args.columns.now c.loop-column.column-index column)) = c.key_of.ensures ∙ ap (λ (x : Column). item_key (item.Column c.args.table x)) c.column-item.is in
    one_more_out (item.Column c.args.table) c.args.space.now c.loop-column.space c.remove.new.space c.args.tree.now c.loop-column.tree c.remove.new.self c.args.columns.now c.loop-column.column-index column c.key_of.result c.loop-column-test.true key c.loop-column.invariant c.remove.ensures
