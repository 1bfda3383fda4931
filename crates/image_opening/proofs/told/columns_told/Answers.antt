use Rattle.std.proofs.Common.{List, ◌++◌, take, map, ap, sym, ◌∙◌, add-one}
use Rattle.std.specs.List.{flat_map}
use Rattle.std.proofs.lemmas.List.{take_all}
use Rattle.column_set.specs.declared.columns.Column.{Column}
use Rattle.column_set.specs.RecordValues.{tagged_if_long}
use Rattle.catalog_grammar.specs.Catalogs.{column_told}
use Rattle.catalog_grammar.specs.declared.items.CatalogItem.{CatalogItem}
use Rattle.image_opening.proofs.Lists.{map_flat_next}
use Rattle.image_opening.proofs.told.columns_told.Goals as goal

pub loop-item-preserved : goal.loop-item-preserved
loop-item-preserved c =
    let items = c.args.items.now in
    let i = c.loop-item.item-index in
    let item = c.item-item.result in
    c.in_ok-put_column.ensures ∙ ap (λ (l : List Column). l ++ map tagged_if_long (column_told c.args.table.0 item)) c.loop-item.invariant
    ∙ sym (map_flat_next tagged_if_long (column_told c.args.table.0) items i item c.loop-item-test.true c.item-item.is)
    ∙ ap (λ k. map tagged_if_long (flat_map (column_told c.args.table.0) (take k items))) (sym (add-one i))

pub returns : goal.returns
returns c = c.loop-item.invariant ∙ ap (λ (l : List CatalogItem). map tagged_if_long (flat_map (column_told c.args.table.0) l)) (take_all c.loop-item.item-index c.args.items.now c.loop-item-test.false)
