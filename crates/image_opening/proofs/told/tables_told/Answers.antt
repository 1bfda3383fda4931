use Rattle.std.proofs.Common.{List, ◌++◌, take, map, ap, sym, ◌∙◌, add-one}
use Rattle.std.specs.List.{flat_map}
use Rattle.std.proofs.lemmas.List.{take_all}
use Rattle.catalog_grammar.specs.Catalogs.{CatalogTable, table_told, with_tagged_longs}
use Rattle.catalog_grammar.specs.declared.items.CatalogItem.{CatalogItem}
use Rattle.image_opening.specs.ReadNodes.{bare_of, told_of}
use Rattle.image_opening.proofs.Lists.{map_flat_next, map_map}
use Rattle.image_opening.proofs.told.tables_told.Goals as goal

pub loop-item-preserved : goal.loop-item-preserved
loop-item-preserved c =
    let items = c.args.items.now in
    let i = c.loop-item.item-index in
    let item = c.item-item.result in
    c.in_ok-put_table.ensures ∙ ap (λ (l : List CatalogTable). l ++ map (told_of items) (table_told item)) c.loop-item.invariant
    ∙ sym (map_flat_next (told_of items) table_told items i item c.loop-item-test.true c.item-item.is)
    ∙ ap (λ k. map (told_of items) (flat_map table_told (take k items))) (sym (add-one i))

pub returns : goal.returns
returns c =
    let items = c.args.items.now in
    c.loop-item.invariant ∙ ap (λ (l : List CatalogItem). map (told_of items) (flat_map table_told l)) (take_all c.loop-item.item-index items c.loop-item-test.false)
    ∙ map_map with_tagged_longs (bare_of items) (flat_map table_told items)
