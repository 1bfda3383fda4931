use Rattle.std.proofs.Common.{ℕ, List, ◌++◌, take, ap, sym, ◌∙◌, add-one}
use Rattle.std.specs.List.{flat_map}
use Rattle.std.proofs.lemmas.List.{take_all}
use Rattle.index_derive.specs.declared.rules.IndexRule.{IndexRule}
use Rattle.catalog_grammar.specs.Catalogs.{index_told}
use Rattle.catalog_grammar.specs.declared.items.CatalogItem.{CatalogItem}
use Rattle.image_opening.proofs.Lists.{flat_next}
use Rattle.image_opening.proofs.told.indexes_told.Goals as goal

pub loop-item-preserved : goal.loop-item-preserved
loop-item-preserved c =
    let items = c.args.items.now in
    let i = c.loop-item.item-index in
    let item = c.item-item.result in
    c.in_ok-put_index.ensures ∙ ap (λ (l : List (ℕ × IndexRule)). l ++ index_told c.args.table.0 item) c.loop-item.invariant
    ∙ sym (flat_next (index_told c.args.table.0) items i item c.loop-item-test.true c.item-item.is)
    ∙ ap (λ k. flat_map (index_told c.args.table.0) (take k items)) (sym (add-one i))

pub returns : goal.returns
returns c = c.loop-item.invariant ∙ ap (λ (l : List CatalogItem). flat_map (index_told c.args.table.0) l) (take_all c.loop-item.item-index c.args.items.now c.loop-item-test.false)
