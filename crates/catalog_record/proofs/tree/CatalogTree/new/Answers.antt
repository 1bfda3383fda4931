use Rattle.std.proofs.Common.{List, [], ap, ◌∙◌}
use Rattle.page_image.specs.Page.{Node}
use Rattle.btree_inplace.specs.Changes.{inserted}
use Rattle.btree_inplace.specs.Trees.{nodes_of, pages_of}
use Rattle.catalog_grammar.specs.CatalogBytes.{catalog_node, item_node}
use Rattle.catalog_grammar.specs.declared.items.CatalogItem.TheVariants as item
use Rattle.catalog_record.specs.Buffers.{NodeText}
use Rattle.btree_inplace.specs.ExchangeLaws.{exchanges_then}
use Rattle.catalog_record.proofs.tree.CatalogTree.new.Goals as goal

pub returns-in-Ok-clause-ok : goal.returns-in-Ok-clause-ok
returns-in-Ok-clause-ok c =
    let tree = c.in_ok-new.field-0 in
    let added = c.in-Ok.ensures.ok in (
      added.tree,
      added.nodes
          ∙ ap (λ (t : NodeText). inserted (nodes_of c.new.new.space tree) (catalog_node t.key t.bytes)) c.write_greatest.ensures
          ∙ ap (λ (nodes : List Node). inserted nodes (item_node (item.Greatest 0))) c.in_ok-new.ensures.tree.1,
      exchanges_then c.args.space.now c.new.new.space c.add.new.space [] (pages_of c.new.new.space tree) (pages_of c.add.new.space c.add.new.self.tree) c.in_ok-new.ensures.pages added.pages,
    )

pub returns-in-Err-clause-err : goal.returns-in-Err-clause-err
returns-in-Err-clause-err c =
    let tree = c.in_ok-new.field-0 in
    let left = c.in-Err.ensures.err in
    let own = pages_of c.add.new.space c.add.new.self.tree in
    exchanges_then c.args.space.now c.add.new.space c.give_back.new.space [] own []
    (exchanges_then c.args.space.now c.new.new.space c.add.new.space [] (pages_of c.new.new.space tree) own c.in_ok-new.ensures.pages left.pages)
    c.give_back.ensures
