use Rattle.std.proofs.Common.{take}
use Rattle.std.specs.Prelude.{map}
use Rattle.catalog_grammar.specs.declared.items.CatalogItem.TheVariants as item
use Rattle.catalog_grammar.specs.CatalogSteps.{without_items}
use Rattle.catalog_record.specs.CatalogTrees.{CatalogBecomes, nodes_in}
use Rattle.catalog_record.proofs.steps.remove_indexes.Given as goal

abbrev pub invariant-loop-rule : goal.invariant-loop-rule
invariant-loop-rule l = CatalogBecomes l.fn.space l.fn.tree l.space l.tree (without_items (map (item.Index l.table 0) (take l.rule-index l.rules)) (nodes_in l.fn.space l.fn.tree))
