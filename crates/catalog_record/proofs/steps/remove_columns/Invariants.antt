use Rattle.std.proofs.Common.{take}
use Rattle.std.specs.Prelude.{map}
use Rattle.catalog_grammar.specs.declared.items.CatalogItem.TheVariants as item
use Rattle.catalog_grammar.specs.CatalogSteps.{without_items}
use Rattle.catalog_record.specs.CatalogTrees.{CatalogBecomes, nodes_in}
use Rattle.catalog_record.proofs.steps.remove_columns.Given as goal

abbrev pub invariant-loop-column : goal.invariant-loop-column
invariant-loop-column l = CatalogBecomes l.fn.space l.fn.tree l.space l.tree (without_items (map (item.Column l.table) (take l.column-index l.columns)) (nodes_in l.fn.space l.fn.tree))
