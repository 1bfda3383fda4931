use Rattle.std.proofs.Common.{take}
use Rattle.std.specs.List.{flat_map}
use Rattle.catalog_record.specs.CatalogTrees.{CatalogBecomes, nodes_in}
use Rattle.image_opening.specs.KeptNodes.{index_again, with_items}
use Rattle.image_opening.proofs.kept.write_indexes.Given as goal

abbrev pub invariant-loop-rule : goal.invariant-loop-rule
invariant-loop-rule l = CatalogBecomes l.fn.space l.fn.tree l.space l.tree (with_items (flat_map (index_again l.table) (take l.rule-index l.rules)) (nodes_in l.fn.space l.fn.tree))
