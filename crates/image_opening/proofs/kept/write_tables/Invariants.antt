use Rattle.std.proofs.Common.{take}
use Rattle.std.specs.List.{flat_map}
use Rattle.catalog_record.specs.CatalogTrees.{CatalogBecomes, nodes_in}
use Rattle.image_opening.specs.KeptNodes.{items_again, with_items}
use Rattle.image_opening.proofs.kept.write_tables.Given as goal

abbrev pub invariant-loop-table : goal.invariant-loop-table
invariant-loop-table l = CatalogBecomes l.fn.space l.fn.tree l.space l.tree (with_items (flat_map items_again (take l.table-index l.tables)) (nodes_in l.fn.space l.fn.tree))
