use Rattle.std.proofs.Common.{take}
use Rattle.std.specs.List.{flat_map}
use Rattle.catalog_record.specs.CatalogTrees.{CatalogBecomes, nodes_in}
use Rattle.image_opening.specs.KeptNodes.{column_again, with_items}
use Rattle.image_opening.proofs.kept.write_columns.Given as goal

abbrev pub invariant-loop-column : goal.invariant-loop-column
invariant-loop-column l = CatalogBecomes l.fn.space l.fn.tree l.space l.tree (with_items (flat_map (column_again l.table) (take l.column-index l.columns)) (nodes_in l.fn.space l.fn.tree))
