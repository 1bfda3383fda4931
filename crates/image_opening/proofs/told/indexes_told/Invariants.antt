use Rattle.std.proofs.Common.{◌≡◌, take}
use Rattle.std.specs.List.{flat_map}
use Rattle.catalog_grammar.specs.Catalogs.{index_told}
use Rattle.image_opening.proofs.told.indexes_told.Given as goal

abbrev pub invariant-loop-item : goal.invariant-loop-item
invariant-loop-item l = l.indexes.items ≡ flat_map (index_told l.table.0) (take l.item-index l.items)
