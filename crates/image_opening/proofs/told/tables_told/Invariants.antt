use Rattle.std.proofs.Common.{◌≡◌, take}
use Rattle.std.specs.Prelude.{map}
use Rattle.std.specs.List.{flat_map}
use Rattle.catalog_grammar.specs.Catalogs.{table_told}
use Rattle.image_opening.specs.ReadNodes.{told_of}
use Rattle.image_opening.proofs.told.tables_told.Given as goal

abbrev pub invariant-loop-item : goal.invariant-loop-item
invariant-loop-item l = l.tables.items ≡ map (told_of l.items) (flat_map table_told (take l.item-index l.items))
