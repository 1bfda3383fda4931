use Rattle.std.proofs.Common.{◌≡◌, take}
use Rattle.std.specs.Prelude.{map}
use Rattle.std.specs.List.{flat_map}
use Rattle.column_set.specs.RecordValues.{tagged_if_long}
use Rattle.catalog_grammar.specs.Catalogs.{column_told}
use Rattle.image_opening.proofs.told.columns_told.Given as goal

abbrev pub invariant-loop-item : goal.invariant-loop-item
invariant-loop-item l = l.columns.items ≡ map tagged_if_long (flat_map (column_told l.table.0) (take l.item-index l.items))
