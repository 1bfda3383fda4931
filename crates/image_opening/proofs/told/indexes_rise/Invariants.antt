use Rattle.std.proofs.Common.{◌≡◌}
use Rattle.std.specs.Prelude.{drop, map}
use Rattle.catalog_grammar.specs.Catalogs.{rise_above}
use Rattle.image_opening.proofs.told.indexes_rise.Given as goal

abbrev pub invariant-loop-index : goal.invariant-loop-index
invariant-loop-index l = rise_above 0 (map (λ index. index.1.id.0) l.indexes) ≡ rise_above l.low (map (λ index. index.1.id.0) (drop l.index-index l.indexes))
