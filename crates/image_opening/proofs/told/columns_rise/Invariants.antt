use Rattle.std.proofs.Common.{◌≡◌}
use Rattle.std.specs.Prelude.{drop, map}
use Rattle.catalog_grammar.specs.Catalogs.{rise_above}
use Rattle.image_opening.proofs.told.columns_rise.Given as goal

abbrev pub invariant-loop-column : goal.invariant-loop-column
invariant-loop-column l = rise_above 0 (map (λ column. column.id.0) l.columns) ≡ rise_above l.low (map (λ column. column.id.0) (drop l.column-index l.columns))
