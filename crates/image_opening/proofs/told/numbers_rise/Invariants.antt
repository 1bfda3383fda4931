use Rattle.std.proofs.Common.{◌≡◌}
use Rattle.std.specs.Prelude.{drop, map}
use Rattle.catalog_grammar.specs.Catalogs.{rise_above}
use Rattle.image_opening.proofs.told.numbers_rise.Given as goal

abbrev pub invariant-loop-told : goal.invariant-loop-told
invariant-loop-told l = rise_above 0 (map (λ x. x.table.id.0) l.tables) ≡ rise_above l.low (map (λ x. x.table.id.0) (drop l.told-index l.tables))
