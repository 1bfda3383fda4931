use Rattle.std.proofs.Common.{◌≡◌, take}
use Rattle.std.specs.Prelude.{map}
use Rattle.image_opening.proofs.rules.column_names_differ.Given as goal

abbrev pub invariant-loop-column : goal.invariant-loop-column
invariant-loop-column l = l.names.items ≡ map (λ column. column.name) (take l.column-index l.columns)
