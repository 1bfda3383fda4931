use Rattle.std.proofs.Common.{◌≡◌}
use Rattle.std.specs.Prelude.{drop, map}
use Rattle.std.specs.List.{list_all}
use Rattle.database_state.specs.SchemaChanges.{has_column}
use Rattle.image_opening.proofs.rules.has_condition_columns.Given as goal

abbrev pub invariant-loop-condition : goal.invariant-loop-condition
invariant-loop-condition l = list_all (has_column l.table) (map (λ condition. condition.column.0) l.conditions) ≡ list_all (has_column l.table) (map (λ condition. condition.column.0) (drop l.condition-index l.conditions))
