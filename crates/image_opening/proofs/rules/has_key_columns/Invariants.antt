use Rattle.std.proofs.Common.{◌≡◌}
use Rattle.std.specs.Prelude.{drop, map}
use Rattle.std.specs.List.{list_all}
use Rattle.database_state.specs.SchemaChanges.{has_column}
use Rattle.image_opening.proofs.rules.has_key_columns.Given as goal

abbrev pub invariant-loop-segment : goal.invariant-loop-segment
invariant-loop-segment l = list_all (has_column l.table) (map (λ segment. segment.column.0) l.segments) ≡ list_all (has_column l.table) (map (λ segment. segment.column.0) (drop l.segment-index l.segments))
