-- So far each was copied.
use Rattle.std.proofs.Common.{◌≡◌, take}
use Rattle.engine_parts.proofs.creating_indexes.copied_conditions.Given as goal

abbrev pub invariant-loop-condition : goal.invariant-loop-condition
invariant-loop-condition l = l.made ≡ take l.condition-index l.conditions
