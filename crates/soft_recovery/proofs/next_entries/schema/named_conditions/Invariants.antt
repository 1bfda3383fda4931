-- So far each was put in by the name of its column.
use Rattle.std.proofs.Common.{◌≡◌, map, take}
use Rattle.soft_recovery.specs.LawfulSteps.{named_condition}
use Rattle.soft_recovery.proofs.next_entries.schema.named_conditions.Given as goal

abbrev pub invariant-loop-condition : goal.invariant-loop-condition
invariant-loop-condition l = l.made ≡ map (named_condition l.table.columns) (take l.condition-index l.conditions)
