-- So far each was put in by the name of its column.
use Rattle.std.proofs.Common.{◌≡◌, map, take}
use Rattle.soft_recovery.specs.LawfulSteps.{named_segment}
use Rattle.soft_recovery.proofs.next_entries.schema.named_segments.Given as goal

abbrev pub invariant-loop-segment : goal.invariant-loop-segment
invariant-loop-segment l = l.made ≡ map (named_segment l.table.columns) (take l.segment-index l.segments)
