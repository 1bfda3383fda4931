-- So far each was copied.
use Rattle.std.proofs.Common.{◌≡◌, take}
use Rattle.engine_parts.proofs.creating_indexes.copied_segments.Given as goal

abbrev pub invariant-loop-segment : goal.invariant-loop-segment
invariant-loop-segment l = l.made ≡ take l.segment-index l.segments
