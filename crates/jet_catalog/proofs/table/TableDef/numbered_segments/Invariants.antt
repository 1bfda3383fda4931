-- So far each was put in by its number.
use Rattle.std.proofs.Common.{◌≡◌, map, take}
use Rattle.database_state.specs.SchemaSteps.{segment_of}
use Rattle.jet_catalog.proofs.table.TableDef.numbered_segments.Given as goal

abbrev pub invariant-loop-segment : goal.invariant-loop-segment
invariant-loop-segment l = l.made ≡ map (segment_of l.self.columns) (take l.segment-index l.asked)
