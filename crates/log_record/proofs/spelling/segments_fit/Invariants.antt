use Rattle.std.proofs.Common.{◌≡◌, take, true}
use Rattle.std.specs.List.{list_all}
use Rattle.log_grammar.specs.EntryBytes.{segment_fits}
use Rattle.log_record.proofs.spelling.segments_fit.Given as goal

abbrev pub invariant-loop-segment : goal.invariant-loop-segment
invariant-loop-segment l = list_all segment_fits (take l.segment-index l.segments) ≡ true
