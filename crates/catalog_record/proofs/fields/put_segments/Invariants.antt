use Rattle.std.proofs.Common.{◌≡◌, ◌++◌, ◌∷◌, length, take}
use Rattle.std.specs.List.{flat_map}
use Rattle.log_grammar.specs.EntryBytes.{segment_bytes}
use Rattle.catalog_record.proofs.fields.put_segments.Given as goal

abbrev pub invariant-loop-segment : goal.invariant-loop-segment
invariant-loop-segment l = l.data.items ≡ l.fn.data.items ++ (length l.segments ∷ flat_map segment_bytes (take l.segment-index l.segments))
