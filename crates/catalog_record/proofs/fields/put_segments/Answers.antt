use Rattle.std.proofs.Common.{refl}
use Rattle.log_grammar.specs.EntryBytes.{segment_bytes}
use Rattle.catalog_record.proofs.Rooms.{room_left}
use Rattle.catalog_record.proofs.fields.put_segments.Goals as goal

pub put_flagged-requires : goal.put_flagged-requires
put_flagged-requires c = room_left segment_bytes (λ x. refl) c.args.data.now.items c.loop-segment.data.items c.args.segments.now c.loop-segment.segment-index c.loop-segment.invariant c.loop-segment-test.true c.requires.room
