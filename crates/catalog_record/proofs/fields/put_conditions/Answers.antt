use Rattle.std.proofs.Common.{refl}
use Rattle.log_grammar.specs.EntryBytes.{condition_bytes}
use Rattle.catalog_record.proofs.Rooms.{room_left}
use Rattle.catalog_record.proofs.fields.put_conditions.Goals as goal

pub put_flagged-requires : goal.put_flagged-requires
put_flagged-requires c = room_left condition_bytes (λ x. refl) c.args.data.now.items c.loop-condition.data.items c.args.conditions.now c.loop-condition.condition-index c.loop-condition.invariant c.loop-condition-test.true c.requires.room
