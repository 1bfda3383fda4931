use Rattle.std.proofs.Common.{arith}
use Rattle.log_record.proofs.Lengths.{length-entry}
use Rattle.log_record.proofs.encoding.append_entry.Goals as goal

pub put_rest-requires-clause-room : goal.put_rest-requires-clause-room
put_rest-requires-clause-room c = omega (arith, length-entry c.args.entry.now, c.append.ensures.len, c.append.ensures.room, c.requires.room)
