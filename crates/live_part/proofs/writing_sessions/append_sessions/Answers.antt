use Rattle.std.proofs.Common.{length}
use Rattle.std.specs.Int.{w32, to_le_bytes}
use Rattle.live_part.specs.LiveBytes.{session_bytes}
use Rattle.live_part.specs.Written.{HasFewTables}
use Rattle.live_part.proofs.WriteLoops.{each_on, written_on}
use Rattle.live_part.proofs.writing_sessions.append_sessions.Goals as goal

pub loop-place-preserved : goal.loop-place-preserved
loop-place-preserved c = record {
  items = written_on session_bytes c.args.sessions.now c.loop-place.place c.at.result.now c.args.into.now.items (to_le_bytes w32 (length c.args.sessions.now)) c.loop-place.into.items c.append_session.new.into.items c.at.ensures c.loop-place.invariant.items
      c.in_ok-append_session.ensures.ok;
  few = each_on HasFewTables c.args.sessions.now c.loop-place.place c.at.result.now c.at.ensures c.loop-place.invariant.few c.in_ok-append_session.ensures.few;
}
