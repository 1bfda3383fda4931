-- The least begin of the sessions so far.
use Rattle.std.proofs.Common.{◌≡◌, take}
use Rattle.version_cleanup.specs.LiveSessions.{oldest_begin}
use Rattle.version_cleanup.proofs.sessions.Sessions.oldest_begin.Given as goal

abbrev pub invariant-loop-live : goal.invariant-loop-live
invariant-loop-live l = l.oldest ≡ oldest_begin (take l.live-index l.live-items)
