use Rattle.std.proofs.Common.{◌≡◌, ◌-◌, true}
use Rattle.live_part.specs.LiveBytes.{label_of}
use Rattle.live_part.specs.LiveReading.{rising_at, session_at}
use Rattle.live_part.proofs.ReadLoops.{are_up_to, with_front}
use Rattle.live_part.proofs.reading_sessions.so_many_sessions.Given as goal

-- the sessions so far, none above the last
abbrev pub invariant-loop : goal.invariant-loop
invariant-loop l = record {
  read : with_front l.sessions (rising_at label_of session_at l.last (l.count - l.counter) l.rest) ≡ rising_at label_of session_at 0 l.count l.bytes;
  upto : are_up_to l.last l.sessions ≡ true;
}
