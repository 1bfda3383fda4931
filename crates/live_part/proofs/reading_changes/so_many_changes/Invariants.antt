use Rattle.std.proofs.Common.{◌≡◌, ◌-◌}
use Rattle.log_grammar.specs.EntryReading.{changed}
use Rattle.live_part.specs.LiveBytes.{number_of}
use Rattle.live_part.specs.LiveReading.{held_at, parted, rising_at}
use Rattle.live_part.proofs.ReadLoops.{with_parts}
use Rattle.live_part.proofs.reading_changes.so_many_changes.Given as goal

abbrev pub invariant-loop : goal.invariant-loop
invariant-loop l = with_parts l.changes.standing l.changes.undone (rising_at number_of held_at l.last (l.count - l.counter) l.rest) ≡ changed parted (rising_at number_of held_at 0 l.count) l.bytes
