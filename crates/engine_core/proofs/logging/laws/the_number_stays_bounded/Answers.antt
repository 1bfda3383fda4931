use Rattle.std.proofs.Common.{inr, refl}
use Rattle.engine_core.proofs.Numbers.{at_most, bounded_after, bounded_cleaned, room_now}
use Rattle.engine_core.proofs.logging.laws.the_number_stays_bounded.Goals as goal

pub returns : goal.returns
returns c = record {
  opening = λ engine none. inr (refl, none);
  room = room_now;
  step = bounded_after c.ends_always_find_room.ensures.step;
  clean = bounded_cleaned;
  most = at_most c.ends_always_find_room.ensures.most;
}
