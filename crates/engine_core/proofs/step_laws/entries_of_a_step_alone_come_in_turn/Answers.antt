use Rattle.engine_core.proofs.Turns.{begin_back, first_comes, next_comes, room_begun, room_last}
use Rattle.engine_core.proofs.step_laws.entries_of_a_step_alone_come_in_turn.Goals as goal

pub returns : goal.returns
returns c = record {
  first = first_comes;
  next = next_comes c.a_lawful_entry_makes_the_next_state.ensures.one;
  room = room_begun c.ends_always_find_room.ensures.one;
  last = room_last c.a_lawful_entry_makes_the_next_state.ensures.one c.ends_always_find_room.ensures.one;
  back = begin_back;
}
