use Rattle.laws_engine.proofs.EngineLemmas.Room.{entries_have_room, entry_has_room, number_at_most, step_finds_room, step_has_room}
use Rattle.laws_engine.proofs.engine.entries.ends_always_find_room.Goals as goal

pub returns : goal.returns
returns c = record {
  one = entry_has_room;
  many = entries_have_room;
  step = step_has_room;
  most = number_at_most;
  none_live = step_finds_room;
}
