use Rattle.std.proofs.Common.{rules}
use Rattle.history_word.proofs.Keeps.{right_goes}
use Rattle.history_word.proofs.word.Word.give_right.Goals as goal

pub split_seat-requires : goal.split_seat-requires
split_seat-requires g c = (search rules, search rules, right_goes _ _ _ c.requires.turn c.requires.right)
