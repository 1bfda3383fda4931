use Rattle.std.proofs.Common.{rules}
use Rattle.history_word.proofs.Keeps.{copy_goes}
use Rattle.history_word.proofs.word.Word.note.Goals as goal

pub split_seat-requires : goal.split_seat-requires
split_seat-requires c = (search rules, search rules, copy_goes _ _)
