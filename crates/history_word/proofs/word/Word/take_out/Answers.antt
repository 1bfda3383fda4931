use Rattle.std.proofs.Common.{rules}
use Rattle.history_word.proofs.Keeps.{whole_goes}
use Rattle.history_word.proofs.word.Word.take_out.Goals as goal

pub split_seat-requires : goal.split_seat-requires
split_seat-requires c = (search rules, search rules, whole_goes _ _)
