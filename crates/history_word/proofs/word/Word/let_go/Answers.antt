use Rattle.std.proofs.Common.{rules}
use Rattle.history_word.proofs.Keeps.{guest_goes}
use Rattle.history_word.proofs.word.Word.let_go.Goals as goal

pub split_seat-requires : goal.split_seat-requires
split_seat-requires c = (search rules, search rules, guest_goes _ _)
