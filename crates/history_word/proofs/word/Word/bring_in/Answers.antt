use Rattle.std.proofs.Common.{rules}
use Rattle.history_word.proofs.Keeps.{joins}
use Rattle.history_word.proofs.word.Word.bring_in.Goals as goal

pub join_seat-requires : goal.join_seat-requires
join_seat-requires c = (search rules, search rules, search rules, search rules, joins _ _ _ _)
