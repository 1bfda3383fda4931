use Rattle.std.proofs.Common.{rules}
use Rattle.history_word.proofs.Keeps.{store_goes}
use Rattle.history_word.proofs.word.Word.give_store.Goals as goal

pub split_seat-requires : goal.split_seat-requires
split_seat-requires c = (search rules, search rules, store_goes _ _ c.requires.store)
