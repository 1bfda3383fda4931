use Rattle.history_word.proofs.Keeps.{begins}
use Rattle.history_word.proofs.word.Word.make.Goals as goal

pub of_words-requires : goal.of_words-requires
of_words-requires c = begins _
