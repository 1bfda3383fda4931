use Rattle.std.proofs.Common.{sym, ◌∙◌}
use Rattle.history_word.proofs.Logs.{own_of_one}
use Rattle.history_word.proofs.laws.has_all_entries_of_its_session.Goals as goal

pub returns : goal.returns
returns c = λ session seen whole same. sym (own_of_one session seen) ∙ sym same ∙ own_of_one session whole
