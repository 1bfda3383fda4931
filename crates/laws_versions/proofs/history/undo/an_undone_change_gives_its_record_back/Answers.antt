use Rattle.laws_versions.proofs.HistoryLemmas.Undoing.{made_last, given_back}
use Rattle.laws_versions.proofs.history.undo.an_undone_change_gives_its_record_back.Goals as goal

pub returns-clause-last : goal.returns-clause-last
returns-clause-last c = made_last

pub returns-clause-before : goal.returns-clause-before
returns-clause-before c = given_back
