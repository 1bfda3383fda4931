use Rattle.laws_versions.proofs.HistoryLemmas.OtherSessions.{view_stays}
use Rattle.laws_versions.proofs.history.views.a_transaction_sees_the_same_as_others_go_on.Goals as goal

pub returns : goal.returns
returns c = view_stays
