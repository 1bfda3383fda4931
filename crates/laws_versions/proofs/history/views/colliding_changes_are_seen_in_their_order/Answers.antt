use Rattle.laws_versions.proofs.HistoryLemmas.SeenEarlier.{seen_in_order}
use Rattle.laws_versions.proofs.history.views.colliding_changes_are_seen_in_their_order.Goals as goal

pub returns : goal.returns
returns c = seen_in_order
