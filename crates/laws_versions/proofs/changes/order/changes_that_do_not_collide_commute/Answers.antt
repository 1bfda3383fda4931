use Rattle.laws_versions.proofs.ChangeLemmas.Commuting.{changes_commute}
use Rattle.laws_versions.proofs.changes.order.changes_that_do_not_collide_commute.Goals as goal

pub returns : goal.returns
returns c = changes_commute
