use Rattle.laws_engine.proofs.EquivalentLemmas.Unneeded.{kept_equivalent, kept_history, needed_kept}
use Rattle.laws_engine.proofs.equivalent.forgetting.dropped_changes_are_forgotten.Goals as goal

pub returns-clause-needed : goal.returns-clause-needed
returns-clause-needed c = needed_kept

pub returns-clause-equivalent : goal.returns-clause-equivalent
returns-clause-equivalent c = kept_equivalent

pub returns-clause-history : goal.returns-clause-history
returns-clause-history c = kept_history
