use Rattle.laws_engine.proofs.HeldLemmas.UncopiedSteps.{stays_uncopied}
use Rattle.laws_engine.proofs.held.uncopied.the_past_names_no_copied_record.Goals as goal

pub returns-clause-empty : goal.returns-clause-empty
returns-clause-empty c = tt

pub returns-clause-kept : goal.returns-clause-kept
returns-clause-kept c = stays_uncopied
