use Rattle.laws_engine.proofs.LawfulLemmas.ReachedStates.{cleaned}
use Rattle.laws_engine.proofs.lawful.reached.a_clean_reaches_the_same_state.Goals as goal

pub returns : goal.returns
returns c = cleaned
