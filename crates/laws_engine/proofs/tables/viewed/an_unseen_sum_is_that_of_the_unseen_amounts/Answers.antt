use Rattle.laws_engine.proofs.TableLemmas.UnseenSums.{at_once}
use Rattle.laws_engine.proofs.tables.viewed.an_unseen_sum_is_that_of_the_unseen_amounts.Goals as goal

pub returns : goal.returns
returns c = at_once
