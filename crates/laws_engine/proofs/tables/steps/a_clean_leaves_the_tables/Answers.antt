use Rattle.laws_engine.proofs.TableLemmas.Changing.{cleaned}
use Rattle.laws_engine.proofs.tables.steps.a_clean_leaves_the_tables.Goals as goal

pub returns : goal.returns
returns c = cleaned
