use Rattle.laws_engine.proofs.TableLemmas.Changing.{changed_holds}
use Rattle.laws_engine.proofs.tables.steps.a_change_is_made_and_held.Goals as goal

pub returns : goal.returns
returns c = changed_holds
