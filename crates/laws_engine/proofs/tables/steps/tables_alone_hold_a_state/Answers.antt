use Rattle.laws_engine.proofs.TableLemmas.Alone.{alone_holds}
use Rattle.laws_engine.proofs.tables.steps.tables_alone_hold_a_state.Goals as goal

pub returns : goal.returns
returns c = alone_holds
