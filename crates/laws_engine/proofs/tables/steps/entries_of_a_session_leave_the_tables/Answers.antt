use Rattle.laws_engine.proofs.TableLemmas.Unchanged.{unchanged_holds}
use Rattle.laws_engine.proofs.tables.steps.entries_of_a_session_leave_the_tables.Goals as goal

pub returns : goal.returns
returns c = unchanged_holds
