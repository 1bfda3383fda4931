use Rattle.laws_engine.proofs.TableLemmas.RisingSteps.{step_keeps_order}
use Rattle.laws_engine.proofs.tables.steps.entries_leave_records_in_order.Goals as goal

pub returns : goal.returns
returns c = step_keeps_order
