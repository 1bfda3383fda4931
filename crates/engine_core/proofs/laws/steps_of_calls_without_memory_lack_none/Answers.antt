use Rattle.engine_core.proofs.Memory.{step-takes_none}
use Rattle.engine_core.proofs.laws.steps_of_calls_without_memory_lack_none.Goals as goal

pub returns : goal.returns
returns c = step-takes_none
