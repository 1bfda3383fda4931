use Rattle.engine_core.proofs.Memory.{answer-not_memory}
use Rattle.engine_core.proofs.laws.no_answer_is_want_of_memory.Goals as goal

pub returns : goal.returns
returns c = answer-not_memory
