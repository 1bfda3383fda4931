use Rattle.session_local.proofs.Finishes.{finishes}
use Rattle.session_local.proofs.laws.finish_is_the_answer.Goals as goal

pub returns : goal.returns
returns c = finishes
