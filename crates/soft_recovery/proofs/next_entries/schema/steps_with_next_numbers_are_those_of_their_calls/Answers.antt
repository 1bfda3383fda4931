use Rattle.soft_recovery.proofs.CalledSteps.{step-again}
use Rattle.soft_recovery.proofs.next_entries.schema.steps_with_next_numbers_are_those_of_their_calls.Goals as goal

pub returns : goal.returns
returns c = λ state made own next. step-again state made own next
