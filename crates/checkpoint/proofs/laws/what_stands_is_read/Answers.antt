use Rattle.checkpoint.proofs.OneAnswer.{new_answer, new_no_refusal, no_refusal, one_answer}
use Rattle.checkpoint.proofs.laws.what_stands_is_read.Goals as goal

pub returns : goal.returns
returns c = record { found = one_answer; not_refused = no_refusal; new = new_answer; new_not_refused = new_no_refusal }
