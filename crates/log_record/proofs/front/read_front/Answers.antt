use Rattle.std.proofs.Common.{arith}
use Rattle.log_record.proofs.FrontAnswers.{found_front, only_front}
use Rattle.log_record.proofs.front.read_front.Goals as goal

pub returns-clause-found : goal.returns-clause-found
returns-clause-found c = found_front c.args.bytes.now c.front_of.result (λ i. omega (arith, c.type_inv.bytes i)) c.front_of.ensures

pub returns-clause-only : goal.returns-clause-only
returns-clause-only c = only_front c.args.bytes.now c.front_of.result c.front_of.ensures
