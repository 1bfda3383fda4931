use Rattle.session_local.proofs.Locals.{locally}
use Rattle.session_local.proofs.laws.local_calls_take_no_step.Goals as goal

pub returns-clause-step : goal.returns-clause-step
returns-clause-step c asked request h = (locally asked request h).0

pub returns-clause-local : goal.returns-clause-local
returns-clause-local c asked request h = (locally asked request h).1
