use Rattle.std.proofs.Common.{sym, ap}
use Rattle.ordered_run.specs.Sessions.{in_run}
use Rattle.ordered_run.proofs.laws.a_run_begins_with_fresh_sessions.Goals as goal

pub returns : goal.returns
returns c = λ sessions state fresh label. ap in_run (sym (fresh label))
