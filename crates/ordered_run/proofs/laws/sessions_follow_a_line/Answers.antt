use Rattle.ordered_run.proofs.Following.{sessions-follow}
use Rattle.ordered_run.proofs.laws.sessions_follow_a_line.Goals as goal

pub returns : goal.returns
returns c = sessions-follow
