use Rattle.version_cleanup.specs.SessionLaws.{entries-alike}
use Rattle.version_cleanup.proofs.laws.entries_change_the_sessions_alike.Goals as goal

pub returns : goal.returns
returns c = entries-alike
