use Rattle.laws_engine.proofs.TableLemmas.Changing.{committed_holds, released_holds}
use Rattle.laws_engine.proofs.tables.steps.releases_and_commits_leave_the_tables.Goals as goal

pub returns : goal.returns
returns c = record { released = released_holds; committed = committed_holds }
