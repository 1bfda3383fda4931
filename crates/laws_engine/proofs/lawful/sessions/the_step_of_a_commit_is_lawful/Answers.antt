use Rattle.laws_versions.proofs.IndexLemmas.KeysRise.{keys_rise}
use Rattle.laws_engine.proofs.LawfulLemmas.SessionSteps.{commits}
use Rattle.laws_engine.proofs.lawful.sessions.the_step_of_a_commit_is_lawful.Goals as goal

pub returns : goal.returns
returns c = commits keys_rise
