use Rattle.laws_versions.proofs.IndexLemmas.KeysRise.{keys_rise}
use Rattle.laws_versions.proofs.KeyLemmas.LawfulCommits.{commit_lawful}
use Rattle.laws_versions.proofs.keys.unique.a_commit_is_always_lawful.Goals as goal

pub returns : goal.returns
returns c = commit_lawful keys_rise
