use Rattle.laws_versions.proofs.IndexLemmas.KeysRise.{keys_rise}
use Rattle.laws_versions.proofs.KeyLemmas.OneEntry.{one_entry}
use Rattle.laws_engine.proofs.LawfulLemmas.Alone.{alone_lawful}
use Rattle.laws_engine.proofs.lawful.changes.a_change_alone_is_lawful.Goals as goal

pub returns : goal.returns
returns c = alone_lawful one_entry keys_rise
