use Rattle.laws_versions.proofs.KeyLemmas.OneEntry.{one_entry}
use Rattle.laws_versions.proofs.KeyLemmas.UniqueLaws.{keys_kept}
use Rattle.laws_versions.proofs.keys.unique.lawful_entries_keep_unique_keys.Goals as goal

pub returns : goal.returns
returns c = keys_kept one_entry
