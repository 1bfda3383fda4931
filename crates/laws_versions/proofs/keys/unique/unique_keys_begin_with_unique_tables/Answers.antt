use Rattle.laws_versions.proofs.KeyLemmas.UniqueLaws.{keys_begin}
use Rattle.laws_versions.proofs.keys.unique.unique_keys_begin_with_unique_tables.Goals as goal

pub returns : goal.returns
returns c = keys_begin
