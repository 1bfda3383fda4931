use Rattle.laws_versions.proofs.KeyLemmas.KeyConflicts.{key_conflict_by_variants}
use Rattle.laws_versions.proofs.keys.conflicts.variants_tell_key_conflicts.Goals as goal

pub returns : goal.returns
returns c = key_conflict_by_variants
