use Rattle.laws_versions.proofs.KeyLemmas.KeyConflicts.{key_conflict_by_variants}
use Rattle.laws_engine.proofs.TableLemmas.KeyConflicts.{key_conflict_is_told}
use Rattle.laws_engine.proofs.tables.conflicts.held_changes_tell_key_conflicts.Goals as goal

pub returns : goal.returns
returns c = key_conflict_is_told key_conflict_by_variants
