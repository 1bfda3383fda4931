use Rattle.laws_engine.proofs.TableLemmas.WriteConflicts.{conflict_is_told}
use Rattle.laws_engine.proofs.tables.conflicts.held_changes_tell_write_conflicts.Goals as goal

pub returns : goal.returns
returns c = conflict_is_told
