use Rattle.laws_engine.proofs.TableLemmas.WriteConflicts.{same_needed, span_is_told}
use Rattle.laws_engine.proofs.tables.conflicts.held_changes_tell_the_span.Goals as goal

pub returns : goal.returns
returns c = record { needed = same_needed; span = span_is_told }
