use Rattle.laws_engine.proofs.AgreeingLemmas.Looking.{counts_entries, shows_bookmark, shows_key, shows_value}
use Rattle.laws_engine.proofs.agreeing.cursors.what_looks_at_a_record_changes_nothing.Goals as goal

pub returns-clause-count : goal.returns-clause-count
returns-clause-count c = counts_entries

pub returns-clause-key : goal.returns-clause-key
returns-clause-key c = shows_key

pub returns-clause-bookmark : goal.returns-clause-bookmark
returns-clause-bookmark c = shows_bookmark

pub returns-clause-value : goal.returns-clause-value
returns-clause-value c = shows_value
