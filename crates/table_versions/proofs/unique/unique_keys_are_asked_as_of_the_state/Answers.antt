use Rattle.table_versions.proofs.AskedOfTheState.{asked_of_the_state}
use Rattle.table_versions.proofs.unique.unique_keys_are_asked_as_of_the_state.Goals as goal

pub returns : goal.returns
returns c = asked_of_the_state c.held_changes_tell_key_conflicts.ensures c.a_reader_is_shown_the_entries_of_its_view.ensures c.a_reader_finds_the_records_that_it_is_shown.ensures
