-- What opens the definitions of states where an example computes: `unfolding computing` under an answer's signature.
use Rattle.index_derive.specs.Entries.{is_legal, entries, primary_key, derive, has_double_key}
use Rattle.database_state.specs.Table.{index_entries}
use Rattle.database_state.specs.View.{newest, view}
use Rattle.database_state.specs.Conflicts.{concurrent_changes, has_write_conflict, has_key_conflict}
use Rattle.database_state.specs.VersionStore.{version_span}
use Rattle.database_state.specs.Puts.{put_refusals}
use Rattle.database_state.specs.SchemaChanges.{schema_refusal}
use Rattle.database_state.specs.Step.{state_after}
use Rattle.database_state.specs.Lawful.{is_lawful}

unfoldable pub computing : Unit {0}
unfolding is_legal entries primary_key derive has_double_key index_entries newest view concurrent_changes has_write_conflict has_key_conflict version_span put_refusals schema_refusal state_after is_lawful
computing = tt
