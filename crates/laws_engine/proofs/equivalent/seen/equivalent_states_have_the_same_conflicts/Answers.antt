use Rattle.std.specs.Prelude.{◌≡◌, ℕ, true, List, Some}
use Rattle.column_set.specs.declared.changes.Change.{Change}
use Rattle.index_derive.specs.declared.rules.IndexRule.{IndexRule}
use Rattle.database_state.specs.Table.{Table, schema_of, table_with_id}
use Rattle.database_state.specs.Conflicts.{has_write_conflict, has_key_conflict}
use Rattle.laws_engine.specs.PlainIndexes.{reads_no_sum}
use Rattle.laws_engine.proofs.EquivalentLemmas.Reading.{by_past, write_conflict_alike}
use Rattle.laws_engine.proofs.EquivalentLemmas.Keys.{key_conflict_alike}
use Rattle.laws_engine.proofs.equivalent.seen.equivalent_states_have_the_same_conflicts.Goals as goal

pub returns-clause-write : goal.returns-clause-write
returns-clause-write c = by_past (λ one other. (session : ℕ) (change : Change) → has_write_conflict one session change ≡ has_write_conflict other session change) write_conflict_alike

pub returns-clause-key : goal.returns-clause-key
returns-clause-key c =
    by_past
    (λ one other. (session id : ℕ) (table : Table) → table_with_id one.tables id ≡ Some table → (rule : IndexRule) → reads_no_sum table rule ≡ true → (key : List ℕ)
    → has_key_conflict one session id (schema_of table) rule key ≡ has_key_conflict other session id (schema_of table) rule key)
    key_conflict_alike
