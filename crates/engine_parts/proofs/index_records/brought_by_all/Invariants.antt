use Rattle.cursor_nav.specs.Places.{found_pair}
use Rattle.database_state.specs.Table.{schema_of}
use Rattle.index_derive.specs.Entries.{own_order}
use Rattle.laws_engine.proofs.TableLemmas.Neighbours.{left_from}
use Rattle.engine_parts.specs.CreatingIndexes.{rows_shown}
use Rattle.engine_parts.proofs.BroughtRecords.{IsGoneOver}
use Rattle.engine_parts.proofs.index_records.brought_by_all.Given as goal

abbrev pub invariant-loop-found : goal.invariant-loop-found
invariant-loop-found l = IsGoneOver l.rule (schema_of l.table) (rows_shown l.reader l.tables.store l.table.id) (found_pair l.found) l.brought

abbrev pub decreases-loop-found : goal.decreases-loop-found
decreases-loop-found l = left_from (own_order (rows_shown l.reader l.tables.store l.table.id)) (found_pair l.found)
