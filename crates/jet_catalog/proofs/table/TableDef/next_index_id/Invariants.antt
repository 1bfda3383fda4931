-- The turns so far lead to this number, which rose by one in each at most.
use Rattle.std.proofs.Common.{◌≡◌, ◌+◌, ◌≤◌, drop}
use Rattle.database_state.specs.SchemaChanges.{least_free_id}
use Rattle.jet_catalog.proofs.table.TableDef.next_index_id.Given as goal

abbrev pub invariant-loop-index : goal.invariant-loop-index
invariant-loop-index l = (least_free_id l.indexes (drop l._index-index l.indexes) l.id ≡ least_free_id l.indexes l.indexes 1) × (l.id ≤ l._index-index + 1)
