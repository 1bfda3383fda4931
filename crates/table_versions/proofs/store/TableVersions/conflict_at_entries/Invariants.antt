use Rattle.std.specs.Prelude.{IfSome}
use Rattle.table_trees.specs.StoredTables.{index_entries}
use Rattle.laws_engine.proofs.TableLemmas.Neighbours.{left_from}
use Rattle.table_versions.proofs.EntriesShown.{IsShortPair}
use Rattle.table_versions.proofs.NodesShown.{parts_of}
use Rattle.table_versions.proofs.StoredConflicts.{OfRecord}
use Rattle.table_versions.proofs.WithKey.{KeyWalk}
use Rattle.table_versions.proofs.store.TableVersions.conflict_at_entries.Given as goal

abbrev pub invariant-loop-found : goal.invariant-loop-found
invariant-loop-found l =
    KeyWalk (OfRecord l.reader l.self l.table.0 l.rule l.schema l.key) l.key (index_entries l.self-inside.trees.tables l.table.0 l.rule.id.0) (parts_of l.found)
    × IfSome (parts_of l.found) IsShortPair

abbrev pub decreases-loop-found : goal.decreases-loop-found
decreases-loop-found l = left_from (index_entries l.self-inside.trees.tables l.table.0 l.rule.id.0) (parts_of l.found)
