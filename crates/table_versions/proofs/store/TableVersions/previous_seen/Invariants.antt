use Rattle.table_trees.specs.StoredNodes.{bookmark_entries}
use Rattle.table_trees.specs.StoredTables.{table_nodes}
use Rattle.table_versions.specs.Walks.{is_seen}
use Rattle.laws_engine.proofs.TableLemmas.Neighbours.{left_to}
use Rattle.table_versions.proofs.NodesBefore.{StandsAt}
use Rattle.table_versions.proofs.NodesShown.{entry_at, parts_of}
use Rattle.table_versions.proofs.store.TableVersions.previous_seen.Given as goal

-- the node that was found, or else the next one that is shown, is the one that is looked for
abbrev pub invariant-loop-found : goal.invariant-loop-found
invariant-loop-found l = StandsAt (is_seen l.reader l.self.store l.table.0) l.place (table_nodes l.self-inside.trees.tables l.table.0) (parts_of l.found)

abbrev pub decreases-loop-found : goal.decreases-loop-found
decreases-loop-found l = left_to (bookmark_entries (table_nodes l.self-inside.trees.tables l.table.0)) (entry_at (parts_of l.found))
