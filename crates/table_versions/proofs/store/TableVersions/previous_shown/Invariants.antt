use Rattle.std.specs.Prelude.{Some, filter}
use Rattle.cursor_nav.specs.Places.{entry_before}
use Rattle.table_trees.specs.StoredTables.{index_entries}
use Rattle.table_versions.specs.Walks.{is_shown}
use Rattle.laws_engine.proofs.TableLemmas.Neighbours.{left_to, shown_to}
use Rattle.table_versions.proofs.EntriesShown.{StandsOn}
use Rattle.table_versions.proofs.NodesShown.{parts_of}
use Rattle.table_versions.proofs.store.TableVersions.previous_shown.Given as goal

-- the entry that was found, or else the next one that is shown, is the one that is looked for
abbrev pub invariant-loop-found : goal.invariant-loop-found
invariant-loop-found l =
    StandsOn (entry_before l.place (filter (is_shown l.reader l.self.store l.table.0 l.schema (Some l.rule)) (index_entries l.self-inside.trees.tables l.table.0 l.rule.id.0)))
    (shown_to (is_shown l.reader l.self.store l.table.0 l.schema (Some l.rule)) (index_entries l.self-inside.trees.tables l.table.0 l.rule.id.0)) (index_entries l.self-inside.trees.tables l.table.0 l.rule.id.0) (parts_of l.found)

abbrev pub decreases-loop-found : goal.decreases-loop-found
decreases-loop-found l = left_to (index_entries l.self-inside.trees.tables l.table.0 l.rule.id.0) (parts_of l.found)
