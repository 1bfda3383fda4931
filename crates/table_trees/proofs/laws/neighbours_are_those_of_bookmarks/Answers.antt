use Rattle.table_trees.proofs.NodeChanges.{after-bookmarks, before-bookmarks}
use Rattle.table_trees.proofs.laws.neighbours_are_those_of_bookmarks.Goals as goal

pub returns-clause-after : goal.returns-clause-after
returns-clause-after c = after-bookmarks

pub returns-clause-before : goal.returns-clause-before
returns-clause-before c = before-bookmarks
