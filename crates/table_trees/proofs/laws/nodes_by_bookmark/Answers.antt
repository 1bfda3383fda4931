use Rattle.std.proofs.Common.{refl}
use Rattle.table_trees.specs.StoredNodes.{put_data, put_extent}
use Rattle.table_trees.proofs.NodeChanges.{find-changed, find-inserted, find-without}
use Rattle.table_trees.proofs.laws.nodes_by_bookmark.Goals as goal

pub returns-clause-put : goal.returns-clause-put
returns-clause-put c nodes node bookmark = find-inserted nodes node bookmark

pub returns-clause-removed : goal.returns-clause-removed
returns-clause-removed c nodes key bookmark = find-without nodes key bookmark

pub returns-clause-replaced : goal.returns-clause-replaced
returns-clause-replaced c nodes key row bookmark = find-changed (put_data row) nodes key bookmark (λ n. refl)

pub returns-clause-widened : goal.returns-clause-widened
returns-clause-widened c nodes key bookmark extent = find-changed (put_extent extent) nodes key bookmark (λ n. refl)
