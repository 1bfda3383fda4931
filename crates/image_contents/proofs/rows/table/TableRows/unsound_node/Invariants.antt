use Rattle.std.proofs.Common.{◌≡◌, length}
use Rattle.btree_inplace.specs.Trees.{nodes_of}
use Rattle.image_contents.specs.RowsRead.{HaveWholeRows, unsound_read, values_read}
use Rattle.image_contents.proofs.rows.table.TableRows.unsound_node.Given as goal

-- The nodes so far are sound, and those that are left can be read.
abbrev pub invariant-loop-node : goal.invariant-loop-node
invariant-loop-node l = (unsound_read l.fn.self l.fn.versions l.walk ≡ unsound_read l.fn.self l.fn.versions (nodes_of l.fn.self.space.now l.fn.nodes)) × HaveWholeRows (values_read l.fn.self) l.walk

abbrev pub decreases-loop-node : goal.decreases-loop-node
decreases-loop-node l = length l.walk
