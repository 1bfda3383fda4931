use Rattle.std.proofs.Common.{◌≡◌, ◌++◌, length, map}
use Rattle.btree_inplace.specs.Trees.{nodes_of}
use Rattle.image_findings.specs.EntryFindings.{stored_entry}
use Rattle.image_contents.proofs.entries.stored.tree_entries.Given as goal

-- The entries so far and those of the nodes that are left are those of all.
abbrev pub invariant-loop-node : goal.invariant-loop-node
invariant-loop-node l = l.entries.items ++ map stored_entry l.walk ≡ map stored_entry (nodes_of l.fn.space l.fn.tree)

abbrev pub decreases-loop-node : goal.decreases-loop-node
decreases-loop-node l = length l.walk
