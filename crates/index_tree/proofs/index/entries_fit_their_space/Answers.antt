-- Each entry is a node of the tree.
use Rattle.std.proofs.Common.{arith}
use Rattle.std.proofs.lemmas.List.{length-map}
use Rattle.btree_inplace.specs.Trees.{nodes_of}
use Rattle.index_tree.specs.Entries.{entry_of_node}
use Rattle.index_tree.proofs.index.entries_fit_their_space.Goals as goal

pub returns : goal.returns
returns c frames index is = omega (arith, length-map (nodes_of frames index.tree) entry_of_node, c.nodes_fit_their_space.ensures frames index.tree is.tree)
