-- The tree's first node from there on.
use Rattle.std.proofs.Common.{List, ℕ, find, ap, ◌∙◌}
use Rattle.btree_inplace.specs.Order.{is_from}
use Rattle.btree_inplace.specs.Trees.{nodes_of}
use Rattle.index_tree.specs.Entries.{IsShort, is_at_or_after}
use Rattle.index_tree.specs.IndexTrees.{entries_of}
use Rattle.index_tree.proofs.Lists.{find_all}
use Rattle.index_tree.proofs.NodeEntries.{node_from}
use Rattle.index_tree.proofs.index.IndexTree.at_node_or_after.Goals as goal

pub parts-requires : goal.parts-requires
parts-requires c =
    let es = entries_of c.args.space.now c.args.self.now in
    let key = c.as_slice.result.now in (
      find (is_at_or_after key) es,
      find_all IsShort (is_at_or_after key) es c.requires.index.short,
      c.at_or_after.ensures ∙ node_from (nodes_of c.args.space.now c.args.self.now.tree) es (is_from key) c.requires.index.nodes,
    )

pub returns : goal.returns
returns c =
    let es = entries_of c.args.space.now c.args.self.now in
    let key = c.as_slice.result.now in
    c.parts.ensures (find (is_at_or_after key) es) (find_all IsShort (is_at_or_after key) es c.requires.index.short)
    (c.at_or_after.ensures ∙ node_from (nodes_of c.args.space.now c.args.self.now.tree) es (is_from key) c.requires.index.nodes)
    ∙ ap (λ (k : List ℕ). find (is_at_or_after k) es) (c.as_slice.ensures.value ∙ c.join.ensures)
