-- Where no node is left, the root is a leaf again.
use Rattle.std.proofs.Common.{Some, set, refl}
use Rattle.btree_inplace.specs.Alterations.{AlteredTree}
use Rattle.btree_inplace.specs.Changes.{without_key}
use Rattle.btree_inplace.proofs.Leaves.{altered_exchanges, altered_is_tree}
use Rattle.btree_inplace.proofs.Removing.{tree_emptied}
use Rattle.btree_inplace.proofs.Tree.remove.Goals as goal

pub returns-then-remove_below-clause-pages : goal.returns-then-remove_below-clause-pages
returns-then-remove_below-clause-pages c =
    altered_exchanges (λ nodes. without_key nodes c.args.key.now) c.args.space.now (set c.remove_below.new.space c.args.self.now.root (Some c.empty.result)) c.args.self.now (record { root = c.args.self.now.root; depth = 0; last = c.args.self.now.last })
    (tree_emptied c.args.space.now c.remove_below.new.space c.args.self.now c.args.key.now c.empty.result (c.if-remove_below.ensures.emptied refl) c.empty.ensures.value c.empty.ensures.page)

-- the tree without the node
kept : (c : goal.Else-remove_below) → AlteredTree (λ nodes. without_key nodes c.args.key.now) c.args.space.now c.args.self.now c.remove_below.new.space c.args.self.now
kept c = let a = c.if-remove_below.ensures.kept refl in record { shape = a.shape; nodes = a.nodes; swaps = a.swaps; deep = c.requires.tree.deep }

pub returns-else-remove_below-clause-tree : goal.returns-else-remove_below-clause-tree
returns-else-remove_below-clause-tree c = altered_is_tree (λ nodes. without_key nodes c.args.key.now) c.args.space.now c.remove_below.new.space c.args.self.now c.args.self.now (kept c)

pub returns-else-remove_below-clause-pages : goal.returns-else-remove_below-clause-pages
returns-else-remove_below-clause-pages c = altered_exchanges (λ nodes. without_key nodes c.args.key.now) c.args.space.now c.remove_below.new.space c.args.self.now c.args.self.now (kept c)
