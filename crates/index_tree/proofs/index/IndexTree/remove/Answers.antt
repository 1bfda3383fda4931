-- The tree loses the node of the entry.
use Rattle.std.proofs.Common.{◌≡◌, List, ℕ, find, sym, ap, subst, ◌∙◌, arith}
use Rattle.std.specs.Prelude.{IsSome}
use Rattle.btree_inplace.specs.Changes.{without_key}
use Rattle.btree_inplace.specs.Order.{has_key}
use Rattle.btree_inplace.specs.Trees.{nodes_of}
use Rattle.cursor_nav.specs.Places.{Pair}
use Rattle.laws_versions.specs.KeptEntries.{without_entry}
use Rattle.index_tree.specs.IndexTrees.{IsIndexTree, entries_of}
use Rattle.index_tree.proofs.Changing.{removed_nodes, there_apart, there_node, there_short, without_apart, without_short, without_sorted}
use Rattle.index_tree.proofs.NodeEntries.{holds_entries}
use Rattle.index_tree.proofs.index.IndexTree.remove.Goals as goal
use Rattle.index_tree.proofs.index.IndexTree.remove.Goals.{After-remove}

pub joined-node_key-requires-clause-key : goal.joined-node_key-requires-clause-key
joined-node_key-requires-clause-key c =
    (there_short (c.args.key.now, c.args.bookmark.now) (entries_of c.args.space.now c.args.self.now) c.requires.there c.requires.index.short).key

pub joined-node_key-requires-clause-bookmark : goal.joined-node_key-requires-clause-bookmark
joined-node_key-requires-clause-bookmark c =
    omega (arith, (there_short (c.args.key.now, c.args.bookmark.now) (entries_of c.args.space.now c.args.self.now) c.requires.there c.requires.index.short).bookmark)

pub remove-requires-clause-there : goal.remove-requires-clause-there
remove-requires-clause-there c =
    let nodes = nodes_of c.args.space.now c.args.self.now.tree in
    subst (λ (k : List ℕ). IsSome (find (has_key k) nodes)) (sym (c.as_slice.ensures.value ∙ c.joined-node_key.ensures))
    (there_node nodes (entries_of c.args.space.now c.args.self.now) (c.args.key.now, c.args.bookmark.now) c.requires.index.nodes c.requires.index.apart c.requires.there)

held : (c : After-remove) → IsIndexTree c.remove.new.space (record { tree = c.remove.new.self }) × (entries_of c.remove.new.space (record { tree = c.remove.new.self }) ≡ without_entry c.args.key.now c.args.bookmark.now (entries_of c.args.space.now c.args.self.now))
held c =
    let nodes = nodes_of c.args.space.now c.args.self.now.tree in
    let es = entries_of c.args.space.now c.args.self.now in
    let e : Pair = (c.args.key.now, c.args.bookmark.now) in
    holds_entries c.remove.new.space (record { tree = c.remove.new.self }) (without_entry e.0 e.1 es) c.remove.ensures.tree
    (c.remove.ensures.nodes ∙ ap (without_key nodes) (c.as_slice.ensures.value ∙ c.joined-node_key.ensures)
    ∙ removed_nodes nodes es e c.requires.index.nodes (there_apart e es c.requires.there c.requires.index.apart))
    (without_sorted e es c.requires.index.in_order) (without_short e es c.requires.index.short) (without_apart e es c.requires.index.apart)

pub returns-clause-index : goal.returns-clause-index
returns-clause-index c = (held c).0

pub returns-clause-entries : goal.returns-clause-entries
returns-clause-entries c = (held c).1
