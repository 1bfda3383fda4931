-- The tree has another row in one node, and all its pages are the same.
use Rattle.std.proofs.Common.{◌≤◌, length, find, inl, refl, sym, ap, subst, ◌∙◌}
use Rattle.page_image.specs.Page.{Node}
use Rattle.btree_inplace.specs.Changes.{with_data_at}
use Rattle.btree_inplace.specs.Order.{has_key}
use Rattle.btree_inplace.specs.Trees.{Exchanges, pages_of}
use Rattle.btree_inplace.specs.declared.Tree.{Tree}
use Rattle.cursor_nav.specs.Places.{are_sorted}
use Rattle.table_trees.specs.NodeTrees.{nodes_in}
use Rattle.table_trees.specs.StoredNodes.{IsShortNode}
use Rattle.table_trees.proofs.NodeChanges.{become, changed-entries, changed_short, found_and}
use Rattle.table_trees.proofs.nodes.NodeTree.replace.Goals as goal

pub returns : goal.returns
returns c =
    let old = c.args.space.now in
    let new = c.replace.new.space in
    let nodes = nodes_in old c.args.self.now in
    let key = c.args.bookmark.now in
    let change : Node → Node = λ (n : Node). record n { «data» = c.args.row.now } in
    let pages : Exchanges old new (pages_of old c.args.self.now.tree) (pages_of new c.replace.new.self) =
    subst (Exchanges old new (pages_of old c.args.self.now.tree)) (sym c.replace.ensures.pages)
    (record { taken = λ p there. inl there; given_back = λ p there not. absurd (not there); others = λ p not none. c.replace.ensures.others p not }) in
    become c.tree_pages_are_own.ensures old c.args.self.now new (record { tree = c.replace.new.self }) (with_data_at nodes key c.args.row.now) c.requires.tree.tree c.replace.ensures.tree c.replace.ensures.nodes pages
    (ap are_sorted (changed-entries change key nodes (λ n. refl)) ∙ c.requires.tree.in_order)
    (changed_short IsShortNode change key nodes
    (λ n e is. record { some = is.some; bookmark = is.bookmark; row = found_and (λ (m : Node). m.extent) (λ extent. length c.args.row.now ≤ extent) (find (has_key key) nodes) n c.requires.fits e; extent = is.extent })
    c.requires.tree.in_order c.requires.tree.short)
    (ap (λ (t : Tree). t.root) c.replace.ensures.same)
