-- The data of the node that has the key tells whether it is the entry's.
use Rattle.std.proofs.Common.{◌≡◌, ℕ, nat_eq, length, ap, ◌∙◌, arith}
use Rattle.byteorder.specs.Endian.{little_number}
use Rattle.btree_inplace.specs.Order.{get_in}
use Rattle.btree_inplace.specs.Trees.{nodes_of}
use Rattle.laws_versions.specs.KeptEntries.{has_entry}
use Rattle.index_tree.specs.IndexTrees.{entries_of}
use Rattle.index_tree.proofs.NodeEntries.{not_there, size_found}
use Rattle.index_tree.proofs.index.IndexTree.has.Goals as goal
use Rattle.index_tree.proofs.index.IndexTree.has.Goals.{In-None, In-Some}

found : (c : In-Some)
    → (length c.in-Some.size.now ≡ 2) × (nat_eq (little_number 2 c.in-Some.size.now) (length c.args.key.now) ≡ has_entry c.args.key.now c.args.bookmark.now (entries_of c.args.space.now c.args.self.now))
found c =
    let nodes = nodes_of c.args.space.now c.args.self.now.tree in
    size_found nodes (entries_of c.args.space.now c.args.self.now) c.args.key.now c.args.bookmark.now c.in-Some.size.now
    c.requires.index.nodes c.requires.index.short c.requires.index.apart
    (c.in-Some.ensures ∙ ap (get_in nodes) (c.as_slice.ensures.value ∙ c.joined-node_key.ensures))

pub read_u16-requires : goal.read_u16-requires
read_u16-requires c = omega (arith, (found c).0)

pub returns-in-Some : goal.returns-in-Some
returns-in-Some c =
    ap (λ (n : ℕ). nat_eq n (length c.args.key.now)) (c.from.ensures ∙ c.read_u16.ensures) ∙ (found (goal.at.returns-in-Some c).In-Some).1

pub returns-in-None : goal.returns-in-None
returns-in-None c =
    let nodes = nodes_of c.args.space.now c.args.self.now.tree in
    not_there nodes (entries_of c.args.space.now c.args.self.now) c.args.key.now c.args.bookmark.now
    c.requires.index.nodes
    (c.in-None.ensures ∙ ap (get_in nodes) (c.as_slice.ensures.value ∙ c.joined-node_key.ensures))
