use Rattle.std.proofs.Common.{◌≡◌, List, sym, subst, ap, ◌∙◌}
use Rattle.btree_inplace.specs.Trees.{nodes_of}
use Rattle.image_contents.specs.NodesLeft.{IsPlace, nodes_from}
use Rattle.image_contents.proofs.Walks.{first_place, from_first, rising}
use Rattle.image_contents.proofs.nodes.NodeWalk.new.Goals as goal

pub invariant_of-result : goal.invariant_of-result
invariant_of-result c =
    let nodes = nodes_of c.args.space.now c.args.tree.now in
    (c.requires, subst (IsPlace nodes) (sym c.first-next.ensures) (first_place nodes))

pub returns : goal.returns
returns c =
    let nodes = nodes_of c.args.space.now c.args.tree.now in
    ap (nodes_from nodes) c.first-next.ensures ∙ from_first nodes (rising nodes (c.nodes_of_a_tree_rise.ensures.tree c.args.space.now c.args.tree.now c.requires))
