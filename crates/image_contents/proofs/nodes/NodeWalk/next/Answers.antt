use Rattle.std.proofs.Common.{◌≡◌, List, ◌∷◌, Option, Some, None, refl, sym, subst, ap, ◌∙◌}
use Rattle.std.specs.Prelude.{option_map, unwrap_or}
use Rattle.btree_inplace.specs.Order.{after_in, get_in}
use Rattle.btree_inplace.specs.Trees.{nodes_of}
use Rattle.image_contents.specs.NodesLeft.{IsPlace, node_in, nodes_from}
use Rattle.image_contents.proofs.Walks.{next_is, rising}
use Rattle.image_contents.proofs.nodes.NodeWalk.next.Goals as goal

pub extent-requires : goal.extent-requires
extent-requires c = c.self.invariant.0

pub after-self-inside-requires : goal.after-self-inside-requires
after-self-inside-requires c = c.self.invariant.0

pub invariant_of-self : goal.invariant_of-self
invariant_of-self c =
    let nodes = nodes_of c.self.inside.space.now c.self.inside.tree.now in
    let there : get_in nodes c.in-Some.key.now ≡ Some c.in-Some.bytes.now = subst (λ o. IsPlace nodes (option_map (λ found. (found.0.now, found.1.now)) o)) c.in-Some.is c.self.invariant.1 in (
      c.self.invariant.0,
      subst (IsPlace nodes) (sym c.after-self-inside.ensures)
          (next_is nodes (rising nodes (c.nodes_of_a_tree_rise.ensures.tree c.self.inside.space.now c.self.inside.tree.now c.self.invariant.0)) c.in-Some.key.now c.in-Some.bytes.now _ (after_in nodes c.in-Some.key.now) there refl refl).place,
    )

pub returns-in-Some : goal.returns-in-Some
returns-in-Some c =
    let nodes = nodes_of c.self.inside.space.now c.self.inside.tree.now in
    let there : get_in nodes c.in-Some.key.now ≡ Some c.in-Some.bytes.now = subst (λ o. IsPlace nodes (option_map (λ found. (found.0.now, found.1.now)) o)) c.in-Some.is c.self.invariant.1 in
    let next = next_is nodes (rising nodes (c.nodes_of_a_tree_rise.ensures.tree c.self.inside.space.now c.self.inside.tree.now c.self.invariant.0)) c.in-Some.key.now c.in-Some.bytes.now c.unwrap_or-extent.result (after_in nodes c.in-Some.key.now) there
    (c.unwrap_or-extent.ensures ∙ ap (λ o. unwrap_or o 0) c.extent.ensures) refl in
    sym c.self.view_is ∙ ap (λ o. nodes_from nodes (option_map (λ found. (found.0.now, found.1.now)) o)) c.in-Some.is ∙ next.left ∙ ap (λ at. node_in (record { key = c.in-Some.key; extent = c.unwrap_or-extent.result; bytes = c.in-Some.bytes }) ∷ nodes_from nodes at) (sym c.after-self-inside.ensures)
