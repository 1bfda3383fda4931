use Rattle.std.proofs.Common.{◌≡◌, List, sym, ap, subst, ◌∙◌}
use Rattle.btree_inplace.specs.Trees.{nodes_of}
use Rattle.page_image.specs.Page.{HasRisingKeys, Node}
use Rattle.image_contents.specs.NodesLeft.{node_in}
use Rattle.image_contents.specs.ValuePass.{all_passed, found_by, pass_of, whole}
use Rattle.image_contents.proofs.Loop.{ends, goes, smaller}
use Rattle.image_contents.proofs.values.whole.broken_value.Goals as goal

pub new-walk-requires : goal.new-walk-requires
new-walk-requires c = c.requires.1.values_tree

pub loop-node-init : goal.loop-node-init
loop-node-init c = (ap (all_passed c.args.number whole) c.new-walk.ensures, tt)

pub past-progress-requires : goal.past-progress-requires
past-progress-requires c = c.loop-node.invariant.1

pub loop-node-smaller : goal.loop-node-smaller
loop-node-smaller c = smaller c.loop-node.walk c.next.new.self (node_in c.in-Some.node) c.in-Some.ensures

pub loop-node-preserved : goal.loop-node-preserved
loop-node-preserved c = (
  goes c.args.number (pass_of c.loop-node.progress) (pass_of c.past-progress.result) c.loop-node.walk c.next.new.self (node_in c.in-Some.node) (all_passed c.args.number whole (nodes_of c.args.space.now c.args.table.now.long_values))
      c.in-Some.ensures c.past-progress.ensures.pass c.loop-node.invariant.0,
  c.past-progress.ensures.within,
)

pub returns : goal.returns
returns c t has =
    let nodes = nodes_of c.args.space.now c.args.table.now.long_values in
    c.found.ensures
    ∙ ap found_by (ends c.args.number (pass_of c.loop-node.progress) c.loop-node.walk c.next.new.self (all_passed c.args.number whole nodes) c.in_default.ensures c.loop-node.invariant.0)
    ∙ ap (λ (l : List Node). found_by (all_passed c.args.number whole l)) has.values_are
    ∙ sym (c.the_pass_finds_the_least_broken_value.ensures c.args.number t.value_nodes
    (subst (λ (l : List Node). HasRisingKeys l) has.values_are (c.nodes_of_a_tree_rise.ensures.tree c.args.space.now c.args.table.now.long_values has.values_tree)))
