use Rattle.engine_image.proofs.Engines.{has_parts, may_be_made}
use Rattle.engine_image.proofs.opening.OpenedImage.engine.Goals as goal

pub made_forest-requires : goal.made_forest-requires
made_forest-requires c = (
  c.requires.0,
  may_be_made c.nodes_of_a_tree_rise.ensures.tree c.the_trees_of_a_consistent_image_are_of_a_store.ensures c.each_check_of_a_consistent_image_passes.ensures c.requires.0 c.args.self c.requires.1,
)

pub engine_of-requires : goal.engine_of-requires
engine_of-requires c =
    let checks = c.each_check_of_a_consistent_image_passes.ensures in
    let may = may_be_made c.nodes_of_a_tree_rise.ensures.tree c.the_trees_of_a_consistent_image_are_of_a_store.ensures checks c.requires.0 c.args.self c.requires.1 in
    (c.requires.0, has_parts checks c.requires.0 c.args.self c.in-Ok.made c.requires.1 (c.in-Ok.ensures c.requires.0 may))

pub returns-in-Ok : goal.returns-in-Ok
returns-in-Ok c image can =
    let checks = c.each_check_of_a_consistent_image_passes.ensures in
    let may = may_be_made c.nodes_of_a_tree_rise.ensures.tree c.the_trees_of_a_consistent_image_are_of_a_store.ensures checks image c.args.self can in
    record { consistent = can.consistent; engine_is = c.engine_of.ensures image (has_parts checks image c.args.self c.in-Ok.made can (c.in-Ok.ensures image may)) }
