use Rattle.own_images.proofs.StoreLemmas.Stored.{stored_trees}
use Rattle.own_images.proofs.stores.the_trees_of_a_consistent_image_are_of_a_store.Goals as goal

pub returns : goal.returns
returns c image bytes nodes h = stored_trees image bytes (c.each_part_of_a_consistent_image_is_stored.ensures image bytes h) nodes
