use Rattle.own_images.proofs.StoreLemmas.Consistent.{store_shows}
use Rattle.own_images.proofs.stores.what_a_store_of_a_consistent_image_shows.Goals as goal

pub returns : goal.returns
returns c image h = store_shows image (c.tables_of_a_consistent_image_are_sound.ensures.ids 0 image h)
