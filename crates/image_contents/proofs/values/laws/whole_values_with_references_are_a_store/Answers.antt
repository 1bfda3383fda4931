use Rattle.image_contents.proofs.Stores.{store_of}
use Rattle.image_contents.proofs.values.laws.whole_values_with_references_are_a_store.Goals as goal

pub returns : goal.returns
returns c frames tree store values is has some = store_of frames tree store values is has some
