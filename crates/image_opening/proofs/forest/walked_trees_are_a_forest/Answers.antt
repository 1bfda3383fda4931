use Rattle.image_opening.proofs.MarkedForest.{each_once}
use Rattle.image_opening.proofs.OnceEach.{once_each}
use Rattle.image_opening.proofs.forest.walked_trees_are_a_forest.Goals as goal

pub returns : goal.returns
returns c = record { forest = each_once; once = once_each }
