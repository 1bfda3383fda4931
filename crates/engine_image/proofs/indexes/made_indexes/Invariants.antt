use Rattle.std.proofs.Common.{List, [], ◌-◌, drop, length}
use Rattle.image_opening.specs.declared.opened.OpenedIndex.{OpenedIndex}
use Rattle.table_trees.specs.declared.table.TableIndex.{TableIndex}
use Rattle.engine_image.specs.MadeTables.{MoveTrees}
use Rattle.engine_image.proofs.indexes.made_indexes.Given as goal

-- What becomes of the trees of the other rules becomes of all.
abbrev pub invariant-loop-place : goal.invariant-loop-place
invariant-loop-place l = (left : List OpenedIndex) (more : List TableIndex) → MoveTrees (drop l.place l.rules) l.opened.items l.made.items left more → MoveTrees l.rules l.initial.opened.items [] left more

abbrev pub decreases-loop-place : goal.decreases-loop-place
decreases-loop-place l = length l.rules - l.place
