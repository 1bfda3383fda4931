-- A tree whose pages have no mark is walked without a fault.
use Rattle.std.proofs.Common.{ap, ◌∙◌}
use Rattle.btree_inplace.specs.Shape.{pages}
use Rattle.tree_check.specs.Walks.{fault_below}
use Rattle.tree_check.proofs.MarkCounts.{fresh_of}
use Rattle.tree_check.proofs.Sound.{depth_is, whole}
use Rattle.tree_check.proofs.walk.no_fault_is_told_of_a_tree.Goals as goal

pub returns-clause-fault : goal.returns-clause-fault
returns-clause-fault c frames marks root depth tree few once =
    ap (λ n. fault_below n frames marks root) (depth_is depth 64 frames root tree few) ∙ whole depth frames marks root tree (fresh_of (pages depth frames root) marks once)

pub returns-clause-depth : goal.returns-clause-depth
returns-clause-depth c frames root depth tree few = depth_is depth 64 frames root tree few
