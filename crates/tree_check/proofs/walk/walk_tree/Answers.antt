-- A walk without a fault is one of a tree.
use Rattle.std.proofs.Common.{ap, sym, ◌∙◌, arith}
use Rattle.btree_inplace.specs.Shape.{pages}
use Rattle.tree_check.specs.Marks.{times_marked}
use Rattle.tree_check.proofs.MarkCounts.{balance}
use Rattle.tree_check.proofs.Sound.{sound}
use Rattle.tree_check.proofs.Walking.{depth_most}
use Rattle.tree_check.proofs.walk.walk_tree.Goals as goal

pub returns-in-Ok-clause-tree : goal.returns-in-Ok-clause-tree
returns-in-Ok-clause-tree c = (
  (sound c.depth_of-depth.result c.args.space.now c.args.marks.now c.args.root c.in-Ok.ensures.ok.0 c.in-Ok.ensures.page).shape,
  omega (arith, c.depth_of-depth.ensures, depth_most 64 c.args.space.now c.args.root),
)

pub returns-in-Ok-clause-own : goal.returns-in-Ok-clause-own
returns-in-Ok-clause-own c page =
    balance (pages c.depth_of-depth.result c.args.space.now c.args.root) c.args.marks.now page (sound c.depth_of-depth.result c.args.space.now c.args.marks.now c.args.root c.in-Ok.ensures.ok.0 c.in-Ok.ensures.page).fresh
    ∙ ap (λ marks. times_marked marks page) (sym c.in-Ok.ensures.ok.1)
