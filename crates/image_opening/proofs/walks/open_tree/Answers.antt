use Rattle.image_opening.proofs.ManyWalks.{one_walked, tree_below}
use Rattle.image_opening.proofs.walks.open_tree.Goals as goal

pub returns-in-Ok-clause-tree : goal.returns-in-Ok-clause-tree
returns-in-Ok-clause-tree c =
    tree_below c.in-Ok.depth c.args.space.now c.args.root c.args.marks.now c.walk_tree.new.marks c.at.result
    (record { shape = c.in-Ok.ensures.tree.0; deep = c.in-Ok.ensures.tree.1; depth_is = c.in-Ok.ensures.marks.0; own = c.in-Ok.ensures.own; marks = c.in-Ok.ensures.marks.1 }) c.at.ensures.root c.at.ensures.depth

pub returns-in-Ok-clause-walked : goal.returns-in-Ok-clause-walked
returns-in-Ok-clause-walked c =
    one_walked c.in-Ok.depth c.args.space.now c.args.root c.args.marks.now c.walk_tree.new.marks
    (record { shape = c.in-Ok.ensures.tree.0; deep = c.in-Ok.ensures.tree.1; depth_is = c.in-Ok.ensures.marks.0; own = c.in-Ok.ensures.own; marks = c.in-Ok.ensures.marks.1 }) c.in-Ok.ensures.none
