use Rattle.std.proofs.Common.{List, ◌++◌, ◌∷◌, [], sym, subst}
use Rattle.image_opening.specs.OpenedTrees.{AreTreesBelow, EachWith, roots_walked}
use Rattle.image_opening.specs.declared.opened.OpenedTable.{OpenedTable}
use Rattle.image_findings.specs.TreeFindings.{trees_finding}
use Rattle.image_opening.proofs.BelowRoots.{each_one}
use Rattle.image_opening.proofs.ManyWalks.{no_memory}
use Rattle.image_opening.proofs.Opening.{always}
use Rattle.image_opening.proofs.Results.{for_err, on_ok}
use Rattle.image_opening.proofs.trees.walk_table.Goals as goal

pub returns-in-Ok-clause-table : goal.returns-in-Ok-clause-table
returns-in-Ok-clause-table c =
    let R = AreTreesBelow c.args.space.now in
    on_ok c.put_table.result
    (λ e before h. subst (λ (l : List OpenedTable). EachWith R (before ++ c.args.roots.now ∷ []) l) (sym e) (each_one R before c.args.opened.now.items c.args.roots.now c.in-Ok.table h c.in-Ok.ensures.trees))
    c.put_table.ensures.ok

pub returns-in-Ok-clause-walked : goal.returns-in-Ok-clause-walked
returns-in-Ok-clause-walked c = always c.put_table.result c.in-Ok.ensures.walked

pub returns-in-Ok-clause-fault : goal.returns-in-Ok-clause-fault
returns-in-Ok-clause-fault c = for_err c.put_table.result (λ why e. no_memory (trees_finding c.args.space.now (roots_walked c.args.roots.now) c.args.marks.now) why e) c.put_table.ensures.err
