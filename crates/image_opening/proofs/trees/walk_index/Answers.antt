use Rattle.std.proofs.Common.{List, ◌++◌, ◌∷◌, [], sym, subst}
use Rattle.image_opening.specs.OpenedTrees.{EachWith, IsIndexBelow}
use Rattle.image_opening.specs.declared.opened.OpenedIndex.{OpenedIndex}
use Rattle.image_findings.specs.TreeFindings.{trees_finding}
use Rattle.image_opening.proofs.BelowRoots.{each_one}
use Rattle.image_opening.proofs.ManyWalks.{no_memory}
use Rattle.image_opening.proofs.Opening.{always}
use Rattle.image_opening.proofs.Results.{for_err, on_ok}
use Rattle.image_opening.proofs.trees.walk_index.Goals as goal

pub returns-in-Ok-clause-index : goal.returns-in-Ok-clause-index
returns-in-Ok-clause-index c =
    let R = IsIndexBelow c.args.space.now in
    on_ok c.put_index.result
    (λ e before h. subst (λ (l : List OpenedIndex). EachWith R (before ++ (c.args.index.0, c.args.root) ∷ []) l) (sym e) (each_one R before c.args.opened.now.items (c.args.index.0, c.args.root) c.in-Ok.made h c.in-Ok.ensures.index))
    c.put_index.ensures.ok

pub returns-in-Ok-clause-walked : goal.returns-in-Ok-clause-walked
returns-in-Ok-clause-walked c = always c.put_index.result c.in-Ok.ensures.walked

pub returns-in-Ok-clause-fault : goal.returns-in-Ok-clause-fault
returns-in-Ok-clause-fault c = for_err c.put_index.result (λ why e. no_memory (trees_finding c.args.space.now (c.args.root ∷ []) c.args.marks.now) why e) c.put_index.ensures.err
