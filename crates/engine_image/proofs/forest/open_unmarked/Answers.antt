use Rattle.std.proofs.Common.{List, subst, ◌∙◌}
use Rattle.image_findings.specs.Findings.{roots_told}
use Rattle.image_opening.specs.OpenedCatalogs.{opening_finding}
use Rattle.image_opening.specs.OpenedTrees.{AreTreesBelow, EachWith}
use Rattle.image_opening.specs.WalkedTrees.{forest_finding}
use Rattle.table_trees.specs.StoredTrees.{StoredRoots}
use Rattle.engine_image.proofs.Forests.{catalog_refuses, forest_opened, trees_refuse}
use Rattle.engine_image.proofs.forest.open_unmarked.Goals as goal

pub returns-in-Ok-open_trees-clause-opened : goal.returns-in-Ok-open_trees-clause-opened
returns-in-Ok-open_trees-clause-opened c image pages root =
    forest_opened image c.args.space.now c.args.root c.args.marks.now c.open_catalog.new.marks c.open_trees.new.marks _ pages root
    (record { start = c.requires; opened = c.in-Ok.ensures.opened; none = c.in-Ok.ensures.none; marks = c.in-Ok.ensures.marks; marked = c.in-Ok.ensures.marked })
    (λ told e. c.in-Ok-open_trees.ensures.opened told (c.as_slice.ensures.value ∙ e))
    (subst (λ (l : List StoredRoots). EachWith (AreTreesBelow c.args.space.now) l c.in-Ok-open_trees.trees.items) c.as_slice.ensures.value c.in-Ok-open_trees.ensures.roots)

pub returns-in-Err-clause-fault : goal.returns-in-Err-clause-fault
returns-in-Err-clause-fault c image pages root =
    catalog_refuses c.what_opens_first_is_found_first.ensures image c.args.space.now c.args.root c.args.marks.now c.fault_of_opening-in-Err.result pages root c.requires
    (c.fault_of_opening-in-Err.ensures (opening_finding c.args.space.now c.args.marks.now c.args.root) c.in-Err.ensures.fault)

pub returns-in-Err-open_trees-clause-fault : goal.returns-in-Err-open_trees-clause-fault
returns-in-Err-open_trees-clause-fault c image pages root =
    trees_refuse c.what_trees_open_next_is_found_next.ensures.found image c.args.space.now c.args.root c.args.marks.now c.open_catalog.new.marks c.in-Ok.catalog c.fault_of_opening.result pages root
    (record { start = c.requires; opened = c.in-Ok.ensures.opened; none = c.in-Ok.ensures.none; marks = c.in-Ok.ensures.marks; marked = c.in-Ok.ensures.marked })
    (λ told e. c.fault_of_opening.ensures (forest_finding c.args.space.now c.open_catalog.new.marks (roots_told told)) (c.in-Err-open_trees.ensures.fault told (c.as_slice.ensures.value ∙ e)))
