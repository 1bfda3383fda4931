use Rattle.image_opening.proofs.BelowRoots.{forest_failed, opened_all, page_found}
use Rattle.image_opening.proofs.trees.open_trees.Goals as goal

pub returns-in-Some-clause-fault : goal.returns-in-Some-clause-fault
returns-in-Some-clause-fault c = λ told e. page_found c.args.space.now c.args.marks.now c.open_tables.new.marks told c.args.roots.now c.in-Some.page e c.in-Ok.ensures.walked c.in-Some.ensures

pub returns-in-None-clause-opened : goal.returns-in-None-clause-opened
returns-in-None-clause-opened c = λ told e. opened_all c.args.space.now c.args.marks.now c.open_tables.new.marks told c.args.roots.now c.in-Ok.opened.items e c.in-Ok.ensures.trees c.in-Ok.ensures.walked c.in-None.ensures

pub returns-in-None-clause-roots : goal.returns-in-None-clause-roots
returns-in-None-clause-roots c = c.in-Ok.ensures.trees

pub returns-in-Err-clause-fault : goal.returns-in-Err-clause-fault
returns-in-Err-clause-fault c = λ told e. forest_failed c.args.space.now c.args.marks.now told c.args.roots.now c.in-Err.fault e c.in-Err.ensures.fault
