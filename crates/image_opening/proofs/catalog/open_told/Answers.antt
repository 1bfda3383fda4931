use Rattle.std.proofs.Common.{◌≡◌, ℕ, ◌+◌, Some, None, Option, ap, sym, subst}
use Rattle.std.specs.Prelude.{IfErr, IfOk}
use Rattle.std.specs.Option.{option_map, option_or}
use Rattle.btree_inplace.specs.Shape.{entries, pages}
use Rattle.tree_check.specs.Marks.{copies, times_marked, with_marks}
use Rattle.tree_check.specs.declared.fault.WalkFault.{WalkFault}
use Rattle.image_findings.specs.CatalogFindings.{catalog_told}
use Rattle.image_findings.specs.Images.{Finding}
use Rattle.image_findings.specs.TreeFindings.{finding_of_fault}
use Rattle.image_opening.specs.OpenedCatalogs.{IsFirstFinding}
use Rattle.image_opening.proofs.ManyWalks.{tree_below}
use Rattle.image_opening.proofs.Opening.{always, told_found, walk_found}
use Rattle.image_opening.proofs.Results.{for_ok}
use Rattle.image_opening.proofs.catalog.open_told.Goals as goal

pub returns-in-Ok-clause-tree : goal.returns-in-Ok-clause-tree
returns-in-Ok-clause-tree c =
    for_ok c.told_below.result
    (λ made is. tree_below c.in-Ok.depth c.args.space.now c.args.root c.args.marks.now c.walk_tree.new.marks made.0.tree
    (record { shape = c.in-Ok.ensures.tree.0; deep = c.in-Ok.ensures.tree.1; depth_is = c.in-Ok.ensures.marks.0; own = c.in-Ok.ensures.own; marks = c.in-Ok.ensures.marks.1 }) is.0 is.1)
    c.told_below.ensures.tree

pub returns-in-Ok-clause-told : goal.returns-in-Ok-clause-told
returns-in-Ok-clause-told c =
    subst (λ (d : ℕ). IfOk c.told_below.result (λ made. catalog_told (entries d c.args.space.now c.args.root) ≡ Some made.1)) c.in-Ok.ensures.marks.0 c.told_below.ensures.told

pub returns-in-Ok-clause-none : goal.returns-in-Ok-clause-none
returns-in-Ok-clause-none c = always c.told_below.result (ap (λ (o : Option WalkFault). option_or (option_map (finding_of_fault c.args.root) o) None) c.in-Ok.ensures.none)

pub returns-in-Ok-clause-own : goal.returns-in-Ok-clause-own
returns-in-Ok-clause-own c =
    always c.told_below.result (subst (λ (d : ℕ). (page : ℕ) → copies page (pages d c.args.space.now c.args.root) + times_marked c.args.marks.now page ≡ times_marked c.walk_tree.new.marks page) c.in-Ok.ensures.marks.0 c.in-Ok.ensures.own)

pub returns-in-Ok-clause-marks : goal.returns-in-Ok-clause-marks
returns-in-Ok-clause-marks c =
    always c.told_below.result (subst (λ (d : ℕ). c.walk_tree.new.marks ≡ with_marks (pages d c.args.space.now c.args.root) c.args.marks.now) c.in-Ok.ensures.marks.0 c.in-Ok.ensures.marks.1)

pub returns-in-Ok-clause-fault : goal.returns-in-Ok-clause-fault
returns-in-Ok-clause-fault c =
    subst (λ (o : Option Finding). IfErr c.told_below.result (IsFirstFinding o)) (sym (told_found c.args.space.now c.args.marks.now c.args.root c.in-Ok.depth c.in-Ok.ensures.none c.in-Ok.ensures.marks.0)) c.told_below.ensures.fault

pub returns-in-Err-clause-fault : goal.returns-in-Err-clause-fault
returns-in-Err-clause-fault c = walk_found c.args.space.now c.args.marks.now c.args.root c.in-Err.fault c.fault_of_walk.result c.in-Err.ensures.fault c.fault_of_walk.ensures
