-- What is found first of a catalog, and of an image.
use Rattle.std.proofs.Common.{◌≡◌, ℕ, Bool, true, false, Option, Some, None, List, sym, ap, subst, ◌∙◌}
use Rattle.std.specs.Prelude.{OnOk, Result, Ok, Err, if◌then◌else◌}
use Rattle.std.specs.Option.{option_map, option_or}
use Rattle.common_lemmas.proofs.Options.{none_some}
use Rattle.page_space.specs.Frames.{Frames}
use Rattle.btree_inplace.specs.Shape.{entries}
use Rattle.tree_check.specs.Walks.{tree_depth, tree_fault}
use Rattle.tree_check.specs.declared.fault.WalkFault.{WalkFault}
use Rattle.image_findings.specs.CatalogFindings.{CatalogTold, catalog_told}
use Rattle.image_findings.specs.Findings.{catalog_finding}
use Rattle.image_findings.specs.Images.{Finding, ImageContents}
use Rattle.image_findings.specs.Images.Finding.{Catalog}
use Rattle.image_findings.specs.TreeFindings.{finding_of_fault, nodes_below}
use Rattle.image_opening.specs.OpenedCatalogs.{IsFirstFinding, is_sound, opening_finding, told_finding}
use Rattle.image_opening.specs.declared.fault.OpenFault.{OpenFault}

-- ---- the first finding

abbrev found_behind : Frames → ℕ → Option WalkFault → Option Finding
found_behind frames root o = option_or (option_or (option_map (finding_of_fault root) o) None) (told_finding (catalog_told (nodes_below frames root)))

pub walk_found : (frames : Frames) (marks : List Bool) (root : ℕ) (met : WalkFault) (why : OpenFault) → tree_fault frames marks root ≡ Some met → IsFirstFinding (Some (finding_of_fault root met)) why → IsFirstFinding (opening_finding frames marks root) why
walk_found frames marks root met why e first = subst (λ (o : Option Finding). IsFirstFinding o why) (sym (ap (found_behind frames root) e)) first

pub told_found : (frames : Frames) (marks : List Bool) (root depth : ℕ) → tree_fault frames marks root ≡ None → depth ≡ tree_depth frames root → opening_finding frames marks root ≡ told_finding (catalog_told (entries depth frames root))
told_found frames marks root depth e is = ap (found_behind frames root) e ∙ ap (λ (d : ℕ). told_finding (catalog_told (entries d frames root))) (sym is)

-- ---- the finding of an image

first_when : (b : Bool) (rest : Option Finding) (found : Finding) → (if b then None else Some Catalog) ≡ Some found → option_or (if b then None else Some Catalog) rest ≡ Some found
first_when true rest found e = none_some found e
first_when false rest found e = e

pub first_of_image : (image : ImageContents) (found : Finding) (tree : Option Finding) (o : Option CatalogTold) → option_or tree (told_finding o) ≡ Some found → option_or tree (catalog_finding image o) ≡ Some found
first_of_image image found (Some met) o e = e
first_of_image image found None None e = e
first_of_image image found None (Some told) e = first_when (is_sound told) _ found e

pub always : {A B : Type 0} {P : Type 0} (r : Result A B) → P → OnOk r P
always (Ok x) p = p
always (Err e) p = tt
