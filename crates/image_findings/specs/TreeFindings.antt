-- The trees of an image: each is one, no page stands in two, and each page in use stands in one.
use Rattle.std.specs.Prelude.{ℕ, suc, Bool, false, List, [], ◌∷◌, map, Option, Some, None, if◌then◌else◌, is_some, option_map}
use Rattle.std.specs.Option.{option_or}
use Rattle.page_image.specs.Page.{Node}
use Rattle.page_space.specs.Frames.{Frames}
use Rattle.btree_inplace.specs.Shape.{entries, pages}
use Rattle.tree_check.specs.Marks.{with_marks}
use Rattle.tree_check.specs.Walks.{tree_depth, tree_fault}
use Rattle.tree_check.specs.declared.fault.WalkFault.{WalkFault}
use Rattle.tree_check.specs.declared.fault.WalkFault.TheVariants as fault
use Rattle.image_findings.specs.Images.{Finding}
use Rattle.image_findings.specs.Images.Finding.{Pages, Tree}

-- the nodes, and the pages, of the tree below a root page
abbrev pub nodes_below : Frames → ℕ → List Node
nodes_below frames root = entries (tree_depth frames root) frames root

abbrev pub pages_below : Frames → ℕ → List ℕ
pages_below frames root = pages (tree_depth frames root) frames root

-- ---- the walks of all trees

-- no page is marked
abbrev pub no_marks : Frames → List Bool
no_marks frames = map (λ o. false) frames

-- the marks once the trees of some roots are walked
abbrev pub marks_after : Frames → List ℕ → List Bool → List Bool
marks_after frames [] marks = marks
marks_after frames (root ∷ roots) marks = marks_after frames roots (with_marks (pages_below frames root) marks)

-- a page that is met a second time is in two places, and any other fault is one of the tree
abbrev pub finding_of_fault : ℕ → WalkFault → Finding
finding_of_fault root (fault.MetBefore page) = Pages page
finding_of_fault root (fault.Broken page) = Tree root page

-- the first fault of the trees of some roots, walked one after the other
abbrev pub trees_finding : Frames → List ℕ → List Bool → Option Finding
trees_finding frames [] marks = None
trees_finding frames (root ∷ roots) marks =
    option_or (option_map (finding_of_fault root) (tree_fault frames marks root)) (trees_finding frames roots (with_marks (pages_below frames root) marks))

-- the least page, counted from a number, that is in use and not marked
abbrev pub unowned_from : ℕ → Frames → List Bool → Option Finding
unowned_from number [] marks = None
unowned_from number (o ∷ frames) [] = None
unowned_from number (o ∷ frames) (marked ∷ marks) =
    if is_some o then (if marked then unowned_from (suc number) frames marks else Some (Pages number)) else unowned_from (suc number) frames marks
