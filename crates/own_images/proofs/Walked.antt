-- Trees that have all pages that are taken, each once, are walked without a finding.
use Rattle.std.proofs.Common.{◌≡◌, ℕ, suc, ◌+◌, ◌≤◌, inl, inr, Bool, true, false, List, [], ◌∷◌, Option, Some, None, length, refl, ap, subst, ◌∙◌, arith}
use Rattle.std.specs.Prelude.{if◌then◌else◌, is_some, option_map}
use Rattle.std.specs.List.{AllByRecursion, flat_map}
use Rattle.std.specs.Option.{option_or}
use Rattle.std.proofs.lemmas.Bool.{cases_lt}
use Rattle.btree_inplace.specs.Shape.{IsSubtree, pages}
use Rattle.btree_inplace.specs.declared.TheConstants.{MAX_DEPTH}
use Rattle.page_image.specs.Page.{PageContents}
use Rattle.page_space.specs.Frames.{Frames, page_at}
use Rattle.table_trees.specs.Pages.{times_taken}
use Rattle.tree_check.specs.Marks.{copies, is_marked, times_marked, with_marks}
use Rattle.tree_check.specs.Walks.{tree_depth, tree_fault}
use Rattle.tree_check.specs.declared.fault.WalkFault.{WalkFault}
use Rattle.image_findings.specs.Images.{Finding}
use Rattle.image_findings.specs.Images.Finding.{Pages}
use Rattle.image_findings.specs.TreeFindings.{finding_of_fault, marks_after, no_marks, pages_below, trees_finding, unowned_from}
use Rattle.own_images.proofs.MarkCounts.{balance, copies-append, length-marks, length-no_marks, marked_of, one_at_most, past_taken, unmarked}

-- what the walk of a tree is known to find
pub record WalkLaws : Type 0 where
  pub fault : (frames : Frames) (marks : List Bool) (root depth : ℕ) → IsSubtree depth frames root → depth ≤ MAX_DEPTH → ((page : ℕ) → copies page (pages depth frames root) + times_marked marks page ≤ 1) → tree_fault frames marks root ≡ None
  pub depth : (frames : Frames) (root depth : ℕ) → IsSubtree depth frames root → depth ≤ MAX_DEPTH → tree_depth frames root ≡ depth

-- a tree stands below a root page
pub record IsFound (frames : Frames) (root : ℕ) : Type 0 where
  pub depth : ℕ
  pub shape : IsSubtree depth frames root
  pub deep : depth ≤ MAX_DEPTH

-- the pages of these trees are there once, and none is marked
abbrev pub AreOnce : Frames → List ℕ → List Bool → Type 0
AreOnce frames roots marks = (p : ℕ) → copies p (flat_map (pages_below frames) roots) + times_marked marks p ≤ 1

first_once : (frames : Frames) (root : ℕ) (roots : List ℕ) (marks : List Bool) → AreOnce frames (root ∷ roots) marks → (p : ℕ) → copies p (pages_below frames root) + times_marked marks p ≤ 1
first_once frames root roots marks once p = omega (arith, once p, copies-append p (pages_below frames root) (flat_map (pages_below frames) roots))

rest_once : (frames : Frames) (root : ℕ) (roots : List ℕ) (marks : List Bool) → AreOnce frames (root ∷ roots) marks → AreOnce frames roots (with_marks (pages_below frames root) marks)
rest_once frames root roots marks once p =
    omega (arith, once p, copies-append p (pages_below frames root) (flat_map (pages_below frames) roots), balance (pages_below frames root) marks (first_once frames root roots marks once) p)

pub trees_none : WalkLaws → (frames : Frames) (roots : List ℕ) (marks : List Bool) → AllByRecursion (IsFound frames) roots → AreOnce frames roots marks → trees_finding frames roots marks ≡ None
trees_none laws frames [] marks found once = refl
trees_none laws frames (root ∷ roots) marks found once =
    let first = found.0 in
    let fresh = subst (λ (d : ℕ). (p : ℕ) → copies p (pages d frames root) + times_marked marks p ≤ 1) (laws.depth frames root first.depth first.shape first.deep) (first_once frames root roots marks once) in
    ap (λ (o : Option WalkFault). option_or (option_map (finding_of_fault root) o) (trees_finding frames roots (with_marks (pages_below frames root) marks))) (laws.fault frames marks root first.depth first.shape first.deep fresh)
    ∙ trees_none laws frames roots (with_marks (pages_below frames root) marks) found.1 (rest_once frames root roots marks once)

marks_count : (frames : Frames) (roots : List ℕ) (marks : List Bool) → AreOnce frames roots marks → (p : ℕ) → copies p (flat_map (pages_below frames) roots) + times_marked marks p ≡ times_marked (marks_after frames roots marks) p
marks_count frames [] marks once p = omega arith
marks_count frames (root ∷ roots) marks once p =
    omega (
      arith,
      marks_count frames roots (with_marks (pages_below frames root) marks) (rest_once frames root roots marks once) p,
      copies-append p (pages_below frames root) (flat_map (pages_below frames) roots),
      balance (pages_below frames root) marks (first_once frames root roots marks once) p,
    )

length-after : (frames : Frames) (roots : List ℕ) (marks : List Bool) → length (marks_after frames roots marks) ≡ length marks
length-after frames [] marks = refl
length-after frames (root ∷ roots) marks = length-after frames roots (with_marks (pages_below frames root) marks) ∙ length-marks (pages_below frames root) marks

-- ---- pages

unowned_none : (number : ℕ) (frames : Frames) (marks : List Bool) → length marks ≡ length frames → ((p : ℕ) → is_some (page_at frames p) ≡ true → is_marked marks p ≡ true) → unowned_from number frames marks ≡ None
unowned_none number [] marks same owned = refl
unowned_none number (o ∷ frames) [] same owned = absurd (omega (arith, same))
unowned_none number (o ∷ frames) (m ∷ marks) same owned = at (is_some o) m (owned 0) (unowned_none (suc number) frames marks (omega (arith, same)) (λ p taken. owned (suc p) taken))
  where
    at : (taken marked : Bool) → (taken ≡ true → marked ≡ true) → unowned_from (suc number) frames marks ≡ None
        → (if taken then (if marked then unowned_from (suc number) frames marks else Some (Pages number)) else unowned_from (suc number) frames marks) ≡ None
    at true marked h rest = ap (λ (b : Bool). if b then unowned_from (suc number) frames marks else Some (Pages number)) (h refl) ∙ rest
    at false marked h rest = rest

-- ---- the whole

-- each page that is taken is one of these trees', and there once
abbrev pub AreAllPages : Frames → List ℕ → Type 0
AreAllPages frames roots = (p : ℕ) → copies p (flat_map (pages_below frames) roots) ≡ times_taken frames p

taken_once : (frames : Frames) (p : ℕ) → times_taken frames p ≤ 1
taken_once frames p = at (is_some (page_at frames p))
  where
    at : (b : Bool) → (if b then 1 else 0) ≤ 1
    at true = omega arith
    at false = omega arith

not_taken : (frames : Frames) (p : ℕ) → length frames ≤ p → times_taken frames p ≡ 0
not_taken frames p beyond = ap (λ (o : Option PageContents). if is_some o then 1 else 0) (past_taken frames p beyond)

pub all_once : (frames : Frames) (roots : List ℕ) → AreAllPages frames roots → AreOnce frames roots (no_marks frames)
all_once frames roots all p = elim (cases_lt p (length frames)) [
  | inl inside ↦ omega (arith, all p, taken_once frames p, unmarked frames p inside)
  | inr beyond ↦ omega (arith, all p, not_taken frames p beyond, one_at_most (no_marks frames) p)
]

-- the first tree, the others behind it, and the pages
pub first_none : WalkLaws → (frames : Frames) (root : ℕ) (roots : List ℕ) → AllByRecursion (IsFound frames) (root ∷ roots) → AreAllPages frames (root ∷ roots) → trees_finding frames (root ∷ []) (no_marks frames) ≡ None
first_none laws frames root roots found all =
    trees_none laws frames (root ∷ []) (no_marks frames) (found.0, tt)
    (λ p. omega (arith, first_once frames root roots (no_marks frames) (all_once frames (root ∷ roots) all) p, copies-append p (pages_below frames root) []))

pub others_none : WalkLaws → (frames : Frames) (root : ℕ) (roots : List ℕ) → AllByRecursion (IsFound frames) (root ∷ roots) → AreAllPages frames (root ∷ roots) → trees_finding frames roots (marks_after frames (root ∷ []) (no_marks frames)) ≡ None
others_none laws frames root roots found all =
    trees_none laws frames roots (with_marks (pages_below frames root) (no_marks frames)) found.1 (rest_once frames root roots (no_marks frames) (all_once frames (root ∷ roots) all))

is_taken_once : (frames : Frames) (p : ℕ) → is_some (page_at frames p) ≡ true → times_taken frames p ≡ 1
is_taken_once frames p e = ap (λ (b : Bool). if b then 1 else 0) e

pub pages_none : (frames : Frames) (root : ℕ) (roots : List ℕ) → AreAllPages frames (root ∷ roots) → unowned_from 0 frames (marks_after frames roots (marks_after frames (root ∷ []) (no_marks frames))) ≡ None
pages_none frames root roots all =
    let after = marks_after frames (root ∷ roots) (no_marks frames) in
    unowned_none 0 frames after (length-after frames (root ∷ roots) (no_marks frames) ∙ length-no_marks frames)
    (λ p taken. marked_of after p (omega (arith, marks_count frames (root ∷ roots) (no_marks frames) (all_once frames (root ∷ roots) all) p, all p, is_taken_once frames p taken)))
