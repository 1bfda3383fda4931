-- Walks of trees one after another.
use Rattle.std.proofs.Common.{◌≡◌, ◌≢◌, ℕ, ◌+◌, ◌≤◌, Bool, Option, Some, None, List, [], ◌∷◌, ◌++◌, refl, sym, ap, subst, ◌∙◌, arith}
use Rattle.std.specs.Prelude.{AllPairs}
use Rattle.std.specs.Option.{option_map, option_or}
use Rattle.std.proofs.lemmas.List.{append-nil}
use Rattle.std.proofs.lemmas.Grind.{flat_map-append}
use Rattle.btree_inplace.specs.Shape.{IsSubtree, entries, pages}
use Rattle.btree_inplace.specs.declared.Tree.{Tree}
use Rattle.btree_inplace.specs.declared.TheConstants.{MAX_DEPTH}
use Rattle.page_space.specs.Frames.{Frames}
use Rattle.tree_check.specs.Marks.{copies, times_marked, with_marks}
use Rattle.tree_check.specs.Walks.{tree_depth, tree_fault}
use Rattle.tree_check.specs.declared.fault.WalkFault.{WalkFault}
use Rattle.image_findings.specs.Images.{Finding}
use Rattle.image_findings.specs.TreeFindings.{finding_of_fault, marks_after, pages_below, trees_finding}
use Rattle.image_opening.specs.OpenedCatalogs.{IsFirstFinding}
use Rattle.image_opening.specs.WalkedTrees.{AreTaken, AreWalked, IsTreeBelow, walked_pages}
use Rattle.image_opening.specs.declared.fault.OpenFault.{OpenFault}
use Rattle.image_opening.specs.declared.fault.OpenFault.TheVariants as fault
use Rattle.image_opening.proofs.MarkedForest.{one_at_most}
use Rattle.image_opening.proofs.OnceEach.{once_each}
use Rattle.image_opening.proofs.TakenPages.{both_taken, copies-append, none_taken, tree_taken}

-- ---- one walk

-- what a walk of a tree of this depth tells
pub record IsWalk (depth : ℕ) (frames : Frames) (root : ℕ) (old new : List Bool) : Type 0 where
  pub shape : IsSubtree depth frames root
  pub deep : depth ≤ MAX_DEPTH
  pub depth_is : depth ≡ tree_depth frames root
  pub own : (p : ℕ) → copies p (pages depth frames root) + times_marked old p ≡ times_marked new p
  pub marks : new ≡ with_marks (pages depth frames root) old

by_depth : (depth : ℕ) (frames : Frames) (root : ℕ) (old new : List Bool) → IsWalk depth frames root old new → IsWalk (tree_depth frames root) frames root old new
by_depth depth frames root old new walk = subst (λ (d : ℕ). IsWalk d frames root old new) walk.depth_is walk

pub one_walked : (depth : ℕ) (frames : Frames) (root : ℕ) (old new : List Bool) → IsWalk depth frames root old new → tree_fault frames old root ≡ None → AreWalked frames (root ∷ []) old new
one_walked depth frames root old new walk e =
    let w = by_depth depth frames root old new walk in
    let only : pages_below frames root ++ [] ≡ pages_below frames root = append-nil (pages_below frames root) in
    record {
      none = ap (λ (o : Option WalkFault). option_or (option_map (finding_of_fault root) o) None) e;
      marks = w.marks;
      own = λ p. ap (λ (l : List ℕ). copies p l + times_marked old p) only ∙ w.own p;
      taken = subst (AreTaken frames) (sym only) (tree_taken (tree_depth frames root) frames root w.shape);
    }

pub tree_below : (depth : ℕ) (frames : Frames) (root : ℕ) (old new : List Bool) (tree : Tree) → IsWalk depth frames root old new → tree.root ≡ root → tree.depth ≡ depth → IsTreeBelow frames root tree
tree_below depth frames root old new tree walk root_is depth_is =
    let once = once_each (pages depth frames root) (λ p. omega (arith, walk.own p, one_at_most new p)) in
    record {
      is_tree = record {
        shape = subst (λ (d : ℕ). IsSubtree d frames tree.root) (sym depth_is) (subst (IsSubtree depth frames) (sym root_is) walk.shape);
        once = subst (λ (d : ℕ). AllPairs (λ p q. p ≢ q) (pages d frames tree.root)) (sym depth_is) (subst (λ (r : ℕ). AllPairs (λ p q. p ≢ q) (pages depth frames r)) (sym root_is) once);
        deep = subst (λ (d : ℕ). d ≤ MAX_DEPTH) (sym depth_is) walk.deep;
      };
      root_is = root_is;
      nodes = ap (λ (d : ℕ). entries d frames tree.root) (depth_is ∙ walk.depth_is) ∙ ap (entries (tree_depth frames root) frames) root_is;
      pages = ap (λ (d : ℕ). pages d frames tree.root) (depth_is ∙ walk.depth_is) ∙ ap (pages (tree_depth frames root) frames) root_is;
    }

-- ---- none, and more

pub none_walked : (frames : Frames) (marks : List Bool) → AreWalked frames [] marks marks
none_walked frames marks = record { none = refl; marks = refl; own = λ p. omega arith; taken = none_taken frames }

pub or-assoc : (a b c : Option Finding) → option_or a (option_or b c) ≡ option_or (option_or a b) c
or-assoc None b c = refl
or-assoc (Some x) b c = refl

pub finding-append : (frames : Frames) (roots more : List ℕ) (marks : List Bool) → trees_finding frames (roots ++ more) marks ≡ option_or (trees_finding frames roots marks) (trees_finding frames more (marks_after frames roots marks))
finding-append frames [] more marks = refl
finding-append frames (root ∷ roots) more marks =
    let rest = with_marks (pages_below frames root) marks in
    let first = option_map (finding_of_fault root) (tree_fault frames marks root) in
    ap (option_or first) (finding-append frames roots more rest) ∙ or-assoc first (trees_finding frames roots rest) (trees_finding frames more (marks_after frames roots rest))

marks-append : (frames : Frames) (roots more : List ℕ) (marks : List Bool) → marks_after frames (roots ++ more) marks ≡ marks_after frames more (marks_after frames roots marks)
marks-append frames [] more marks = refl
marks-append frames (root ∷ roots) more marks = marks-append frames roots more (with_marks (pages_below frames root) marks)

-- what is found behind trees that were walked
pub found_behind : (frames : Frames) (roots more : List ℕ) (old new : List Bool) → AreWalked frames roots old new → trees_finding frames (roots ++ more) old ≡ trees_finding frames more new
found_behind frames roots more old new walked =
    finding-append frames roots more old ∙ ap (λ (o : Option Finding). option_or o (trees_finding frames more (marks_after frames roots old))) walked.none
    ∙ ap (trees_finding frames more) (sym walked.marks)

pub both_walked : (frames : Frames) (roots more : List ℕ) (old mid new : List Bool) → AreWalked frames roots old mid → AreWalked frames more mid new → AreWalked frames (roots ++ more) old new
both_walked frames roots more old mid new one other =
    let all : walked_pages frames (roots ++ more) ≡ walked_pages frames roots ++ walked_pages frames more = flat_map-append (pages_below frames) roots more in
    record {
      none = found_behind frames roots more old mid one ∙ other.none;
      marks = other.marks ∙ ap (marks_after frames more) one.marks ∙ sym (marks-append frames roots more old);
      own = λ p. omega (arith, one.own p, other.own p, ap (copies p) all, copies-append p (walked_pages frames roots) (walked_pages frames more));
      taken = subst (AreTaken frames) (sym all) (both_taken frames (walked_pages frames roots) (walked_pages frames more) one.taken other.taken);
    }

-- ---- the first finding

pub first_stays : (a b : Option Finding) (why : OpenFault) → IsFirstFinding a why → IsFirstFinding (option_or a b) why
first_stays a b (fault.Pages page) e = ap (λ (o : Option Finding). option_or o b) e
first_stays a b (fault.Tree root page) e = ap (λ (o : Option Finding). option_or o b) e
first_stays a b fault.Catalog e = ap (λ (o : Option Finding). option_or o b) e
first_stays a b fault.OutOfMemory e = tt

pub found_first : (frames : Frames) (roots more : List ℕ) (marks : List Bool) (why : OpenFault) → IsFirstFinding (trees_finding frames roots marks) why → IsFirstFinding (trees_finding frames (roots ++ more) marks) why
found_first frames roots more marks why h =
    subst (λ (o : Option Finding). IsFirstFinding o why) (sym (finding-append frames roots more marks))
    (first_stays (trees_finding frames roots marks) (trees_finding frames more (marks_after frames roots marks)) why h)

pub found_next : (frames : Frames) (roots more : List ℕ) (old new : List Bool) (why : OpenFault) → AreWalked frames roots old new → IsFirstFinding (trees_finding frames more new) why → IsFirstFinding (trees_finding frames (roots ++ more) old) why
found_next frames roots more old new why walked h = subst (λ (o : Option Finding). IsFirstFinding o why) (sym (found_behind frames roots more old new walked)) h

-- a list of roots that ends where a fault is met
pub walk_failed : (frames : Frames) (done one rest all : List ℕ) (old mid : List Bool) (why : OpenFault) → all ≡ done ++ (one ++ rest) → AreWalked frames done old mid → IsFirstFinding (trees_finding frames one mid) why → IsFirstFinding (trees_finding frames all old) why
walk_failed frames done one rest all old mid why e walked h =
    subst (λ (l : List ℕ). IsFirstFinding (trees_finding frames l old) why) (sym e) (found_next frames done (one ++ rest) old mid why walked (found_first frames one rest mid why h))

pub no_memory : (first : Option Finding) (why : OpenFault) → why ≡ fault.OutOfMemory → IsFirstFinding first why
no_memory first why e = subst (IsFirstFinding first) (sym e) tt
