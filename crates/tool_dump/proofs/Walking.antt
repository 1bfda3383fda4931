-- The tree below a root page, and the heads of its long values.
use Rattle.std.proofs.Common.{◌≡◌, ◌≢◌, ℕ, zero, suc, ◌+◌, ◌*◌, ◌<◌, ◌≤◌, Bool, true, false, Option, Some, None, List, [], ◌∷◌, ◌++◌, length, take, refl, sym, ap, subst, ◌∙◌, arith, append_assoc, length-append}
use Rattle.std.specs.Prelude.{AllPairs, Result, Ok, Err, OnOk, cond, count_by, if◌then◌else◌, unwrap_or}
use Rattle.std.specs.List.{flat_map}
use Rattle.std.proofs.lemmas.List.{append-nil, take_all}
use Rattle.std.proofs.lemmas.List.Sums.{count_by-le-length, sum_by-append, sum_by_push}
use Rattle.common_lemmas.proofs.Options.{some_apart}
use Rattle.jet_base.specs.declared.memory.OutOfMemory.{OutOfMemory}
use Rattle.btree_inplace.specs.Shape.{IsSubtree, child_of, entries, page_in, pages}
use Rattle.btree_inplace.specs.Trees.{IsTree, nodes_of, pages_of}
use Rattle.btree_inplace.specs.declared.Tree.{Tree}
use Rattle.btree_inplace.specs.declared.TheConstants.{MAX_DEPTH}
use Rattle.long_value.specs.Shown.{is_head}
use Rattle.page_image.specs.Page.{Node, PageContents, node_at}
use Rattle.page_image.specs.declared.offsets.TheConstants.{MAX_NODES}
use Rattle.page_space.specs.Frames.{Frames, IsTaken, empty_page, page_at}
use Rattle.tree_check.specs.Marks.{copies, is_marked, times_marked, with_marks}
use Rattle.tree_check.specs.Walks.{tree_depth, tree_fault}
use Rattle.tree_check.specs.declared.fault.WalkFault.{WalkFault}
use Rattle.image_findings.specs.TreeFindings.{nodes_below, pages_below}
use Rattle.image_opening.specs.WalkedTrees.{IsTreeBelow}
use Rattle.tool_dump.specs.SoundTrees.{IsTold}
use Rattle.tool_dump.specs.SpaceTexts.{counts_text, value_count}
use Rattle.tool_dump.specs.Walked.{IsWalked}

-- ---- one walk

one_at_most : (marks : List Bool) (page : ℕ) → times_marked marks page ≤ 1
one_at_most marks page = by (is_marked marks page)
  where
    by : (b : Bool) → (if b then 1 else 0) ≤ 1
    by true = omega arith
    by false = omega arith

-- what a walk of a tree tells
pub record TellsWalk (depth : ℕ) (frames : Frames) (root : ℕ) (before after : List Bool) : Type 0 where
  pub shape : IsSubtree depth frames root
  pub deep : depth ≤ MAX_DEPTH
  pub depth_is : depth ≡ tree_depth frames root
  pub own : (p : ℕ) → copies p (pages depth frames root) + times_marked before p ≡ times_marked after p
  pub marks : after ≡ with_marks (pages depth frames root) before

-- the laws that a walk stands on
pub record WalkLaws : Type 0 where
  pub once : (list : List ℕ) → ((p : ℕ) → copies p list ≤ 1) → AllPairs (λ p q. p ≢ q) list
  pub few : (frames : Frames) (tree : Tree) → IsTree frames tree → length (nodes_of frames tree) ≤ MAX_NODES * length frames

tree_below : WalkLaws → (depth : ℕ) (frames : Frames) (root : ℕ) (before after : List Bool) (tree : Tree) → TellsWalk depth frames root before after → tree.root ≡ root → tree.depth ≡ depth → IsTreeBelow frames root tree
tree_below laws depth frames root before after tree walk root_is depth_is =
    let once = laws.once (pages depth frames root) (λ p. omega (arith, walk.own p, one_at_most after p)) in
    record {
      is_tree = record {
        shape = subst (λ (d : ℕ). IsSubtree d frames tree.root) (sym depth_is) (subst (IsSubtree depth frames) (sym root_is) walk.shape);
        once = subst (λ (d : ℕ). AllPairs (λ p q. p ≢ q) (pages d frames tree.root)) (sym depth_is) (subst (λ (r : ℕ). AllPairs (λ p q. p ≢ q) (pages depth frames r)) (sym root_is) once);
        deep = subst (λ (d : ℕ). d ≤ MAX_DEPTH) (sym depth_is) walk.deep;
      };
      root_is = root_is;
      nodes = ap (λ (d : ℕ). entries d frames tree.root) (depth_is ∙ walk.depth_is) ∙ ap (entries (tree_depth frames root) frames) root_is;
      pages = ap (λ (d : ℕ). pages d frames tree.root) (depth_is ∙ walk.depth_is) ∙ ap (pages (tree_depth frames root) frames) root_is;
    }

pub walked : WalkLaws → (depth : ℕ) (frames : Frames) (root : ℕ) (before after : List Bool) (tree : Tree) → TellsWalk depth frames root before after → tree.root ≡ root → tree.depth ≡ depth → length frames ≤ 16777216 → IsWalked frames root tree depth before after
walked laws depth frames root before after tree walk root_is depth_is short =
    let below = tree_below laws depth frames root before after tree walk root_is depth_is in
    record {
      below = below;
      shape = walk.shape;
      depth_is = sym depth_is;
      few = omega (arith, laws.few frames tree below.is_tree, ap (λ (l : List Node). length l) below.nodes, short);
      marks = subst (λ (d : ℕ). after ≡ with_marks (pages d frames root) before) walk.depth_is walk.marks;
    }

-- a walk without a fault tells none
pub no_fault_told : (fault : Option WalkFault) (told : WalkFault) → fault ≡ None → fault ≡ Some told → ⊥
no_fault_told fault told none some = some_apart told (sym some ∙ none)

-- ---- the counts of a tree

pub nodes_told : (result : Result (Unit {0}) OutOfMemory) (frames : Frames) (root depth : ℕ) (tree : Tree) (counted : List ℕ) (nodes own : ℕ) (old new : List ℕ) (before after : List Bool) → IsWalked frames root tree depth before after
    → nodes ≡ length (nodes_of frames tree) → own ≡ length (pages_of frames tree) → OnOk result (new ≡ old ++ counts_text counted nodes own)
    → OnOk result (IsTold frames (root ∷ []) (counts_text counted (length (nodes_below frames root)) (length (pages_below frames root))) old new before after)
nodes_told (Err fault) frames root depth tree counted nodes own old new before after walk nodes_are own_are is = tt
nodes_told (Ok done) frames root depth tree counted nodes own old new before after walk nodes_are own_are is =
    let all : nodes ≡ length (nodes_below frames root) = nodes_are ∙ ap (λ (l : List Node). length l) walk.below.nodes in
    let pages_all : own ≡ length (pages_below frames root) = own_are ∙ ap (λ (l : List ℕ). length l) walk.below.pages in
    record { text = is ∙ ap (λ (n : ℕ). old ++ counts_text counted n own) all ∙ ap (λ (n : ℕ). old ++ counts_text counted (length (nodes_below frames root)) n) pages_all; marks = walk.marks }

-- the nodes down to the depth that was walked are those below the root
pub nodes_walked : (frames : Frames) (root depth : ℕ) (tree : Tree) (before after : List Bool) → IsWalked frames root tree depth before after → entries depth frames root ≡ nodes_below frames root
nodes_walked frames root depth tree before after walk =
    ap (λ (d : ℕ). entries d frames root) walk.depth_is ∙ ap (entries tree.depth frames) (sym walk.below.root_is) ∙ walk.below.nodes

pub few_walked : (frames : Frames) (root depth : ℕ) (tree : Tree) (before after : List Bool) → IsWalked frames root tree depth before after → length (entries depth frames root) ≤ MAX_NODES * 16777216
few_walked frames root depth tree before after walk = omega (arith, walk.few, ap (λ (l : List Node). length l) (nodes_walked frames root depth tree before after walk))

pub values_told : (result : Result (Unit {0}) OutOfMemory) (frames : Frames) (root depth : ℕ) (tree : Tree) (counted : List ℕ) (values own : ℕ) (old new : List ℕ) (before after : List Bool) → IsWalked frames root tree depth before after
    → values ≡ count_by is_head (entries depth frames root) → own ≡ length (pages_of frames tree) → OnOk result (new ≡ old ++ counts_text counted values own)
    → OnOk result (IsTold frames (root ∷ []) (counts_text counted (value_count (nodes_below frames root)) (length (pages_below frames root))) old new before after)
values_told (Err fault) frames root depth tree counted values own old new before after walk values_are own_are is = tt
values_told (Ok done) frames root depth tree counted values own old new before after walk values_are own_are is =
    let all : values ≡ value_count (nodes_below frames root) = values_are ∙ ap value_count (nodes_walked frames root depth tree before after walk) in
    let pages_all : own ≡ length (pages_below frames root) = own_are ∙ ap (λ (l : List ℕ). length l) walk.below.pages in
    record { text = is ∙ ap (λ (n : ℕ). old ++ counts_text counted n own) all ∙ ap (λ (n : ℕ). old ++ counts_text counted (value_count (nodes_below frames root)) n) pages_all; marks = walk.marks }

-- ---- pages

pub page_is : (frames : Frames) (page : ℕ) (p : PageContents) → page_at frames page ≡ Some p → page_in frames page ≡ p
page_is frames page p e = ap (λ (o : Option PageContents). unwrap_or o (empty_page page)) e

pub root_taken : (depth : ℕ) (frames : Frames) (page : ℕ) → IsSubtree depth frames page → IsTaken frames page
root_taken zero frames page tree = tree.taken
root_taken (suc depth) frames page tree = tree.0.taken

-- ---- heads, one place after another

abbrev one_if : Node → ℕ
one_if n = cond (is_head n) 1 0

take_next : (nodes : List Node) (i : ℕ) → i < length nodes → take (suc i) nodes ≡ take i nodes ++ node_at nodes i ∷ []
take_next [] i h = absurd (omega arith)
take_next (n ∷ nodes) zero h = refl
take_next (n ∷ nodes) (suc i) h = ap (λ (l : List Node). n ∷ l) (take_next nodes i (omega arith))

flat_next : (f : Node → List Node) (nodes : List Node) (i : ℕ) → i < length nodes → flat_map f (take (suc i) nodes) ≡ flat_map f (take i nodes) ++ f (node_at nodes i)
flat_next f [] i h = absurd (omega arith)
flat_next f (n ∷ nodes) zero h = append-nil (f n)
flat_next f (n ∷ nodes) (suc i) h = ap (λ (l : List Node). f n ++ l) (flat_next f nodes i (omega arith)) ∙ sym (append_assoc (f n) (flat_map f (take i nodes)) (f (node_at nodes i)))

pub heads_next : (nodes : List Node) (i count more : ℕ) → i < length nodes → count ≡ count_by is_head (take i nodes) → more ≡ count + (if is_head (node_at nodes i) then 1 else 0) → more ≡ count_by is_head (take (suc i) nodes)
heads_next nodes i count more within so is =
    is ∙ ap (λ (k : ℕ). k + one_if (node_at nodes i)) so ∙ sym (sum_by_push one_if (take i nodes) (node_at nodes i)) ∙ ap (count_by is_head) (sym (take_next nodes i within))

pub heads_all : (nodes : List Node) (i count : ℕ) → length nodes ≤ i → count ≡ count_by is_head (take i nodes) → count ≡ count_by is_head nodes
heads_all nodes i count end so = so ∙ ap (count_by is_head) (take_all i nodes end)

-- ---- heads below the children of a page

-- the nodes below the first children
abbrev pub below_first : ℕ → Frames → ℕ → ℕ → List Node
below_first depth frames page i = flat_map (λ n. entries depth frames (child_of n)) (take i (page_in frames page).nodes)

abbrev below_child : ℕ → Frames → ℕ → ℕ → List Node
below_child depth frames page i = entries depth frames (child_of (node_at (page_in frames page).nodes i))

first_fit : (f : Node → List Node) (nodes : List Node) (i : ℕ) → length (flat_map f (take i nodes)) ≤ length (flat_map f nodes)
first_fit f [] zero = omega arith
first_fit f [] (suc i) = omega arith
first_fit f (n ∷ nodes) zero = omega arith
first_fit f (n ∷ nodes) (suc i) = omega (arith, first_fit f nodes i, length-append (f n) (flat_map f (take i nodes)), length-append (f n) (flat_map f nodes))

child_next : (depth : ℕ) (frames : Frames) (page i : ℕ) → i < length (page_in frames page).nodes → below_first depth frames page (suc i) ≡ below_first depth frames page i ++ below_child depth frames page i
child_next depth frames page i within = flat_next (λ n. entries depth frames (child_of n)) (page_in frames page).nodes i within

-- with the next child they are no more than all
next_fits : (depth : ℕ) (frames : Frames) (page i : ℕ) → i < length (page_in frames page).nodes → length (below_first depth frames page i) + length (below_child depth frames page i) ≤ length (entries (suc depth) frames page)
next_fits depth frames page i within =
    omega (
      arith,
      ap (λ (l : List Node). length l) (child_next depth frames page i within),
      length-append (below_first depth frames page i) (below_child depth frames page i),
      first_fit (λ n. entries depth frames (child_of n)) (page_in frames page).nodes (suc i),
    )

pub child_fits : (depth : ℕ) (frames : Frames) (page i child most : ℕ) → i < length (page_in frames page).nodes → child ≡ child_of (node_at (page_in frames page).nodes i) → length (entries (suc depth) frames page) ≤ most → length (entries depth frames child) ≤ most
child_fits depth frames page i child most within is few = omega (arith, next_fits depth frames page i within, few, ap (λ (p : ℕ). length (entries depth frames p)) is)

pub heads_child : (depth : ℕ) (frames : Frames) (page i child count more : ℕ) → i < length (page_in frames page).nodes → child ≡ child_of (node_at (page_in frames page).nodes i) → count ≡ count_by is_head (below_first depth frames page i)
    → more ≡ count_by is_head (entries depth frames child) → count + more ≡ count_by is_head (below_first depth frames page (suc i))
heads_child depth frames page i child count more within is so next =
    ap (λ (k : ℕ). k + more) so
    ∙ ap (λ (k : ℕ). count_by is_head (below_first depth frames page i) + k) (next ∙ ap (λ (p : ℕ). count_by is_head (entries depth frames p)) is)
    ∙ sym (sum_by-append one_if (below_first depth frames page i) (below_child depth frames page i))
    ∙ ap (count_by is_head) (sym (child_next depth frames page i within))

pub heads_fit : (depth : ℕ) (frames : Frames) (page i child count more most : ℕ) → i < length (page_in frames page).nodes → child ≡ child_of (node_at (page_in frames page).nodes i) → count ≡ count_by is_head (below_first depth frames page i)
    → more ≡ count_by is_head (entries depth frames child) → length (entries (suc depth) frames page) ≤ most → count + more ≤ most
heads_fit depth frames page i child count more most within is so next few =
    omega (
      arith,
      next_fits depth frames page i within,
      few,
      so,
      next,
      count_by-le-length is_head (below_first depth frames page i),
      count_by-le-length is_head (entries depth frames child),
      ap (λ (p : ℕ). length (entries depth frames p)) is,
    )

pub heads_below : (depth : ℕ) (frames : Frames) (page i count : ℕ) → length (page_in frames page).nodes ≤ i → count ≡ count_by is_head (below_first depth frames page i) → count ≡ count_by is_head (entries (suc depth) frames page)
heads_below depth frames page i count end so =
    so ∙ ap (λ (l : List Node). count_by is_head (flat_map (λ n. entries depth frames (child_of n)) l)) (take_all i (page_in frames page).nodes end)
