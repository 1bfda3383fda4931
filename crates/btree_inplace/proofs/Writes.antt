-- A page that is taken, and the pages that are written behind it.
use Rattle.std.proofs.Common.{◌≡◌, ◌≢◌, ℕ, zero, suc, ◌+◌, ◌<◌, ◌≤◌, inl, inr, Bool, true, false, Option, Some, None, List, [], ◌∷◌, ◌++◌, length, take, drop, set, refl, sym, ap, subst, ◌∙◌, arith}
use Rattle.std.specs.Prelude.{All, AllPairs, IsSome, insert, unwrap_or}
use Rattle.std.specs.List.{flat_map}
use Rattle.std.proofs.lemmas.Bool.{cases_lt, cases_eq}
use Rattle.std.proofs.lemmas.List.{get_or-drop, get_or_append_left, get_or_past, get_or-set_same, get_or-set_other, length_push}
use Rattle.std.proofs.lemmas.List.Sums.{sum_by-cons}
use Rattle.std.specs.Ordering.{nat_cmp, is_lt}
use Rattle.std.specs.declared.cmp.Ordering.{Ordering}
use Rattle.std.specs.declared.cmp.Ordering.TheVariants.{Less, Equal, Greater}
use Rattle.std.specs.Cmp.Lexicographic.{slice_cmp}
use Rattle.byteorder.specs.Endian.{little_number}
use Rattle.page_image.specs.Page.{Node, PageContents, IsBelow, IsInsertPlace, IsPage, no_node, node_at, node_size, page_size}
use Rattle.page_space.specs.Frames.{Frames, IsTaken, Takes, empty_page, page_at}
use Rattle.common_lemmas.proofs.Orders.{is_less, less-asymmetric}
use Rattle.btree_inplace.specs.Alterations.{IsParted, cleared, copies, separator}
use Rattle.btree_inplace.specs.Shape.{IsInner, IsSubtree, IsTreeNode, child_of, entries, page_in, pages}
use Rattle.btree_inplace.proofs.Below.{IsBelow-from_upto, flat_map-around}
use Rattle.btree_inplace.proofs.Changing.{set-stays, taken_within}
use Rattle.btree_inplace.proofs.Counting.{copies-cons, copies-itself, copies-once}
use Rattle.btree_inplace.proofs.Parts.{pages_taken, part_le, tree_parts}
use Rattle.btree_inplace.proofs.Splits.{All-left, All-right}
use Rattle.btree_inplace.proofs.Splitting.{Cutting, root_in, tail_of}
use Rattle.btree_inplace.proofs.Swapping.{taken_not_free}

pub takes_free : (old : Frames) (p : ℕ) (new : Frames) → Takes old p new → page_at old p ≡ None
takes_free old p new t = elim (cases_lt p (length old)) [
  | inl within ↦ (t.reused within).0
  | inr past ↦ get_or_past old p None past
]

pub takes_other : (old : Frames) (p : ℕ) (new : Frames) → Takes old p new → (q : ℕ) → q ≢ p → page_at new q ≡ page_at old q
takes_other old p new t q ne = elim (cases_lt p (length old)) [
  | inl within ↦ ap (λ (f : Frames). page_at f q) (t.reused within).1 ∙ get_or-set_other old p q (Some (empty_page p)) None ne
  | inr past ↦ ap (λ (f : Frames). page_at f q) (t.grown past).2 ∙ elim (cases_lt q (length old)) [
    | inl low ↦ get_or_append_left old (Some (empty_page p) ∷ []) None q low
    | inr high ↦
        get_or_past (old ++ Some (empty_page p) ∷ []) q None (omega (arith, length_push old (Some (empty_page p)), (t.grown past).0))
        ∙ sym (get_or_past old q None high)
  ]
]

pub wrote : (frames : Frames) (p : ℕ) (x : PageContents) → IsTaken frames p → page_at (set frames p (Some x)) p ≡ Some x
wrote frames p x taken = get_or-set_same frames p (Some x) None (taken_within frames p taken)

pub taken_same : (old new : Frames) (p : ℕ) → page_at new p ≡ page_at old p → IsTaken old p → IsTaken new p
taken_same old new p same taken = subst (λ (o : Option PageContents). IsSome o) (sym same) taken

pub some_is_taken : (frames : Frames) (p : ℕ) (x : PageContents) → page_at frames p ≡ Some x → IsTaken frames p
some_is_taken frames p x at = subst (λ (o : Option PageContents). IsSome o) (sym at) refl

-- a page that was taken is there
pub takes_taken : (old : Frames) (p : ℕ) (new : Frames) → Takes old p new → IsTaken new p
takes_taken old p new t = elim (cases_lt p (length old)) [
  | inl within ↦ subst (λ (f : Frames). IsTaken f p) (sym (t.reused within).1) (some_is_taken (set old p (Some (empty_page p))) p (empty_page p) (get_or-set_same old p (Some (empty_page p)) None within))
  | inr past ↦ subst (λ (f : Frames). IsTaken f p) (sym (t.grown past).2) (at_end old p (t.grown past).0)
]
  where
    at_end : (old : Frames) (p : ℕ) → p ≡ length old → IsTaken (old ++ Some (empty_page p) ∷ []) p
    at_end old p e = subst (λ q. IsTaken (old ++ Some (empty_page p) ∷ []) q) (sym e) (last old p)
      where
        last : (old : Frames) (p : ℕ) → IsTaken (old ++ Some (empty_page p) ∷ []) (length old)
        last [] p = refl
        last (x ∷ xs) p = last xs p

-- a parent is none of the pages below it
pub parent_apart : (depth : ℕ) (frames : Frames) (page i below : ℕ) → AllPairs (λ p q. p ≢ q) (pages (suc depth) frames page) → i < length (page_in frames page).nodes → child_of (node_at (page_in frames page).nodes i) ≡ below → page ≢ below
parent_apart depth frames page i below once h child e =
    let nodes = (page_in frames page).nodes in
    let g : Node → List ℕ = λ n. pages depth frames (child_of n) in
    let held : 0 < copies below (g (node_at nodes i)) = subst (λ q. 0 < copies below (pages depth frames q)) (sym child) (root_in depth frames below) in
    absurd (omega (arith, copies-once (page ∷ flat_map g nodes) below once, copies-cons below page (flat_map g nodes), part_le g nodes below i h, held, ap (λ q. copies below (q ∷ [])) e, copies-itself below))

-- the pages of a cut, before and after each write
pub record Written (old taken : Frames) (page below number : ℕ) (left parent right : PageContents) : Type 0 where
  pub below_same : page_at taken below ≡ page_at old below
  pub below_taken : IsTaken taken below
  pub page_same : page_at (set taken below (Some left)) page ≡ page_at old page
  pub page_taken : IsTaken (set taken below (Some left)) page
  pub number_taken : IsTaken (set (set taken below (Some left)) page (Some parent)) number
  pub at_below : page_at (set (set (set taken below (Some left)) page (Some parent)) number (Some right)) below ≡ Some left
  pub at_page : page_at (set (set (set taken below (Some left)) page (Some parent)) number (Some right)) page ≡ Some parent
  pub at_number : page_at (set (set (set taken below (Some left)) page (Some parent)) number (Some right)) number ≡ Some right
  pub others : (p : ℕ) → p ≢ page → p ≢ below → p ≢ number → page_at (set (set (set taken below (Some left)) page (Some parent)) number (Some right)) p ≡ page_at old p

pub all_written : (old taken : Frames) (page below number : ℕ) (left parent right : PageContents) → Takes old number taken → IsTaken old page → IsTaken old below → page ≢ below → Written old taken page below number left parent right
all_written old taken page below number left parent right t has_page has_below ne =
    let not_number = λ (p : ℕ) (has : IsTaken old p) (e : p ≡ number). taken_not_free old number (subst (IsTaken old) e has) (takes_free old number taken t) in
    let second = set taken below (Some left) in
    let third = set second page (Some parent) in
    let b1 : page_at taken below ≡ page_at old below = takes_other old number taken t below (not_number below has_below) in
    let b1_taken = taken_same old taken below b1 has_below in
    let b2 : page_at second below ≡ Some left = wrote taken below left b1_taken in
    let b3 : page_at third below ≡ Some left = set-stays second page (Some parent) below (λ e. ne (sym e)) ∙ b2 in
    let p2 : page_at second page ≡ page_at old page = set-stays taken below (Some left) page ne ∙ takes_other old number taken t page (not_number page has_page) in
    let p2_taken = taken_same old second page p2 has_page in
    let p3 : page_at third page ≡ Some parent = wrote second page parent p2_taken in
    let n3 : page_at third number ≡ page_at taken number = set-stays second page (Some parent) number (λ e. not_number page has_page (sym e)) ∙ set-stays taken below (Some left) number (λ e. not_number below has_below (sym e)) in
    let n3_taken = taken_same taken third number n3 (takes_taken old number taken t) in
    record {
      below_same = b1;
      below_taken = b1_taken;
      page_same = p2;
      page_taken = p2_taken;
      number_taken = n3_taken;
      at_below = set-stays third number (Some right) below (not_number below has_below) ∙ b3;
      at_page = set-stays third number (Some right) page (not_number page has_page) ∙ p3;
      at_number = wrote third number right n3_taken;
      others = λ p np nb nn. set-stays third number (Some right) p nn ∙ set-stays second page (Some parent) p np ∙ set-stays taken below (Some left) p nb ∙ takes_other old number taken t p nn;
    }

-- a node of the first part, and one of the second
low_entry : (depth : ℕ) (frames : Frames) (below at : ℕ) (middle : List ℕ) → IsSubtree depth frames below → IsParted (page_in frames below).nodes at middle → (0 < depth → middle ≡ (node_at (page_in frames below).nodes at).key) → (P : Node → Type 0) → All P (entries depth frames below) → (e : Node) × P e × IsBelow e.key middle
low_entry zero frames below at middle tree parted inner P all =
    let nodes = (page_in frames below).nodes in
    (node_at nodes 0, all 0 no_node (omega (arith, parted.first, parted.last)), parted.low 0 parted.first)
low_entry (suc depth) frames below at middle tree parted inner P all =
    let nodes = (page_in frames below).nodes in
    let f : Node → List Node = λ n. entries depth frames (child_of n) in
    let some = (tree.3 0 tree.1.some).some in
    let e = node_at (f (node_at nodes 0)) 0 in
    let mine : All P (f (node_at nodes 0)) = All-left P (f (node_at nodes 0)) (flat_map f (drop (0 + 1) nodes)) (All-right P (flat_map f (take 0 nodes)) (f (node_at nodes 0) ++ flat_map f (drop (0 + 1) nodes)) (subst (All P) (flat_map-around f nodes 0 no_node tree.1.some) all)) in
    (e, mine 0 no_node some, subst (IsBelow e.key) (sym (inner (omega arith))) ((tree_parts depth frames below tree).order 0 at no_node parted.first parted.last 0 no_node some))

high_entry : (depth : ℕ) (frames : Frames) (below at : ℕ) (middle : List ℕ) → IsSubtree depth frames below → IsParted (page_in frames below).nodes at middle → (0 < depth → middle ≡ (node_at (page_in frames below).nodes at).key) → (P : Node → Type 0) → All P (entries depth frames below) → (e : Node) × P e × (¬ IsBelow e.key middle)
high_entry zero frames below at middle tree parted inner P all =
    let nodes = (page_in frames below).nodes in
    (node_at nodes at, all at no_node parted.last, parted.high at (omega arith) parted.last)
high_entry (suc depth) frames below at middle tree parted inner P all =
    let nodes = (page_in frames below).nodes in
    let f : Node → List Node = λ n. entries depth frames (child_of n) in
    let some = (tree.3 at parted.last).some in
    let e = node_at (f (node_at nodes at)) 0 in
    let mine : All P (f (node_at nodes at)) = All-left P (f (node_at nodes at)) (flat_map f (drop (at + 1) nodes)) (All-right P (flat_map f (take at nodes)) (f (node_at nodes at) ++ flat_map f (drop (at + 1) nodes)) (subst (All P) (flat_map-around f nodes at no_node parted.last) all)) in
    (e, mine 0 no_node some, subst (λ (k : List ℕ). ¬ IsBelow e.key k) (sym (inner (omega arith))) ((tree.3 at parted.last).lower 0 no_node some))

-- The key between the parts stands behind the child's in the parent.
pub middle_place : (depth : ℕ) (frames : Frames) (page i below at : ℕ) (middle : List ℕ) → IsSubtree (suc depth) frames page → i < length (page_in frames page).nodes → child_of (node_at (page_in frames page).nodes i) ≡ below → IsParted (page_in frames below).nodes at middle → (0 < depth → middle ≡ (node_at (page_in frames below).nodes at).key) → IsInsertPlace (page_in frames page).nodes middle (i + 1)
middle_place depth frames page i below at middle tree within child parted inner =
    let nodes = (page_in frames page).nodes in
    let below_tree = subst (IsSubtree depth frames) child (tree.2 i within) in
    let parts = tree_parts depth frames page tree in
    let mine = parts.each i no_node within in
    let over : IsBelow (node_at nodes i).key middle =
    (let (e, lower, low) = low_entry depth frames below at middle below_tree parted inner (λ e. ¬ IsBelow e.key (node_at nodes i).key) (subst (λ q. All (λ e. ¬ IsBelow e.key (node_at nodes i).key) (entries depth frames q)) child mine.lower) in
    IsBelow-from_upto (node_at nodes i).key e.key middle lower low) in
    record {
      within = omega arith;
      below = λ k lt. elim (cases_eq k i) [
        | inl at_i ↦ subst (λ j. IsBelow (node_at nodes j).key middle) (sym at_i) over
        | inr ne ↦ IsBelow-from_upto (node_at nodes k).key (node_at nodes i).key middle (λ b. not_back (node_at nodes k).key (node_at nodes i).key (tree.0.page.rising k i no_node (omega arith) within) b) over
      ];
      above = λ k from l.
          let (e, upper, high) = high_entry depth frames below at middle below_tree parted inner (λ e. IsBelow e.key (node_at nodes k).key) (subst (λ q. All (λ e. IsBelow e.key (node_at nodes k).key) (entries depth frames q)) child (parts.order i k no_node (omega arith) l)) in
          IsBelow-from_upto middle e.key (node_at nodes k).key high upper;
    }
  where
    not_back : (a b : List ℕ) → IsBelow a b → ¬ IsBelow b a
    not_back a b h = less-asymmetric a b h

-- The writes are those of a cut.
pub cutting_made : (depth : ℕ) (old taken : Frames) (page i below number at : ℕ) (n : Node) (left parent right : PageContents) → IsSubtree (suc depth) old page → AllPairs (λ p q. p ≢ q) (pages (suc depth) old page) → i < length (page_in old page).nodes → child_of (node_at (page_in old page).nodes i) ≡ below → Takes old number taken → IsParted (page_in old below).nodes at n.key → (0 < depth → n.key ≡ (node_at (page_in old below).nodes at).key) → IsTreeNode n → length n.data ≡ 4 → n.extent ≡ 4 → child_of n ≡ number → left ≡ record (page_in old below) { nodes = take at (page_in old below).nodes } → IsPage left → parent ≡ record (page_in old page) { nodes = insert (page_in old page).nodes (i + 1) n } → IsPage parent → right ≡ record { number = number; kind = (page_in old below).kind; nodes = tail_of depth (drop at (page_in old below).nodes) } → IsPage right → Cutting depth old (set (set (set taken below (Some left)) page (Some parent)) number (Some right)) page i below number at n
cutting_made depth old taken page i below number at n left parent right is_tree once h is_child t is_parted is_inner is_node is_wide is_extent is_lead left_is left_ok parent_is parent_ok right_is right_ok =
    let below_tree = subst (IsSubtree depth old) is_child (is_tree.2 i h) in
    let w = all_written old taken page below number left parent right t is_tree.0.taken (pages_taken depth old below below_tree below (root_in depth old below)) (parent_apart depth old page i below once h is_child) in
    record {
      tree = is_tree;
      once = λ p. copies-once (pages (suc depth) old page) p once;
      within = h;
      child = is_child;
      free = takes_free old number taken t;
      parted = is_parted;
      inner = is_inner;
      node = is_node;
      width = is_wide;
      extent = is_extent;
      leads = is_lead;
      parent = w.at_page ∙ ap Some parent_is;
      parent_page = subst IsPage parent_is parent_ok;
      left = w.at_below ∙ ap Some left_is;
      left_page = subst IsPage left_is left_ok;
      right = w.at_number ∙ ap Some right_is;
      right_page = subst IsPage right_is right_ok;
      others = w.others;
    }

pub tail_inner : (depth : ℕ) (nodes : List Node) → 0 < depth → cleared nodes ≡ tail_of depth nodes
tail_inner zero nodes some = absurd (omega arith)
tail_inner (suc depth) nodes some = refl

pub tail_leaf : (depth : ℕ) (nodes : List Node) → depth ≡ 0 → nodes ≡ tail_of depth nodes
tail_leaf zero nodes none = refl
tail_leaf (suc depth) nodes none = absurd (omega arith)

-- the number that was read from an inner page
pub child_read : (frames : Frames) (page i number : ℕ) (p : PageContents) (bytes : List ℕ) → page_at frames page ≡ Some p → bytes ≡ (node_at p.nodes i).data → number ≡ little_number 4 bytes → child_of (node_at (page_in frames page).nodes i) ≡ number
child_read frames page i number p bytes at is read =
    ap (λ (o : Option PageContents). child_of (node_at (unwrap_or o (empty_page page)).nodes i)) at ∙ ap (little_number 4) (sym is) ∙ sym read

pub page_is : (frames : Frames) (page : ℕ) (p : PageContents) → page_at frames page ≡ Some p → page_in frames page ≡ p
page_is frames page p at = ap (λ (o : Option PageContents). unwrap_or o (empty_page page)) at

-- the writes of a cut, from its tree
pub writes_of : (depth : ℕ) (old taken : Frames) (page i below number : ℕ) (left parent right : PageContents) → IsSubtree (suc depth) old page → AllPairs (λ p q. p ≢ q) (pages (suc depth) old page) → i < length (page_in old page).nodes → child_of (node_at (page_in old page).nodes i) ≡ below → Takes old number taken → Written old taken page below number left parent right
writes_of depth old taken page i below number left parent right tree once h child t =
    let below_tree = subst (IsSubtree depth old) child (tree.2 i h) in
    all_written old taken page below number left parent right t tree.0.taken (pages_taken depth old below below_tree below (root_in depth old below)) (parent_apart depth old page i below once h child)

pub inner_of : (depth : ℕ) (frames : Frames) (page : ℕ) → 0 < depth → IsSubtree depth frames page → IsInner (page_in frames page).nodes
inner_of zero frames page some tree = absurd (omega arith)
inner_of (suc depth) frames page some tree = tree.1

pub small_of : (depth : ℕ) (frames : Frames) (page : ℕ) → IsSubtree depth frames page → All IsTreeNode (page_in frames page).nodes
small_of zero frames page tree = tree.small
small_of (suc depth) frames page tree = tree.0.small

pub tail_size : (depth : ℕ) (nodes : List Node) → page_size (tail_of depth nodes) ≤ page_size nodes
tail_size zero nodes = omega arith
tail_size (suc depth) [] = omega arith
tail_size (suc depth) (x ∷ xs) = omega (arith, sum_by-cons node_size x xs, sum_by-cons node_size (record x { key = [] }) xs)

not_less : (r : Ordering) → is_lt r ≡ false → ¬ (r ≡ Less)
not_less Less e = cc
not_less Equal e = λ h. cc
not_less Greater e = λ h. cc

-- what a comparison of two keys said
pub key_below : (a b : List ℕ) (r : Ordering) (t : Bool) → r ≡ slice_cmp nat_cmp a b → t ≡ is_lt r → t ≡ true → IsBelow a b
key_below a b r t cmp test is_true = sym cmp ∙ is_less r (sym test ∙ is_true)

pub key_not_below : (a b : List ℕ) (r : Ordering) (t : Bool) → r ≡ slice_cmp nat_cmp a b → t ≡ is_lt r → t ≡ false → ¬ IsBelow a b
key_not_below a b r t cmp test is_false h = not_less r (sym test ∙ is_false) (cmp ∙ h)

pub drop_first : (nodes : List Node) (at : ℕ) → node_at (drop at nodes) 0 ≡ node_at nodes at
drop_first nodes at = get_or-drop at nodes 0 no_node ∙ ap (λ k. node_at nodes k) (omega arith)

-- the key between the parts, in either case
pub sep_key : (nodes : List Node) (key s : List ℕ) (at : ℕ) (by_key : Bool) → by_key ≡ true → s ≡ key → s ≡ separator nodes key at by_key
sep_key nodes key s at by_key is same = same ∙ ap (λ b. separator nodes key at b) (sym is)

pub sep_first : (nodes rest : List Node) (key s : List ℕ) (at : ℕ) (by_key : Bool) → by_key ≡ false → rest ≡ drop at nodes → s ≡ (node_at rest 0).key → s ≡ separator nodes key at by_key
sep_first nodes rest key s at by_key is moved same = same ∙ ap (λ (ns : List Node). (node_at ns 0).key) moved ∙ ap (λ (n : Node). n.key) (drop_first nodes at) ∙ ap (λ b. separator nodes key at b) (sym is)

-- it is short
pub sep_short : (nodes : List Node) (key : List ℕ) (at : ℕ) (by_key : Bool) → length key ≤ 755 → All IsTreeNode nodes → at < length nodes → length (separator nodes key at by_key) ≤ 755
sep_short nodes key at true short small within = short
sep_short nodes key at false short small within = (small at no_node within).key

-- on an inner page it is a key of the page
pub sep_inner : (nodes : List Node) (key : List ℕ) (at : ℕ) (by_key : Bool) → by_key ≡ false → separator nodes key at by_key ≡ (node_at nodes at).key
sep_inner nodes key at by_key is = ap (λ b. separator nodes key at b) is
