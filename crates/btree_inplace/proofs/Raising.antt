-- A root whose nodes move to a page below it.
use Rattle.std.proofs.Common.{◌≡◌, ◌≢◌, ℕ, zero, suc, ◌+◌, ◌<◌, ◌≤◌, inl, inr, None, Some, List, [], ◌∷◌, length, get_or, set, refl, sym, ap, subst, ◌∙◌, arith}
use Rattle.std.specs.Prelude.{All, AllPairs, Contains}
use Rattle.std.specs.List.{flat_map}
use Rattle.std.proofs.lemmas.Bool.{cases_lt, cases_eq}
use Rattle.std.proofs.lemmas.List.{append-nil}
use Rattle.std.proofs.lemmas.List.Elements.{All-from_get_or}
use Rattle.page_image.specs.Page.{Node, PageContents, IsBelow, IsPage, no_node, node_at, page_size}
use Rattle.page_space.specs.Frames.{Frames, IsTaken, Takes, page_at}
use Rattle.btree_inplace.specs.Alterations.{AlteredTree, IsRootAbove, Swaps, copies, room_at}
use Rattle.btree_inplace.specs.Shape.{IsSubtree, IsTreeNode, child_of, entries, page_in, pages}
use Rattle.btree_inplace.specs.Trees.{IsTree, Stay, nodes_of, pages_of}
use Rattle.btree_inplace.specs.declared.Tree.{Tree}
use Rattle.btree_inplace.proofs.Changing.{set-stays}
use Rattle.btree_inplace.proofs.Counting.{copies-Contains, copies-cons, copies-one, copies-once, copies-other, copies-same}
use Rattle.btree_inplace.proofs.Parts.{Before, IsPart, Parts, pages_taken, pairs_from, part_stays, parts_tree, tree_parts}
use Rattle.common_lemmas.proofs.Orders.{none_less}
use Rattle.btree_inplace.proofs.Splitting.{nodes_written, root_in, some_entries, written}
use Rattle.btree_inplace.proofs.Staying.{Contains-flat_map, flat_map-same, same_entries, same_pages}
use Rattle.btree_inplace.proofs.Swapping.{swaps_none, taken_not_free}
use Rattle.btree_inplace.proofs.Writes.{taken_same, takes_free, takes_other, takes_taken, wrote}

pub tree_none : (frames : Frames) (tree : Tree) → IsTree frames tree → AlteredTree (λ nodes. nodes) frames tree frames tree
tree_none frames tree is = record {
  shape = is.shape;
  nodes = refl;
  swaps = swaps_none frames (pages_of frames tree) (λ p. copies-once (pages_of frames tree) p is.once);
  deep = is.deep;
}

one_part : {X : Type 0} (h : Node → List X) (nodes : List Node) → length nodes ≡ 1 → flat_map h nodes ≡ h (node_at nodes 0)
one_part h [] one = absurd (omega arith)
one_part h (n ∷ []) one = append-nil (h n)
one_part h (n ∷ m ∷ nodes) one = absurd (omega arith)

some_nodes : (nodes : List Node) → 32 < page_size nodes → 0 < length nodes
some_nodes [] full = absurd (omega arith)
some_nodes (n ∷ nodes) full = omega arith

-- A page that is full has a node below it.
pub full_is_some : (depth : ℕ) (frames : Frames) (page : ℕ) → IsSubtree depth frames page → 32 < page_size (page_in frames page).nodes → 0 < length (entries depth frames page)
full_is_some zero frames page tree full = some_nodes (page_in frames page).nodes full
full_is_some (suc depth) frames page tree full = some_entries depth frames page tree

pub room_small : (depth need : ℕ) → need ≤ 2032 → room_at depth need ≤ 2032
room_small zero need small = small
room_small (suc depth) need small = omega arith

only_place : (nodes : List Node) (k : ℕ) → length nodes ≡ 1 → k < length nodes → 0 ≡ k
only_place nodes k one h = omega arith

-- the pages of a tree but its root
abbrev pub rest_of : ℕ → Frames → ℕ → List ℕ
rest_of zero frames page = []
rest_of (suc depth) frames page = flat_map (λ n. pages depth frames (child_of n)) (page_in frames page).nodes

pages-rest : (depth : ℕ) (frames : Frames) (page : ℕ) → pages depth frames page ≡ page ∷ rest_of depth frames page
pages-rest zero frames page = refl
pages-rest (suc depth) frames page = refl

-- The root's nodes stand on another page, and all pages below it are as they were.
pub record Moved (depth : ℕ) (old new : Frames) (root number : ℕ) : Type 0 where
  pub tree : IsSubtree depth new number
  pub nodes : entries depth new number ≡ entries depth old root
  pub pages : pages depth new number ≡ number ∷ rest_of depth old root

moved : (depth : ℕ) (old new : Frames) (root number : ℕ) (p : PageContents) → IsSubtree depth old root → page_at new number ≡ Some p → p ≡ record (page_in old root) { number = number } → IsPage p → Stay old new (rest_of depth old root) → Moved depth old new root number
moved zero old new root number p tree at is ok stay =
    let list : p.nodes ≡ (page_in old root).nodes = ap (λ (q : PageContents). q.nodes) is in
    record {
      tree = written new number 1 p at (ap (λ (q : PageContents). q.number) is) (ap (λ (q : PageContents). q.kind) is ∙ tree.kind) ok (subst (λ (ns : List Node). All IsTreeNode ns) (sym list) tree.small);
      nodes = nodes_written new number p at ∙ list;
      pages = refl;
    }
moved (suc depth) old new root number p tree at is ok stay =
    let nodes = (page_in old root).nodes in
    let f : Node → List Node = λ n. entries depth old (child_of n) in
    let f' : Node → List Node = λ n. entries depth new (child_of n) in
    let g : Node → List ℕ = λ n. pages depth old (child_of n) in
    let g' : Node → List ℕ = λ n. pages depth new (child_of n) in
    let list : (page_in new number).nodes ≡ nodes = nodes_written new number p at ∙ ap (λ (q : PageContents). q.nodes) is in
    let child = λ (k : ℕ) (d : Node) (h : k < length nodes) (q : ℕ) (there : Contains (g (get_or nodes k d)) q). stay q (Contains-flat_map g nodes k d q h there) in
    let parts = tree_parts depth old root tree in
    let order : AllPairs (Before depth new) nodes = pairs_from (Before depth new) nodes no_node (λ a b lt h. subst (λ (es : List Node). All (λ e. IsBelow e.key (node_at nodes b).key) es) (sym (same_entries depth old new (child_of (node_at nodes a)) (child a no_node (omega arith)))) (parts.order a b no_node lt h)) in
    let here : Parts depth new nodes = record {
      some = parts.some;
      first = parts.first;
      each = All-from_get_or (IsPart depth new) nodes no_node (λ k h. part_stays depth old new (node_at nodes k) (child k no_node h) (parts.each k no_node h));
      order = order;
    } in
    record {
      tree = parts_tree depth new number
          (written new number 2 p at (ap (λ (q : PageContents). q.number) is) (ap (λ (q : PageContents). q.kind) is ∙ tree.0.kind) ok (subst (λ (q : PageContents). All IsTreeNode q.nodes) (sym is) tree.0.small))
          (subst (Parts depth new) (sym list) here);
      nodes = ap (flat_map f') list ∙ flat_map-same f' f nodes (λ k d h. same_entries depth old new (child_of (get_or nodes k d)) (child k d h));
      pages = ap (λ (ns : List Node). number ∷ flat_map g' ns) list ∙ ap (λ (l : List ℕ). number ∷ l) (flat_map-same g' g nodes (λ k d h. same_pages depth old new (child_of (get_or nodes k d)) (child k d h)));
    }

-- The root is as it was once a page was taken.
pub taken_apart : (depth : ℕ) (old : Frames) (number : ℕ) (taken : Frames) (root : ℕ) → Takes old number taken → IsSubtree depth old root → page_at taken root ≡ page_at old root
taken_apart depth old number taken root t tree = takes_other old number taken t root (λ e. taken_not_free old number (subst (IsTaken old) e (pages_taken depth old root tree root (root_in depth old root))) (takes_free old number taken t))

-- the root's page and the page below it, once both are written
record Raised (depth : ℕ) (old new : Frames) (root number : ℕ) (p : PageContents) : Type 0 where
  at : page_at new root ≡ Some p
  free : page_at old number ≡ None
  others : (q : ℕ) → q ≢ root → q ≢ number → page_at new q ≡ page_at old q
  moved : Moved depth old new root number

both_written : (depth : ℕ) (old taken : Frames) (root number : ℕ) (p below : PageContents) → IsSubtree depth old root → ((q : ℕ) → copies q (pages depth old root) ≤ 1) → Takes old number taken → below ≡ record (page_in old root) { number = number } → IsPage below → Raised depth old (set (set taken root (Some p)) number (Some below)) root number p
both_written depth old taken root number p below tree all_once t is ok =
    let first = set taken root (Some p) in
    let new = set first number (Some below) in
    let none = takes_free old number taken t in
    let held = λ (q : ℕ) (some : 0 < copies q (pages depth old root)) (e : q ≡ number). taken_not_free old number (subst (IsTaken old) e (pages_taken depth old root tree q some)) none in
    let whole = λ (q : ℕ). let e : copies q (pages depth old root) ≡ copies q (root ∷ []) + copies q (rest_of depth old root) = ap (copies q) (pages-rest depth old root) ∙ copies-cons q root (rest_of depth old root) in e in
    let root_held = root_in depth old root in
    let apart : root ≢ number = held root root_held in
    let root_taken : IsTaken taken root = taken_same old taken root (taken_apart depth old number taken root t tree) (pages_taken depth old root tree root root_held) in
    let number_taken : IsTaken first number = taken_same taken first number (set-stays taken root (Some p) number (λ e. apart (sym e))) (takes_taken old number taken t) in
    let same = λ (q : ℕ) (nr : q ≢ root) (nn : q ≢ number). set-stays first number (Some below) q nn ∙ set-stays taken root (Some p) q nr ∙ takes_other old number taken t q nn in
    let stay : Stay old new (rest_of depth old root) = λ q there.
    let some = copies-Contains (rest_of depth old root) q there in
    same q (λ e. absurd (omega (arith, whole q, some, all_once q, copies-same q root (sym e)))) (held q (omega (arith, whole q, some))) in
    record {
      at = set-stays first number (Some below) root apart ∙ wrote taken root p root_taken;
      free = none;
      others = same;
      moved = moved depth old new root number below tree (wrote first number below number_taken) is ok stay;
    }

above : (depth : ℕ) (old new : Frames) (root number : ℕ) (p : PageContents) → ((q : ℕ) → copies q (pages depth old root) ≤ 1) → IsSubtree depth old root → Raised depth old new root number p → IsRootAbove p root number → IsPage p → 0 < length (entries depth old root) → IsSubtree (suc depth) new root × (entries (suc depth) new root ≡ entries depth old root) × Swaps old new (pages depth old root) (pages (suc depth) new root)
above depth old new root number p all_once tree r is ok some =
    let n = node_at p.nodes 0 in
    let rest = rest_of depth old root in
    let list : (page_in new root).nodes ≡ p.nodes = nodes_written new root p r.at in
    let f : Node → List Node = λ m. entries depth new (child_of m) in
    let g : Node → List ℕ = λ m. pages depth new (child_of m) in
    let small : All IsTreeNode p.nodes = All-from_get_or IsTreeNode p.nodes no_node (λ k h. subst (λ j. IsTreeNode (node_at p.nodes j)) (only_place p.nodes k is.one h) (record { size = omega (arith, is.extent, ap (λ (x : List ℕ). length x) is.key); key = omega (arith, ap (λ (x : List ℕ). length x) is.key) })) in
    let part : IsPart depth new n = record {
      node = small 0 no_node (omega (arith, is.one));
      width = is.width;
      extent = is.extent;
      tree = subst (IsSubtree depth new) (sym is.child) r.moved.tree;
      some = omega (arith, ap (λ q. length (entries depth new q)) is.child, ap (λ (x : List Node). length x) r.moved.nodes, some);
      lower = λ k d h.
          let e = (get_or (entries depth new (child_of n)) k d).key in
          subst (λ (x : List ℕ). ¬ IsBelow e x) (sym is.key) (none_less e);
    } in
    let parts : Parts depth new p.nodes = record {
      some = omega (arith, is.one);
      first = is.key;
      each = All-from_get_or (IsPart depth new) p.nodes no_node (λ k h. subst (λ j. IsPart depth new (node_at p.nodes j)) (only_place p.nodes k is.one h) part);
      order = λ i j d lt h. absurd (omega (arith, is.one));
    } in
    let pages_are : flat_map g (page_in new root).nodes ≡ number ∷ rest = ap (flat_map g) list ∙ one_part g p.nodes is.one ∙ ap (pages depth new) is.child ∙ r.moved.pages in
    let was = λ (q : ℕ). let e : copies q (pages depth old root) ≡ copies q (root ∷ []) + copies q rest = ap (copies q) (pages-rest depth old root) ∙ copies-cons q root rest in e in
    let count = λ (q : ℕ). let e : copies q (root ∷ flat_map g (page_in new root).nodes) ≡ copies q (number ∷ []) + copies q (pages depth old root) = omega (arith, copies-cons q root (flat_map g (page_in new root).nodes), ap (copies q) pages_are, copies-cons q number rest, was q) in e in
    let fresh : copies number (pages depth old root) ≡ 0 = elim (cases_lt 0 (copies number (pages depth old root))) [
      | inl held ↦ absurd (taken_not_free old number (pages_taken depth old root tree number held) r.free)
      | inr none ↦ omega arith
    ] in (
      parts_tree depth new root (written new root 2 p r.at is.number is.kind ok small) (subst (Parts depth new) (sym list) parts),
      ap (flat_map f) list ∙ one_part f p.nodes is.one ∙ ap (entries depth new) is.child ∙ r.moved.nodes,
      record {
        once = λ q. elim (cases_eq number q) [
          | inl e ↦ omega (arith, count q, copies-one q number, subst (λ x. copies x (pages depth old root) ≡ 0) e fresh)
          | inr ne ↦ omega (arith, count q, copies-other q number ne, all_once q)
        ];
        taken = λ q h. elim (cases_eq number q) [
          | inl e ↦ inr (subst (λ x. page_at old x ≡ None) e r.free)
          | inr ne ↦ inl (omega (arith, count q, copies-other q number ne))
        ];
        given_back = λ q h none. absurd (omega (arith, count q));
        others = λ q h none. r.others q (λ e. absurd (omega (arith, was q, copies-same q root (sym e)))) (λ e. absurd (omega (arith, count q, copies-same q number (sym e))));
      },
    )

-- An inner page with one child has room for another.
one_size : (nodes : List Node) → length nodes ≡ 1 → (node_at nodes 0).key ≡ [] → (node_at nodes 0).extent ≡ 4 → page_size nodes ≡ 42
one_size [] one key extent = absurd (omega arith)
one_size (n ∷ []) one key extent = omega (arith, ap (λ (k : List ℕ). length k) key)
one_size (n ∷ m ∷ nodes) one key extent = absurd (omega arith)

-- The tree is one page higher, its root has room, and it has the same nodes.
pub raised : (old taken : Frames) (tree : Tree) (number depth need : ℕ) (p below : PageContents) → IsTree old tree → Takes old number taken → IsRootAbove p tree.root number → IsPage p → below ≡ record (page_in old tree.root) { number = number } → IsPage below → 0 < length (nodes_of old tree) → suc tree.depth ≡ depth → depth ≤ 64 → AlteredTree (λ nodes. nodes) old tree (set (set taken tree.root (Some p)) number (Some below)) (record { root = tree.root; depth = depth; last = tree.last }) × (page_size (page_in (set (set taken tree.root (Some p)) number (Some below)) tree.root).nodes + room_at depth need ≤ 4096)
raised old taken tree number depth need p below is t one ok moved_is moved_ok some e few =
    let new = set (set taken tree.root (Some p)) number (Some below) in
    let all_once = λ (q : ℕ). copies-once (pages_of old tree) q is.once in
    let r = both_written tree.depth old taken tree.root number p below is.shape all_once t moved_is moved_ok in
    let a = above tree.depth old new tree.root number p all_once is.shape r one ok some in
    subst (λ n. AlteredTree (λ nodes. nodes) old tree new (record { root = tree.root; depth = n; last = tree.last }) × (page_size (page_in new tree.root).nodes + room_at n need ≤ 4096)) e (
      record { shape = a.0; nodes = a.1; swaps = a.2; deep = omega (arith, e, few) },
      omega (arith, ap (λ (ns : List Node). page_size ns) (nodes_written new tree.root p r.at), one_size p.nodes one.one one.key one.extent),
    )
