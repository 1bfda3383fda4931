-- A child that is cut in two: the parent has one node more, and the list is the same.
use Rattle.std.proofs.Common.{◌≡◌, ◌≢◌, ℕ, zero, suc, ◌+◌, ◌<◌, ◌≤◌, inl, inr, Option, Some, None, List, [], ◌∷◌, ◌++◌, length, take, drop, get_or, set, refl, sym, ap, subst, ◌∙◌, arith, length-append}
use Rattle.std.specs.Prelude.{All, AllPairs, IsSome, insert, unwrap_or}
use Rattle.std.specs.List.{flat_map}
use Rattle.std.proofs.lemmas.Bool.{cases_eq}
use Rattle.std.proofs.lemmas.Cmp.{nat_list_cmp_total}
use Rattle.std.proofs.lemmas.List.{take-append-drop, get_or-take, get_or-drop, get_or_default, length-take-le, length-drop, length-set, get_or-set_same, get_or-set_other}
use Rattle.std.proofs.lemmas.List.Concat.{flat_map-append}
use Rattle.std.proofs.lemmas.List.Elements.{All-from_get_or, All-take, All-drop, All-set}
use Rattle.page_image.specs.Page.{Node, PageContents, IsBelow, IsPage, no_node, node_at}
use Rattle.common_lemmas.proofs.Orders.{none_less}
use Rattle.common_lemmas.proofs.Edits.{AllPairs-drop, AllPairs-take}
use Rattle.page_space.specs.Frames.{Frames, IsTaken, empty_page, page_at}
use Rattle.btree_inplace.specs.Alterations.{IsParted, cleared, copies}
use Rattle.btree_inplace.specs.Shape.{IsSubtree, IsTreeNode, IsTreePage, child_of, entries, page_in, pages}
use Rattle.btree_inplace.specs.Trees.{Stay}
use Rattle.btree_inplace.proofs.Below.{All-flat_map, flat_map-around}
use Rattle.btree_inplace.proofs.Counting.{copies-append, copies-cons, copies-itself, copies-Contains}
use Rattle.btree_inplace.proofs.Parts.{Before, IsPart, Parts, pages_taken, pairs_from, part_le, part_stays, parts_tree, tree_parts}
use Rattle.btree_inplace.proofs.Staying.{Contains-flat_map, flat_map-same, same_entries, same_pages}
use Rattle.btree_inplace.proofs.Swapping.{taken_not_free}

-- Of an inner page the part that moves has an empty first key.
abbrev pub tail_of : ℕ → List Node → List Node
tail_of zero nodes = nodes
tail_of (suc depth) nodes = cleared nodes

-- what the cut of the child at place i leaves in its page, in the page right of it, and in the parent
pub record Cutting (depth : ℕ) (old new : Frames) (page i below second at : ℕ) (n : Node) : Type 0 where
  pub tree : IsSubtree (suc depth) old page
  pub once : (p : ℕ) → copies p (pages (suc depth) old page) ≤ 1
  pub within : i < length (page_in old page).nodes
  pub child : child_of (node_at (page_in old page).nodes i) ≡ below
  pub free : page_at old second ≡ None
  pub parted : IsParted (page_in old below).nodes at n.key
  pub inner : 0 < depth → n.key ≡ (node_at (page_in old below).nodes at).key
  pub node : IsTreeNode n
  pub width : length n.data ≡ 4
  pub extent : n.extent ≡ 4
  pub leads : child_of n ≡ second
  pub parent : page_at new page ≡ Some (record (page_in old page) { nodes = insert (page_in old page).nodes (i + 1) n })
  pub parent_page : IsPage (record (page_in old page) { nodes = insert (page_in old page).nodes (i + 1) n })
  pub left : page_at new below ≡ Some (record (page_in old below) { nodes = take at (page_in old below).nodes })
  pub left_page : IsPage (record (page_in old below) { nodes = take at (page_in old below).nodes })
  pub right : page_at new second ≡ Some (record { number = second; kind = (page_in old below).kind; nodes = tail_of depth (drop at (page_in old below).nodes) })
  pub right_page : IsPage (record { number = second; kind = (page_in old below).kind; nodes = tail_of depth (drop at (page_in old below).nodes) })
  pub others : (p : ℕ) → p ≢ page → p ≢ below → p ≢ second → page_at new p ≡ page_at old p

-- a tree in two parts, a key apart
pub record Halves (depth : ℕ) (old new : Frames) (below second : ℕ) (middle : List ℕ) : Type 0 where
  pub left : IsSubtree depth new below
  pub right : IsSubtree depth new second
  pub nodes : entries depth old below ≡ entries depth new below ++ entries depth new second
  pub pages : (p : ℕ) → copies p (pages depth new below) + copies p (pages depth new second) ≡ copies p (pages depth old below) + copies p (second ∷ [])
  pub low : All (λ e. IsBelow e.key middle) (entries depth new below)
  pub high : All (λ e. ¬ IsBelow e.key middle) (entries depth new second)
  pub some_left : 0 < length (entries depth new below)
  pub some_right : 0 < length (entries depth new second)

-- a page that was written
pub written : (frames : Frames) (page kind : ℕ) (p : PageContents) → page_at frames page ≡ Some p → p.number ≡ page → p.kind ≡ kind → IsPage p → All IsTreeNode p.nodes → IsTreePage frames page kind
written frames page kind p at is_number is_kind is_page is_small =
    let is : p ≡ page_in frames page = ap (λ (o : Option PageContents). unwrap_or o (empty_page page)) (sym at) in
    record {
      taken = subst (λ (o : Option PageContents). IsSome o) (sym at) refl;
      number = ap (λ (q : PageContents). q.number) (sym is) ∙ is_number;
      kind = ap (λ (q : PageContents). q.kind) (sym is) ∙ is_kind;
      page = subst IsPage is is_page;
      small = subst (λ (q : PageContents). All IsTreeNode q.nodes) is is_small;
    }

pub nodes_written : (frames : Frames) (page : ℕ) (p : PageContents) → page_at frames page ≡ Some p → (page_in frames page).nodes ≡ p.nodes
nodes_written frames page p at = ap (λ (o : Option PageContents). (unwrap_or o (empty_page page)).nodes) at

pub root_in : (depth : ℕ) (frames : Frames) (page : ℕ) → 0 < copies page (pages depth frames page)
root_in zero frames page = omega (arith, copies-itself page)
root_in (suc depth) frames page = omega (arith, copies-itself page, copies-cons page page (flat_map (λ n. pages depth frames (child_of n)) (page_in frames page).nodes))

-- a page that is among some pages is none that is not
pub not_same : (list : List ℕ) (p q : ℕ) → 0 < copies p list → copies q list ≡ 0 → p ≢ q
not_same list p q there none e = absurd (omega (arith, ap (λ r. copies r list) e))

pub all_low : (nodes : List Node) (at : ℕ) (middle : List ℕ) → IsParted nodes at middle → All (λ e. IsBelow e.key middle) (take at nodes)
all_low nodes at middle parted = All-from_get_or (λ e. IsBelow e.key middle) (take at nodes) no_node (λ k h.
    let early : k < at = omega (arith, length-take-le at nodes (omega (arith, parted.last))) in
    subst (λ (n : Node). IsBelow n.key middle) (sym (get_or-take at nodes k no_node early)) (parted.low k early))

pub all_high : (nodes : List Node) (at : ℕ) (middle : List ℕ) → IsParted nodes at middle → All (λ e. ¬ IsBelow e.key middle) (drop at nodes)
all_high nodes at middle parted = All-from_get_or (λ e. ¬ IsBelow e.key middle) (drop at nodes) no_node (λ k h.
    let within : at + k < length nodes = omega (arith, length-drop at nodes) in
    subst (λ (n : Node). ¬ IsBelow n.key middle) (sym (get_or-drop at nodes k no_node)) (parted.high (at + k) (omega arith) within))

halves_leaf : (old new : Frames) (page i below second at : ℕ) (n : Node) → Cutting zero old new page i below second at n → IsSubtree zero old below → Halves zero old new below second n.key
halves_leaf old new page i below second at n c tree =
    let nodes = (page_in old below).nodes in
    let first : (page_in new below).nodes ≡ take at nodes = nodes_written new below (record (page_in old below) { nodes = take at nodes }) c.left in
    let last : (page_in new second).nodes ≡ drop at nodes = nodes_written new second (record { number = second; kind = (page_in old below).kind; nodes = drop at nodes }) c.right in
    record {
      left = written new below 1 (record (page_in old below) { nodes = take at nodes }) c.left tree.number tree.kind c.left_page (All-take IsTreeNode at nodes tree.small);
      right = written new second 1 (record { number = second; kind = (page_in old below).kind; nodes = drop at nodes }) c.right refl tree.kind c.right_page (All-drop IsTreeNode at nodes tree.small);
      nodes = sym (ap (λ (x : List Node). x ++ (page_in new second).nodes) first ∙ ap (λ (x : List Node). take at nodes ++ x) last ∙ take-append-drop at nodes);
      pages = λ p. refl;
      low = subst (λ (es : List Node). All (λ e. IsBelow e.key n.key) es) (sym first) (all_low nodes at n.key c.parted);
      high = subst (λ (es : List Node). All (λ e. ¬ IsBelow e.key n.key) es) (sym last) (all_high nodes at n.key c.parted);
      some_left = omega (arith, ap (λ (x : List Node). length x) first, length-take-le at nodes (omega (arith, c.parted.last)), c.parted.first);
      some_right = omega (arith, ap (λ (x : List Node). length x) last, length-drop at nodes, c.parted.last);
    }

-- the children of a page without its first key
pub flat_map-cleared : {X : Type 0} (h : ℕ → List X) (nodes : List Node) → flat_map (λ n. h (child_of n)) (cleared nodes) ≡ flat_map (λ n. h (child_of n)) nodes
flat_map-cleared h [] = refl
flat_map-cleared h (x ∷ xs) = refl

pub some_entries : (depth : ℕ) (frames : Frames) (page : ℕ) → IsSubtree (suc depth) frames page → 0 < length (entries (suc depth) frames page)
some_entries depth frames page tree =
    let nodes = (page_in frames page).nodes in
    let f : Node → List Node = λ n. entries depth frames (child_of n) in
    omega (arith, ap (λ (x : List Node). length x) (flat_map-around f nodes 0 no_node tree.1.some), length-append (flat_map f (take 0 nodes)) (f (node_at nodes 0) ++ flat_map f (drop (0 + 1) nodes)), length-append (f (node_at nodes 0)) (flat_map f (drop (0 + 1) nodes)), (tree.3 0 tree.1.some).some)

-- the part of the children from a place on, with an empty first key
pub parts_cleared : (depth : ℕ) (frames : Frames) (nodes : List Node) → 0 < length nodes → All (IsPart depth frames) nodes → AllPairs (Before depth frames) nodes → Parts depth frames (cleared nodes)
parts_cleared depth frames nodes some each order =
    let m : Node = record (node_at nodes 0) { key = [] } in
    let part = each 0 no_node some in
    let same = λ (j : ℕ) (d : Node) (lt : 0 < j). get_or-set_other nodes 0 j m d (λ e. absurd (omega (arith, e, lt))) in
    record {
      some = omega (arith, length-set nodes 0 m);
      first = ap (λ (x : Node). x.key) (get_or-set_same nodes 0 m no_node some);
      each = All-set (IsPart depth frames) nodes 0 m (record {
        node = record { size = omega (arith, part.node.size); key = omega arith };
        width = part.width;
        extent = part.extent;
        tree = part.tree;
        some = part.some;
        lower = λ k d h. none_less (get_or (entries depth frames (child_of m)) k d).key;
      }) each;
      order = λ i j d lt h.
          let within : j < length nodes = omega (arith, length-set nodes 0 m) in
          subst (λ (x : Node). Before depth frames (get_or (set nodes 0 m) i d) x) (sym (same j d (omega arith)))
          (elim (cases_eq i 0) [
            | inl at ↦ subst (λ (k : ℕ). Before depth frames (get_or (set nodes 0 m) k d) (get_or nodes j d)) (sym at)
                (subst (λ (x : Node). Before depth frames x (get_or nodes j d)) (sym (get_or-set_same nodes 0 m d some))
                (subst (λ (x : Node). Before depth frames x (get_or nodes j d)) (get_or_default nodes 0 d no_node some) (order 0 j d (omega arith) within)))
            | inr ne ↦ subst (λ (x : Node). Before depth frames x (get_or nodes j d)) (sym (same i d (omega arith))) (order i j d lt within)
          ]);
    }

halves_inner : (depth : ℕ) (old new : Frames) (page i below second at : ℕ) (n : Node) → Cutting (suc depth) old new page i below second at n → IsSubtree (suc depth) old below → Stay old new (flat_map (λ m. pages depth old (child_of m)) (page_in old below).nodes) → Halves (suc depth) old new below second n.key
halves_inner depth old new page i below second at n c tree stay =
    let nodes = (page_in old below).nodes in
    let f : Node → List Node = λ m. entries depth old (child_of m) in
    let f' : Node → List Node = λ m. entries depth new (child_of m) in
    let g : Node → List ℕ = λ m. pages depth old (child_of m) in
    let g' : Node → List ℕ = λ m. pages depth new (child_of m) in
    let parts = tree_parts depth old below tree in
    let child = λ (k : ℕ) (h : k < length nodes). child_stay g nodes stay k h in
    let each : All (IsPart depth new) nodes = All-from_get_or (IsPart depth new) nodes no_node (λ k h. part_stays depth old new (node_at nodes k) (child k h) (parts.each k no_node h)) in
    let order : AllPairs (Before depth new) nodes = pairs_from (Before depth new) nodes no_node (λ a b lt h. subst (λ (es : List Node). All (λ e. IsBelow e.key (node_at nodes b).key) es) (sym (same_entries depth old new (child_of (node_at nodes a)) (child a (omega arith)))) (parts.order a b no_node lt h)) in
    let within : at < length nodes = c.parted.last in
    let taken = length-take-le at nodes (omega arith) in
    let dropped = length-drop at nodes in
    let first : (page_in new below).nodes ≡ take at nodes = nodes_written new below (record (page_in old below) { nodes = take at nodes }) c.left in
    let last : (page_in new second).nodes ≡ cleared (drop at nodes) = nodes_written new second (record { number = second; kind = (page_in old below).kind; nodes = cleared (drop at nodes) }) c.right in
    let left_parts : Parts depth new (take at nodes) = record {
      some = omega (arith, taken, c.parted.first);
      first = ap (λ (m : Node). m.key) (get_or-take at nodes 0 no_node c.parted.first) ∙ parts.first;
      each = All-take (IsPart depth new) at nodes each;
      order = AllPairs-take (Before depth new) nodes at order;
    } in
    let right_parts : Parts depth new (cleared (drop at nodes)) = parts_cleared depth new (drop at nodes) (omega (arith, dropped)) (All-drop (IsPart depth new) at nodes each) (AllPairs-drop (Before depth new) nodes at order) in
    let left_tree : IsSubtree (suc depth) new below = parts_tree depth new below
    (written new below 2 (record (page_in old below) { nodes = take at nodes }) c.left tree.0.number tree.0.kind c.left_page (All-take IsTreeNode at nodes tree.0.small))
    (subst (Parts depth new) (sym first) left_parts) in
    let right_tree : IsSubtree (suc depth) new second = parts_tree depth new second
    (written new second 2 (record { number = second; kind = (page_in old below).kind; nodes = cleared (drop at nodes) }) c.right refl tree.0.kind c.right_page (λ k d h. (right_parts.each k d h).node))
    (subst (Parts depth new) (sym last) right_parts) in
    let same_f : flat_map f nodes ≡ flat_map f' nodes = flat_map-same f f' nodes (λ k d h. subst (λ (m : Node). f m ≡ f' m) (sym (get_or_default nodes k d no_node h)) (sym (same_entries depth old new (child_of (node_at nodes k)) (child k h)))) in
    let same_g : flat_map g nodes ≡ flat_map g' nodes = flat_map-same g g' nodes (λ k d h. subst (λ (m : Node). g m ≡ g' m) (sym (get_or_default nodes k d no_node h)) (sym (same_pages depth old new (child_of (node_at nodes k)) (child k h)))) in
    let left_f : entries (suc depth) new below ≡ flat_map f' (take at nodes) = ap (flat_map f') first in
    let right_f : entries (suc depth) new second ≡ flat_map f' (drop at nodes) = ap (flat_map f') last ∙ flat_map-cleared (entries depth new) (drop at nodes) in
    let right_g : flat_map g' (page_in new second).nodes ≡ flat_map g' (drop at nodes) = ap (flat_map g') last ∙ flat_map-cleared (pages depth new) (drop at nodes) in
    let both_f : flat_map f' nodes ≡ flat_map f' (take at nodes) ++ flat_map f' (drop at nodes) = ap (flat_map f') (sym (take-append-drop at nodes)) ∙ flat_map-append f' (take at nodes) (drop at nodes) in
    let both_g : flat_map g' nodes ≡ flat_map g' (take at nodes) ++ flat_map g' (drop at nodes) = ap (flat_map g') (sym (take-append-drop at nodes)) ∙ flat_map-append g' (take at nodes) (drop at nodes) in
    let key_is : n.key ≡ (node_at nodes at).key = c.inner (omega arith) in
    record {
      left = left_tree;
      right = right_tree;
      nodes = same_f ∙ both_f ∙ sym (ap (λ (x : List Node). x ++ entries (suc depth) new second) left_f ∙ ap (λ (x : List Node). flat_map f' (take at nodes) ++ x) right_f);
      pages = λ p. omega (
        arith,
        copies-cons p below (flat_map g' (page_in new below).nodes),
        copies-cons p second (flat_map g' (page_in new second).nodes),
        copies-cons p below (flat_map g nodes),
        ap (λ (x : List Node). copies p (flat_map g' x)) first,
        ap (copies p) right_g,
        ap (copies p) same_g,
        ap (copies p) both_g,
        copies-append p (flat_map g' (take at nodes)) (flat_map g' (drop at nodes)),
      );
      low = subst (λ (es : List Node). All (λ e. IsBelow e.key n.key) es) (sym left_f) (All-flat_map (λ e. IsBelow e.key n.key) f' (take at nodes)
          (λ k d h k' d' h'.
          let early : k < at = omega (arith, taken) in
          let is : get_or (take at nodes) k d ≡ node_at nodes k = get_or-take at nodes k d early ∙ get_or_default nodes k d no_node (omega arith) in
          subst (λ (m : Node). (j : ℕ) (e : Node) → j < length (f' m) → IsBelow (get_or (f' m) j e).key n.key) (sym is)
          (λ j e l. subst (IsBelow (get_or (f' (node_at nodes k)) j e).key) (sym key_is) (order k at no_node early within j e l)) k' d' h'));
      high = subst (λ (es : List Node). All (λ e. ¬ IsBelow e.key n.key) es) (sym right_f) (All-flat_map (λ e. ¬ IsBelow e.key n.key) f' (drop at nodes)
          (λ k d h k' d' h'.
          let there : at + k < length nodes = omega (arith, dropped) in
          let is : get_or (drop at nodes) k d ≡ node_at nodes (at + k) = get_or-drop at nodes k d ∙ get_or_default nodes (at + k) d no_node there in
          subst (λ (m : Node). (j : ℕ) (e : Node) → j < length (f' m) → ¬ IsBelow (get_or (f' m) j e).key n.key) (sym is)
          (λ j e l below_it. (each (at + k) no_node there).lower j e l (from_cut nodes at k tree.0.page.rising there (get_or (f' (node_at nodes (at + k))) j e).key (subst (IsBelow (get_or (f' (node_at nodes (at + k))) j e).key) key_is below_it))) k' d' h'));
      some_left = some_entries depth new below left_tree;
      some_right = some_entries depth new second right_tree;
    }
  where
    child_stay : (g : Node → List ℕ) (nodes : List Node) → Stay old new (flat_map g nodes) → (k : ℕ) → k < length nodes → Stay old new (g (node_at nodes k))
    child_stay g nodes stay k h p there = stay p (Contains-flat_map g nodes k no_node p h there)

    from_cut : (nodes : List Node) (at k : ℕ) → AllPairs (λ a b. IsBelow a.key b.key) nodes → at + k < length nodes → (key : List ℕ) → IsBelow key (node_at nodes at).key → IsBelow key (node_at nodes (at + k)).key
    from_cut nodes at zero rising h key b = subst (λ j. IsBelow key (node_at nodes j).key) (omega arith) b
    from_cut nodes at (suc k) rising h key b = nat_list_cmp_total.trans key (node_at nodes at).key (node_at nodes (at + suc k)).key b (rising at (at + suc k) no_node (omega arith) h)

-- the cut child by its depth
pub halves : (depth : ℕ) (old new : Frames) (page i below second at : ℕ) (n : Node) → Cutting depth old new page i below second at n → Halves depth old new below second n.key
halves zero old new page i below second at n c = halves_leaf old new page i below second at n c (subst (IsSubtree zero old) c.child (c.tree.2 i c.within))
halves (suc depth) old new page i below second at n c =
    let nodes = (page_in old page).nodes in
    let g : Node → List ℕ = λ m. pages (suc depth) old (child_of m) in
    let inside = flat_map (λ m. pages depth old (child_of m)) (page_in old below).nodes in
    let tree = subst (IsSubtree (suc depth) old) c.child (c.tree.2 i c.within) in
    let among = λ (p : ℕ). subst (λ (q : ℕ). copies p (pages (suc depth) old q) ≤ copies p (flat_map g nodes)) c.child (part_le g nodes p i c.within) in
    halves_inner depth old new page i below second at n c tree (λ p there.
    let some = copies-Contains inside p there in
    c.others p
    (not_same inside p page some (omega (arith, among page, c.once page, copies-cons page page (flat_map g nodes), copies-itself page, copies-cons page below inside)))
    (not_same inside p below some (omega (arith, among below, c.once below, copies-cons below page (flat_map g nodes), copies-itself below, copies-cons below below inside)))
    (λ e. taken_not_free old second (subst (IsTaken old) e (pages_taken (suc depth) old below tree p (omega (arith, copies-cons p below inside)))) c.free))
