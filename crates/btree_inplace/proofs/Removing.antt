-- A node that is taken out, and a child that goes with its last node.
use Rattle.std.proofs.Common.{◌≡◌, ◌≢◌, ℕ, zero, suc, ◌+◌, ◌<◌, ◌≤◌, inl, inr, Bool, true, false, Option, Some, None, List, [], ◌∷◌, ◌++◌, length, take, drop, get_or, set, cond, not, refl, sym, ap, subst, ◌∙◌, arith, add-one, eq-eqb}
use Rattle.std.specs.Prelude.{All, AllPairs, IsSome, filter, nat_eq, remove}
use Rattle.std.specs.List.{flat_map}
use Rattle.std.proofs.lemmas.Bool.{cases_eq, cases_lt, ne_eqb}
use Rattle.std.proofs.lemmas.List.{append-nil, get_or-set_same}
use Rattle.std.proofs.lemmas.List.Concat.{flat_map-append}
use Rattle.std.proofs.lemmas.List.Edits.{get_or-remove_above, get_or-remove_below, length-remove}
use Rattle.std.proofs.lemmas.List.Elements.{All-filter, All-from_get_or, All-head, All-nil, All-tail, filter-append}
use Rattle.std.proofs.lemmas.List.Quantifiers.{all_pairs_remove}
use Rattle.page_image.specs.Page.{Node, PageContents, HasRisingKeys, IsBelow, IsPage, no_node, node_at}
use Rattle.page_space.specs.Frames.{Frames, IsTaken, page_at}
use Rattle.btree_node.specs.Cut.{IsChildPlace}
use Rattle.btree_inplace.specs.Alterations.{Altered, AlteredTree, Emptied, Swaps, cleared, copies, unlinked}
use Rattle.btree_inplace.specs.Changes.{IsLocal, IsOldKey, StayBut, without_key}
use Rattle.btree_inplace.specs.Order.{has_key}
use Rattle.btree_inplace.specs.Shape.{IsSubtree, IsTreeNode, child_of, entries, page_in, pages}
use Rattle.btree_inplace.specs.Trees.{Stay, pages_of}
use Rattle.btree_inplace.specs.declared.Tree.{Tree}
use Rattle.btree_inplace.proofs.Altering.{child_stays, copies-around, drop_same, high_part, low_part, parent_stays, same_keys, take_same}
use Rattle.btree_inplace.proofs.Below.{flat_map-around, has_key-itself, other_above, other_below}
use Rattle.btree_inplace.proofs.Changing.{old_keys, set-stays, taken_within}
use Rattle.btree_inplace.proofs.Counting.{copies-Contains, copies-append, copies-cons, copies-is, copies-itself, copies-nil}
use Rattle.btree_inplace.proofs.Leaves.{swaps_one}
use Rattle.btree_inplace.proofs.Parts.{Before, IsPart, Parts, pages_taken, part_le, part_stays, parts_tree, tree_parts}
use Rattle.btree_inplace.proofs.Splitting.{flat_map-cleared, nodes_written, not_same, parts_cleared, some_entries, written}
use Rattle.btree_inplace.proofs.Staying.{same_entries, same_pages}
use Rattle.btree_inplace.proofs.Swapping.{swaps_then, swaps_within}
use Rattle.btree_inplace.proofs.Writes.{wrote}

filter-fixed : (p : Node → Bool) (xs : List Node) → All (λ x. p x ≡ true) xs → filter p xs ≡ xs
filter-fixed p [] all = refl
filter-fixed p (x ∷ xs) all = ap (λ b. cond b (x ∷ filter p xs) (filter p xs)) (All-head (λ y. p y ≡ true) x xs all) ∙ ap (λ (l : List Node). x ∷ l) (filter-fixed p xs (All-tail (λ y. p y ≡ true) x xs all))

low_stays : (key : List ℕ) (xs : List Node) → All (λ e. IsBelow e.key key) xs → without_key xs key ≡ xs
low_stays key xs low = filter-fixed (λ n. not (has_key key n)) xs (λ k d h. ap not (other_below (get_or xs k d) key (low k d h)))

high_stays : (key : List ℕ) (xs : List Node) → All (λ e. IsBelow key e.key) xs → without_key xs key ≡ xs
high_stays key xs high = filter-fixed (λ n. not (has_key key n)) xs (λ k d h. ap not (other_above (get_or xs k d) key (high k d h)))

pub without_key-local : (key : List ℕ) → IsLocal (λ ns. without_key ns key) key
without_key-local key a b c low high =
    let p : Node → Bool = λ n. not (has_key key n) in
    filter-append p a (b ++ c) ∙ ap (λ (x : List Node). x ++ filter p (b ++ c)) (low_stays key a low)
    ∙ ap (λ (x : List Node). a ++ x) (filter-append p b c ∙ ap (λ (x : List Node). filter p b ++ x) (high_stays key c high))

-- A node is taken out at its place.
pub without-place : (nodes : List Node) (key : List ℕ) (i : ℕ) → HasRisingKeys nodes → i < length nodes → (node_at nodes i).key ≡ key → remove nodes i ≡ without_key nodes key
without-place [] key i rising h here = absurd (omega arith)
without-place (x ∷ xs) key zero rising h here =
    let above : All (λ e. IsBelow key e.key) xs = λ k d l. subst (λ (y : List ℕ). IsBelow y (get_or xs k d).key) here (rising 0 (suc k) d (omega arith) (omega arith)) in
    sym (ap (λ b. cond (not b) (x ∷ without_key xs key) (without_key xs key)) (has_key-itself x key here) ∙ high_stays key xs above)
without-place (x ∷ xs) key (suc i) rising h here =
    let low : IsBelow x.key key = subst (IsBelow x.key) here (rising 0 (suc i) no_node (omega arith) h) in
    ap (λ (l : List Node). x ∷ l) (without-place xs key i (λ a b d lt l. rising (suc a) (suc b) d (omega arith) (omega arith)) (omega arith) here)
    ∙ sym (ap (λ b. cond (not b) (x ∷ without_key xs key) (without_key xs key)) (other_below x key low))

pub never_none : (o : Option Node) → o ≡ None → ¬ IsSome o
never_none o e some = never (subst (λ (r : Option Node). IsSome r) e some)
  where
    never : false ≡ true → ⊥
    never h = cc

-- the leaf without a node
pub leaf-remove : (old new : Frames) (leaf : ℕ) (key : List ℕ) → IsSubtree zero old leaf → StayBut old new leaf → page_at new leaf ≡ Some (record (page_in old leaf) { nodes = without_key (page_in old leaf).nodes key }) → IsPage (record (page_in old leaf) { nodes = without_key (page_in old leaf).nodes key }) → 0 < length (without_key (page_in old leaf).nodes key) → Altered (λ ns. without_key ns key) key zero old new leaf
leaf-remove old new leaf key tree stay now page left =
    let nodes = (page_in old leaf).nodes in
    let p : Node → Bool = λ n. not (has_key key n) in
    let less : PageContents = record (page_in old leaf) { nodes = without_key nodes key } in
    let list : (page_in new leaf).nodes ≡ without_key nodes key = nodes_written new leaf less now in
    let old_ones = same_keys key nodes nodes refl in
    record {
      shape = written new leaf 1 less now tree.number tree.kind page (All-filter p IsTreeNode nodes tree.small);
      nodes = list;
      swaps = swaps_one old new leaf stay;
      keys = subst (λ (ns : List Node). All (IsOldKey key nodes) ns) (sym list) (All-filter p (IsOldKey key nodes) nodes old_ones);
      some = λ _. omega (arith, ap (λ (ns : List Node). length ns) list);
    }

none_left : (nodes : List Node) → length nodes ≡ 0 → nodes ≡ []
none_left [] e = refl
none_left (x ∷ xs) e = absurd (omega arith)

pub leaf-emptied : (old new : Frames) (leaf : ℕ) (key : List ℕ) → StayBut old new leaf → IsTaken new leaf → length (without_key (page_in old leaf).nodes key) ≡ 0 → Emptied key zero old new leaf
leaf-emptied old new leaf key stay has none_there = record {
  none = none_left (without_key (page_in old leaf).nodes key) none_there;
  taken = has;
  swaps = swaps_one old new leaf stay;
}

-- a page that is given back, and one of its own that is written
pub swaps_give : (old : Frames) (page : ℕ) → IsTaken old page → Swaps old (set old page None) (page ∷ []) []
swaps_give old page has = record {
  once = λ p. omega (arith, copies-nil p);
  taken = λ p h. absurd (omega (arith, copies-nil p));
  given_back = λ p h none. subst (λ q. page_at (set old page None) q ≡ None) (copies-is p page h) (get_or-set_same old page None None (taken_within old page has));
  others = λ p h none. set-stays old page None p (λ e. absurd (omega (arith, ap (λ q. copies q (page ∷ [])) e, copies-itself page)));
}

pub swaps_write : (old new : Frames) (page : ℕ) (list : List ℕ) → StayBut old new page → 0 < copies page list → ((p : ℕ) → copies p list ≤ 1) → Swaps old new list list
swaps_write old new page list stay has all_once = record {
  once = all_once;
  taken = λ p h. inl h;
  given_back = λ p h none. absurd (omega arith);
  others = λ p h none. stay p (λ e. absurd (omega (arith, ap (λ q. copies q list) e, has)));
}

-- what was known of a child that lost its last node, and is known of its parent once it is given back
pub record Unlinks (key : List ℕ) (depth : ℕ) (old between new : Frames) (page i below : ℕ) : Type 0 where
  pub tree : IsSubtree (suc depth) old page
  pub once : (p : ℕ) → copies p (pages (suc depth) old page) ≤ 1
  pub place : IsChildPlace (page_in old page).nodes key i
  pub child : child_of (node_at (page_in old page).nodes i) ≡ below
  pub emptied : Emptied key depth old between below
  pub stay : StayBut (set between below None) new page

parent_swap : (key : List ℕ) (depth : ℕ) (old between new : Frames) (page i below : ℕ) → Unlinks key depth old between new page i below → Swaps old (set between below None) (pages depth old (child_of (node_at (page_in old page).nodes i))) []
parent_swap key depth old between new page i below u =
    subst (λ q. Swaps old (set between below None) (pages depth old q) []) (sym u.child)
    (swaps_then old between (set between below None) (pages depth old below) (below ∷ []) [] u.emptied.swaps (swaps_give between below u.emptied.taken))

-- The parent is the same before it is written.
pub parent_same : (key : List ℕ) (depth : ℕ) (old between new : Frames) (page i below : ℕ) → Unlinks key depth old between new page i below → page_at (set between below None) page ≡ page_at old page
parent_same key depth old between new page i below u = parent_stays depth old (set between below None) page i [] u.tree u.once u.place.within (parent_swap key depth old between new page i below u)

other_stays : (key : List ℕ) (depth : ℕ) (old between new : Frames) (page i below : ℕ) → Unlinks key depth old between new page i below → (k : ℕ) → k < length (page_in old page).nodes → k ≢ i → Stay old new (pages depth old (child_of (node_at (page_in old page).nodes k)))
other_stays key depth old between new page i below u k h ne p there =
    let nodes = (page_in old page).nodes in
    let g : Node → List ℕ = λ m. pages depth old (child_of m) in
    let list = g (node_at nodes k) in
    u.stay p (not_same list p page (copies-Contains list p there) (omega (arith, part_le g nodes page k h, u.once page, copies-cons page page (flat_map g nodes), copies-itself page)))
    ∙ child_stays depth old (set between below None) page i k [] u.tree u.once u.place.within h ne (parent_swap key depth old between new page i below u) p there

-- what holds of each node but one
all_removed : (P : Node → Type 0) (nodes : List Node) (i : ℕ) → i < length nodes → ((k : ℕ) → k < length nodes → k ≢ i → P (node_at nodes k)) → All P (remove nodes i)
all_removed P nodes i within each = All-from_get_or P (remove nodes i) no_node (λ k h.
    let less = length-remove nodes i within in
    elim (cases_lt k i) [
      | inl low ↦ subst P (sym (get_or-remove_below nodes i no_node k low within)) (each k (omega arith) (λ e. absurd (omega (arith, e, low))))
      | inr high ↦ subst P (sym (get_or-remove_above nodes i no_node k high within)) (each (k + 1) (omega arith) (λ e. absurd (omega (arith, e, high))))
    ])

-- The other children stand as before, the first with an empty key.
unlinked_parts : (key : List ℕ) (depth : ℕ) (old between new : Frames) (page i below : ℕ) → Unlinks key depth old between new page i below → 1 < length (page_in old page).nodes → Parts depth new (unlinked (page_in old page).nodes i)
unlinked_parts key depth old between new page i below u more =
    let nodes = (page_in old page).nodes in
    let parts = tree_parts depth old page u.tree in
    let rest = remove nodes i in
    let less = length-remove nodes i u.place.within in
    let other = other_stays key depth old between new page i below u in
    let each : All (IsPart depth new) rest = all_removed (IsPart depth new) nodes i u.place.within (λ k h ne. part_stays depth old new (node_at nodes k) (other k h ne) (parts.each k no_node h)) in
    let same : All (λ n. entries depth new (child_of n) ≡ entries depth old (child_of n)) rest = all_removed (λ n. entries depth new (child_of n) ≡ entries depth old (child_of n)) nodes i u.place.within (λ k h ne. same_entries depth old new (child_of (node_at nodes k)) (other k h ne)) in
    let old_order : AllPairs (Before depth old) rest = all_pairs_remove (Before depth old) nodes i u.place.within parts.order in
    let order : AllPairs (Before depth new) rest = λ a b d lt h. subst (λ (es : List Node). All (λ e. IsBelow e.key (get_or rest b d).key) es) (sym (same a d (omega arith))) (old_order a b d lt h) in
    elim (cases_eq i 0) [
      | inl first ↦ subst (λ t. Parts depth new (cond t (cleared rest) rest)) (sym (eq-eqb i 0 first)) (parts_cleared depth new rest (omega arith) each order)
      | inr later ↦ subst (λ t. Parts depth new (cond t (cleared rest) rest)) (sym (ne_eqb i 0 later)) (record {
        some = omega arith;
        first = ap (λ (x : Node). x.key) (get_or-remove_below nodes i no_node 0 (omega arith) u.place.within) ∙ parts.first;
        each = each;
        order = order;
      })
    ]

-- the parts of a parent without a child
unlinked_around : {X : Type 0} (h : ℕ → List X) (nodes : List Node) (i : ℕ) → flat_map (λ n. h (child_of n)) (unlinked nodes i) ≡ flat_map (λ n. h (child_of n)) (take i nodes) ++ flat_map (λ n. h (child_of n)) (drop (i + 1) nodes)
unlinked_around {X} h nodes i =
    let f : Node → List X = λ n. h (child_of n) in
    let rest = remove nodes i in
    let same : flat_map f rest ≡ flat_map f (take i nodes) ++ flat_map f (drop (i + 1) nodes) = flat_map-append f (take i nodes) (drop (suc i) nodes) ∙ ap (λ k. flat_map f (take i nodes) ++ flat_map f (drop k nodes)) (sym (add-one i)) in
    elim (nat_eq i 0) as (λ t. flat_map f (cond t (cleared rest) rest) ≡ flat_map f (take i nodes) ++ flat_map f (drop (i + 1) nodes)) [
      | true ↦ flat_map-cleared h rest ∙ same
      | false ↦ same
    ]

pub unlinks_kept : (key : List ℕ) (depth : ℕ) (old between new : Frames) (page i below : ℕ) → Unlinks key depth old between new page i below → 1 < length (page_in old page).nodes → page_at new page ≡ Some (record (page_in old page) { nodes = unlinked (page_in old page).nodes i }) → IsPage (record (page_in old page) { nodes = unlinked (page_in old page).nodes i }) → Altered (λ ns. without_key ns key) key (suc depth) old new page
unlinks_kept key depth old between new page i below u more now ok =
    let nodes = (page_in old page).nodes in
    let f : Node → List Node = λ n. entries depth old (child_of n) in
    let f' : Node → List Node = λ n. entries depth new (child_of n) in
    let g : Node → List ℕ = λ n. pages depth old (child_of n) in
    let g' : Node → List ℕ = λ n. pages depth new (child_of n) in
    let less : PageContents = record (page_in old page) { nodes = unlinked nodes i } in
    let is : (page_in new page).nodes ≡ unlinked nodes i = nodes_written new page less now in
    let parts = unlinked_parts key depth old between new page i below u more in
    let tree : IsSubtree (suc depth) new page = parts_tree depth new page (written new page 2 less now u.tree.0.number u.tree.0.kind ok (λ k d h. (parts.each k d h).node)) (subst (Parts depth new) (sym is) parts) in
    let other = other_stays key depth old between new page i below u in
    let a = flat_map f (take i nodes) in
    let b = f (node_at nodes i) in
    let c = flat_map f (drop (i + 1) nodes) in
    let a_same : flat_map f' (take i nodes) ≡ a = take_same f f' nodes i u.place.within (λ k h ne. same_entries depth old new (child_of (node_at nodes k)) (other k h ne)) in
    let c_same : flat_map f' (drop (i + 1) nodes) ≡ c = drop_same f f' nodes i (λ k h ne. same_entries depth old new (child_of (node_at nodes k)) (other k h ne)) in
    let pages_a : flat_map g' (take i nodes) ≡ flat_map g (take i nodes) = take_same g g' nodes i u.place.within (λ k h ne. same_pages depth old new (child_of (node_at nodes k)) (other k h ne)) in
    let pages_c : flat_map g' (drop (i + 1) nodes) ≡ flat_map g (drop (i + 1) nodes) = drop_same g g' nodes i (λ k h ne. same_pages depth old new (child_of (node_at nodes k)) (other k h ne)) in
    let now_list : entries (suc depth) new page ≡ a ++ c = ap (flat_map f') is ∙ unlinked_around (entries depth new) nodes i ∙ ap (λ (x : List Node). x ++ flat_map f' (drop (i + 1) nodes)) a_same ∙ ap (λ (x : List Node). a ++ x) c_same in
    let was : entries (suc depth) old page ≡ a ++ (b ++ c) = flat_map-around f nodes i no_node u.place.within in
    let gone : without_key b key ≡ [] = ap (λ q. without_key (entries depth old q) key) u.child ∙ u.emptied.none in
    let local = without_key-local key a b c (low_part depth old page key i u.tree u.place) (high_part depth old page key i u.tree u.place) in
    let middle = set between below None in
    let after = page ∷ flat_map g' (page_in new page).nodes in
    let rest : ℕ → ℕ = λ p. copies p (page ∷ []) + copies p (flat_map g (take i nodes)) + copies p (flat_map g (drop (i + 1) nodes)) in
    let count = λ (p : ℕ).
    let e : copies p after ≡ rest p + copies p [] =
    omega (
      arith,
      copies-nil p,
      copies-cons p page (flat_map g' (page_in new page).nodes),
      ap (λ (x : List Node). copies p (flat_map g' x)) is,
      ap (copies p) (unlinked_around (pages depth new) nodes i),
      copies-append p (flat_map g' (take i nodes)) (flat_map g' (drop (i + 1) nodes)),
      ap (copies p) pages_a,
      ap (copies p) pages_c,
    ) in e in
    let to_middle : Swaps old middle (page ∷ flat_map g nodes) after = swaps_within old middle (g (node_at nodes i)) [] (page ∷ flat_map g nodes) after rest (parent_swap key depth old between new page i below u) (λ p. copies-around g nodes page i p u.place.within) count u.once (λ p h. pages_taken (suc depth) old page u.tree p h) in
    let written_after : Swaps middle new after after = swaps_write middle new page after u.stay (omega (arith, copies-cons page page (flat_map g' (page_in new page).nodes), copies-itself page)) to_middle.once in
    record {
      shape = tree;
      nodes = now_list ∙ sym (local ∙ ap (λ (x : List Node). a ++ (x ++ c)) gone) ∙ ap (λ (x : List Node). without_key x key) (sym was);
      swaps = swaps_then old middle new (page ∷ flat_map g nodes) after after to_middle written_after;
      keys = subst (λ (es : List Node). All (IsOldKey key (entries (suc depth) old page)) es) (sym now_list)
          (subst (λ (es : List Node). All (IsOldKey key es) (a ++ c)) (sym was) (old_keys key a b [] c (All-nil (IsOldKey key b))));
      some = λ _. some_entries depth new page tree;
    }

only_child : {X : Type 0} (h : Node → List X) (nodes : List Node) (i : ℕ) → length nodes ≡ 1 → i < length nodes → flat_map h nodes ≡ h (node_at nodes i)
only_child h [] i one within = absurd (omega arith)
only_child h (n ∷ []) zero one within = append-nil (h n)
only_child h (n ∷ []) (suc i) one within = absurd (omega arith)
only_child h (n ∷ m ∷ nodes) i one within = absurd (omega arith)

pub unlinks_emptied : (key : List ℕ) (depth : ℕ) (old between new : Frames) (page i below : ℕ) → Unlinks key depth old between new page i below → length (page_in old page).nodes ≡ 1 → IsTaken new page → Emptied key (suc depth) old new page
unlinks_emptied key depth old between new page i below u one has =
    let nodes = (page_in old page).nodes in
    let f : Node → List Node = λ n. entries depth old (child_of n) in
    let g : Node → List ℕ = λ n. pages depth old (child_of n) in
    let middle = set between below None in
    let rest : ℕ → ℕ = λ p. copies p (page ∷ []) in
    let to_middle : Swaps old middle (page ∷ flat_map g nodes) (page ∷ []) = swaps_within old middle (g (node_at nodes i)) [] (page ∷ flat_map g nodes) (page ∷ []) rest (parent_swap key depth old between new page i below u)
    (λ p. omega (arith, copies-cons p page (flat_map g nodes), ap (copies p) (only_child g nodes i one u.place.within))) (λ p. omega (arith, copies-nil p)) u.once (λ p h. pages_taken (suc depth) old page u.tree p h) in
    record {
      none = ap (λ (x : List Node). without_key x key) (only_child f nodes i one u.place.within) ∙ ap (λ q. without_key (entries depth old q) key) u.child ∙ u.emptied.none;
      taken = has;
      swaps = swaps_then old middle new (page ∷ flat_map g nodes) (page ∷ []) (page ∷ []) to_middle (swaps_one middle new page u.stay);
    }

-- a tree whose last node went
pub tree_emptied : (old between : Frames) (tree : Tree) (key : List ℕ) (p : PageContents) → Emptied key tree.depth old between tree.root → p ≡ record { number = tree.root; kind = 1; nodes = [] } → IsPage p → AlteredTree (λ ns. without_key ns key) old tree (set between tree.root (Some p)) (record { root = tree.root; depth = 0; last = tree.last })
tree_emptied old between tree key p e value ok =
    let new = set between tree.root (Some p) in
    let at : page_at new tree.root ≡ Some p = wrote between tree.root p e.taken in
    let none : p.nodes ≡ [] = ap (λ (q : PageContents). q.nodes) value in
    record {
      shape = written new tree.root 1 p at (ap (λ (q : PageContents). q.number) value) (ap (λ (q : PageContents). q.kind) value) ok (λ k d h. absurd (omega (arith, ap (λ (ns : List Node). length ns) none)));
      nodes = nodes_written new tree.root p at ∙ none ∙ sym e.none;
      swaps = swaps_then old between new (pages_of old tree) (tree.root ∷ []) (tree.root ∷ []) e.swaps (swaps_one between new tree.root (set-stays between tree.root (Some p)));
      deep = omega arith;
    }
