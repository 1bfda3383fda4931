-- A change of one leaf is a change of the whole list at the key's place.
use Rattle.std.proofs.Common.{◌≡◌, ◌≢◌, ℕ, zero, suc, ◌+◌, ◌<◌, ◌≤◌, inl, inr, Option, Some, None, List, [], ◌∷◌, ◌++◌, length, take, drop, get_or, set, true, false, refl, sym, ap, subst, ◌∙◌, arith, length-append}
use Rattle.std.specs.Prelude.{All, AllPairs, Contains, map, unwrap_or, IsSome, IsSomeAnd, if◌then◌else◌}
use Rattle.std.specs.List.{flat_map}
use Rattle.std.proofs.lemmas.Bool.{cases_lt, cases_eq}
use Rattle.std.proofs.lemmas.List.{get_or_append_left, get_or-append-add, get_or-take, get_or-drop, get_or_default, get_or_past, length-take-le, length-drop, length-set, length-map, map-append, get_or-map, get_or-set_same, get_or-set_other, same_lists}
use Rattle.std.proofs.lemmas.List.Elements.{All-append, All-head, All-tail, All-set, Contains-append_left, Contains-append_right}
use Rattle.page_image.specs.Page.{Node, PageContents, IsPage, IsBelow, HasRisingKeys, no_node, node_at, with_data}
use Rattle.page_space.specs.Frames.{Frames, IsTaken, empty_page, page_at}
use Rattle.btree_node.specs.Cut.{IsChildPlace}
use Rattle.btree_inplace.specs.Order.{has_key}
use Rattle.btree_inplace.specs.Shape.{IsBetween, IsInner, IsSubtree, IsTreeNode, IsTreePage, child_of, entries, page_in, pages}
use Rattle.btree_inplace.specs.Changes.{Changed, IsLocal, IsOldKey, StayBut, with_data_at}
use Rattle.btree_inplace.specs.Trees.{Stay}
use Rattle.btree_inplace.proofs.Below.{All-flat_map, has_key-itself, other_above, other_below, before_child, behind_child, flat_map-around}
use Rattle.btree_inplace.proofs.Staying.{flat_map-same, same_entries, same_pages, same_tree, Contains-flat_map}

apart : (xs ys : List ℕ) (p q : ℕ) → AllPairs (λ a b. a ≢ b) (xs ++ ys) → Contains xs p → Contains ys q → p ≢ q
apart xs ys p q once (k, lt, is) (j, within, at) e =
    let first : get_or (xs ++ ys) k p ≡ p = get_or_append_left xs ys p k lt ∙ is in
    let second : get_or (xs ++ ys) (length xs + j) p ≡ q = get_or-append-add xs ys j p ∙ get_or_default ys j p q within ∙ at in
    once k (length xs + j) p (omega arith) (omega (arith, length-append xs ys)) (first ∙ e ∙ sym second)

-- the pages of two children are apart
parts_apart : (g : Node → List ℕ) (nodes : List Node) (a b p q : ℕ) → AllPairs (λ x y. x ≢ y) (flat_map g nodes) → a < b → b < length nodes → Contains (g (node_at nodes a)) p → Contains (g (node_at nodes b)) q → p ≢ q
parts_apart g nodes a b p q once lt within there here =
    let same : get_or (take b nodes) a no_node ≡ node_at nodes a = get_or-take b nodes a no_node lt in
    apart (flat_map g (take b nodes)) (g (node_at nodes b) ++ flat_map g (drop (b + 1) nodes)) p q
    (subst (λ (l : List ℕ). AllPairs (λ x y. x ≢ y) l) (flat_map-around g nodes b no_node within) once)
    (Contains-flat_map g (take b nodes) a no_node p (omega (arith, length-take-le b nodes (omega arith))) (subst (λ (n : Node). Contains (g n) p) (sym same) there))
    (Contains-append_left (g (node_at nodes b)) (flat_map g (drop (b + 1) nodes)) q here)

-- a node in the middle part of a list
in_middle : (a b c : List Node) (k : ℕ) → k < length b → (j : ℕ) × (j < length (a ++ (b ++ c))) × ((node_at (a ++ (b ++ c)) j).key ≡ (node_at b k).key)
in_middle a b c k h = (
  length a + k,
  omega (arith, length-append a (b ++ c), length-append b c),
  ap (λ (n : Node). n.key) (get_or-append-add a (b ++ c) k no_node ∙ get_or_append_left b c no_node k h),
)

-- the parts keep their keys
pub old_keys : (key : List ℕ) (a b b' c : List Node) → All (IsOldKey key b) b' → All (IsOldKey key (a ++ (b ++ c))) (a ++ (b' ++ c))
old_keys key a b b' c keys =
    All-append (IsOldKey key (a ++ (b ++ c))) a (b' ++ c)
    (λ k d h. inr (k, omega (arith, length-append a (b ++ c)), ap (λ (n : Node). n.key) (get_or_append_left a (b ++ c) no_node k h ∙ get_or_default a k no_node d h)))
    (All-append (IsOldKey key (a ++ (b ++ c))) b' c
    (λ k d h. elim (keys k d h) [
      | inl same ↦ inl same
      | inr (j, lt, is) ↦ let m = in_middle a b c j lt in inr (m.0, m.1, m.2 ∙ is)
    ])
    (λ k d h. inr (
      length a + (length b + k),
      omega (arith, length-append a (b ++ c), length-append b c),
      ap (λ (n : Node). n.key) (get_or-append-add a (b ++ c) (length b + k) no_node ∙ get_or-append-add b c k no_node ∙ get_or_default c k no_node d h),
    )))

-- the changed child stands between the same bounds
pub between_changed : (nodes old new : List Node) (key : List ℕ) (i : ℕ) → IsChildPlace nodes key i → IsBetween nodes i old → All (IsOldKey key old) new → 0 < length new → IsBetween nodes i new
between_changed nodes old new key i place between keys some = record {
  some = some;
  lower = λ k d h. elim (keys k d h) [
    | inl same ↦ subst (λ (x : List ℕ). ¬ IsBelow x (node_at nodes i).key) (sym same) place.lower
    | inr (j, lt, is) ↦ subst (λ (x : List ℕ). ¬ IsBelow x (node_at nodes i).key) is (between.lower j no_node lt)
  ];
  upper = λ more k d h. elim (keys k d h) [
    | inl same ↦ subst (λ (x : List ℕ). IsBelow x (node_at nodes (i + 1)).key) (sym same) (place.upper more)
    | inr (j, lt, is) ↦ subst (λ (x : List ℕ). IsBelow x (node_at nodes (i + 1)).key) is (between.upper more j no_node lt)
  ];
}

-- the page itself and the pages below it, of a tree whose pages are apart
page_apart : (page : ℕ) (rest : List ℕ) (p : ℕ) → AllPairs (λ a b. a ≢ b) (page ∷ rest) → Contains rest p → page ≢ p
page_apart page rest p once there = apart (page ∷ []) rest page p once (0, omega arith, refl) there

rest_once : (page : ℕ) (rest : List ℕ) → AllPairs (λ a b. a ≢ b) (page ∷ rest) → AllPairs (λ a b. a ≢ b) rest
rest_once page rest once a b d lt h = once (suc a) (suc b) d (omega arith) (omega arith)

-- a tree page that stays
pub kept_page : (old new : Frames) (page kind : ℕ) → page_at new page ≡ page_at old page → IsTreePage old page kind → IsTreePage new page kind
kept_page old new page kind stays t =
    let same : page_in old page ≡ page_in new page = ap (λ (o : Option PageContents). unwrap_or o (empty_page page)) (sym stays) in
    record {
      taken = subst (λ (o : Option PageContents). IsSome o) (sym stays) t.taken;
      number = ap (λ (p : PageContents). p.number) (sym same) ∙ t.number;
      kind = ap (λ (p : PageContents). p.kind) (sym same) ∙ t.kind;
      page = subst IsPage same t.page;
      small = subst (λ (p : PageContents). (k : ℕ) (d : Node) → k < length p.nodes → IsTreeNode (get_or p.nodes k d)) same t.small;
    }

-- A child that the change does not reach stays.
other_child : (depth : ℕ) (old new : Frames) (page i j leaf : ℕ) → AllPairs (λ a b. a ≢ b) (flat_map (λ n. pages depth old (child_of n)) (page_in old page).nodes) → i < length (page_in old page).nodes → j < length (page_in old page).nodes → j ≢ i → Contains (pages depth old (child_of (node_at (page_in old page).nodes i))) leaf → StayBut old new leaf → Stay old new (pages depth old (child_of (node_at (page_in old page).nodes j)))
other_child depth old new page i j leaf once within there other at stay p here =
    let nodes = (page_in old page).nodes in
    let g : Node → List ℕ = λ n. pages depth old (child_of n) in
    stay p (elim (cases_lt j i) [
      | inl before ↦ parts_apart g nodes j i p leaf once before within here at
      | inr behind ↦ λ e. parts_apart g nodes i j leaf p once (omega arith) there at here (sym e)
    ])

-- What changed below the child that the key belongs to has changed below its parent.
pub lift : (change : List Node → List Node) (key : List ℕ) → IsLocal change key → (depth : ℕ) (old new : Frames) (page i leaf : ℕ) → IsSubtree (suc depth) old page → IsChildPlace (page_in old page).nodes key i → AllPairs (λ a b. a ≢ b) (pages (suc depth) old page) → Contains (pages depth old (child_of (node_at (page_in old page).nodes i))) leaf → StayBut old new leaf → Changed change key depth old new (child_of (node_at (page_in old page).nodes i)) → Changed change key (suc depth) old new page
lift change key local depth old new page i leaf tree place once at stay changed =
    let nodes = (page_in old page).nodes in
    let f : Node → List Node = λ n. entries depth old (child_of n) in
    let f' : Node → List Node = λ n. entries depth new (child_of n) in
    let g : Node → List ℕ = λ n. pages depth old (child_of n) in
    let g' : Node → List ℕ = λ n. pages depth new (child_of n) in
    let apart_below = rest_once page (flat_map g nodes) once in
    let among : Contains (flat_map g nodes) leaf = Contains-flat_map g nodes i no_node leaf place.within at in
    let stays : page_at new page ≡ page_at old page = stay page (page_apart page (flat_map g nodes) leaf once among) in
    let same : page_in old page ≡ page_in new page = ap (λ (o : Option PageContents). unwrap_or o (empty_page page)) (sym stays) in
    let other = λ (j : ℕ) (h : j < length nodes) (ne : j ≢ i). other_child depth old new page i j leaf apart_below place.within h ne at stay in
    let a = flat_map f (take i nodes) in
    let b = f (node_at nodes i) in
    let c = flat_map f (drop (i + 1) nodes) in
    let low : All (λ e. IsBelow e.key key) a = All-flat_map (λ e. IsBelow e.key key) f (take i nodes)
    (λ k d h k' d' h'.
    let early : k < i = omega (arith, length-take-le i nodes (omega (arith, place.within))) in
    let is : get_or (take i nodes) k d ≡ node_at nodes k = get_or-take i nodes k d early ∙ get_or_default nodes k d no_node (omega (arith, place.within)) in
    subst (λ (n : Node). (j : ℕ) (e : Node) → j < length (f n) → IsBelow (get_or (f n) j e).key key) (sym is)
    (λ j e l. before_child nodes (f (node_at nodes k)) key i k tree.0.page.rising place early (tree.3 k (omega (arith, place.within))) j e l) k' d' h') in
    let high : All (λ e. IsBelow key e.key) c = All-flat_map (λ e. IsBelow key e.key) f (drop (i + 1) nodes)
    (λ k d h k' d' h'.
    let within : i + 1 + k < length nodes = omega (arith, length-drop (i + 1) nodes) in
    let is : get_or (drop (i + 1) nodes) k d ≡ node_at nodes (i + 1 + k) = get_or-drop (i + 1) nodes k d ∙ get_or_default nodes (i + 1 + k) d no_node within in
    subst (λ (n : Node). (j : ℕ) (e : Node) → j < length (f n) → IsBelow key (get_or (f n) j e).key) (sym is)
    (λ j e l. behind_child nodes (f (node_at nodes (i + 1 + k))) key i (i + 1 + k) tree.0.page.rising place (omega arith) within (tree.3 (i + 1 + k) within) j e l) k' d' h') in
    let first : flat_map f' (take i nodes) ≡ a = flat_map-same f' f (take i nodes)
    (λ k d h.
    let early : k < i = omega (arith, length-take-le i nodes (omega (arith, place.within))) in
    let is : get_or (take i nodes) k d ≡ node_at nodes k = get_or-take i nodes k d early ∙ get_or_default nodes k d no_node (omega (arith, place.within)) in
    subst (λ (n : Node). f' n ≡ f n) (sym is) (same_entries depth old new (child_of (node_at nodes k)) (other k (omega (arith, place.within)) (λ e. absurd (omega (arith, e, early)))))) in
    let last : flat_map f' (drop (i + 1) nodes) ≡ c = flat_map-same f' f (drop (i + 1) nodes)
    (λ k d h.
    let within : i + 1 + k < length nodes = omega (arith, length-drop (i + 1) nodes) in
    let is : get_or (drop (i + 1) nodes) k d ≡ node_at nodes (i + 1 + k) = get_or-drop (i + 1) nodes k d ∙ get_or_default nodes (i + 1 + k) d no_node within in
    subst (λ (n : Node). f' n ≡ f n) (sym is) (same_entries depth old new (child_of (node_at nodes (i + 1 + k))) (other (i + 1 + k) within (λ e. absurd (omega (arith, e)))))) in
    let now : entries (suc depth) new page ≡ a ++ (f' (node_at nodes i) ++ c) =
    ap (λ (p : PageContents). flat_map f' p.nodes) (sym same) ∙ flat_map-around f' nodes i no_node place.within
    ∙ ap (λ (x : List Node). x ++ (f' (node_at nodes i) ++ flat_map f' (drop (i + 1) nodes))) first ∙ ap (λ (x : List Node). a ++ (f' (node_at nodes i) ++ x)) last in
    let was : entries (suc depth) old page ≡ a ++ (b ++ c) = flat_map-around f nodes i no_node place.within in
    let all_pages : flat_map g' nodes ≡ flat_map g nodes = flat_map-same g' g nodes
    (λ k d h.
    let is : get_or nodes k d ≡ node_at nodes k = get_or_default nodes k d no_node h in
    subst (λ (n : Node). g' n ≡ g n) (sym is) (elim (cases_eq k i) [
      | inl here ↦ subst (λ j. g' (node_at nodes j) ≡ g (node_at nodes j)) (sym here) changed.same
      | inr ne ↦ same_pages depth old new (child_of (node_at nodes k)) (other k h ne)
    ])) in
    record {
      shape = (
        kept_page old new page 2 stays tree.0,
        subst (λ (p : PageContents). IsInner p.nodes) same tree.1,
        subst (λ (p : PageContents). (j : ℕ) → j < length p.nodes → IsSubtree depth new (child_of (node_at p.nodes j))) same
            (λ j h. elim (cases_eq j i) [
              | inl here ↦ subst (λ k. IsSubtree depth new (child_of (node_at nodes k))) (sym here) changed.shape
              | inr ne ↦ same_tree depth old new (child_of (node_at nodes j)) (other j h ne) (tree.2 j h)
            ]),
        subst (λ (p : PageContents). (j : ℕ) → j < length p.nodes → IsBetween p.nodes j (entries depth new (child_of (node_at p.nodes j)))) same
            (λ j h. elim (cases_eq j i) [
              | inl here ↦ subst (λ k. IsBetween nodes k (f' (node_at nodes k))) (sym here) (between_changed nodes b (f' (node_at nodes i)) key i place (tree.3 i place.within) changed.keys changed.some)
              | inr ne ↦ subst (λ (es : List Node). IsBetween nodes j es) (sym (same_entries depth old new (child_of (node_at nodes j)) (other j h ne))) (tree.3 j h)
            ]),
      );
      nodes = now ∙ ap (λ (x : List Node). a ++ (x ++ c)) changed.nodes ∙ sym (local a b c low high) ∙ ap change (sym was);
      same = ap (λ (p : PageContents). page ∷ flat_map g' p.nodes) (sym same) ∙ ap (λ (l : List ℕ). page ∷ l) all_pages;
      keys = subst (λ (es : List Node). All (IsOldKey key (entries (suc depth) old page)) es) (sym now)
          (subst (λ (es : List Node). All (IsOldKey key es) (a ++ (f' (node_at nodes i) ++ c))) (sym was) (old_keys key a b (f' (node_at nodes i)) c changed.keys));
      some = omega (arith, ap (λ (es : List Node). length es) now, length-append a (f' (node_at nodes i) ++ c), length-append (f' (node_at nodes i)) c, changed.some);
    }

middle_once : (xs ys zs : List ℕ) → AllPairs (λ a b. a ≢ b) (xs ++ (ys ++ zs)) → AllPairs (λ a b. a ≢ b) ys
middle_once xs ys zs once i j d lt h =
    let at = λ (k : ℕ) (g : k < length ys). get_or-append-add xs (ys ++ zs) k d ∙ get_or_append_left ys zs d k g in
    λ e. once (length xs + i) (length xs + j) d (omega arith) (omega (arith, length-append xs (ys ++ zs), length-append ys zs)) (at i (omega arith) ∙ e ∙ sym (at j h))

-- the pages below a child are apart, and are among those of its parent
pub child_once : (depth : ℕ) (frames : Frames) (page i : ℕ) → AllPairs (λ a b. a ≢ b) (pages (suc depth) frames page) → i < length (page_in frames page).nodes → AllPairs (λ a b. a ≢ b) (pages depth frames (child_of (node_at (page_in frames page).nodes i)))
child_once depth frames page i once h =
    let nodes = (page_in frames page).nodes in
    let g : Node → List ℕ = λ n. pages depth frames (child_of n) in
    middle_once (flat_map g (take i nodes)) (g (node_at nodes i)) (flat_map g (drop (i + 1) nodes))
    (subst (λ (l : List ℕ). AllPairs (λ x y. x ≢ y) l) (flat_map-around g nodes i no_node h) (rest_once page (flat_map g nodes) once))

pub child_among : (depth : ℕ) (frames : Frames) (page i leaf : ℕ) → i < length (page_in frames page).nodes → Contains (pages depth frames (child_of (node_at (page_in frames page).nodes i))) leaf → Contains (pages (suc depth) frames page) leaf
child_among depth frames page i leaf h at =
    Contains-append_right (page ∷ []) (flat_map (λ n. pages depth frames (child_of n)) (page_in frames page).nodes) leaf (Contains-flat_map (λ n. pages depth frames (child_of n)) (page_in frames page).nodes i no_node leaf h at)

-- the data of one key
pub map-fixed : (f : Node → Node) (xs : List Node) → All (λ x. f x ≡ x) xs → map f xs ≡ xs
map-fixed f [] same = refl
map-fixed f (x ∷ xs) same = rw (All-head (λ y. f y ≡ y) x xs same, map-fixed f xs (All-tail (λ y. f y ≡ y) x xs same)) refl

pub with_data_at-local : (key value : List ℕ) → IsLocal (λ ns. with_data_at ns key value) key
with_data_at-local key value a b c low high =
    let f : Node → Node = λ n. if has_key key n then record n { «data» = value } else n in
    let before : map f a ≡ a = map-fixed f a (λ k d h. ap (λ t. if t then record (get_or a k d) { «data» = value } else get_or a k d) (other_below (get_or a k d) key (low k d h))) in
    let behind : map f c ≡ c = map-fixed f c (λ k d h. ap (λ t. if t then record (get_or c k d) { «data» = value } else get_or c k d) (other_above (get_or c k d) key (high k d h))) in
    map-append f a (b ++ c) ∙ ap (λ (x : List Node). x ++ map f (b ++ c)) before ∙ ap (λ (x : List Node). a ++ x) (map-append f b c ∙ ap (λ (x : List Node). map f b ++ x) behind)

-- a node's data written at its place is the data written at its key
with_data-place : (nodes : List Node) (key value : List ℕ) (i : ℕ) → HasRisingKeys nodes → i < length nodes → (node_at nodes i).key ≡ key → with_data nodes i value ≡ with_data_at nodes key value
with_data-place nodes key value i rising h here =
    let f : Node → Node = λ n. if has_key key n then record n { «data» = value } else n in
    let m : Node = record (node_at nodes i) { «data» = value } in
    same_lists (set nodes i m) (map f nodes) (length-set nodes i m ∙ sym (length-map nodes f))
    (λ k d lt.
    let within : k < length nodes = omega (arith, length-set nodes i m) in
    elim (cases_eq k i) [
      | inl at ↦
          ap (λ j. get_or (set nodes i m) j d) at ∙ get_or-set_same nodes i m d h
          ∙ ap (λ t. if t then record (node_at nodes i) { «data» = value } else node_at nodes i) (sym (has_key-itself (node_at nodes i) key here))
          ∙ sym (get_or-map f nodes i no_node d h) ∙ ap (λ j. get_or (map f nodes) j d) (sym at)
      | inr ne ↦
          let other : has_key key (node_at nodes k) ≡ false = elim (cases_lt k i) [
            | inl low ↦ other_below (node_at nodes k) key (subst (λ (x : List ℕ). IsBelow (node_at nodes k).key x) here (rising k i no_node low h))
            | inr up ↦ other_above (node_at nodes k) key (subst (λ (x : List ℕ). IsBelow x (node_at nodes k).key) here (rising i k no_node (omega arith) within))
          ] in
          get_or-set_other nodes i k m d ne ∙ get_or_default nodes k d no_node within
          ∙ ap (λ t. if t then record (node_at nodes k) { «data» = value } else node_at nodes k) (sym other)
          ∙ sym (get_or-map f nodes k no_node d within)
    ])

-- the change of one leaf's data
pub leaf-replace : (old new : Frames) (leaf i : ℕ) (key value : List ℕ) → IsSubtree zero old leaf → i < length (page_in old leaf).nodes → (node_at (page_in old leaf).nodes i).key ≡ key → length value ≤ (node_at (page_in old leaf).nodes i).extent → page_at new leaf ≡ Some (record (page_in old leaf) { nodes = with_data (page_in old leaf).nodes i value }) → IsPage (record (page_in old leaf) { nodes = with_data (page_in old leaf).nodes i value }) → Changed (λ ns. with_data_at ns key value) key zero old new leaf
leaf-replace old new leaf i key value tree h here fits now page =
    let nodes = (page_in old leaf).nodes in
    let m : Node = record (node_at nodes i) { «data» = value } in
    let is : page_in new leaf ≡ record (page_in old leaf) { nodes = set nodes i m } = ap (λ (o : Option PageContents). unwrap_or o (empty_page leaf)) now in
    let list : (page_in new leaf).nodes ≡ set nodes i m = ap (λ (p : PageContents). p.nodes) is in
    record {
      shape = record {
        taken = subst (λ (o : Option PageContents). IsSome o) (sym now) refl;
        number = ap (λ (p : PageContents). p.number) is ∙ tree.number;
        kind = ap (λ (p : PageContents). p.kind) is ∙ tree.kind;
        page = subst IsPage (sym is) page;
        small = subst (λ (ns : List Node). All IsTreeNode ns) (sym list) (All-set IsTreeNode nodes i m (record { size = (tree.small i no_node h).size; key = (tree.small i no_node h).key }) tree.small);
      };
      nodes = list ∙ with_data-place nodes key value i tree.page.rising h here;
      same = refl;
      keys = subst (λ (ns : List Node). All (IsOldKey key nodes) ns) (sym list)
          (λ k d lt. elim (cases_eq k i) [
            | inl at ↦ inl (ap (λ j. (get_or (set nodes i m) j d).key) at ∙ ap (λ (n : Node). n.key) (get_or-set_same nodes i m d h) ∙ here)
            | inr ne ↦ inr (k, omega (arith, length-set nodes i m), ap (λ (n : Node). n.key) (sym (get_or-set_other nodes i k m d ne ∙ get_or_default nodes k d no_node (omega (arith, length-set nodes i m)))))
          ]);
      some = omega (arith, ap (λ (ns : List Node). length ns) list, length-set nodes i m);
    }

pub taken_within : (frames : Frames) (p : ℕ) → IsTaken frames p → p < length frames
taken_within frames p taken = elim (cases_lt p (length frames)) [
  | inl within ↦ within
  | inr past ↦ absurd (never (subst (λ (o : Option PageContents). IsSome o) (get_or_past frames p None past) taken))
]
  where
    never : false ≡ true → ⊥
    never e = cc

pub set-stays : (frames : Frames) (leaf : ℕ) (x : Option PageContents) → StayBut frames (set frames leaf x) leaf
set-stays frames leaf x p ne = get_or-set_other frames leaf p x None ne

-- What a look-up found is what a fact of it is about.
pub fact_of_found : {X : Type 0} (P : X → Type 0) (o : Option X) (x : X) → o ≡ Some x → IsSomeAnd o P → P x
fact_of_found P o x e fact = subst (λ r. IsSomeAnd r P) e fact

pub none_found : {X : Type 0} (P : X → Type 0) (o : Option X) → o ≡ None → ¬ IsSomeAnd o P
none_found P o e fact = subst (λ r. IsSomeAnd r P) e fact
