-- The parent of a child that was cut in two.
use Rattle.std.proofs.Common.{◌≡◌, ◌≢◌, ℕ, suc, ◌+◌, ◌<◌, ◌≤◌, inl, inr, None, List, [], ◌∷◌, ◌++◌, length, take, drop, get_or, sym, ap, subst, ◌∙◌, arith, length-append}
use Rattle.std.specs.Prelude.{All, AllPairs, insert}
use Rattle.std.specs.List.{flat_map}
use Rattle.std.proofs.lemmas.Bool.{cases_lt, cases_eq}
use Rattle.std.proofs.lemmas.Cmp.{nat_list_cmp_total}
use Rattle.std.proofs.lemmas.List.{take_more, append-nil, append_assoc, get_or_default, get_or_append_left, get_or-append-add}
use Rattle.std.proofs.lemmas.List.Concat.{flat_map-append}
use Rattle.std.proofs.lemmas.List.Edits.{length-insert, get_or-insert_below, get_or-insert_at, get_or-insert_above}
use Rattle.std.proofs.lemmas.List.Elements.{All-from_get_or}
use Rattle.page_image.specs.Page.{Node, IsBelow, no_node, node_at}
use Rattle.common_lemmas.proofs.Edits.{All-insert, AllPairs-insert}
use Rattle.page_space.specs.Frames.{Frames, IsTaken, page_at}
use Rattle.btree_node.specs.Cut.{IsChildPlace}
use Rattle.btree_inplace.specs.Alterations.{Altered, Entered, Swaps, copies}
use Rattle.btree_inplace.specs.Shape.{IsSubtree, IsTreeNode, child_of, entries, page_in, pages}
use Rattle.btree_inplace.specs.Trees.{Stay}
use Rattle.btree_inplace.proofs.Altering.{copies-around, drop_same, same_keys, take_same}
use Rattle.btree_inplace.proofs.Below.{IsBelow-upto, flat_map-around}
use Rattle.btree_inplace.proofs.Counting.{copies-append, copies-cons, copies-itself, copies-one, copies-other, copies-same, copies-Contains}
use Rattle.btree_inplace.proofs.Parts.{Before, IsPart, Parts, pages_taken, pairs_from, part_le, part_stays, parts_tree, tree_parts, two_parts}
use Rattle.btree_inplace.proofs.Splitting.{Cutting, Halves, halves, nodes_written, not_same, root_in, written}
use Rattle.btree_inplace.proofs.Staying.{same_entries, same_pages}
use Rattle.btree_inplace.proofs.Swapping.{taken_not_free}

pub All-left : {X : Type 0} (P : X → Type 0) (xs ys : List X) → All P (xs ++ ys) → All P xs
All-left P xs ys all k d h = subst P (get_or_append_left xs ys d k h) (all k d (omega (arith, length-append xs ys)))

pub All-right : {X : Type 0} (P : X → Type 0) (xs ys : List X) → All P (xs ++ ys) → All P ys
All-right P xs ys all k d h = subst P (get_or-append-add xs ys k d) (all (length xs + k) d (omega (arith, length-append xs ys)))

-- the parts with one more behind place i
pub insert_around : {X : Type 0} (h : Node → List X) (nodes : List Node) (i : ℕ) (n : Node) → i < length nodes → flat_map h (insert nodes (i + 1) n) ≡ flat_map h (take i nodes) ++ (h (node_at nodes i) ++ (h n ++ flat_map h (drop (i + 1) nodes)))
insert_around {X} h nodes i n within =
    let rest = h n ++ flat_map h (drop (i + 1) nodes) in
    let front : flat_map h (take (i + 1) nodes) ≡ flat_map h (take i nodes) ++ h (node_at nodes i) =
    ap (flat_map h) (take_more nodes i no_node within) ∙ flat_map-append h (take i nodes) (node_at nodes i ∷ [])
    ∙ ap (λ (x : List X). flat_map h (take i nodes) ++ x) (append-nil (h (node_at nodes i))) in
    flat_map-append h (take (i + 1) nodes) (n ∷ drop (i + 1) nodes) ∙ ap (λ (x : List X). x ++ rest) front ∙ append_assoc (flat_map h (take i nodes)) (h (node_at nodes i)) rest

-- the children that are not cut
other_stays : (depth : ℕ) (old new : Frames) (page i below second at : ℕ) (n : Node) → Cutting depth old new page i below second at n → (k : ℕ) → k < length (page_in old page).nodes → k ≢ i → Stay old new (pages depth old (child_of (node_at (page_in old page).nodes k)))
other_stays depth old new page i below second at n c k h ne p there =
    let nodes = (page_in old page).nodes in
    let g : Node → List ℕ = λ m. pages depth old (child_of m) in
    let list = g (node_at nodes k) in
    let some = copies-Contains list p there in
    let held : 0 < copies below (g (node_at nodes i)) = subst (λ q. 0 < copies below (pages depth old q)) (sym c.child) (root_in depth old below) in
    c.others p
    (not_same list p page some (omega (arith, part_le g nodes page k h, c.once page, copies-cons page page (flat_map g nodes), copies-itself page)))
    (not_same list p below some (omega (arith, two_parts g nodes below k i ne h c.within, c.once below, copies-cons below page (flat_map g nodes), held)))
    (λ e. taken_not_free old second (subst (IsTaken old) e (pages_taken depth old (child_of (node_at nodes k)) (c.tree.2 k h) p some)) c.free)

-- the children of the parent, with the two parts among them
split_parts : (depth : ℕ) (old new : Frames) (page i below second at : ℕ) (n : Node) → Cutting depth old new page i below second at n → Halves depth old new below second n.key → Parts depth new (insert (page_in old page).nodes (i + 1) n)
split_parts depth old new page i below second at n c h =
    let nodes = (page_in old page).nodes in
    let m = node_at nodes i in
    let parts = tree_parts depth old page c.tree in
    let mine = parts.each i no_node c.within in
    let left_list = entries depth new below in
    let right_list = entries depth new second in
    let halved : entries depth old (child_of m) ≡ left_list ++ right_list = ap (entries depth old) c.child ∙ h.nodes in
    let other = other_stays depth old new page i below second at n c in
    let left_of = λ (P : Node → Type 0) (all : All P (entries depth old (child_of m))). All-left P left_list right_list (subst (All P) halved all) in
    let right_of = λ (P : Node → Type 0) (all : All P (entries depth old (child_of m))). All-right P left_list right_list (subst (All P) halved all) in
    let lower : All (λ e. ¬ IsBelow e.key m.key) left_list = left_of (λ e. ¬ IsBelow e.key m.key) mine.lower in
    let part_left : IsPart depth new m = record {
      node = mine.node;
      width = mine.width;
      extent = mine.extent;
      tree = subst (IsSubtree depth new) (sym c.child) h.left;
      some = subst (λ q. 0 < length (entries depth new q)) (sym c.child) h.some_left;
      lower = subst (λ q. All (λ e. ¬ IsBelow e.key m.key) (entries depth new q)) (sym c.child) lower;
    } in
    let part_right : IsPart depth new n = record {
      node = c.node;
      width = c.width;
      extent = c.extent;
      tree = subst (IsSubtree depth new) (sym c.leads) h.right;
      some = subst (λ q. 0 < length (entries depth new q)) (sym c.leads) h.some_right;
      lower = subst (λ q. All (λ e. ¬ IsBelow e.key n.key) (entries depth new q)) (sym c.leads) h.high;
    } in
    let each : All (IsPart depth new) nodes = All-from_get_or (IsPart depth new) nodes no_node (λ k l. elim (cases_eq k i) [
      | inl at_i ↦ subst (λ j. IsPart depth new (node_at nodes j)) (sym at_i) part_left
      | inr ne ↦ part_stays depth old new (node_at nodes k) (other k l ne) (parts.each k no_node l)
    ]) in
    let stay_before = λ (a : ℕ) (l : a < length nodes) (ne : a ≢ i) (key : List ℕ) (all : All (λ e. IsBelow e.key key) (entries depth old (child_of (node_at nodes a)))).
    subst (λ (es : List Node). All (λ e. IsBelow e.key key) es) (sym (same_entries depth old new (child_of (node_at nodes a)) (other a l ne))) all in
    let order : AllPairs (Before depth new) nodes = pairs_from (Before depth new) nodes no_node (λ a b lt l. elim (cases_eq a i) [
      | inl at_i ↦ subst (λ j. Before depth new (node_at nodes j) (node_at nodes b)) (sym at_i)
          (subst (λ q. All (λ e. IsBelow e.key (node_at nodes b).key) (entries depth new q)) (sym c.child)
          (left_of (λ e. IsBelow e.key (node_at nodes b).key) (parts.order i b no_node (omega arith) l)))
      | inr ne ↦ stay_before a (omega arith) ne (node_at nodes b).key (parts.order a b no_node lt l)
    ]) in
    let below_first = λ (e : Node) (b : IsBelow e.key m.key).
    let e0 = node_at left_list 0 in
    nat_list_cmp_total.trans e.key e0.key n.key (IsBelow-upto e.key m.key e0.key b (lower 0 no_node h.some_left)) (h.low 0 no_node h.some_left) in
    let low_pairs = λ (k : ℕ) (d : Node) (lt : k < i + 1).
    let l : k < length nodes = omega (arith, c.within) in
    subst (λ (x : Node). Before depth new x n) (sym (get_or_default nodes k d no_node l))
    (elim (cases_eq k i) [
      | inl at_i ↦ subst (λ j. Before depth new (node_at nodes j) n) (sym at_i) (subst (λ q. All (λ e. IsBelow e.key n.key) (entries depth new q)) (sym c.child) h.low)
      | inr ne ↦
          let old_below = parts.order k i no_node (omega arith) c.within in
          stay_before k l ne n.key (λ j e g. below_first (get_or (entries depth old (child_of (node_at nodes k))) j e) (old_below j e g))
    ]) in
    let high_pairs = λ (k : ℕ) (d : Node) (from : i + 1 ≤ k) (l : k < length nodes).
    subst (λ (x : Node). Before depth new n x) (sym (get_or_default nodes k d no_node l))
    (subst (λ q. All (λ e. IsBelow e.key (node_at nodes k).key) (entries depth new q)) (sym c.leads)
    (right_of (λ e. IsBelow e.key (node_at nodes k).key) (parts.order i k no_node (omega arith) l))) in
    record {
      some = omega (arith, length-insert nodes (i + 1) n (omega (arith, c.within)));
      first = ap (λ (x : Node). x.key) (get_or-insert_below nodes (i + 1) n no_node 0 (omega arith) (omega (arith, c.within))) ∙ parts.first;
      each = All-insert (IsPart depth new) nodes (i + 1) n part_right each;
      order = AllPairs-insert (Before depth new) nodes (i + 1) n (omega (arith, c.within)) order low_pairs high_pairs;
    }

pub split_up : (key : List ℕ) (depth : ℕ) (old new : Frames) (page i below second at : ℕ) (n : Node) → Cutting depth old new page i below second at n → Altered (λ nodes. nodes) key (suc depth) old new page
split_up key depth old new page i below second at n c =
    let h = halves depth old new page i below second at n c in
    let nodes = (page_in old page).nodes in
    let m = node_at nodes i in
    let more = insert nodes (i + 1) n in
    let f : Node → List Node = λ x. entries depth old (child_of x) in
    let f' : Node → List Node = λ x. entries depth new (child_of x) in
    let g : Node → List ℕ = λ x. pages depth old (child_of x) in
    let g' : Node → List ℕ = λ x. pages depth new (child_of x) in
    let other = other_stays depth old new page i below second at n c in
    let is : (page_in new page).nodes ≡ more = nodes_written new page (record (page_in old page) { nodes = more }) c.parent in
    let tree : IsSubtree (suc depth) new page = parts_tree depth new page
    (written new page 2 (record (page_in old page) { nodes = more }) c.parent c.tree.0.number c.tree.0.kind c.parent_page (All-insert IsTreeNode nodes (i + 1) n c.node c.tree.0.small))
    (subst (Parts depth new) (sym is) (split_parts depth old new page i below second at n c h)) in
    let a = flat_map f (take i nodes) in
    let z = flat_map f (drop (i + 1) nodes) in
    let left_list = entries depth new below in
    let right_list = entries depth new second in
    let a_same : flat_map f' (take i nodes) ≡ a = take_same f f' nodes i c.within (λ k l ne. same_entries depth old new (child_of (node_at nodes k)) (other k l ne)) in
    let z_same : flat_map f' (drop (i + 1) nodes) ≡ z = drop_same f f' nodes i (λ k l ne. same_entries depth old new (child_of (node_at nodes k)) (other k l ne)) in
    let m_is : f' m ≡ left_list = ap (entries depth new) c.child in
    let n_is : f' n ≡ right_list = ap (entries depth new) c.leads in
    let now : entries (suc depth) new page ≡ a ++ (left_list ++ (right_list ++ z)) =
    ap (flat_map f') is ∙ insert_around f' nodes i n c.within
    ∙ ap (λ (x : List Node). x ++ (f' m ++ (f' n ++ flat_map f' (drop (i + 1) nodes)))) a_same
    ∙ ap (λ (x : List Node). a ++ (x ++ (f' n ++ flat_map f' (drop (i + 1) nodes)))) m_is
    ∙ ap (λ (x : List Node). a ++ (left_list ++ (x ++ flat_map f' (drop (i + 1) nodes)))) n_is
    ∙ ap (λ (x : List Node). a ++ (left_list ++ (right_list ++ x))) z_same in
    let was : entries (suc depth) old page ≡ a ++ (left_list ++ (right_list ++ z)) =
    flat_map-around f nodes i no_node c.within ∙ ap (λ (x : List Node). a ++ (x ++ z)) (ap (entries depth old) c.child ∙ h.nodes)
    ∙ ap (λ (x : List Node). a ++ x) (append_assoc left_list right_list z) in
    let pages_a : flat_map g' (take i nodes) ≡ flat_map g (take i nodes) = take_same g g' nodes i c.within (λ k l ne. same_pages depth old new (child_of (node_at nodes k)) (other k l ne)) in
    let pages_z : flat_map g' (drop (i + 1) nodes) ≡ flat_map g (drop (i + 1) nodes) = drop_same g g' nodes i (λ k l ne. same_pages depth old new (child_of (node_at nodes k)) (other k l ne)) in
    let count = λ (p : ℕ).
    let last = flat_map g' (drop (i + 1) nodes) in
    let e : copies p (page ∷ flat_map g' (page_in new page).nodes) ≡ copies p (page ∷ flat_map g nodes) + copies p (second ∷ []) =
    omega (
      arith,
      copies-cons p page (flat_map g' (page_in new page).nodes),
      ap (λ (x : List Node). copies p (flat_map g' x)) is,
      ap (copies p) (insert_around g' nodes i n c.within),
      copies-append p (flat_map g' (take i nodes)) (g' m ++ (g' n ++ last)),
      copies-append p (g' m) (g' n ++ last),
      copies-append p (g' n) last,
      ap (copies p) pages_a,
      ap (copies p) pages_z,
      ap (λ q. copies p (pages depth new q)) c.child,
      ap (λ q. copies p (pages depth new q)) c.leads,
      h.pages p,
      ap (λ q. copies p (pages depth old q)) c.child,
      copies-around g nodes page i p c.within,
    ) in e in
    let fresh : copies second (page ∷ flat_map g nodes) ≡ 0 = elim (cases_lt 0 (copies second (page ∷ flat_map g nodes))) [
      | inl some ↦ absurd (taken_not_free old second (pages_taken (suc depth) old page c.tree second some) c.free)
      | inr none ↦ omega arith
    ] in
    let swapped : Swaps old new (page ∷ flat_map g nodes) (page ∷ flat_map g' (page_in new page).nodes) = record {
      once = λ p. elim (cases_eq second p) [
        | inl at_p ↦ omega (arith, count p, subst (λ q. copies q (page ∷ flat_map g nodes) ≡ 0) at_p fresh, copies-one p second)
        | inr ne ↦ omega (arith, count p, c.once p, copies-other p second ne)
      ];
      taken = λ p l. elim (cases_eq second p) [
        | inl at_p ↦ inr (subst (λ q. page_at old q ≡ None) at_p c.free)
        | inr ne ↦ inl (omega (arith, count p, copies-other p second ne))
      ];
      given_back = λ p l none. absurd (omega (arith, count p));
      others = λ p l none.
          let held : 0 < copies below (g m) = subst (λ q. 0 < copies below (pages depth old q)) (sym c.child) (root_in depth old below) in
          c.others p
          (λ e. absurd (omega (arith, ap (λ q. copies q (page ∷ flat_map g nodes)) e, copies-cons page page (flat_map g nodes), copies-itself page)))
          (λ e. absurd (omega (arith, ap (λ q. copies q (page ∷ flat_map g nodes)) e, copies-cons below page (flat_map g nodes), part_le g nodes below i c.within, held)))
          (λ e. absurd (omega (arith, count p, copies-same p second (sym e))));
    } in
    record {
      shape = tree;
      nodes = now ∙ sym was;
      swaps = swapped;
      keys = same_keys key (entries (suc depth) old page) (entries (suc depth) new page) (now ∙ sym was);
      some = λ l. omega (arith, ap (λ (es : List Node). length es) (now ∙ sym was));
    }

-- the part that a key belongs to
pub entered_left : (key : List ℕ) (depth : ℕ) (old new : Frames) (page i below second at : ℕ) (n : Node) → Cutting depth old new page i below second at n → IsChildPlace (page_in old page).nodes key i → IsBelow key n.key → Entered key depth old new page below
entered_left key depth old new page i below second at n c place low =
    let nodes = (page_in old page).nodes in
    let more = insert nodes (i + 1) n in
    let back : more ≡ (page_in new page).nodes = sym (nodes_written new page (record (page_in old page) { nodes = more }) c.parent) in
    let room : i + 1 ≤ length nodes = omega (arith, c.within) in
    let here : node_at more i ≡ node_at nodes i = get_or-insert_below nodes (i + 1) n no_node i (omega arith) room in
    let next : node_at more (i + 1) ≡ n = get_or-insert_at nodes (i + 1) n no_node room in
    record {
      altered = split_up key depth old new page i below second at n c;
      place = (
        i,
        subst (λ (ns : List Node). IsChildPlace ns key i) back (record {
          within = omega (arith, length-insert nodes (i + 1) n room);
          lower = subst (λ (x : Node). ¬ IsBelow key x.key) (sym here) place.lower;
          upper = λ _. subst (λ (x : Node). IsBelow key x.key) (sym next) low;
        }),
        sym c.child ∙ ap child_of (sym here) ∙ ap (λ (ns : List Node). child_of (node_at ns i)) back,
      );
    }

pub entered_right : (key : List ℕ) (depth : ℕ) (old new : Frames) (page i below second at : ℕ) (n : Node) → Cutting depth old new page i below second at n → IsChildPlace (page_in old page).nodes key i → ¬ IsBelow key n.key → Entered key depth old new page second
entered_right key depth old new page i below second at n c place high =
    let nodes = (page_in old page).nodes in
    let more = insert nodes (i + 1) n in
    let back : more ≡ (page_in new page).nodes = sym (nodes_written new page (record (page_in old page) { nodes = more }) c.parent) in
    let room : i + 1 ≤ length nodes = omega (arith, c.within) in
    let here : node_at more (i + 1) ≡ n = get_or-insert_at nodes (i + 1) n no_node room in
    let next : node_at more (i + 1 + 1) ≡ node_at nodes (i + 1) = get_or-insert_above nodes (i + 1) n no_node (i + 1) (omega arith) room in
    record {
      altered = split_up key depth old new page i below second at n c;
      place = (
        i + 1,
        subst (λ (ns : List Node). IsChildPlace ns key (i + 1)) back (record {
          within = omega (arith, length-insert nodes (i + 1) n room);
          lower = subst (λ (x : Node). ¬ IsBelow key x.key) (sym here) high;
          upper = λ l. subst (λ (x : Node). IsBelow key x.key) (sym next) (place.upper (omega (arith, length-insert nodes (i + 1) n room)));
        }),
        sym c.leads ∙ ap child_of (sym here) ∙ ap (λ (ns : List Node). child_of (node_at ns (i + 1))) back,
      );
    }
