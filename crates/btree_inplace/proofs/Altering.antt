-- A change below one child is a change below its parent, whichever pages it takes and gives back.
use Rattle.std.proofs.Common.{◌≡◌, ◌≢◌, ℕ, suc, ◌+◌, ◌<◌, ◌≤◌, inl, inr, Option, List, [], ◌∷◌, ◌++◌, length, take, drop, get_or, refl, sym, ap, subst, ◌∙◌, arith, length-append}
use Rattle.std.specs.Prelude.{All, unwrap_or}
use Rattle.std.specs.List.{flat_map}
use Rattle.std.proofs.lemmas.Bool.{cases_eq}
use Rattle.std.proofs.lemmas.List.{get_or-take, get_or-drop, get_or_default, length-take-le, length-drop}
use Rattle.page_image.specs.Page.{Node, PageContents, IsBelow, no_node, node_at}
use Rattle.page_space.specs.Frames.{Frames, empty_page, page_at}
use Rattle.btree_node.specs.Cut.{IsChildPlace}
use Rattle.btree_inplace.specs.Alterations.{Altered, AlteredTree, Swaps, copies}
use Rattle.btree_inplace.specs.Changes.{IsLocal, IsOldKey}
use Rattle.btree_inplace.specs.Shape.{IsBetween, IsInner, IsSubtree, child_of, entries, page_in, pages}
use Rattle.btree_inplace.specs.Trees.{Stay, pages_of}
use Rattle.btree_inplace.specs.declared.Tree.{Tree}
use Rattle.btree_inplace.proofs.Below.{All-flat_map, before_child, behind_child, flat_map-around}
use Rattle.btree_inplace.proofs.Changing.{between_changed, kept_page, old_keys}
use Rattle.btree_inplace.proofs.Counting.{copies-append, copies-cons}
use Rattle.btree_inplace.proofs.Parts.{pages_taken, part_le, two_parts}
use Rattle.btree_inplace.proofs.Staying.{flat_map-same, same_entries, same_pages, same_tree}
use Rattle.btree_inplace.proofs.Swapping.{swaps_none, swaps_stay, swaps_then, swaps_within}

-- the nodes before the child that a key belongs to, and those behind it
pub low_part : (depth : ℕ) (frames : Frames) (page : ℕ) (key : List ℕ) (i : ℕ) → IsSubtree (suc depth) frames page → IsChildPlace (page_in frames page).nodes key i → All (λ e. IsBelow e.key key) (flat_map (λ n. entries depth frames (child_of n)) (take i (page_in frames page).nodes))
low_part depth frames page key i tree place =
    let nodes = (page_in frames page).nodes in
    let f : Node → List Node = λ n. entries depth frames (child_of n) in
    All-flat_map (λ e. IsBelow e.key key) f (take i nodes)
    (λ k d h k' d' h'.
    let early : k < i = omega (arith, length-take-le i nodes (omega (arith, place.within))) in
    let is : get_or (take i nodes) k d ≡ node_at nodes k = get_or-take i nodes k d early ∙ get_or_default nodes k d no_node (omega (arith, place.within)) in
    subst (λ (n : Node). (j : ℕ) (e : Node) → j < length (f n) → IsBelow (get_or (f n) j e).key key) (sym is)
    (λ j e l. before_child nodes (f (node_at nodes k)) key i k tree.0.page.rising place early (tree.3 k (omega (arith, place.within))) j e l) k' d' h')

pub high_part : (depth : ℕ) (frames : Frames) (page : ℕ) (key : List ℕ) (i : ℕ) → IsSubtree (suc depth) frames page → IsChildPlace (page_in frames page).nodes key i → All (λ e. IsBelow key e.key) (flat_map (λ n. entries depth frames (child_of n)) (drop (i + 1) (page_in frames page).nodes))
high_part depth frames page key i tree place =
    let nodes = (page_in frames page).nodes in
    let f : Node → List Node = λ n. entries depth frames (child_of n) in
    All-flat_map (λ e. IsBelow key e.key) f (drop (i + 1) nodes)
    (λ k d h k' d' h'.
    let within : i + 1 + k < length nodes = omega (arith, length-drop (i + 1) nodes) in
    let is : get_or (drop (i + 1) nodes) k d ≡ node_at nodes (i + 1 + k) = get_or-drop (i + 1) nodes k d ∙ get_or_default nodes (i + 1 + k) d no_node within in
    subst (λ (n : Node). (j : ℕ) (e : Node) → j < length (f n) → IsBelow key (get_or (f n) j e).key) (sym is)
    (λ j e l. behind_child nodes (f (node_at nodes (i + 1 + k))) key i (i + 1 + k) tree.0.page.rising place (omega arith) within (tree.3 (i + 1 + k) within) j e l) k' d' h')

-- the parts before one and behind it are the same
pub take_same : {X : Type 0} (f f' : Node → List X) (nodes : List Node) (i : ℕ) → i < length nodes → ((k : ℕ) → k < length nodes → k ≢ i → f' (node_at nodes k) ≡ f (node_at nodes k)) → flat_map f' (take i nodes) ≡ flat_map f (take i nodes)
take_same f f' nodes i h same = flat_map-same f' f (take i nodes)
    (λ k d l.
    let early : k < i = omega (arith, length-take-le i nodes (omega arith)) in
    let is : get_or (take i nodes) k d ≡ node_at nodes k = get_or-take i nodes k d early ∙ get_or_default nodes k d no_node (omega arith) in
    subst (λ (n : Node). f' n ≡ f n) (sym is) (same k (omega arith) (λ e. absurd (omega (arith, e, early)))))

pub drop_same : {X : Type 0} (f f' : Node → List X) (nodes : List Node) (i : ℕ) → ((k : ℕ) → k < length nodes → k ≢ i → f' (node_at nodes k) ≡ f (node_at nodes k)) → flat_map f' (drop (i + 1) nodes) ≡ flat_map f (drop (i + 1) nodes)
drop_same f f' nodes i same = flat_map-same f' f (drop (i + 1) nodes)
    (λ k d h.
    let within : i + 1 + k < length nodes = omega (arith, length-drop (i + 1) nodes) in
    let is : get_or (drop (i + 1) nodes) k d ≡ node_at nodes (i + 1 + k) = get_or-drop (i + 1) nodes k d ∙ get_or_default nodes (i + 1 + k) d no_node within in
    subst (λ (n : Node). f' n ≡ f n) (sym is) (same (i + 1 + k) within (λ e. absurd (omega (arith, e)))))

-- how often a page is among those of a parent
pub copies-around : (g : Node → List ℕ) (nodes : List Node) (page i p : ℕ) → i < length nodes → copies p (page ∷ flat_map g nodes) ≡ (copies p (page ∷ []) + copies p (flat_map g (take i nodes)) + copies p (flat_map g (drop (i + 1) nodes))) + copies p (g (node_at nodes i))
copies-around g nodes page i p h =
    let a = flat_map g (take i nodes) in
    let b = g (node_at nodes i) in
    let c = flat_map g (drop (i + 1) nodes) in
    omega (arith, copies-cons p page (flat_map g nodes), ap (copies p) (flat_map-around g nodes i no_node h), copies-append p a (b ++ c), copies-append p b c)

-- Another child stays, and the page itself.
pub child_stays : (depth : ℕ) (old new : Frames) (page i k : ℕ) (after : List ℕ) → IsSubtree (suc depth) old page → ((p : ℕ) → copies p (pages (suc depth) old page) ≤ 1) → i < length (page_in old page).nodes → k < length (page_in old page).nodes → k ≢ i → Swaps old new (pages depth old (child_of (node_at (page_in old page).nodes i))) after → Stay old new (pages depth old (child_of (node_at (page_in old page).nodes k)))
child_stays depth old new page i k after tree once h l ne s =
    let nodes = (page_in old page).nodes in
    let g : Node → List ℕ = λ n. pages depth old (child_of n) in
    swaps_stay old new (g (node_at nodes i)) after (g (node_at nodes k)) s
    (λ p there. omega (arith, two_parts g nodes p k i ne l h, once p, copies-cons p page (flat_map g nodes)))
    (λ p there. pages_taken depth old (child_of (node_at nodes k)) (tree.2 k l) p there)

pub parent_stays : (depth : ℕ) (old new : Frames) (page i : ℕ) (after : List ℕ) → IsSubtree (suc depth) old page → ((p : ℕ) → copies p (pages (suc depth) old page) ≤ 1) → i < length (page_in old page).nodes → Swaps old new (pages depth old (child_of (node_at (page_in old page).nodes i))) after → page_at new page ≡ page_at old page
parent_stays depth old new page i after tree once h s =
    let nodes = (page_in old page).nodes in
    let g : Node → List ℕ = λ n. pages depth old (child_of n) in
    swaps_stay old new (g (node_at nodes i)) after (page ∷ []) s
    (λ p there. omega (arith, part_le g nodes p i h, once p, copies-cons p page (flat_map g nodes)))
    (λ p there. pages_taken (suc depth) old page tree p (omega (arith, copies-cons p page (flat_map g nodes))))
    page (0, omega arith, refl)

-- What is altered below the child that the key belongs to is altered below its parent.
pub lifted : (change : List Node → List Node) (key : List ℕ) → IsLocal change key → (depth : ℕ) (old new : Frames) (page i : ℕ) → IsSubtree (suc depth) old page → IsChildPlace (page_in old page).nodes key i → ((p : ℕ) → copies p (pages (suc depth) old page) ≤ 1) → Altered change key depth old new (child_of (node_at (page_in old page).nodes i)) → Altered change key (suc depth) old new page
lifted change key local depth old new page i tree place all_once changed =
    let nodes = (page_in old page).nodes in
    let f : Node → List Node = λ n. entries depth old (child_of n) in
    let f' : Node → List Node = λ n. entries depth new (child_of n) in
    let g : Node → List ℕ = λ n. pages depth old (child_of n) in
    let g' : Node → List ℕ = λ n. pages depth new (child_of n) in
    let after = g' (node_at nodes i) in
    let stays : page_at new page ≡ page_at old page = parent_stays depth old new page i after tree all_once place.within changed.swaps in
    let same : page_in old page ≡ page_in new page = ap (λ (o : Option PageContents). unwrap_or o (empty_page page)) (sym stays) in
    let other = λ (k : ℕ) (h : k < length nodes) (ne : k ≢ i). child_stays depth old new page i k after tree all_once place.within h ne changed.swaps in
    let a = flat_map f (take i nodes) in
    let b = f (node_at nodes i) in
    let c = flat_map f (drop (i + 1) nodes) in
    let first : flat_map f' (take i nodes) ≡ a = take_same f f' nodes i place.within (λ k h ne. same_entries depth old new (child_of (node_at nodes k)) (other k h ne)) in
    let last : flat_map f' (drop (i + 1) nodes) ≡ c = drop_same f f' nodes i (λ k h ne. same_entries depth old new (child_of (node_at nodes k)) (other k h ne)) in
    let now : entries (suc depth) new page ≡ a ++ (f' (node_at nodes i) ++ c) =
    ap (λ (p : PageContents). flat_map f' p.nodes) (sym same) ∙ flat_map-around f' nodes i no_node place.within
    ∙ ap (λ (x : List Node). x ++ (f' (node_at nodes i) ++ flat_map f' (drop (i + 1) nodes))) first ∙ ap (λ (x : List Node). a ++ (f' (node_at nodes i) ++ x)) last in
    let was : entries (suc depth) old page ≡ a ++ (b ++ c) = flat_map-around f nodes i no_node place.within in
    let before_pages : flat_map g' (take i nodes) ≡ flat_map g (take i nodes) = take_same g g' nodes i place.within (λ k h ne. same_pages depth old new (child_of (node_at nodes k)) (other k h ne)) in
    let behind_pages : flat_map g' (drop (i + 1) nodes) ≡ flat_map g (drop (i + 1) nodes) = drop_same g g' nodes i (λ k h ne. same_pages depth old new (child_of (node_at nodes k)) (other k h ne)) in
    let rest : ℕ → ℕ = λ p. copies p (page ∷ []) + copies p (flat_map g (take i nodes)) + copies p (flat_map g (drop (i + 1) nodes)) in
    let swapped : Swaps old new (page ∷ flat_map g nodes) (page ∷ flat_map g' nodes) =
    swaps_within old new (g (node_at nodes i)) after (page ∷ flat_map g nodes) (page ∷ flat_map g' nodes) rest changed.swaps
    (λ p. copies-around g nodes page i p place.within)
    (λ p. omega (arith, copies-around g' nodes page i p place.within, ap (copies p) before_pages, ap (copies p) behind_pages))
    all_once (λ p h. pages_taken (suc depth) old page tree p h) in
    let some = changed.some (tree.3 i place.within).some in
    record {
      shape = (
        kept_page old new page 2 stays tree.0,
        subst (λ (p : PageContents). IsInner p.nodes) same tree.1,
        subst (λ (p : PageContents). (j : ℕ) → j < length p.nodes → IsSubtree depth new (child_of (node_at p.nodes j))) same
            (λ j h. elim (cases_eq j i) [
              | inl here ↦ subst (λ k. IsSubtree depth new (child_of (node_at nodes k))) (sym here) changed.shape
              | inr ne ↦ same_tree depth old new (child_of (node_at nodes j)) (other j h ne) (tree.2 j h)
            ]),
        subst (λ (p : PageContents). (j : ℕ) → j < length p.nodes → IsBetween p.nodes j (entries depth new (child_of (node_at p.nodes j)))) same
            (λ j h. elim (cases_eq j i) [
              | inl here ↦ subst (λ k. IsBetween nodes k (f' (node_at nodes k))) (sym here) (between_changed nodes b (f' (node_at nodes i)) key i place (tree.3 i place.within) changed.keys some)
              | inr ne ↦ subst (λ (es : List Node). IsBetween nodes j es) (sym (same_entries depth old new (child_of (node_at nodes j)) (other j h ne))) (tree.3 j h)
            ]),
      );
      nodes = now ∙ ap (λ (x : List Node). a ++ (x ++ c)) changed.nodes ∙ sym (local a b c (low_part depth old page key i tree place) (high_part depth old page key i tree place)) ∙ ap change (sym was);
      swaps = subst (λ (p : PageContents). Swaps old new (page ∷ flat_map g nodes) (page ∷ flat_map g' p.nodes)) same swapped;
      keys = subst (λ (es : List Node). All (IsOldKey key (entries (suc depth) old page)) es) (sym now)
          (subst (λ (es : List Node). All (IsOldKey key es) (a ++ (f' (node_at nodes i) ++ c))) (sym was) (old_keys key a b (f' (node_at nodes i)) c changed.keys));
      some = λ _. omega (arith, ap (λ (es : List Node). length es) now, length-append a (f' (node_at nodes i) ++ c), length-append (f' (node_at nodes i)) c, some);
    }

-- the same list has the same keys
pub same_keys : (key : List ℕ) (old new : List Node) → new ≡ old → All (IsOldKey key old) new
same_keys key old new same = subst (λ (es : List Node). All (IsOldKey key old) es) (sym same) (λ k d h. inr (k, h, ap (λ (n : Node). n.key) (get_or_default old k no_node d h)))

pub altered_none : (key : List ℕ) (depth : ℕ) (frames : Frames) (page : ℕ) → IsSubtree depth frames page → ((p : ℕ) → copies p (pages depth frames page) ≤ 1) → Altered (λ nodes. nodes) key depth frames frames page
altered_none key depth frames page tree once = record {
  shape = tree;
  nodes = refl;
  swaps = swaps_none frames (pages depth frames page) once;
  keys = same_keys key (entries depth frames page) (entries depth frames page) refl;
  some = λ h. h;
}

pub altered_then : (change : List Node → List Node) (key : List ℕ) (depth : ℕ) (a b c : Frames) (page : ℕ) → Altered (λ nodes. nodes) key depth a b page → Altered change key depth b c page → Altered change key depth a c page
altered_then change key depth a b c page s t = record {
  shape = t.shape;
  nodes = t.nodes ∙ ap change s.nodes;
  swaps = swaps_then a b c (pages depth a page) (pages depth b page) (pages depth c page) s.swaps t.swaps;
  keys = subst (λ (es : List Node). All (IsOldKey key es) (entries depth c page)) s.nodes t.keys;
  some = λ h. t.some (s.some h);
}

pub altered_tree_then : (change : List Node → List Node) (a b c : Frames) (first second third : Tree) → AlteredTree (λ nodes. nodes) a first b second → AlteredTree change b second c third → AlteredTree change a first c third
altered_tree_then change a b c first second third s t = record {
  shape = t.shape;
  nodes = t.nodes ∙ ap change s.nodes;
  swaps = swaps_then a b c (pages_of a first) (pages_of b second) (pages_of c third) s.swaps t.swaps;
  deep = t.deep;
}
