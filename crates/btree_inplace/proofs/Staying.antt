-- A tree whose pages stay is the same tree.
use Rattle.std.proofs.Common.{◌≡◌, ℕ, zero, suc, ◌+◌, ◌<◌, inl, inr, Option, Some, None, List, [], ◌∷◌, ◌++◌, length, take, drop, get_or, refl, sym, ap, subst, ◌∙◌, arith}
use Rattle.std.specs.Prelude.{Contains, unwrap_or, IsSome}
use Rattle.std.specs.List.{flat_map}
use Rattle.std.proofs.lemmas.List.{get_or_at, get_or-set_same}
use Rattle.std.proofs.lemmas.Bool.{cases_lt}
use Rattle.std.proofs.lemmas.List.Elements.{Contains-append_left, Contains-append_right, Contains-get_or}
use Rattle.page_image.specs.Page.{Node, PageContents, IsPage, no_node, node_at}
use Rattle.page_space.specs.Frames.{Frames, Takes, empty_page, page_at}
use Rattle.btree_inplace.specs.Shape.{IsBetween, IsInner, IsSubtree, IsTreeNode, IsTreePage, child_of, entries, page_in, pages}
use Rattle.btree_inplace.specs.Trees.{Stay}
use Rattle.btree_inplace.proofs.Below.{flat_map-around}

pub flat_map-same : {X Y : Type 0} (f g : X → List Y) (xs : List X) → ((k : ℕ) (d : X) → k < length xs → f (get_or xs k d) ≡ g (get_or xs k d)) → flat_map f xs ≡ flat_map g xs
flat_map-same f g [] same = refl
flat_map-same f g (x ∷ xs) same = rw (same 0 x (omega arith), flat_map-same f g xs (λ k d h. same (suc k) d (omega arith))) refl

pub Contains-flat_map : {X : Type 0} (f : X → List ℕ) (xs : List X) (k : ℕ) (d : X) (p : ℕ) → k < length xs → Contains (f (get_or xs k d)) p → Contains (flat_map f xs) p
Contains-flat_map f xs k d p h there =
    subst (λ (l : List ℕ). Contains l p) (sym (flat_map-around f xs k d h))
    (Contains-append_right (flat_map f (take k xs)) (f (get_or xs k d) ++ flat_map f (drop (k + 1) xs)) p
    (Contains-append_left (f (get_or xs k d)) (flat_map f (drop (k + 1) xs)) p there))

-- the pages below a child are among those of its parent
below_stays : (depth : ℕ) (old new : Frames) (page k : ℕ) (d : Node) → Stay old new (pages (suc depth) old page) → k < length (page_in old page).nodes → Stay old new (pages depth old (child_of (get_or (page_in old page).nodes k d)))
below_stays depth old new page k d stay h p there =
    stay p (Contains-append_right (page ∷ []) (flat_map (λ n. pages depth old (child_of n)) (page_in old page).nodes) p
    (Contains-flat_map (λ n. pages depth old (child_of n)) (page_in old page).nodes k d p h there))

page_stays : (old new : Frames) (page : ℕ) (rest : List ℕ) → Stay old new (page ∷ rest) → page_at new page ≡ page_at old page
page_stays old new page rest stay = stay page (Contains-get_or (page ∷ rest) 0 0 (omega arith))

same_page : (old new : Frames) (page : ℕ) (rest : List ℕ) → Stay old new (page ∷ rest) → page_in new page ≡ page_in old page
same_page old new page rest stay = ap (λ (o : Option PageContents). unwrap_or o (empty_page page)) (page_stays old new page rest stay)

pub same_entries : (depth : ℕ) (old new : Frames) (page : ℕ) → Stay old new (pages depth old page) → entries depth new page ≡ entries depth old page
same_entries zero old new page stay = ap (λ (p : PageContents). p.nodes) (same_page old new page [] stay)
same_entries (suc depth) old new page stay =
    ap (λ (p : PageContents). flat_map (λ n. entries depth new (child_of n)) p.nodes) (same_page old new page (flat_map (λ n. pages depth old (child_of n)) (page_in old page).nodes) stay)
    ∙ flat_map-same (λ n. entries depth new (child_of n)) (λ n. entries depth old (child_of n)) (page_in old page).nodes
    (λ k d h. same_entries depth old new (child_of (get_or (page_in old page).nodes k d)) (below_stays depth old new page k d stay h))

pub same_pages : (depth : ℕ) (old new : Frames) (page : ℕ) → Stay old new (pages depth old page) → pages depth new page ≡ pages depth old page
same_pages zero old new page stay = refl
same_pages (suc depth) old new page stay =
    ap (λ (p : PageContents). page ∷ flat_map (λ n. pages depth new (child_of n)) p.nodes) (same_page old new page (flat_map (λ n. pages depth old (child_of n)) (page_in old page).nodes) stay)
    ∙ ap (λ (l : List ℕ). page ∷ l) (flat_map-same (λ n. pages depth new (child_of n)) (λ n. pages depth old (child_of n)) (page_in old page).nodes
    (λ k d h. same_pages depth old new (child_of (get_or (page_in old page).nodes k d)) (below_stays depth old new page k d stay h)))

pub tree_page : (old new : Frames) (page kind : ℕ) (rest : List ℕ) → Stay old new (page ∷ rest) → IsTreePage old page kind → IsTreePage new page kind
tree_page old new page kind rest stay t =
    let same : page_in old page ≡ page_in new page = sym (same_page old new page rest stay) in
    record {
      taken = subst (λ (o : Option PageContents). IsSome o) (sym (page_stays old new page rest stay)) t.taken;
      number = ap (λ (p : PageContents). p.number) (sym same) ∙ t.number;
      kind = ap (λ (p : PageContents). p.kind) (sym same) ∙ t.kind;
      page = subst IsPage same t.page;
      small = subst (λ (p : PageContents). (k : ℕ) (d : Node) → k < length p.nodes → IsTreeNode (get_or p.nodes k d)) same t.small;
    }

pub same_tree : (depth : ℕ) (old new : Frames) (page : ℕ) → Stay old new (pages depth old page) → IsSubtree depth old page → IsSubtree depth new page
same_tree zero old new page stay tree = tree_page old new page 1 [] stay tree
same_tree (suc depth) old new page stay tree =
    let rest = flat_map (λ n. pages depth old (child_of n)) (page_in old page).nodes in
    let same : page_in old page ≡ page_in new page = sym (same_page old new page rest stay) in
    let below = λ (i : ℕ) (h : i < length (page_in old page).nodes). below_stays depth old new page i no_node stay h in (
      tree_page old new page 2 rest stay tree.0,
      subst (λ (p : PageContents). IsInner p.nodes) same tree.1,
      subst (λ (p : PageContents). (i : ℕ) → i < length p.nodes → IsSubtree depth new (child_of (node_at p.nodes i))) same
          (λ i h. same_tree depth old new (child_of (node_at (page_in old page).nodes i)) (below i h) (tree.2 i h)),
      subst (λ (p : PageContents). (i : ℕ) → i < length p.nodes → IsBetween p.nodes i (entries depth new (child_of (node_at p.nodes i)))) same
          (λ i h. subst (λ (es : List Node). IsBetween (page_in old page).nodes i es) (sym (same_entries depth old new (child_of (node_at (page_in old page).nodes i)) (below i h))) (tree.3 i h)),
    )

-- a page that was just taken
taken_page : (old new : Frames) (root : ℕ) → Takes old root new → page_at new root ≡ Some (empty_page root)
taken_page old new root t = elim (cases_lt root (length old)) [
  | inl within ↦ ap (λ (f : Frames). page_at f root) (t.reused within).1 ∙ get_or-set_same old root (Some (empty_page root)) None within
  | inr past ↦ ap (λ (f : Frames). page_at f root) (t.grown past).2 ∙ get_or_at old (Some (empty_page root)) [] None root (sym (t.grown past).0)
]

pub new_tree : (old new : Frames) (root : ℕ) → root < 4294967296 → Takes old root new → IsSubtree zero new root × ((page_in new root).nodes ≡ [])
new_tree old new root small t =
    let here = taken_page old new root t in
    let page : page_in new root ≡ empty_page root = ap (λ (o : Option PageContents). unwrap_or o (empty_page root)) here in (
      record {
        taken = subst (λ (o : Option PageContents). IsSome o) (sym here) refl;
        number = ap (λ (p : PageContents). p.number) page;
        kind = ap (λ (p : PageContents). p.kind) page;
        page = subst IsPage (sym page) (record { number = small; kind = inl refl; rising = λ i j d lt h. absurd (omega arith); fits = λ k d h. absurd (omega arith); size = omega arith });
        small = λ k d h. absurd (omega (arith, ap (λ (p : PageContents). length p.nodes) page));
      },
      ap (λ (p : PageContents). p.nodes) page,
    )
