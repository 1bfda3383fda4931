-- A page that goes back to the space after the pages of its children, one child after another.
use Rattle.std.proofs.Common.{◌≡◌, ℕ, zero, suc, ◌+◌, ◌-◌, ◌<◌, ◌≤◌, Some, None, List, [], ◌∷◌, length, take, set, refl, sym, ap, subst, ◌∙◌, arith}
use Rattle.std.specs.List.{flat_map}
use Rattle.std.proofs.lemmas.List.{take_all}
use Rattle.byteorder.specs.Endian.{little_number}
use Rattle.page_image.specs.Page.{Node, PageContents, node_at}
use Rattle.page_space.specs.Frames.{Frames, IsTaken, page_at}
use Rattle.btree_inplace.specs.Alterations.{Swaps, copies}
use Rattle.btree_inplace.specs.Shape.{IsSubtree, child_of, page_in, pages}
use Rattle.btree_inplace.specs.Trees.{Stay}
use Rattle.btree_inplace.proofs.Altering.{copies-around}
use Rattle.btree_inplace.proofs.Counting.{copies-append, copies-cons, copies-nil}
use Rattle.btree_inplace.proofs.Entering.{root_taken}
use Rattle.btree_inplace.proofs.Parts.{pages_taken}
use Rattle.btree_inplace.proofs.Removing.{swaps_give}
use Rattle.btree_inplace.proofs.Staying.{same_pages, same_tree}
use Rattle.btree_inplace.proofs.Swapping.{swaps_stay, swaps_then, swaps_within}
use Rattle.btree_inplace.proofs.Writes.{child_read, taken_same}

-- the pages below a child
abbrev pub part : ℕ → Frames → Node → List ℕ
part depth frames n = pages depth frames (child_of n)

-- The pages below the first children are given back.
pub record Discards (depth : ℕ) (old between : Frames) (page i : ℕ) : Type 0 where
  pub tree : IsSubtree (suc depth) old page
  pub once : (p : ℕ) → copies p (pages (suc depth) old page) ≤ 1
  pub gone : Swaps old between (flat_map (part depth old) (take i (page_in old page).nodes)) []

pub discards : (height : ℕ) (old between : Frames) (page i : ℕ) → 0 < height → IsSubtree height old page → ((p : ℕ) → copies p (pages height old page) ≤ 1) → Swaps old between (flat_map (part (height - 1) old) (take i (page_in old page).nodes)) [] → Discards (height - 1) old between page i
discards height old between page i some tree once gone =
    let here : height ≡ suc (height - 1) = omega (arith, some) in
    record {
      tree = subst (λ n. IsSubtree n old page) here tree;
      once = subst (λ n. (p : ℕ) → copies p (pages n old page) ≤ 1) here once;
      gone = gone;
    }

copies-next : (g : Node → List ℕ) (nodes : List Node) (i p : ℕ) → i < length nodes → copies p (flat_map g (take (suc i) nodes)) ≡ copies p (flat_map g (take i nodes)) + copies p (g (node_at nodes i))
copies-next g [] i p h = absurd (omega arith)
copies-next g (x ∷ xs) zero p h = omega (arith, copies-append p (g x) [], copies-nil p)
copies-next g (x ∷ xs) (suc i) p h =
    omega (arith, copies-next g xs i p (omega arith), copies-append p (g x) (flat_map g (take (suc i) xs)), copies-append p (g x) (flat_map g (take i xs)))

take_le : (g : Node → List ℕ) (nodes : List Node) (i p : ℕ) → copies p (flat_map g (take i nodes)) ≤ copies p (flat_map g nodes)
take_le g nodes zero p = omega (arith, copies-nil p)
take_le g [] (suc i) p = omega arith
take_le g (x ∷ xs) (suc i) p = omega (arith, take_le g xs i p, copies-append p (g x) (flat_map g (take i xs)), copies-append p (g x) (flat_map g xs))

-- The page itself stays until it is given back.
pub inner_stays : (depth : ℕ) (old between : Frames) (page i : ℕ) → Discards depth old between page i → page_at between page ≡ page_at old page
inner_stays depth old between page i d =
    let g = part depth old in
    let nodes = (page_in old page).nodes in
    swaps_stay old between (flat_map g (take i nodes)) [] (page ∷ []) d.gone
    (λ p there. omega (arith, take_le g nodes i p, d.once p, copies-cons p page (flat_map g nodes)))
    (λ p there. pages_taken (suc depth) old page d.tree p (omega (arith, copies-cons p page (flat_map g nodes))))
    page (0, omega arith, refl)

pub inner_taken : (depth : ℕ) (old between : Frames) (page i : ℕ) → Discards depth old between page i → IsTaken between page
inner_taken depth old between page i d = taken_same old between page (inner_stays depth old between page i d) d.tree.0.taken

-- So do the pages below the next child.
next_stays : (depth : ℕ) (old between : Frames) (page i : ℕ) → Discards depth old between page i → i < length (page_in old page).nodes → Stay old between (pages depth old (child_of (node_at (page_in old page).nodes i)))
next_stays depth old between page i d h =
    let g = part depth old in
    let nodes = (page_in old page).nodes in
    swaps_stay old between (flat_map g (take i nodes)) [] (g (node_at nodes i)) d.gone
    (λ p there. omega (arith, copies-around g nodes page i p h, d.once p))
    (λ p there. pages_taken depth old (child_of (node_at nodes i)) (d.tree.2 i h) p there)

pub next_tree : (depth : ℕ) (old between : Frames) (page i : ℕ) → Discards depth old between page i → i < length (page_in old page).nodes → IsSubtree depth between (child_of (node_at (page_in old page).nodes i))
next_tree depth old between page i d h = same_tree depth old between (child_of (node_at (page_in old page).nodes i)) (next_stays depth old between page i d h) (d.tree.2 i h)

pub next_once : (depth : ℕ) (old between : Frames) (page i : ℕ) → Discards depth old between page i → i < length (page_in old page).nodes → (p : ℕ) → copies p (pages depth between (child_of (node_at (page_in old page).nodes i))) ≤ 1
next_once depth old between page i d h p =
    let g = part depth old in
    let nodes = (page_in old page).nodes in
    omega (arith, ap (copies p) (same_pages depth old between (child_of (node_at nodes i)) (next_stays depth old between page i d h)), copies-around g nodes page i p h, d.once p)

pub next_gone : (depth : ℕ) (old between new : Frames) (page i : ℕ) → Discards depth old between page i → i < length (page_in old page).nodes → Swaps between new (pages depth between (child_of (node_at (page_in old page).nodes i))) [] → Swaps old new (flat_map (part depth old) (take (suc i) (page_in old page).nodes)) []
next_gone depth old between new page i d h s =
    let g = part depth old in
    let nodes = (page_in old page).nodes in
    let child = child_of (node_at nodes i) in
    let first = flat_map g (take i nodes) in
    let more = flat_map g (take (suc i) nodes) in
    let one : Swaps between new (g (node_at nodes i)) [] = subst (λ (list : List ℕ). Swaps between new list []) (same_pages depth old between child (next_stays depth old between page i d h)) s in
    let within : Swaps old between more (g (node_at nodes i)) = swaps_within old between first [] more (g (node_at nodes i)) (λ p. copies p (g (node_at nodes i))) d.gone
    (λ p. omega (arith, copies-next g nodes i p h))
    (λ p. omega (arith, copies-nil p))
    (λ p. omega (arith, copies-next g nodes i p h, copies-around g nodes page i p h, d.once p))
    (λ p there. pages_taken (suc depth) old page d.tree p (omega (arith, copies-next g nodes i p h, copies-around g nodes page i p h))) in
    swaps_then old between new more (g (node_at nodes i)) [] within one

-- With its children's pages the page is given back.
all_gone : (depth : ℕ) (old between : Frames) (page i : ℕ) → Discards depth old between page i → take i (page_in old page).nodes ≡ (page_in old page).nodes → Swaps old (set between page None) (pages (suc depth) old page) []
all_gone depth old between page i d all =
    let g = part depth old in
    let nodes = (page_in old page).nodes in
    let children : Swaps old between (flat_map g nodes) [] = subst (λ (ns : List Node). Swaps old between (flat_map g ns) []) all d.gone in
    let within : Swaps old between (page ∷ flat_map g nodes) (page ∷ []) = swaps_within old between (flat_map g nodes) [] (page ∷ flat_map g nodes) (page ∷ []) (λ p. copies p (page ∷ [])) children
    (λ p. copies-cons p page (flat_map g nodes))
    (λ p. omega (arith, copies-nil p))
    d.once
    (λ p there. pages_taken (suc depth) old page d.tree p there) in
    swaps_then old between (set between page None) (page ∷ flat_map g nodes) (page ∷ []) [] within (swaps_give between page (inner_taken depth old between page i d))

pub leaf_gone : (height : ℕ) (old : Frames) (page : ℕ) → height ≡ 0 → IsSubtree height old page → Swaps old (set old page None) (pages height old page) []
leaf_gone height old page none tree =
    subst (λ n. Swaps old (set old page None) (pages n old page) []) (sym none)
    (swaps_give old page (root_taken height old page tree))

pub inner_gone : (height : ℕ) (old between : Frames) (page i : ℕ) → 0 < height → Discards (height - 1) old between page i → length (page_in old page).nodes ≤ i → Swaps old (set between page None) (pages height old page) []
inner_gone height old between page i some d all =
    let here : height ≡ suc (height - 1) = omega (arith, some) in
    subst (λ n. Swaps old (set between page None) (pages n old page) []) (sym here)
    (all_gone (height - 1) old between page i d (take_all i (page_in old page).nodes all))

-- a child that is read from the page while the space changes
pub child_then : (depth : ℕ) (old between : Frames) (page i number : ℕ) (p : PageContents) (bytes : List ℕ) → Discards depth old between page i → page_at between page ≡ Some p → bytes ≡ (node_at p.nodes i).data → number ≡ little_number 4 bytes → child_of (node_at (page_in old page).nodes i) ≡ number
child_then depth old between page i number p bytes d at is read = child_read old page i number p bytes (sym (inner_stays depth old between page i d) ∙ at) is read
