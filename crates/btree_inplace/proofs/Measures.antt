-- How many pages and nodes there are below the first children of a page.
use Rattle.std.proofs.Common.{◌≡◌, ℕ, zero, suc, ◌+◌, ◌<◌, ◌≤◌, List, [], ◌∷◌, length, take, sym, ap, subst, ◌∙◌, arith}
use Rattle.std.specs.List.{flat_map}
use Rattle.std.proofs.lemmas.List.{length-append, take_all}
use Rattle.page_image.specs.Page.{Node, node_at}
use Rattle.page_space.specs.Frames.{Frames}
use Rattle.btree_inplace.specs.Shape.{child_of, entries, page_in, pages}

-- what stands below a child
abbrev pub pages_under : ℕ → Frames → Node → List ℕ
pages_under depth frames n = pages depth frames (child_of n)

abbrev pub entries_under : ℕ → Frames → Node → List Node
entries_under depth frames n = entries depth frames (child_of n)

next_part : {X : Type 0} (g : Node → List X) (nodes : List Node) (i : ℕ) → i < length nodes → length (flat_map g (take (suc i) nodes)) ≡ length (flat_map g (take i nodes)) + length (g (node_at nodes i))
next_part g [] i h = absurd (omega arith)
next_part g (x ∷ xs) zero h = omega (arith, length-append (g x) [])
next_part g (x ∷ xs) (suc i) h =
    omega (arith, next_part g xs i (omega arith), length-append (g x) (flat_map g (take (suc i) xs)), length-append (g x) (flat_map g (take i xs)))

first_parts : {X : Type 0} (g : Node → List X) (nodes : List Node) (i : ℕ) → length (flat_map g (take i nodes)) ≤ length (flat_map g nodes)
first_parts g nodes zero = omega arith
first_parts g [] (suc i) = omega arith
first_parts g (x ∷ xs) (suc i) = omega (arith, first_parts g xs i, length-append (g x) (flat_map g (take i xs)), length-append (g x) (flat_map g xs))

-- one child more
pub pages_next : (depth : ℕ) (frames : Frames) (page i below : ℕ) → i < length (page_in frames page).nodes → child_of (node_at (page_in frames page).nodes i) ≡ below → length (flat_map (pages_under depth frames) (take (suc i) (page_in frames page).nodes)) ≡ length (flat_map (pages_under depth frames) (take i (page_in frames page).nodes)) + length (pages depth frames below)
pages_next depth frames page i below h is =
    next_part (pages_under depth frames) (page_in frames page).nodes i h
    ∙ ap (λ (q : ℕ). length (flat_map (pages_under depth frames) (take i (page_in frames page).nodes)) + length (pages depth frames q)) is

pub entries_next : (depth : ℕ) (frames : Frames) (page i below : ℕ) → i < length (page_in frames page).nodes → child_of (node_at (page_in frames page).nodes i) ≡ below → length (flat_map (entries_under depth frames) (take (suc i) (page_in frames page).nodes)) ≡ length (flat_map (entries_under depth frames) (take i (page_in frames page).nodes)) + length (entries depth frames below)
entries_next depth frames page i below h is =
    next_part (entries_under depth frames) (page_in frames page).nodes i h
    ∙ ap (λ (q : ℕ). length (flat_map (entries_under depth frames) (take i (page_in frames page).nodes)) + length (entries depth frames q)) is

-- The parts are within the whole.
pub pages_first : (height depth : ℕ) (frames : Frames) (page i : ℕ) → height ≡ suc depth → length (flat_map (pages_under depth frames) (take i (page_in frames page).nodes)) + 1 ≤ length (pages height frames page)
pages_first height depth frames page i here =
    subst (λ (n : ℕ). length (flat_map (pages_under depth frames) (take i (page_in frames page).nodes)) + 1 ≤ length (pages n frames page)) (sym here)
    (omega (arith, first_parts (pages_under depth frames) (page_in frames page).nodes i))

pub entries_first : (height depth : ℕ) (frames : Frames) (page i : ℕ) → height ≡ suc depth → length (flat_map (entries_under depth frames) (take i (page_in frames page).nodes)) ≤ length (entries height frames page)
entries_first height depth frames page i here =
    subst (λ (n : ℕ). length (flat_map (entries_under depth frames) (take i (page_in frames page).nodes)) ≤ length (entries n frames page)) (sym here)
    (first_parts (entries_under depth frames) (page_in frames page).nodes i)

-- With the last child all are counted.
pub pages_all : (height depth : ℕ) (frames : Frames) (page i : ℕ) → height ≡ suc depth → length (page_in frames page).nodes ≤ i → length (flat_map (pages_under depth frames) (take i (page_in frames page).nodes)) + 1 ≡ length (pages height frames page)
pages_all height depth frames page i here all =
    subst (λ (n : ℕ). length (flat_map (pages_under depth frames) (take i (page_in frames page).nodes)) + 1 ≡ length (pages n frames page)) (sym here)
    (omega (arith, ap (λ (ns : List Node). length (flat_map (pages_under depth frames) ns)) (take_all i (page_in frames page).nodes all)))

pub entries_all : (height depth : ℕ) (frames : Frames) (page i : ℕ) → height ≡ suc depth → length (page_in frames page).nodes ≤ i → length (flat_map (entries_under depth frames) (take i (page_in frames page).nodes)) ≡ length (entries height frames page)
entries_all height depth frames page i here all =
    ap (λ (ns : List Node). length (flat_map (entries_under depth frames) ns)) (take_all i (page_in frames page).nodes all)
    ∙ ap (λ (n : ℕ). length (entries n frames page)) (sym here)

pub leaf_pages : (height : ℕ) (frames : Frames) (page : ℕ) → height ≡ 0 → 1 ≡ length (pages height frames page)
leaf_pages height frames page none = ap (λ (n : ℕ). length (pages n frames page)) (sym none)

pub leaf_entries : (height : ℕ) (frames : Frames) (page : ℕ) → height ≡ 0 → length (page_in frames page).nodes ≡ length (entries height frames page)
leaf_entries height frames page none = ap (λ (n : ℕ). length (entries n frames page)) (sym none)
