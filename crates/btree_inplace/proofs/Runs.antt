-- The nodes of a leaf are a run of the nodes of its tree, which rise.
use Rattle.std.proofs.Common.{◌≡◌, ℕ, zero, suc, ◌+◌, ◌-◌, ◌<◌, inl, inr, Some, List, [], ◌∷◌, ◌++◌, length, take, drop, get_or, sym, ap, subst, ◌∙◌, arith}
use Rattle.std.specs.Prelude.{All}
use Rattle.std.specs.List.{flat_map}
use Rattle.std.proofs.lemmas.Bool.{cases_eq}
use Rattle.std.proofs.lemmas.Cmp.{nat_list_cmp_total}
use Rattle.std.proofs.lemmas.List.{append-nil, append_assoc, get_or-append-add, get_or_append_left, get_or_default, length-append}
use Rattle.std.proofs.lemmas.List.Elements.{All-append}
use Rattle.std.proofs.lemmas.List.Kept.{AllPairs-cons}
use Rattle.page_image.specs.Page.{Node, no_node, node_at, IsBelow, HasRisingKeys}
use Rattle.page_space.specs.Frames.{Frames}
use Rattle.btree_inplace.specs.Neighbors.{HasNodeAt}
use Rattle.btree_inplace.specs.Shape.{IsBetween, IsSubtree, child_of, entries, page_in}
use Rattle.btree_inplace.proofs.Before.{under_found}
use Rattle.btree_inplace.proofs.Below.{All-flat_map, IsBelow-upto, above_found, flat_map-around, found_at}

-- these nodes stand one behind the other among all
abbrev pub IsRun : List Node → List Node → Type 0
IsRun part all = (a : List Node) × (b : List Node) × (all ≡ a ++ (part ++ b))

pub run_itself : (nodes : List Node) → IsRun nodes nodes
run_itself nodes = ([], [], sym (append-nil nodes))

-- the nodes below a child are a run of those below its parent
pub run_child : (depth : ℕ) (frames : Frames) (page i : ℕ) (all : List Node) → i < length (page_in frames page).nodes → IsRun (entries (suc depth) frames page) all → IsRun (entries depth frames (child_of (node_at (page_in frames page).nodes i))) all
run_child depth frames page i all h run =
    let nodes = (page_in frames page).nodes in
    let f : Node → List Node = λ n. entries depth frames (child_of n) in
    let a = run.0 in
    let b = run.1 in
    let x = flat_map f (take i nodes) in
    let y = flat_map f (drop (i + 1) nodes) in
    let part = f (node_at nodes i) in (
      a ++ x,
      y ++ b,
      run.2 ∙ ap (λ (l : List Node). a ++ (l ++ b)) (flat_map-around f nodes i no_node h)
          ∙ ap (λ (l : List Node). a ++ l) (append_assoc x (part ++ y) b ∙ ap (λ (l : List Node). x ++ l) (append_assoc part y b))
          ∙ sym (append_assoc a x (part ++ (y ++ b))),
    )

rising_append : (a b : List Node) → HasRisingKeys a → HasRisingKeys b → ((k : ℕ) (d : Node) → k < length a → All (λ e. IsBelow (get_or a k d).key e.key) b) → HasRisingKeys (a ++ b)
rising_append [] b ra rb apart = rb
rising_append (x ∷ a) b ra rb apart =
    AllPairs-cons (λ p q. IsBelow p.key q.key) x (a ++ b)
    (All-append (λ e. IsBelow x.key e.key) a b (λ k d h. ra 0 (suc k) d (omega arith) (omega arith)) (apart 0 x (omega arith)))
    (rising_append a b (λ i j d lt h. ra (suc i) (suc j) d (omega arith) (omega arith)) rb (λ k d h. apart (suc k) d (omega arith)))

-- a node below the first child is below each node of a later one
first_below : (n : Node) (nodes : List Node) (e : Node) (k : ℕ) (below : List Node) → HasRisingKeys (n ∷ nodes) → k < length nodes → IsBelow e.key (node_at nodes 0).key → IsBetween (n ∷ nodes) (suc k) below → All (λ b. IsBelow e.key b.key) below
first_below n nodes e k below rising h low between j d lt =
    let far : IsBelow e.key (node_at nodes k).key = elim (cases_eq 0 k) [
      | inl at ↦ subst (λ i. IsBelow e.key (node_at nodes i).key) at low
      | inr other ↦ nat_list_cmp_total.trans e.key (node_at nodes 0).key (node_at nodes k).key low (rising 1 (suc k) no_node (omega arith) (omega arith))
    ] in
    IsBelow-upto e.key (node_at nodes k).key (get_or below j d).key far (between.lower j d lt)

-- the nodes below an inner page rise where those of each child do
rising_parts : (f : Node → List Node) (nodes : List Node) → HasRisingKeys nodes → ((k : ℕ) → k < length nodes → HasRisingKeys (f (node_at nodes k))) → ((k : ℕ) → k < length nodes → IsBetween nodes k (f (node_at nodes k))) → HasRisingKeys (flat_map f nodes)
rising_parts f [] rising parts between = λ i j d lt h. absurd (omega arith)
rising_parts f (n ∷ nodes) rising parts between =
    rising_append (f n) (flat_map f nodes) (parts 0 (omega arith))
    (rising_parts f nodes (λ i j d lt h. rising (suc i) (suc j) d (omega arith) (omega arith)) (λ k h. parts (suc k) (omega arith))
    (λ k h.
    let b = between (suc k) (omega arith) in
    let place : suc k + 1 ≡ suc (k + 1) = omega arith in
    record {
      some = b.some;
      lower = b.lower;
      upper = λ more. subst (λ j. All (λ e. IsBelow e.key (node_at (n ∷ nodes) j).key) (f (node_at nodes k))) place (b.upper (omega arith));
    }))
    (λ i d h. All-flat_map (λ b. IsBelow (get_or (f n) i d).key b.key) f nodes
    (λ k e lt.
    let same = get_or_default nodes k e no_node lt in
    subst (λ (m : Node). All (λ b. IsBelow (get_or (f n) i d).key b.key) (f m)) (sym same)
    (first_below n nodes (get_or (f n) i d) k (f (node_at nodes k)) rising lt ((between 0 (omega arith)).upper (omega arith) i d h) (between (suc k) (omega arith)))))

pub rising_below : (depth : ℕ) (frames : Frames) (page : ℕ) → IsSubtree depth frames page → HasRisingKeys (entries depth frames page)
rising_below zero frames page tree = tree.page.rising
rising_below (suc depth) frames page tree =
    let nodes = (page_in frames page).nodes in
    rising_parts (λ n. entries depth frames (child_of n)) nodes tree.0.page.rising (λ k h. rising_below depth frames (child_of (node_at nodes k)) (tree.2 k h)) tree.3

-- A run of rising nodes that has the node with a key has it for all of them, with its neighbors.
pub run_has : (part all : List Node) (key : List ℕ) (i : ℕ) → HasRisingKeys all → IsRun part all → i < length part → (node_at part i).key ≡ key → HasNodeAt all key part i
run_has part all key i rising run h here =
    let a = run.0 in
    let b = run.1 in
    let count = length a in
    let at : (k : ℕ) → k < length part → node_at all (count + k) ≡ node_at part k = λ k lt. ap (λ (l : List Node). node_at l (count + k)) run.2 ∙ get_or-append-add a (part ++ b) k no_node ∙ get_or_append_left part b no_node k lt in
    let long : length all ≡ count + (length part + length b) = ap (λ (l : List Node). length l) run.2 ∙ length-append a (part ++ b) ∙ ap (λ n. count + n) (length-append part b) in
    let own : (node_at all (count + i)).key ≡ key = ap (λ (n : Node). n.key) (at i h) ∙ here in
    record {
      within = h;
      found = found_at all key (count + i) rising (omega (arith, long)) own ∙ ap Some (at i h);
      after = λ more.
          let next : count + i + 1 ≡ count + (i + 1) = omega arith in
          above_found all key (count + i) rising (omega (arith, long)) own ∙ ap (λ k. Some (node_at all k)) next ∙ ap Some (at (i + 1) more);
      before = λ some.
          let previous : count + i - 1 ≡ count + (i - 1) = omega arith in
          under_found all key (count + i) rising (omega (arith, long)) (omega arith) own ∙ ap (λ k. Some (node_at all k)) previous ∙ ap Some (at (i - 1) (omega arith));
    }
