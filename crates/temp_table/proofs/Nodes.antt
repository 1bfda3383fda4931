-- Nodes in rising order: what look-ups find beside the one at a place, and what one more node moves.
use Rattle.std.proofs.Common.{◌≡◌, ℕ, zero, suc, ◌<◌, Bool, true, false, cond, leb, Option, Some, None, List, [], ◌∷◌, length, filter, find, reverse, refl, sym, ap, subst, ◌∙◌, arith}
use Rattle.std.specs.Prelude.{slice_get, if◌then◌else◌, ⊤}
use Rattle.std.specs.List.{AllByRecursion, last_or}
use Rattle.std.specs.Ordering.{is_eq, is_gt, is_lt}
use Rattle.std.specs.declared.cmp.Ordering.{Ordering}
use Rattle.std.specs.declared.cmp.Ordering.TheVariants.{Less, Equal}
use Rattle.std.specs.Cmp.Lexicographic.{nat_list_cmp_total}
use Rattle.std.proofs.Math.Dec.{leb-zero, leb-suc-zero, leb-suc-suc}
use Rattle.common_lemmas.proofs.Booleans.{by_test}
use Rattle.common_lemmas.proofs.Finding.{find_reverse}
use Rattle.common_lemmas.proofs.Lists.{all_weaker, filter_none}
use Rattle.common_lemmas.proofs.Orders.{is_less}
use Rattle.column_set.specs.RecordValues.{bytes_lt}
use Rattle.page_image.specs.Page.{Node, HasRisingKeys, IsBelow, no_node, node_at}
use Rattle.btree_inplace.specs.Changes.{inserted}
use Rattle.btree_inplace.specs.Order.{has_key, is_above, is_under}
use Rattle.temp_table.proofs.Orders.{above_turned, itself, less_not_above, less_not_equal, less_turned, lt_of, not_before, order, turned}

-- each node is below all that follow it
unfoldable pub Rises : List Node → Type 0
Rises [] = ⊤
Rises (n ∷ nodes) = AllByRecursion (λ m. IsBelow n.key m.key) nodes × Rises nodes

each : (P : Node → Type 0) (nodes : List Node) → ((k : ℕ) → k < length nodes → P (node_at nodes k)) → AllByRecursion P nodes
each P [] h = tt
each P (n ∷ nodes) h = (h 0 (omega arith), each P nodes (λ k lt. h (suc k) (omega (arith, lt))))

pub rises : (nodes : List Node) → HasRisingKeys nodes → Rises nodes
unfolding Rises
rises [] h = tt
rises (n ∷ nodes) h = (
  each (λ m. IsBelow n.key m.key) nodes (λ k lt. h 0 (suc k) no_node (omega arith) (omega (arith, lt))),
  rises nodes (λ i k d lt low. h (suc i) (suc k) d (omega (arith, lt)) (omega (arith, low))),
)

pub at_place : (P : Node → Type 0) (nodes : List Node) (at : ℕ) → AllByRecursion P nodes → at < length nodes → P (node_at nodes at)
at_place P [] at all lt = absurd (omega (arith, lt))
at_place P (n ∷ nodes) zero all lt = all.0
at_place P (n ∷ nodes) (suc at) all lt = at_place P nodes at all.1 (omega (arith, lt))

-- the first node is below the one with a key behind it
below : (n : Node) (nodes : List Node) (at : ℕ) (key : List ℕ) → Rises (n ∷ nodes) → at < length nodes → (node_at nodes at).key ≡ key → order n.key key ≡ Less
unfolding Rises
below n nodes at key rising lt e = subst (λ k. order n.key k ≡ Less) e (at_place (λ m. IsBelow n.key m.key) nodes at rising.0 lt)

same_key : (n : Node) (key : List ℕ) → n.key ≡ key → order n.key key ≡ Equal
same_key n key e = subst (λ k. order n.key k ≡ Equal) e (itself n.key)

not_lower : (r : Ordering) → r ≡ Equal → is_lt r ≡ false
not_lower r e = ap is_lt e

-- ---- the node of a key

pub found : (nodes : List Node) (at : ℕ) (key : List ℕ) → Rises nodes → at < length nodes → (node_at nodes at).key ≡ key → find (has_key key) nodes ≡ Some (node_at nodes at)
unfolding Rises
found [] at key rising lt e = absurd (omega (arith, lt))
found (n ∷ nodes) zero key rising lt e = ap (λ b. cond b (Some n) (find (has_key key) nodes)) (ap is_eq (same_key n key e))
found (n ∷ nodes) (suc at) key rising lt e =
    let within : at < length nodes = omega (arith, lt) in
    ap (λ b. cond b (Some n) (find (has_key key) nodes)) (less_not_equal (order n.key key) (below n nodes at key rising within e))
    ∙ found nodes at key rising.1 within e

-- ---- the node behind it

first_above : (nodes : List Node) (key : List ℕ) → AllByRecursion (λ m. IsBelow key m.key) nodes → find (is_above key) nodes ≡ slice_get nodes 0
first_above [] key all = refl
first_above (n ∷ nodes) key all = ap (λ b. cond b (Some n) (find (is_above key) nodes)) (ap is_gt (turned n.key key) ∙ above_turned (order key n.key) all.0)

pub behind : (nodes : List Node) (at : ℕ) (key : List ℕ) → Rises nodes → at < length nodes → (node_at nodes at).key ≡ key → find (is_above key) nodes ≡ slice_get nodes (suc at)
unfolding Rises
behind [] at key rising lt e = absurd (omega (arith, lt))
behind (n ∷ nodes) zero key rising lt e =
    ap (λ b. cond b (Some n) (find (is_above key) nodes)) (ap is_gt (same_key n key e))
    ∙ first_above nodes key (subst (λ k. AllByRecursion (λ m. IsBelow k m.key) nodes) e rising.0)
behind (n ∷ nodes) (suc at) key rising lt e =
    let within : at < length nodes = omega (arith, lt) in
    ap (λ b. cond b (Some n) (find (is_above key) nodes)) (less_not_above (order n.key key) (below n nodes at key rising within e))
    ∙ behind nodes at key rising.1 within e

-- ---- the node before it

-- the node before a place, or else what is given
unfoldable pub before_or : Option Node → List Node → ℕ → Option Node
before_or otherwise nodes zero = otherwise
before_or otherwise nodes (suc at) = Some (node_at nodes at)

before_more : (n : Node) (nodes : List Node) (at : ℕ) → before_or (Some n) nodes at ≡ Some (node_at (n ∷ nodes) at)
unfolding before_or
before_more n nodes zero = refl
before_more n nodes (suc at) = refl

none_under : (nodes : List Node) (key : List ℕ) → AllByRecursion (λ m. IsBelow key m.key) nodes → filter (is_under key) nodes ≡ []
none_under nodes key all =
    filter_none (is_under key) nodes (all_weaker (λ (m : Node). IsBelow key m.key) (λ m. is_under key m ≡ false) (λ m h. ap is_lt (turned m.key key) ∙ less_turned (order key m.key) h) nodes all)

last_under : (otherwise : Option Node) (nodes : List Node) (at : ℕ) (key : List ℕ) → Rises nodes → at < length nodes → (node_at nodes at).key ≡ key → last_or otherwise (filter (is_under key) nodes) ≡ before_or otherwise nodes at
unfolding Rises before_or
last_under otherwise [] at key rising lt e = absurd (omega (arith, lt))
last_under otherwise (n ∷ nodes) zero key rising lt e =
    ap (λ b. last_or otherwise (cond b (n ∷ filter (is_under key) nodes) (filter (is_under key) nodes))) (not_lower (order n.key key) (same_key n key e))
    ∙ ap (last_or otherwise) (none_under nodes key (subst (λ k. AllByRecursion (λ m. IsBelow k m.key) nodes) e rising.0))
last_under otherwise (n ∷ nodes) (suc at) key rising lt e =
    let within : at < length nodes = omega (arith, lt) in
    ap (λ b. last_or otherwise (cond b (n ∷ filter (is_under key) nodes) (filter (is_under key) nodes))) (lt_of (order n.key key) (below n nodes at key rising within e))
    ∙ last_under (Some n) nodes at key rising.1 within e
    ∙ before_more n nodes at

pub in_front : (nodes : List Node) (at : ℕ) (key : List ℕ) → Rises nodes → at < length nodes → (node_at nodes at).key ≡ key → find (is_under key) (reverse nodes) ≡ before_or None nodes at
in_front nodes at key rising lt e = find_reverse (is_under key) nodes ∙ last_under None nodes at key rising lt e

last_of_all : (otherwise : Option Node) (nodes : List Node) → last_or otherwise (filter (λ _. true) nodes) ≡ before_or otherwise nodes (length nodes)
unfolding before_or
last_of_all otherwise [] = refl
last_of_all otherwise (n ∷ nodes) = last_of_all (Some n) nodes ∙ before_more n nodes (length nodes)

pub the_last : (nodes : List Node) → find (λ _. true) (reverse nodes) ≡ before_or None nodes (length nodes)
the_last nodes = find_reverse (λ _. true) nodes ∙ last_of_all None nodes

-- ---- one more node

-- how many nodes stand before a new one with a key
unfoldable pub nodes_before : List ℕ → List Node → ℕ
nodes_before key [] = 0
nodes_before key (n ∷ nodes) = cond (is_lt (order n.key key)) (suc (nodes_before key nodes)) 0

pub length-inserted : (nodes : List Node) (new : Node) → length (inserted nodes new) ≡ suc (length nodes)
length-inserted [] new = refl
length-inserted (n ∷ nodes) new =
    let size : Bool → ℕ = λ b. length (if b then n ∷ inserted nodes new else new ∷ n ∷ nodes) in
    by_test (is_lt (order n.key new.key))
    (λ t. ap size t ∙ ap suc (length-inserted nodes new))
    (λ t. ap size t)

pub all_inserted : (P : Node → Type 0) (nodes : List Node) (new : Node) → AllByRecursion P nodes → P new → AllByRecursion P (inserted nodes new)
all_inserted P [] new all h = (h, tt)
all_inserted P (n ∷ nodes) new all h =
    let Q : Bool → Type 0 = λ b. AllByRecursion P (if b then n ∷ inserted nodes new else new ∷ n ∷ nodes) in
    by_test (is_lt (order n.key new.key))
    (λ t. subst Q (sym t) (all.0, all_inserted P nodes new all.1 h))
    (λ t. subst Q (sym t) (h, all))

-- a place goes up by one where the new node stands before it, and stays on its node
pub record Shifts (nodes : List Node) (new : Node) (at : ℕ) (key : List ℕ) : Type 0 where
  pub test : bytes_lt new.key key ≡ leb (nodes_before new.key nodes) at
  pub here : (node_at (inserted nodes new) (cond (leb (nodes_before new.key nodes) at) (suc at) at)).key ≡ key

later : (n : Node) (more : List Node) (b : Bool) (at : ℕ) → (node_at (n ∷ more) (cond b (suc (suc at)) (suc at))).key ≡ (node_at more (cond b (suc at) at)).key
later n more true at = refl
later n more false at = refl

above_all : (n new : Node) (nodes : List Node) (at : ℕ) (key : List ℕ) → Rises (n ∷ nodes) → at < length (n ∷ nodes) → (node_at (n ∷ nodes) at).key ≡ key → order new.key n.key ≡ Less → order new.key key ≡ Less
unfolding Rises
above_all n new nodes zero key rising lt e h = subst (λ k. order new.key k ≡ Less) e h
above_all n new nodes (suc at) key rising lt e h = nat_list_cmp_total.trans new.key n.key key h (below n nodes at key rising (omega (arith, lt)) e)

pub shifts : (nodes : List Node) (new : Node) (at : ℕ) (key : List ℕ) → Rises nodes → AllByRecursion (λ n. has_key new.key n ≡ false) nodes → at < length nodes → (node_at nodes at).key ≡ key → Shifts nodes new at key
unfolding Rises nodes_before
shifts [] new at key rising other lt e = absurd (omega (arith, lt))
shifts (n ∷ nodes) new zero key rising other lt e =
    let before : Bool → ℕ = λ b. cond b (suc (nodes_before new.key nodes)) 0 in
    let list : Bool → List Node = λ b. if b then n ∷ inserted nodes new else new ∷ n ∷ nodes in
    let P : Bool → Type 0 = λ b. (bytes_lt new.key key ≡ leb (before b) 0) × ((node_at (list b) (cond (leb (before b) 0) 1 0)).key ≡ key) in
    let both : P (is_lt (order n.key new.key)) = by_test (is_lt (order n.key new.key))
    (λ t. subst P (sym t) (
      subst (λ k. bytes_lt new.key k ≡ false) e (ap is_lt (turned new.key n.key) ∙ less_turned (order n.key new.key) (is_less (order n.key new.key) t)) ∙ sym (leb-suc-zero (nodes_before new.key nodes)),
      ap (λ (b : Bool). (node_at (n ∷ inserted nodes new) (cond b 1 0)).key) (leb-suc-zero (nodes_before new.key nodes)) ∙ e,
    ))
    (λ t. subst P (sym t)
    (lt_of (order new.key key) (above_all n new nodes zero key rising lt e (turned new.key n.key ∙ not_before (order n.key new.key) t other.0)), e)) in
    record { test = both.0; here = both.1 }
shifts (n ∷ nodes) new (suc at) key rising other lt e =
    let within : at < length nodes = omega (arith, lt) in
    let rest : Shifts nodes new at key = shifts nodes new at key rising.1 other.1 within e in
    let before : Bool → ℕ = λ b. cond b (suc (nodes_before new.key nodes)) 0 in
    let list : Bool → List Node = λ b. if b then n ∷ inserted nodes new else new ∷ n ∷ nodes in
    let P : Bool → Type 0 = λ b. (bytes_lt new.key key ≡ leb (before b) (suc at)) × ((node_at (list b) (cond (leb (before b) (suc at)) (suc (suc at)) (suc at))).key ≡ key) in
    let both : P (is_lt (order n.key new.key)) = by_test (is_lt (order n.key new.key))
    (λ t. subst P (sym t) (
      rest.test ∙ sym (leb-suc-suc (nodes_before new.key nodes) at),
      ap (λ (b : Bool). (node_at (n ∷ inserted nodes new) (cond b (suc (suc at)) (suc at))).key) (leb-suc-suc (nodes_before new.key nodes) at)
          ∙ later n (inserted nodes new) (leb (nodes_before new.key nodes) at) at ∙ rest.here,
    ))
    (λ t. subst P (sym t) (
      lt_of (order new.key key) (above_all n new nodes (suc at) key rising lt e (turned new.key n.key ∙ not_before (order n.key new.key) t other.0)) ∙ sym (leb-zero (suc at)),
      ap (λ (b : Bool). (node_at (new ∷ n ∷ nodes) (cond b (suc (suc at)) (suc at))).key) (leb-zero (suc at)) ∙ e,
    )) in
    record { test = both.0; here = both.1 }

-- ---- a key that no node has

some_none : (n : Node) → Some n ≡ None → ⊥
some_none n e = cc

pub none_has : (nodes : List Node) (key : List ℕ) → find (has_key key) nodes ≡ None → AllByRecursion (λ n. has_key key n ≡ false) nodes
none_has [] key e = tt
none_has (n ∷ nodes) key e = by_test (has_key key n)
    (λ t. absurd (some_none n (sym (ap (λ b. cond b (Some n) (find (has_key key) nodes)) t) ∙ e)))
    (λ t. (t, none_has nodes key (sym (ap (λ b. cond b (Some n) (find (has_key key) nodes)) t) ∙ e)))
