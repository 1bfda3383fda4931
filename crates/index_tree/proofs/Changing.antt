-- Entries that come and go, and their nodes.
use Rattle.std.proofs.Common.{◌≡◌, Bool, true, false, not, List, [], ◌∷◌, ◌++◌, map, filter, find, Option, Some, None, option_map, refl, sym, ap, subst, ◌∙◌, true≢false}
use Rattle.std.specs.Prelude.{All, AllPairs, IsSome, if◌then◌else◌, is_some}
use Rattle.std.specs.List.{list_all, list_any}
use Rattle.std.specs.Cmp.{IsTotalOrder, then_total, on_total}
use Rattle.std.proofs.lemmas.List.Elements.{All-cons, All-filter, All-head, All-tail, All-weaker}
use Rattle.std.proofs.lemmas.List.Kept.{AllPairs-cons, AllPairs-filter}
use Rattle.std.specs.declared.cmp.Ordering.{Ordering}
use Rattle.std.specs.declared.cmp.Ordering.TheVariants.{Less, Equal, Greater}
use Rattle.std.specs.Ordering.{nat_cmp, is_eq, is_lt, is_le, ordering_then, ordering_reverse, on, then_cmp}
use Rattle.std.specs.Cmp.Lexicographic.{slice_cmp, nat_list_cmp_total}
use Rattle.std.proofs.lemmas.Bool.{and_from}
use Rattle.common_lemmas.proofs.Booleans.{and_left, and_right, by_test}
use Rattle.common_lemmas.proofs.Orders.{is_less}
use Rattle.common_lemmas.proofs.Finding.{find_map}
use Rattle.page_image.specs.Page.{Node}
use Rattle.btree_inplace.specs.Changes.{inserted, inserted_if_absent, without_key}
use Rattle.btree_inplace.specs.Order.{has_key}
use Rattle.index_derive.specs.Entries.{entry_le, insert_entry}
use Rattle.cursor_nav.specs.Places.{Pair, are_sorted, pair_lt}
use Rattle.laws_versions.specs.KeptEntries.{has_entry, without_entry}
use Rattle.index_tree.specs.Entries.{AreApart, IsApart, IsApartFromAll, IsShort, insert_entry_if_absent, node_of_entry}
use Rattle.index_tree.proofs.Bytes.{apart_turned, order, turned}
use Rattle.index_tree.proofs.PairOrder.{is_same, order_of_entries, pair_lower, pair_same, then_turned}
use Rattle.index_tree.proofs.Lists.{all_from, filter_alike, find_alike, found_all, none_from_any, pairs_head, pairs_tail, to_all}
use Rattle.index_tree.proofs.NodeEntries.{same_pair}
use Rattle.index_tree.proofs.Cutting.{found_apart}

-- ---- how an entry lies to another

by_key : Pair → Pair → Ordering
by_key a b = ordering_then (order a.0 b.0) (order a.1 b.1)

key_turned : (a b : Pair) → by_key a b ≡ ordering_reverse (by_key b a)
unfolding by_key
key_turned a b = (λ i. ordering_then (turned a.0 b.0 i) (turned a.1 b.1 i)) ∙ sym (then_turned (order b.0 a.0) (order b.1 a.1))

pair_cmp : Pair → Pair → Ordering
pair_cmp = then_cmp (on (λ p. p.0) (slice_cmp nat_cmp)) (on (λ p. p.1) (slice_cmp nat_cmp))

pair_total : IsTotalOrder pair_cmp
unfolding pair_cmp
pair_total = then_total (on_total (λ p. p.0) nat_list_cmp_total) (on_total (λ p. p.1) nat_list_cmp_total)

pairs_rise : (a b c : Pair) → pair_lt a b ≡ true → pair_lt b c ≡ true → pair_lt a c ≡ true
unfolding pair_cmp
pairs_rise a b c h k =
    pair_lower a c
    ∙ ap is_lt (pair_total.trans a b c (is_less (pair_cmp a b) (sym (pair_lower a b) ∙ h)) (is_less (pair_cmp b c) (sym (pair_lower b c) ∙ k)))

le_lower : (r : Ordering) → is_le r ≡ true → is_eq r ≡ false → is_lt r ≡ true
le_lower Less h k = refl
le_lower Equal h k = absurd (true≢false k)
le_lower Greater h k = absurd (true≢false (sym h))

gt_turned : (r : Ordering) → is_le r ≡ false → is_lt (ordering_reverse r) ≡ true
gt_turned Less h = absurd (true≢false h)
gt_turned Equal h = absurd (true≢false h)
gt_turned Greater h = refl

eq_turned : (r : Ordering) → is_eq (ordering_reverse r) ≡ is_eq r
eq_turned Less = refl
eq_turned Equal = refl
eq_turned Greater = refl

-- an entry not above another one is below it
lower_not_same : (e x : Pair) → entry_le e x ≡ true → is_same e x ≡ false → pair_lt e x ≡ true
unfolding by_key
lower_not_same e x h k = pair_lower e x ∙ le_lower (by_key e x) h (ap is_eq (key_turned e x) ∙ eq_turned (by_key x e) ∙ sym (pair_same e x) ∙ k)

lower_turned : (e x : Pair) → entry_le e x ≡ false → pair_lt x e ≡ true
unfolding by_key
lower_turned e x h = pair_lower x e ∙ ap is_lt (key_turned x e) ∙ gt_turned (by_key e x) h

lt_not : (r : Ordering) → is_lt (ordering_reverse r) ≡ not (is_le r)
lt_not Less = refl
lt_not Equal = refl
lt_not Greater = refl

node_lower : (e x : Pair) → IsApart e.0 x.0 → is_lt (order (x.0 ++ x.1) (e.0 ++ e.1)) ≡ not (entry_le e x)
unfolding by_key
node_lower e x h =
    ap is_lt (order_of_entries x e (apart_turned e.0 x.0 h) ∙ key_turned x e) ∙ lt_not (by_key e x)

node_same : (e x : Pair) → IsApart e.0 x.0 → is_eq (order (x.0 ++ x.1) (e.0 ++ e.1)) ≡ is_same e x
unfolding by_key
node_same e x h =
    ap is_eq (order_of_entries x e (apart_turned e.0 x.0 h)) ∙ sym (pair_same e x)

-- ---- one more

pub inserted_nodes : (es : List Pair) (e : Pair) → IsApartFromAll e.0 es → inserted (map node_of_entry es) (node_of_entry e) ≡ map node_of_entry (insert_entry e es)
inserted_nodes [] e h = refl
inserted_nodes (x ∷ es) e h =
    let P : Pair → Type 0 = λ (y : Pair). IsApart e.0 y.0 in
    let lower : is_lt (order (x.0 ++ x.1) (e.0 ++ e.1)) ≡ not (entry_le e x) = node_lower e x (All-head P x es h) in
    let rest : inserted (map node_of_entry es) (node_of_entry e) ≡ map node_of_entry (insert_entry e es) = inserted_nodes es e (All-tail P x es h) in
    by_test (entry_le e x)
    (λ t.
    let low : is_lt (order (x.0 ++ x.1) (e.0 ++ e.1)) ≡ false = lower ∙ ap not t in
    rw (low, t) refl)
    (λ t.
    let high : is_lt (order (x.0 ++ x.1) (e.0 ++ e.1)) ≡ true = lower ∙ ap not t in
    rw (high, t) (ap (λ ns. node_of_entry x ∷ ns) rest))

pub insert_all : (P : Pair → Type 0) (e : Pair) (es : List Pair) → P e → All P es → All P (insert_entry e es)
insert_all P e [] h k = All-cons P e [] h k
insert_all P e (x ∷ es) h k =
    by_test (entry_le e x)
    (λ t. let whole : All P (e ∷ x ∷ es) = All-cons P e (x ∷ es) h k in rw t whole)
    (λ t. let whole : All P (x ∷ insert_entry e es) = All-cons P x (insert_entry e es) (All-head P x es k) (insert_all P e es h (All-tail P x es k)) in rw t whole)

pub insert_short : (e : Pair) (es : List Pair) → IsShort e → All IsShort es → All IsShort (insert_entry e es)
insert_short = insert_all IsShort

Apart : Pair → Pair → Type 0
Apart one other = IsApart one.0 other.0

pub insert_apart : (e : Pair) (es : List Pair) → IsApartFromAll e.0 es → AreApart es → AreApart (insert_entry e es)
unfolding Apart
insert_apart e [] h k = AllPairs-cons Apart e [] h k
insert_apart e (x ∷ es) h k =
    by_test (entry_le e x)
    (λ t. let whole : AllPairs Apart (e ∷ x ∷ es) = AllPairs-cons Apart e (x ∷ es) h k in rw t whole)
    (λ t.
    let first : All (Apart x) (insert_entry e es) =
    insert_all (Apart x) e es (apart_turned e.0 x.0 (All-head (λ (y : Pair). IsApart e.0 y.0) x es h)) (pairs_head Apart x es k) in
    let whole : AllPairs Apart (x ∷ insert_entry e es) =
    AllPairs-cons Apart x (insert_entry e es) first (insert_apart e es (All-tail (λ (y : Pair). IsApart e.0 y.0) x es h) (pairs_tail Apart x es k)) in
    rw t whole)

lower_all : (e x : Pair) (es : List Pair) → pair_lt e x ≡ true → list_all (pair_lt x) es ≡ true → list_all (pair_lt e) es ≡ true
lower_all e x es h k =
    to_all (pair_lt e) es (All-weaker (λ y. pair_lt x y ≡ true) (λ y. pair_lt e y ≡ true) (λ y l. pairs_rise e x y h l) es (all_from (pair_lt x) es k))

pub insert_sorted : (e : Pair) (es : List Pair) → has_entry e.0 e.1 es ≡ false → are_sorted es ≡ true → are_sorted (insert_entry e es) ≡ true
insert_sorted e [] n h = refl
insert_sorted e (x ∷ es) n h =
    let none = none_from_any (is_same e) (x ∷ es) n in
    let other : is_same e x ≡ false = All-head (λ y. is_same e y ≡ false) x es none in
    let rest : has_entry e.0 e.1 es ≡ false = rw other at n in
    let above : list_all (pair_lt x) es ≡ true = and_left (list_all (pair_lt x) es) (are_sorted es) h in
    let sorted : are_sorted es ≡ true = and_right (list_all (pair_lt x) es) (are_sorted es) h in
    by_test (entry_le e x)
    (λ t.
    let low : pair_lt e x ≡ true = lower_not_same e x t other in
    let whole : are_sorted (e ∷ x ∷ es) ≡ true =
    and_from (list_all (pair_lt e) (x ∷ es)) (are_sorted (x ∷ es)) (and_from (pair_lt e x) (list_all (pair_lt e) es) low (lower_all e x es low above)) h in
    rw t whole)
    (λ t.
    let whole : are_sorted (x ∷ insert_entry e es) ≡ true =
    and_from (list_all (pair_lt x) (insert_entry e es)) (are_sorted (insert_entry e es))
    (to_all (pair_lt x) (insert_entry e es) (insert_all (λ y. pair_lt x y ≡ true) e es (lower_turned e x t) (all_from (pair_lt x) es above)))
    (insert_sorted e es rest sorted) in
    rw t whole)

find_none : (p : Pair → Bool) (es : List Pair) → list_any p es ≡ false → find p es ≡ None
find_none p [] h = refl
find_none p (x ∷ es) h =
    by_test (p x)
    (λ t. absurd (true≢false (rw t at h)))
    (λ t. rw t (find_none p es (rw t at h)))

alike : (e : Pair) (es : List Pair) → IsApartFromAll e.0 es → All (λ x. has_key (e.0 ++ e.1) (node_of_entry x) ≡ is_same e x) es
alike e es h = All-weaker (λ (x : Pair). IsApart e.0 x.0) (λ x. has_key (e.0 ++ e.1) (node_of_entry x) ≡ is_same e x) (node_same e) es h

pub absent_node : (nodes : List Node) (es : List Pair) (e : Pair) → nodes ≡ map node_of_entry es → IsApartFromAll e.0 es → has_entry e.0 e.1 es ≡ false → find (has_key (e.0 ++ e.1)) nodes ≡ None
absent_node nodes es e same apart h =
    ap (find (has_key (e.0 ++ e.1))) same
    ∙ find_map node_of_entry (has_key (e.0 ++ e.1)) es
    ∙ ap (option_map node_of_entry) (find_alike (λ x. has_key (e.0 ++ e.1) (node_of_entry x)) (is_same e) es (alike e es apart) ∙ find_none (is_same e) es h)

some_mapped : (o : Option Pair) → is_some (option_map node_of_entry o) ≡ is_some o
some_mapped None = refl
some_mapped (Some e) = refl

some_any : (p : Pair → Bool) (es : List Pair) → is_some (find p es) ≡ list_any p es
some_any p [] = refl
some_any p (x ∷ es) = by_test (p x) (λ t. rw t refl) (λ t. rw t (some_any p es))

-- an entry is there where its node is
pub some_there : (nodes : List Node) (es : List Pair) (e : Pair) → nodes ≡ map node_of_entry es → IsApartFromAll e.0 es → is_some (find (has_key (e.0 ++ e.1)) nodes) ≡ has_entry e.0 e.1 es
some_there nodes es e same apart =
    ap (λ ns. is_some (find (has_key (e.0 ++ e.1)) ns)) same
    ∙ ap is_some (find_map node_of_entry (has_key (e.0 ++ e.1)) es
    ∙ ap (option_map node_of_entry) (find_alike (λ x. has_key (e.0 ++ e.1) (node_of_entry x)) (is_same e) es (alike e es apart)))
    ∙ some_mapped (find (is_same e) es) ∙ some_any (is_same e) es

pub nodes_if_absent : (nodes : List Node) (es : List Pair) (e : Pair) → nodes ≡ map node_of_entry es → IsApartFromAll e.0 es → inserted_if_absent nodes (node_of_entry e) ≡ map node_of_entry (insert_entry_if_absent e es)
nodes_if_absent nodes es e same apart =
    let there = some_there nodes es e same apart in
    let put : Bool → List Node = λ b. if b then nodes else inserted nodes (node_of_entry e) in
    let kept : Bool → List Node = λ b. map node_of_entry (if b then es else insert_entry e es) in
    by_test (has_entry e.0 e.1 es)
    (λ t. ap put (there ∙ t) ∙ same ∙ ap kept (sym t))
    (λ t. ap put (there ∙ t) ∙ ap (λ ns. inserted ns (node_of_entry e)) same ∙ inserted_nodes es e apart ∙ ap kept (sym t))

-- what the entries of an index are, they are with one more
pub record AreInOrder (es : List Pair) : Type 0 where
  pub sorted : are_sorted es ≡ true
  pub short : All IsShort es
  pub apart : AreApart es

pub in_order_if_absent : (e : Pair) (es : List Pair) → IsShort e → IsApartFromAll e.0 es → AreInOrder es → AreInOrder (insert_entry_if_absent e es)
in_order_if_absent e es short apart is =
    let P : Bool → Type 0 = λ b. AreInOrder (if b then es else insert_entry e es) in
    by_test (has_entry e.0 e.1 es)
    (λ t. subst P (sym t) is)
    (λ t. subst P (sym t) (record {
      sorted = insert_sorted e es t is.sorted;
      short = insert_short e es short is.short;
      apart = insert_apart e es apart is.apart;
    }))

-- ---- one less

found_any : (p : Pair → Bool) (es : List Pair) → list_any p es ≡ true → (f : Pair) × (Some f ≡ find p es) × (p f ≡ true)
found_any p [] h = absurd (true≢false (sym h))
found_any p (x ∷ es) h =
    by_test (p x)
    (λ t. (x, rw t refl, t))
    (λ t. let rest = found_any p es (rw t at h) in (rest.0, rw t rest.1, rest.2))

-- an entry that is there is apart from all, and short
pub there_apart : (e : Pair) (es : List Pair) → has_entry e.0 e.1 es ≡ true → AreApart es → IsApartFromAll e.0 es
there_apart e es h apart =
    let f = found_any (is_same e) es h in
    subst (λ k. IsApartFromAll k es) (same_pair e.0 e.1 f.0 f.2).0 (found_apart (is_same e) es f.0 f.1 apart)

pub there_short : (e : Pair) (es : List Pair) → has_entry e.0 e.1 es ≡ true → All IsShort es → IsShort e
there_short e es h short =
    let f = found_any (is_same e) es h in
    let both = same_pair e.0 e.1 f.0 f.2 in
    let k : IsShort f.0 = found_all IsShort (is_same e) es f.0 f.1 short in
    subst (λ (x : Pair). IsShort x) (λ i. (both.0 i, both.1 i)) k

pub there_node : (nodes : List Node) (es : List Pair) (e : Pair) → nodes ≡ map node_of_entry es → AreApart es → has_entry e.0 e.1 es ≡ true → IsSome (find (has_key (e.0 ++ e.1)) nodes)
there_node nodes es e same apart h =
    let f = found_any (is_same e) es h in
    let is : find (has_key (e.0 ++ e.1)) nodes ≡ Some (node_of_entry f.0) =
    ap (find (has_key (e.0 ++ e.1))) same
    ∙ find_map node_of_entry (has_key (e.0 ++ e.1)) es
    ∙ ap (option_map node_of_entry) (find_alike (λ x. has_key (e.0 ++ e.1) (node_of_entry x)) (is_same e) es (alike e es (there_apart e es h apart)) ∙ sym f.1) in
    subst (λ (o : Option Node). IsSome o) (sym is) refl

filter_map : (p : Node → Bool) (es : List Pair) → filter p (map node_of_entry es) ≡ map node_of_entry (filter (λ x. p (node_of_entry x)) es)
filter_map p [] = refl
filter_map p (x ∷ es) = by_test (p (node_of_entry x)) (λ t. rw t (ap (λ ns. node_of_entry x ∷ ns) (filter_map p es))) (λ t. rw t (filter_map p es))

pub removed_nodes : (nodes : List Node) (es : List Pair) (e : Pair) → nodes ≡ map node_of_entry es → IsApartFromAll e.0 es → without_key nodes (e.0 ++ e.1) ≡ map node_of_entry (without_entry e.0 e.1 es)
removed_nodes nodes es e same apart =
    ap (λ ns. without_key ns (e.0 ++ e.1)) same
    ∙ filter_map (λ n. not (has_key (e.0 ++ e.1) n)) es
    ∙ ap (map node_of_entry) (filter_alike (λ x. not (has_key (e.0 ++ e.1) (node_of_entry x))) (λ x. not (is_same e x)) es
    (All-weaker (λ x. has_key (e.0 ++ e.1) (node_of_entry x) ≡ is_same e x) (λ x. not (has_key (e.0 ++ e.1) (node_of_entry x)) ≡ not (is_same e x)) (λ x k. ap not k) es (alike e es apart)))

pub without_short : (e : Pair) (es : List Pair) → All IsShort es → All IsShort (without_entry e.0 e.1 es)
without_short e es h = All-filter (λ x. not (is_same e x)) IsShort es h

pub without_apart : (e : Pair) (es : List Pair) → AreApart es → AreApart (without_entry e.0 e.1 es)
unfolding Apart
without_apart e es h = AllPairs-filter Apart (λ x. not (is_same e x)) es h

filter_sorted : (p : Pair → Bool) (es : List Pair) → are_sorted es ≡ true → are_sorted (filter p es) ≡ true
filter_sorted p [] h = refl
filter_sorted p (x ∷ es) h =
    let above : list_all (pair_lt x) es ≡ true = and_left (list_all (pair_lt x) es) (are_sorted es) h in
    let rest : are_sorted (filter p es) ≡ true = filter_sorted p es (and_right (list_all (pair_lt x) es) (are_sorted es) h) in
    by_test (p x)
    (λ t.
    let whole : are_sorted (x ∷ filter p es) ≡ true =
    and_from (list_all (pair_lt x) (filter p es)) (are_sorted (filter p es))
    (to_all (pair_lt x) (filter p es) (All-filter p (λ y. pair_lt x y ≡ true) es (all_from (pair_lt x) es above))) rest in
    rw t whole)
    (λ t. rw t rest)

pub without_sorted : (e : Pair) (es : List Pair) → are_sorted es ≡ true → are_sorted (without_entry e.0 e.1 es) ≡ true
without_sorted e es h = filter_sorted (λ x. not (is_same e x)) es h
