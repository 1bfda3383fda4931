-- The last node up to a key, found from the right.
use Rattle.std.proofs.Common.{◌≡◌, ℕ, suc, ◌+◌, ◌-◌, ◌<◌, ◌≤◌, inl, inr, Bool, true, false, Option, Some, None, List, [], ◌∷◌, ◌++◌, length, take, drop, get_or, refl, sym, ap, subst, ◌∙◌, arith, cond}
use Rattle.std.specs.Prelude.{find, reverse, All, SomeIff}
use Rattle.std.specs.List.{flat_map}
use Rattle.std.specs.Option.{option_or}
use Rattle.std.specs.Ordering.{nat_cmp, ordering_reverse, is_le, is_lt}
use Rattle.std.specs.declared.cmp.Ordering.{Ordering}
use Rattle.std.specs.declared.cmp.Ordering.TheVariants.{Less, Equal, Greater}
use Rattle.std.specs.Cmp.Lexicographic.{slice_cmp}
use Rattle.std.proofs.lemmas.Bool.{cases_eq}
use Rattle.std.proofs.lemmas.Cmp.{nat_list_cmp_total}
use Rattle.std.proofs.lemmas.List.{take-append-drop, take_more, get_or-take, get_or-drop, length-take-le, length-drop, length-reverse, append-nil, append_assoc, get_or-reverse, reverse-append, get_or_default}
use Rattle.std.proofs.lemmas.List.Concat.{flat_map-append}
use Rattle.std.proofs.lemmas.List.Folds.{find-append}
use Rattle.page_image.specs.Page.{Node, no_node, node_at, IsBelow, HasRisingKeys, IsInsertPlace}
use Rattle.page_space.specs.Frames.{Frames}
use Rattle.btree_node.specs.Cut.{IsChildPlace}
use Rattle.btree_inplace.specs.Order.{PassesBelow, is_under, is_upto}
use Rattle.btree_inplace.specs.Neighbors.{IsLastPlace, last_of, found_left}
use Rattle.btree_inplace.specs.Shape.{IsSubtree, child_of, entries, page_in}
use Rattle.btree_inplace.proofs.Below.{All-flat_map, before_child, behind_child, find-all, find-any, find-any_front, find-none, find-none_before, flat_map-around, itself, or_none, or_some}

upto_above : (r : Ordering) → ordering_reverse r ≡ Less → is_le r ≡ false
upto_above Less e = cc
upto_above Equal e = cc
upto_above Greater e = refl

upto_below : (r : Ordering) → r ≡ Less → is_le r ≡ true
upto_below Less e = refl
upto_below Equal e = cc
upto_below Greater e = cc

upto_itself : (r : Ordering) → r ≡ Equal → is_le r ≡ true
upto_itself Less e = cc
upto_itself Equal e = refl
upto_itself Greater e = cc

pub is_upto-above : (n : Node) (key : List ℕ) → IsBelow key n.key → is_upto key n ≡ false
is_upto-above n key h = upto_above (slice_cmp nat_cmp n.key key) (sym (nat_list_cmp_total.antisymm key n.key) ∙ h)

is_upto-below : (n : Node) (key : List ℕ) → IsBelow n.key key → is_upto key n ≡ true
is_upto-below n key h = upto_below (slice_cmp nat_cmp n.key key) h

is_upto-itself : (n : Node) (key : List ℕ) → n.key ≡ key → is_upto key n ≡ true
is_upto-itself n key e = ap (λ (k : List ℕ). is_le (slice_cmp nat_cmp k key)) e ∙ upto_itself (slice_cmp nat_cmp key key) (itself (slice_cmp nat_cmp key key) (nat_list_cmp_total.antisymm key key))

pub is_upto-passes : (key : List ℕ) → PassesBelow (is_upto key) key
is_upto-passes key = record { below = λ n h. is_upto-below n key h; above = λ n h. is_upto-above n key h }

under_above : (r : Ordering) → ordering_reverse r ≡ Less → is_lt r ≡ false
under_above Less e = cc
under_above Equal e = cc
under_above Greater e = refl

under_below : (r : Ordering) → r ≡ Less → is_lt r ≡ true
under_below Less e = refl
under_below Equal e = cc
under_below Greater e = cc

under_itself : (r : Ordering) → r ≡ Equal → is_lt r ≡ false
under_itself Less e = cc
under_itself Equal e = refl
under_itself Greater e = cc

is_under-above : (n : Node) (key : List ℕ) → IsBelow key n.key → is_under key n ≡ false
is_under-above n key h = under_above (slice_cmp nat_cmp n.key key) (sym (nat_list_cmp_total.antisymm key n.key) ∙ h)

is_under-below : (n : Node) (key : List ℕ) → IsBelow n.key key → is_under key n ≡ true
is_under-below n key h = under_below (slice_cmp nat_cmp n.key key) h

is_under-itself : (n : Node) (key : List ℕ) → n.key ≡ key → is_under key n ≡ false
is_under-itself n key e = ap (λ (k : List ℕ). is_lt (slice_cmp nat_cmp k key)) e ∙ under_itself (slice_cmp nat_cmp key key) (itself (slice_cmp nat_cmp key key) (nat_list_cmp_total.antisymm key key))

pub is_under-passes : (key : List ℕ) → PassesBelow (is_under key) key
is_under-passes key = record { below = λ n h. is_under-below n key h; above = λ n h. is_under-above n key h }

-- no node from the one with the key on is below it
not_under : (nodes : List Node) (key : List ℕ) (i : ℕ) → HasRisingKeys nodes → i < length nodes → (node_at nodes i).key ≡ key → (k : ℕ) → i ≤ k → k < length nodes → is_under key (node_at nodes k) ≡ false
not_under nodes key i rising within here k h below = elim (cases_eq i k) [
  | inl at ↦ is_under-itself (node_at nodes k) key (ap (λ j. (node_at nodes j).key) (sym at) ∙ here)
  | inr other ↦ is_under-above (node_at nodes k) key (subst (λ (x : List ℕ). IsBelow x (node_at nodes k).key) here (rising i k no_node (omega arith) below))
]

All-reverse : {X : Type 0} (P : X → Type 0) (xs : List X) → All P xs → All P (reverse xs)
All-reverse P xs all k d h =
    let within : k < length xs = omega (arith, length-reverse xs) in
    subst P (sym (get_or-reverse xs k d within)) (all (length xs - 1 - k) d (omega arith))

-- the last node that passes, where none behind it does
find-last : (p : Node → Bool) (nodes : List Node) (i : ℕ) → i < length nodes → ((k : ℕ) → i < k → k < length nodes → p (node_at nodes k) ≡ false) → p (node_at nodes i) ≡ true → find p (reverse nodes) ≡ Some (node_at nodes i)
find-last p nodes i h none here =
    let n = node_at nodes i in
    let behind : All (λ m. p m ≡ false) (drop (i + 1) nodes) = λ k d lt.
    let within : i + 1 + k < length nodes = omega (arith, length-drop (i + 1) nodes) in
    let same : get_or (drop (i + 1) nodes) k d ≡ node_at nodes (i + 1 + k) = get_or-drop (i + 1) nodes k d ∙ get_or_default nodes (i + 1 + k) d no_node within in
    ap p same ∙ none (i + 1 + k) (omega arith) within in
    let whole : nodes ≡ (take i nodes ++ n ∷ []) ++ drop (i + 1) nodes = sym (take-append-drop (i + 1) nodes) ∙ ap (λ (x : List Node). x ++ drop (i + 1) nodes) (take_more nodes i no_node h) in
    ap (λ (x : List Node). find p (reverse x)) whole
    ∙ ap (find p) (reverse-append (take i nodes ++ n ∷ []) (drop (i + 1) nodes))
    ∙ find-none_before p (reverse (drop (i + 1) nodes)) (reverse (take i nodes ++ n ∷ [])) (All-reverse (λ m. p m ≡ false) (drop (i + 1) nodes) behind)
    ∙ ap (find p) (reverse-append (take i nodes) (n ∷ []))
    ∙ ap (λ b. cond b (Some n) (find p (reverse (take i nodes)))) here

pub upto_found : (nodes : List Node) (key : List ℕ) (i : ℕ) → HasRisingKeys nodes → i < length nodes → (node_at nodes i).key ≡ key → find (is_upto key) (reverse nodes) ≡ Some (node_at nodes i)
upto_found nodes key i rising h here = find-last (is_upto key) nodes i h
    (λ k lt within. is_upto-above (node_at nodes k) key (subst (λ (x : List ℕ). IsBelow x (node_at nodes k).key) here (rising i k no_node lt within)))
    (is_upto-itself (node_at nodes i) key here)

pub below_place : (test : Node → Bool) (nodes : List Node) (key : List ℕ) (i : ℕ) → PassesBelow test key → IsInsertPlace nodes key i → 1 ≤ i → find test (reverse nodes) ≡ Some (node_at nodes (i - 1))
below_place test nodes key i passes place some = find-last test nodes (i - 1) (omega (arith, place.within))
    (λ k lt within. passes.above (node_at nodes k) (place.above k (omega arith) within))
    (passes.below (node_at nodes (i - 1)) (place.below (i - 1) (omega arith)))

pub below_none : (test : Node → Bool) (nodes : List Node) (key : List ℕ) → PassesBelow test key → IsInsertPlace nodes key 0 → find test (reverse nodes) ≡ None
below_none test nodes key passes place = find-none test (reverse nodes) (All-reverse (λ m. test m ≡ false) nodes (λ k d h. ap test (get_or_default nodes k d no_node h) ∙ passes.above (node_at nodes k) (place.above k (omega arith) h)))

-- before the node with the key
pub under_found : (nodes : List Node) (key : List ℕ) (i : ℕ) → HasRisingKeys nodes → i < length nodes → 1 ≤ i → (node_at nodes i).key ≡ key → find (is_under key) (reverse nodes) ≡ Some (node_at nodes (i - 1))
under_found nodes key i rising h some here = find-last (is_under key) nodes (i - 1) (omega arith)
    (λ k lt within. not_under nodes key i rising h here k (omega arith) within)
    (is_under-below (node_at nodes (i - 1)) key (subst (λ (x : List ℕ). IsBelow (node_at nodes (i - 1)).key x) here (rising (i - 1) i no_node (omega arith) h)))

pub under_first : (nodes : List Node) (key : List ℕ) → HasRisingKeys nodes → 0 < length nodes → (node_at nodes 0).key ≡ key → find (is_under key) (reverse nodes) ≡ None
under_first nodes key rising h here = find-none (is_under key) (reverse nodes) (All-reverse (λ m. is_under key m ≡ false) nodes (λ k d within. ap (is_under key) (get_or_default nodes k d no_node within) ∙ not_under nodes key 0 rising h here k (omega arith) within))

-- The children behind the one that a key belongs to have no node that passes, and those before it no other.
find_below : (test : Node → Bool) (depth : ℕ) (frames : Frames) (page : ℕ) (key : List ℕ) (i : ℕ) → PassesBelow test key → IsSubtree (suc depth) frames page → IsChildPlace (page_in frames page).nodes key i → find test (reverse (entries (suc depth) frames page)) ≡ option_or (find test (reverse (entries depth frames (child_of (node_at (page_in frames page).nodes i))))) (find (λ _. true) (reverse (flat_map (λ n. entries depth frames (child_of n)) (take i (page_in frames page).nodes))))
find_below test depth frames page key i passes tree place =
    let nodes = (page_in frames page).nodes in
    let f : Node → List Node = λ n. entries depth frames (child_of n) in
    let rising = tree.0.page.rising in
    let a = flat_map f (take i nodes) in
    let b = f (node_at nodes i) in
    let z = flat_map f (drop (i + 1) nodes) in
    let before : All (λ n. test n ≡ true) a = All-flat_map (λ n. test n ≡ true) f (take i nodes)
    (λ k d h k' d' h'.
    let early : k < i = omega (arith, length-take-le i nodes (omega (arith, place.within))) in
    let same : get_or (take i nodes) k d ≡ node_at nodes k = get_or-take i nodes k d early ∙ get_or_default nodes k d no_node (omega (arith, place.within)) in
    subst (λ (n : Node). (j : ℕ) (e : Node) → j < length (f n) → test (get_or (f n) j e) ≡ true) (sym same)
    (λ j e g. passes.below (get_or (f (node_at nodes k)) j e) (before_child nodes (f (node_at nodes k)) key i k rising place early (tree.3 k (omega (arith, place.within))) j e g)) k' d' h') in
    let behind : All (λ n. test n ≡ false) z = All-flat_map (λ n. test n ≡ false) f (drop (i + 1) nodes)
    (λ k d h k' d' h'.
    let within : i + 1 + k < length nodes = omega (arith, length-drop (i + 1) nodes) in
    let same : get_or (drop (i + 1) nodes) k d ≡ node_at nodes (i + 1 + k) = get_or-drop (i + 1) nodes k d ∙ get_or_default nodes (i + 1 + k) d no_node within in
    subst (λ (n : Node). (j : ℕ) (e : Node) → j < length (f n) → test (get_or (f n) j e) ≡ false) (sym same)
    (λ j e g. passes.above (get_or (f (node_at nodes (i + 1 + k))) j e) (behind_child nodes (f (node_at nodes (i + 1 + k))) key i (i + 1 + k) rising place (omega arith) within (tree.3 (i + 1 + k) within) j e g)) k' d' h') in
    let turned : reverse (a ++ (b ++ z)) ≡ reverse z ++ (reverse b ++ reverse a) = reverse-append a (b ++ z) ∙ ap (λ (x : List Node). x ++ reverse a) (reverse-append b z) ∙ append_assoc (reverse z) (reverse b) (reverse a) in
    ap (λ (x : List Node). find test (reverse x)) (flat_map-around f nodes i no_node place.within)
    ∙ ap (find test) turned
    ∙ find-none_before test (reverse z) (reverse b ++ reverse a) (All-reverse (λ n. test n ≡ false) z behind)
    ∙ find-append test (reverse b) (reverse a)
    ∙ ap (option_or (find test (reverse b))) (find-all test (reverse a) (All-reverse (λ n. test n ≡ true) a before))

-- with a child before the path, that child is the neighbor
pub left_child : (test : Node → Bool) (depth : ℕ) (frames : Frames) (page : ℕ) (key : List ℕ) (i : ℕ) (next : Option (ℕ × ℕ)) → PassesBelow test key → IsSubtree (suc depth) frames page → IsChildPlace (page_in frames page).nodes key i → 0 < i → found_left frames depth (child_of (node_at (page_in frames page).nodes i)) (Some (child_of (node_at (page_in frames page).nodes (i - 1)), depth)) test ≡ found_left frames (suc depth) page next test
left_child test depth frames page key i next passes tree place more =
    let nodes = (page_in frames page).nodes in
    let f : Node → List Node = λ n. entries depth frames (child_of n) in
    let one = f (node_at nodes (i - 1)) in
    let some = (tree.3 (i - 1) (omega (arith, place.within))).some in
    let front : take i nodes ≡ take (i - 1) nodes ++ node_at nodes (i - 1) ∷ [] = ap (λ k. take k nodes) (omega arith) ∙ take_more nodes (i - 1) no_node (omega (arith, place.within)) in
    let parts : flat_map f (take i nodes) ≡ flat_map f (take (i - 1) nodes) ++ one = ap (flat_map f) front ∙ flat_map-append f (take (i - 1) nodes) (node_at nodes (i - 1) ∷ []) ∙ ap (λ (x : List Node). flat_map f (take (i - 1) nodes) ++ x) (append-nil one) in
    let rest : find (λ _. true) (reverse (flat_map f (take i nodes))) ≡ find (λ _. true) (reverse one) = ap (λ (x : List Node). find (λ _. true) (reverse x)) parts ∙ ap (find (λ _. true)) (reverse-append (flat_map f (take (i - 1) nodes)) one) ∙ find-any_front (reverse one) (reverse (flat_map f (take (i - 1) nodes))) (omega (arith, length-reverse one, some)) in
    let a = find test (reverse (f (node_at nodes i))) in
    sym (ap (λ r. option_or r (last_of frames next)) (find_below test depth frames page key i passes tree place)
    ∙ or_some a (find (λ _. true) (reverse (flat_map f (take i nodes)))) (last_of frames next) (node_at (reverse one) 0) (rest ∙ find-any (reverse one) (omega (arith, length-reverse one, some)))
    ∙ ap (option_or a) rest)

-- with no child before the path, the neighbor stays
pub left_end : (test : Node → Bool) (depth : ℕ) (frames : Frames) (page : ℕ) (key : List ℕ) (next : Option (ℕ × ℕ)) → PassesBelow test key → IsSubtree (suc depth) frames page → IsChildPlace (page_in frames page).nodes key 0 → found_left frames depth (child_of (node_at (page_in frames page).nodes 0)) next test ≡ found_left frames (suc depth) page next test
left_end test depth frames page key next passes tree place =
    let nodes = (page_in frames page).nodes in
    let f : Node → List Node = λ n. entries depth frames (child_of n) in
    sym (ap (λ r. option_or r (last_of frames next)) (find_below test depth frames page key 0 passes tree place) ∙ or_none (find test (reverse (f (node_at nodes 0)))) (find (λ _. true) (reverse (flat_map f (take 0 nodes)))) (last_of frames next) refl)

-- the place before the node with the key
pub place_before : (nodes : List Node) (key : List ℕ) (i : ℕ) (place : Option ℕ) → HasRisingKeys nodes → i < length nodes → (node_at nodes i).key ≡ key → SomeIff place (1 ≤ i) (i - 1) → IsLastPlace (is_under key) nodes place
place_before nodes key i None rising h here less =
    let first : i ≡ 0 = omega (arith, less) in
    let at = subst (λ k. (k < length nodes) × ((node_at nodes k).key ≡ key)) first (h, here) in
    under_first nodes key rising at.0 at.1
place_before nodes key i (Some j) rising h here some =
    subst (λ k. IsLastPlace (is_under key) nodes (Some k)) (sym some.1) (omega arith, under_found nodes key i rising h some.0 here)

-- the place before the one where the key would stand
pub place_below : (test : Node → Bool) (nodes : List Node) (key : List ℕ) (i : ℕ) (place : Option ℕ) → PassesBelow test key → IsInsertPlace nodes key i → SomeIff place (1 ≤ i) (i - 1) → IsLastPlace test nodes place
place_below test nodes key i None passes at less =
    let first : i ≡ 0 = omega (arith, less) in
    below_none test nodes key passes (subst (λ k. IsInsertPlace nodes key k) first at)
place_below test nodes key i (Some j) passes at some =
    subst (λ k. IsLastPlace test nodes (Some k)) (sym some.1) (omega (arith, at.within), below_place test nodes key i passes at some.0)
