-- Which children of an inner page have no node of a kind that is looked for.
use Rattle.std.proofs.Common.{◌≡◌, ℕ, suc, ◌+◌, ◌<◌, ◌≤◌, inl, inr, Bool, true, false, Option, Some, None, List, [], ◌∷◌, ◌++◌, length, take, drop, get_or, refl, sym, ap, subst, ◌∙◌, arith, cond}
use Rattle.std.specs.Prelude.{find, reverse, All}
use Rattle.std.specs.List.{flat_map}
use Rattle.std.specs.Ordering.{nat_cmp, ordering_reverse, is_eq, is_ge, is_gt}
use Rattle.std.specs.declared.cmp.Ordering.{Ordering}
use Rattle.std.specs.declared.cmp.Ordering.TheVariants.{Less, Equal, Greater}
use Rattle.std.specs.Cmp.Lexicographic.{slice_cmp}
use Rattle.std.specs.FinMap.{slice_cmp-IsAntisymmetric, nat_cmp-IsAntisymmetric}
use Rattle.std.proofs.lemmas.Cmp.{nat_list_cmp_total}
use Rattle.std.proofs.lemmas.Bool.{cases_lt, cases_eq}
use Rattle.std.proofs.lemmas.List.{take-append-drop, drop_more, get_or-take, get_or-drop, length-take-le, length-drop, length-reverse, append-nil, drop_all, get_or-reverse, reverse-append, get_or_default}
use Rattle.std.proofs.lemmas.List.Concat.{flat_map-append}
use Rattle.std.proofs.lemmas.List.Elements.{All-nil, All-append, All-head, All-tail}
use Rattle.page_image.specs.Page.{Node, no_node, node_at, IsBelow, HasRisingKeys, IsInsertPlace}
use Rattle.page_space.specs.Frames.{Frames}
use Rattle.btree_node.specs.Cut.{IsChildPlace}
use Rattle.btree_inplace.specs.Order.{PassesAbove, has_key, is_above, is_from}
use Rattle.btree_inplace.specs.Neighbors.{IsFirstPlace, first_of, found_right}
use Rattle.std.specs.Option.{option_or}
use Rattle.std.proofs.lemmas.List.Folds.{find-append}
use Rattle.btree_inplace.specs.Shape.{IsBetween, IsSubtree, child_of, entries, page_in}

-- a key below one that is not above another is below that one
pub IsBelow-upto : (a b c : List ℕ) → IsBelow a b → ¬ IsBelow c b → IsBelow a c
IsBelow-upto a b c h not = by_cases (slice_cmp nat_cmp b c) refl
  where
    by_cases : (r : Ordering) → slice_cmp nat_cmp b c ≡ r → IsBelow a c
    by_cases Less e = nat_list_cmp_total.trans a b c h e
    by_cases Equal e = subst (λ (x : List ℕ). IsBelow a x) (slice_cmp-IsAntisymmetric nat_cmp-IsAntisymmetric b c e) h
    by_cases Greater e = absurd (not (nat_list_cmp_total.antisymm c b ∙ ap ordering_reverse e))

-- a key that is not above one below another is below that one
pub IsBelow-from_upto : (a b c : List ℕ) → ¬ IsBelow b a → IsBelow b c → IsBelow a c
IsBelow-from_upto a b c not h = by_cases (slice_cmp nat_cmp a b) refl
  where
    by_cases : (r : Ordering) → slice_cmp nat_cmp a b ≡ r → IsBelow a c
    by_cases Less e = nat_list_cmp_total.trans a b c e h
    by_cases Equal e = subst (λ (x : List ℕ). IsBelow x c) (sym (slice_cmp-IsAntisymmetric nat_cmp-IsAntisymmetric a b e)) h
    by_cases Greater e = absurd (not (nat_list_cmp_total.antisymm b a ∙ ap ordering_reverse e))

-- the nodes of a child before the one that a key belongs to are below the key
pub before_child : (nodes below : List Node) (key : List ℕ) (i j : ℕ) → HasRisingKeys nodes → IsChildPlace nodes key i → j < i → IsBetween nodes j below → All (λ e. IsBelow e.key key) below
before_child nodes below key i j rising place lt between k d h =
    let next : IsBelow (get_or below k d).key (node_at nodes (j + 1)).key = between.upper (omega (arith, place.within)) k d h in
    elim (cases_eq (j + 1) i) [
      | inl at ↦ IsBelow-upto (get_or below k d).key (node_at nodes i).key key (subst (λ n. IsBelow (get_or below k d).key (node_at nodes n).key) at next) place.lower
      | inr other ↦ IsBelow-upto (get_or below k d).key (node_at nodes i).key key (nat_list_cmp_total.trans (get_or below k d).key (node_at nodes (j + 1)).key (node_at nodes i).key next (rising (j + 1) i no_node (omega arith) place.within)) place.lower
    ]

-- the nodes of a child behind it are above the key
pub behind_child : (nodes below : List Node) (key : List ℕ) (i j : ℕ) → HasRisingKeys nodes → IsChildPlace nodes key i → i < j → j < length nodes → IsBetween nodes j below → All (λ e. IsBelow key e.key) below
behind_child nodes below key i j rising place lt within between k d h =
    let next : IsBelow key (node_at nodes (i + 1)).key = place.upper (omega arith) in
    let far : IsBelow key (node_at nodes j).key = elim (cases_eq (i + 1) j) [
      | inl at ↦ subst (λ n. IsBelow key (node_at nodes n).key) at next
      | inr other ↦ nat_list_cmp_total.trans key (node_at nodes (i + 1)).key (node_at nodes j).key next (rising (i + 1) j no_node (omega arith) within)
    ] in
    IsBelow-upto key (node_at nodes j).key (get_or below k d).key far (between.lower k d h)

-- what holds of each part holds of all
pub All-flat_map : {X Y : Type 0} (P : Y → Type 0) (f : X → List Y) (xs : List X) → ((k : ℕ) (d : X) → k < length xs → All P (f (get_or xs k d))) → All P (flat_map f xs)
All-flat_map P f [] parts = All-nil P
All-flat_map P f (x ∷ xs) parts = All-append P (f x) (flat_map f xs) (parts 0 x (omega arith)) (All-flat_map P f xs (λ k d h. parts (suc k) d (omega arith)))

-- the parts before one, that part, and those behind it
pub flat_map-around : {X Y : Type 0} (f : X → List Y) (xs : List X) (i : ℕ) (d : X) → i < length xs → flat_map f xs ≡ flat_map f (take i xs) ++ (f (get_or xs i d) ++ flat_map f (drop (i + 1) xs))
flat_map-around f xs i d h = ap (flat_map f) (sym (take-append-drop i xs)) ∙ flat_map-append f (take i xs) (drop i xs) ∙ ap (λ ys. flat_map f (take i xs) ++ flat_map f ys) (drop_more xs i d h)

pub find-none_before : {X : Type 0} (p : X → Bool) (xs ys : List X) → All (λ x. p x ≡ false) xs → find p (xs ++ ys) ≡ find p ys
find-none_before p [] ys none = refl
find-none_before p (x ∷ xs) ys none = rw (All-head (λ y. p y ≡ false) x xs none) (find-none_before p xs ys (All-tail (λ y. p y ≡ false) x xs none))

pub find-none_behind : {X : Type 0} (p : X → Bool) (xs ys : List X) → All (λ x. p x ≡ false) ys → find p (xs ++ ys) ≡ find p xs
find-none_behind p [] [] none = refl
find-none_behind p [] (y ∷ ys) none = rw (All-head (λ y. p y ≡ false) y ys none) (find-none_behind p [] ys (All-tail (λ y. p y ≡ false) y ys none))
find-none_behind p (x ∷ xs) ys none = ap (λ r. cond (p x) (Some x) r) (find-none_behind p xs ys none)

not_equal_below : (r : Ordering) → r ≡ Less → is_eq r ≡ false
not_equal_below Less e = refl
not_equal_below Equal e = cc
not_equal_below Greater e = cc

not_equal_above : (r : Ordering) → ordering_reverse r ≡ Less → is_eq r ≡ false
not_equal_above Less e = cc
not_equal_above Equal e = cc
not_equal_above Greater e = refl

pub other_below : (n : Node) (key : List ℕ) → IsBelow n.key key → has_key key n ≡ false
other_below n key h = not_equal_below (slice_cmp nat_cmp n.key key) h

pub other_above : (n : Node) (key : List ℕ) → IsBelow key n.key → has_key key n ≡ false
other_above n key h = not_equal_above (slice_cmp nat_cmp n.key key) (sym (nat_list_cmp_total.antisymm key n.key) ∙ h)

-- What is found below an inner page is found in the child that the key belongs to, where the test fails below the key and above it.
pub find_child : (p : Node → Bool) (depth : ℕ) (frames : Frames) (page : ℕ) (key : List ℕ) (i : ℕ) → ((n : Node) → IsBelow n.key key → p n ≡ false) → ((n : Node) → IsBelow key n.key → p n ≡ false) → IsSubtree (suc depth) frames page → IsChildPlace (page_in frames page).nodes key i → find p (entries depth frames (child_of (node_at (page_in frames page).nodes i))) ≡ find p (entries (suc depth) frames page)
find_child p depth frames page key i low high tree place =
    let nodes = (page_in frames page).nodes in
    let f : Node → List Node = λ n. entries depth frames (child_of n) in
    let rising = tree.0.page.rising in
    let before : All (λ n. p n ≡ false) (flat_map f (take i nodes)) = All-flat_map (λ n. p n ≡ false) f (take i nodes)
    (λ k d h k' d' h'.
    let early : k < i = omega (arith, length-take-le i nodes (omega (arith, place.within))) in
    let same : get_or (take i nodes) k d ≡ node_at nodes k = get_or-take i nodes k d early ∙ get_or_default nodes k d no_node (omega (arith, place.within)) in
    subst (λ (n : Node). (j : ℕ) (e : Node) → j < length (f n) → p (get_or (f n) j e) ≡ false) (sym same)
    (λ j e g. low (get_or (f (node_at nodes k)) j e) (before_child nodes (f (node_at nodes k)) key i k rising place early (tree.3 k (omega (arith, place.within))) j e g)) k' d' h') in
    let behind : All (λ n. p n ≡ false) (flat_map f (drop (i + 1) nodes)) = All-flat_map (λ n. p n ≡ false) f (drop (i + 1) nodes)
    (λ k d h k' d' h'.
    let within : i + 1 + k < length nodes = omega (arith, length-drop (i + 1) nodes) in
    let same : get_or (drop (i + 1) nodes) k d ≡ node_at nodes (i + 1 + k) = get_or-drop (i + 1) nodes k d ∙ get_or_default nodes (i + 1 + k) d no_node within in
    subst (λ (n : Node). (j : ℕ) (e : Node) → j < length (f n) → p (get_or (f n) j e) ≡ false) (sym same)
    (λ j e g. high (get_or (f (node_at nodes (i + 1 + k))) j e) (behind_child nodes (f (node_at nodes (i + 1 + k))) key i (i + 1 + k) rising place (omega arith) within (tree.3 (i + 1 + k) within) j e g)) k' d' h') in
    sym (ap (find p) (flat_map-around f nodes i no_node place.within)
    ∙ find-none_before p (flat_map f (take i nodes)) (f (node_at nodes i) ++ flat_map f (drop (i + 1) nodes)) before
    ∙ find-none_behind p (f (node_at nodes i)) (flat_map f (drop (i + 1) nodes)) behind)

pub find-none : {X : Type 0} (p : X → Bool) (xs : List X) → All (λ x. p x ≡ false) xs → find p xs ≡ None
find-none p [] none = refl
find-none p (x ∷ xs) none = rw (All-head (λ y. p y ≡ false) x xs none) (find-none p xs (All-tail (λ y. p y ≡ false) x xs none))

-- the first node that passes, where none before it does
pub find-first : (p : Node → Bool) (nodes : List Node) (i : ℕ) → i < length nodes → ((k : ℕ) → k < i → p (node_at nodes k) ≡ false) → p (node_at nodes i) ≡ true → find p nodes ≡ Some (node_at nodes i)
find-first p nodes i h none here =
    let before : All (λ n. p n ≡ false) (take i nodes) = λ k d lt.
    let early : k < i = omega (arith, length-take-le i nodes (omega arith)) in
    let same : get_or (take i nodes) k d ≡ node_at nodes k = get_or-take i nodes k d early ∙ get_or_default nodes k d no_node (omega arith) in
    ap p same ∙ none k early in
    ap (find p) (sym (take-append-drop i nodes)) ∙ find-none_before p (take i nodes) (drop i nodes) before
    ∙ ap (find p) (drop_more nodes i no_node h) ∙ ap (λ b. cond b (Some (node_at nodes i)) (find p (drop (i + 1) nodes))) here

equal : (r : Ordering) → r ≡ Equal → is_eq r ≡ true
equal Less e = cc
equal Equal e = refl
equal Greater e = cc

pub itself : (r : Ordering) → r ≡ ordering_reverse r → r ≡ Equal
itself Less e = cc
itself Equal e = refl
itself Greater e = cc

pub has_key-itself : (n : Node) (key : List ℕ) → n.key ≡ key → has_key key n ≡ true
has_key-itself n key e = ap (λ (k : List ℕ). is_eq (slice_cmp nat_cmp k key)) e ∙ equal (slice_cmp nat_cmp key key) (itself (slice_cmp nat_cmp key key) (nat_list_cmp_total.antisymm key key))

-- what a page's own search says of the nodes with a key
pub found_at : (nodes : List Node) (key : List ℕ) (i : ℕ) → HasRisingKeys nodes → i < length nodes → (node_at nodes i).key ≡ key → find (has_key key) nodes ≡ Some (node_at nodes i)
found_at nodes key i rising h here = find-first (has_key key) nodes i h
    (λ k lt. other_below (node_at nodes k) key (subst (λ (x : List ℕ). IsBelow (node_at nodes k).key x) here (rising k i no_node lt h)))
    (has_key-itself (node_at nodes i) key here)

pub not_found : (nodes : List Node) (key : List ℕ) (i : ℕ) → IsInsertPlace nodes key i → find (has_key key) nodes ≡ None
not_found nodes key i place = find-none (has_key key) nodes (λ k d h. ap (has_key key) (get_or_default nodes k d no_node h) ∙ elim (cases_lt k i) [
  | inl before ↦ other_below (node_at nodes k) key (place.below k before)
  | inr after ↦ other_above (node_at nodes k) key (place.above k after h)
])

pub find-any_front : {X : Type 0} (xs ys : List X) → 0 < length xs → find (λ _. true) (xs ++ ys) ≡ find (λ _. true) xs
find-any_front [] ys some = absurd (omega arith)
find-any_front (x ∷ xs) ys some = refl

-- the first node below an inner page is that of its first child
pub first_child : (depth : ℕ) (frames : Frames) (page : ℕ) → IsSubtree (suc depth) frames page → find (λ _. true) (entries depth frames (child_of (node_at (page_in frames page).nodes 0))) ≡ find (λ _. true) (entries (suc depth) frames page)
first_child depth frames page tree =
    let nodes = (page_in frames page).nodes in
    let f : Node → List Node = λ n. entries depth frames (child_of n) in
    sym (ap (find (λ _. true)) (flat_map-around f nodes 0 no_node tree.1.some) ∙ find-any_front (f (node_at nodes 0)) (flat_map f (drop (0 + 1) nodes)) (tree.3 0 tree.1.some).some)

-- the last one is that of its last child
pub last_child : (depth : ℕ) (frames : Frames) (page i : ℕ) → IsSubtree (suc depth) frames page → i + 1 ≡ length (page_in frames page).nodes → find (λ _. true) (reverse (entries depth frames (child_of (node_at (page_in frames page).nodes i)))) ≡ find (λ _. true) (reverse (entries (suc depth) frames page))
last_child depth frames page i tree last =
    let nodes = (page_in frames page).nodes in
    let f : Node → List Node = λ n. entries depth frames (child_of n) in
    let below = f (node_at nodes i) in
    let none : flat_map f (drop (i + 1) nodes) ≡ [] = ap (flat_map f) (drop_all (i + 1) nodes (omega arith)) in
    let whole : entries (suc depth) frames page ≡ flat_map f (take i nodes) ++ below = flat_map-around f nodes i no_node (omega arith) ∙ ap (λ (x : List Node). flat_map f (take i nodes) ++ (below ++ x)) none ∙ ap (λ (x : List Node). flat_map f (take i nodes) ++ x) (append-nil below) in
    sym (ap (λ (x : List Node). find (λ _. true) (reverse x)) whole ∙ ap (find (λ _. true)) (reverse-append (flat_map f (take i nodes)) below)
    ∙ find-any_front (reverse below) (reverse (flat_map f (take i nodes))) (omega (arith, length-reverse below, (tree.3 i (omega arith)).some)))

pub find-any : (nodes : List Node) → 0 < length nodes → find (λ _. true) nodes ≡ Some (node_at nodes 0)
find-any [] some = absurd (omega arith)
find-any (n ∷ nodes) some = refl

pub find-any_none : (nodes : List Node) → length nodes ≡ 0 → find (λ _. true) nodes ≡ None
find-any_none [] none = refl
find-any_none (n ∷ nodes) none = absurd (omega arith)

pub find-any_last : (nodes : List Node) (i : ℕ) → i + 1 ≡ length nodes → find (λ _. true) (reverse nodes) ≡ Some (node_at nodes i)
find-any_last nodes i last =
    find-any (reverse nodes) (omega (arith, length-reverse nodes)) ∙ ap Some (get_or-reverse nodes 0 no_node (omega arith) ∙ ap (λ k. node_at nodes k) (omega arith))

from_above : (r : Ordering) → ordering_reverse r ≡ Less → is_ge r ≡ true
from_above Less e = cc
from_above Equal e = cc
from_above Greater e = refl

from_below : (r : Ordering) → r ≡ Less → is_ge r ≡ false
from_below Less e = refl
from_below Equal e = cc
from_below Greater e = cc

from_itself : (r : Ordering) → r ≡ Equal → is_ge r ≡ true
from_itself Less e = cc
from_itself Equal e = refl
from_itself Greater e = cc

pub is_from-above : (n : Node) (key : List ℕ) → IsBelow key n.key → is_from key n ≡ true
is_from-above n key h = from_above (slice_cmp nat_cmp n.key key) (sym (nat_list_cmp_total.antisymm key n.key) ∙ h)

pub is_from-below : (n : Node) (key : List ℕ) → IsBelow n.key key → is_from key n ≡ false
is_from-below n key h = from_below (slice_cmp nat_cmp n.key key) h

pub is_from-itself : (n : Node) (key : List ℕ) → n.key ≡ key → is_from key n ≡ true
is_from-itself n key e = ap (λ (k : List ℕ). is_ge (slice_cmp nat_cmp k key)) e ∙ from_itself (slice_cmp nat_cmp key key) (itself (slice_cmp nat_cmp key key) (nat_list_cmp_total.antisymm key key))

pub is_from-passes : (key : List ℕ) → PassesAbove (is_from key) key
is_from-passes key = record { below = λ n h. is_from-below n key h; above = λ n h. is_from-above n key h }

above_above : (r : Ordering) → ordering_reverse r ≡ Less → is_gt r ≡ true
above_above Less e = cc
above_above Equal e = cc
above_above Greater e = refl

above_below : (r : Ordering) → r ≡ Less → is_gt r ≡ false
above_below Less e = refl
above_below Equal e = cc
above_below Greater e = cc

above_itself : (r : Ordering) → r ≡ Equal → is_gt r ≡ false
above_itself Less e = cc
above_itself Equal e = refl
above_itself Greater e = cc

pub is_above-above : (n : Node) (key : List ℕ) → IsBelow key n.key → is_above key n ≡ true
is_above-above n key h = above_above (slice_cmp nat_cmp n.key key) (sym (nat_list_cmp_total.antisymm key n.key) ∙ h)

pub is_above-below : (n : Node) (key : List ℕ) → IsBelow n.key key → is_above key n ≡ false
is_above-below n key h = above_below (slice_cmp nat_cmp n.key key) h

is_above-itself : (n : Node) (key : List ℕ) → n.key ≡ key → is_above key n ≡ false
is_above-itself n key e = ap (λ (k : List ℕ). is_gt (slice_cmp nat_cmp k key)) e ∙ above_itself (slice_cmp nat_cmp key key) (itself (slice_cmp nat_cmp key key) (nat_list_cmp_total.antisymm key key))

pub is_above-passes : (key : List ℕ) → PassesAbove (is_above key) key
is_above-passes key = record { below = λ n h. is_above-below n key h; above = λ n h. is_above-above n key h }

-- no node up to the one with the key is above it
not_above : (nodes : List Node) (key : List ℕ) (i : ℕ) → HasRisingKeys nodes → i < length nodes → (node_at nodes i).key ≡ key → (k : ℕ) → k < i + 1 → is_above key (node_at nodes k) ≡ false
not_above nodes key i rising within here k h = elim (cases_eq k i) [
  | inl at ↦ is_above-itself (node_at nodes k) key (ap (λ j. (node_at nodes j).key) at ∙ here)
  | inr other ↦ is_above-below (node_at nodes k) key (subst (λ (x : List ℕ). IsBelow (node_at nodes k).key x) here (rising k i no_node (omega arith) within))
]

-- where all pass, the first is found
pub find-all : {X : Type 0} (p : X → Bool) (xs : List X) → All (λ x. p x ≡ true) xs → find p xs ≡ find (λ _. true) xs
find-all p [] all = refl
find-all p (x ∷ xs) all = rw (All-head (λ y. p y ≡ true) x xs all) refl

-- The children before the one that a key belongs to have no node that passes, and those behind it no other.
pub find_above : (test : Node → Bool) (depth : ℕ) (frames : Frames) (page : ℕ) (key : List ℕ) (i : ℕ) → PassesAbove test key → IsSubtree (suc depth) frames page → IsChildPlace (page_in frames page).nodes key i → find test (entries (suc depth) frames page) ≡ option_or (find test (entries depth frames (child_of (node_at (page_in frames page).nodes i)))) (find (λ _. true) (flat_map (λ n. entries depth frames (child_of n)) (drop (i + 1) (page_in frames page).nodes)))
find_above test depth frames page key i passes tree place =
    let nodes = (page_in frames page).nodes in
    let f : Node → List Node = λ n. entries depth frames (child_of n) in
    let rising = tree.0.page.rising in
    let before : All (λ n. test n ≡ false) (flat_map f (take i nodes)) = All-flat_map (λ n. test n ≡ false) f (take i nodes)
    (λ k d h k' d' h'.
    let early : k < i = omega (arith, length-take-le i nodes (omega (arith, place.within))) in
    let same : get_or (take i nodes) k d ≡ node_at nodes k = get_or-take i nodes k d early ∙ get_or_default nodes k d no_node (omega (arith, place.within)) in
    subst (λ (n : Node). (j : ℕ) (e : Node) → j < length (f n) → test (get_or (f n) j e) ≡ false) (sym same)
    (λ j e g. passes.below (get_or (f (node_at nodes k)) j e) (before_child nodes (f (node_at nodes k)) key i k rising place early (tree.3 k (omega (arith, place.within))) j e g)) k' d' h') in
    let behind : All (λ n. test n ≡ true) (flat_map f (drop (i + 1) nodes)) = All-flat_map (λ n. test n ≡ true) f (drop (i + 1) nodes)
    (λ k d h k' d' h'.
    let within : i + 1 + k < length nodes = omega (arith, length-drop (i + 1) nodes) in
    let same : get_or (drop (i + 1) nodes) k d ≡ node_at nodes (i + 1 + k) = get_or-drop (i + 1) nodes k d ∙ get_or_default nodes (i + 1 + k) d no_node within in
    subst (λ (n : Node). (j : ℕ) (e : Node) → j < length (f n) → test (get_or (f n) j e) ≡ true) (sym same)
    (λ j e g. passes.above (get_or (f (node_at nodes (i + 1 + k))) j e) (behind_child nodes (f (node_at nodes (i + 1 + k))) key i (i + 1 + k) rising place (omega arith) within (tree.3 (i + 1 + k) within) j e g)) k' d' h') in
    ap (find test) (flat_map-around f nodes i no_node place.within)
    ∙ find-none_before test (flat_map f (take i nodes)) (f (node_at nodes i) ++ flat_map f (drop (i + 1) nodes)) before
    ∙ find-append test (f (node_at nodes i)) (flat_map f (drop (i + 1) nodes))
    ∙ ap (option_or (find test (f (node_at nodes i)))) (find-all test (flat_map f (drop (i + 1) nodes)) behind)

pub or_some : {X : Type 0} (a b c : Option X) (x : X) → b ≡ Some x → option_or (option_or a b) c ≡ option_or a b
or_some None b c x e = rw e refl
or_some (Some y) b c x e = refl

pub or_none : {X : Type 0} (a b c : Option X) → b ≡ None → option_or (option_or a b) c ≡ option_or a c
or_none None b c e = rw e refl
or_none (Some y) b c e = refl

-- with a child behind the path, that child is the neighbor
pub right_child : (test : Node → Bool) (depth : ℕ) (frames : Frames) (page : ℕ) (key : List ℕ) (i : ℕ) (next : Option (ℕ × ℕ)) → PassesAbove test key → IsSubtree (suc depth) frames page → IsChildPlace (page_in frames page).nodes key i → i + 1 < length (page_in frames page).nodes → found_right frames depth (child_of (node_at (page_in frames page).nodes i)) (Some (child_of (node_at (page_in frames page).nodes (i + 1)), depth)) test ≡ found_right frames (suc depth) page next test
right_child test depth frames page key i next passes tree place more =
    let nodes = (page_in frames page).nodes in
    let f : Node → List Node = λ n. entries depth frames (child_of n) in
    let a = find test (f (node_at nodes i)) in
    let some = (tree.3 (i + 1) more).some in
    let rest : find (λ _. true) (flat_map f (drop (i + 1) nodes)) ≡ find (λ _. true) (f (node_at nodes (i + 1))) = ap (λ (ns : List Node). find (λ _. true) (flat_map f ns)) (drop_more nodes (i + 1) no_node more) ∙ find-any_front (f (node_at nodes (i + 1))) (flat_map f (drop (i + 1 + 1) nodes)) some in
    sym (ap (λ r. option_or r (first_of frames next)) (find_above test depth frames page key i passes tree place)
    ∙ or_some a (find (λ _. true) (flat_map f (drop (i + 1) nodes))) (first_of frames next) (node_at (f (node_at nodes (i + 1))) 0) (rest ∙ find-any (f (node_at nodes (i + 1))) some)
    ∙ ap (option_or a) rest)

-- with no child behind the path, the neighbor stays
pub right_end : (test : Node → Bool) (depth : ℕ) (frames : Frames) (page : ℕ) (key : List ℕ) (i : ℕ) (next : Option (ℕ × ℕ)) → PassesAbove test key → IsSubtree (suc depth) frames page → IsChildPlace (page_in frames page).nodes key i → length (page_in frames page).nodes ≤ i + 1 → found_right frames depth (child_of (node_at (page_in frames page).nodes i)) next test ≡ found_right frames (suc depth) page next test
right_end test depth frames page key i next passes tree place last =
    let nodes = (page_in frames page).nodes in
    let f : Node → List Node = λ n. entries depth frames (child_of n) in
    let a = find test (f (node_at nodes i)) in
    let rest : find (λ _. true) (flat_map f (drop (i + 1) nodes)) ≡ None = ap (λ (ns : List Node). find (λ _. true) (flat_map f ns)) (drop_all (i + 1) nodes last) in
    sym (ap (λ r. option_or r (first_of frames next)) (find_above test depth frames page key i passes tree place) ∙ or_none a (find (λ _. true) (flat_map f (drop (i + 1) nodes))) (first_of frames next) rest)

-- what a leaf's search says of the first node that passes
pub above_place : (test : Node → Bool) (nodes : List Node) (key : List ℕ) (i : ℕ) → PassesAbove test key → IsInsertPlace nodes key i → i < length nodes → find test nodes ≡ Some (node_at nodes i)
above_place test nodes key i passes place h = find-first test nodes i h (λ k lt. passes.below (node_at nodes k) (place.below k lt)) (passes.above (node_at nodes i) (place.above i (omega arith) h))

pub above_none : (test : Node → Bool) (nodes : List Node) (key : List ℕ) (i : ℕ) → PassesAbove test key → IsInsertPlace nodes key i → length nodes ≤ i → find test nodes ≡ None
above_none test nodes key i passes place past = find-none test nodes (λ k d h. ap test (get_or_default nodes k d no_node h) ∙ passes.below (node_at nodes k) (place.below k (omega arith)))

pub from_found : (nodes : List Node) (key : List ℕ) (i : ℕ) → HasRisingKeys nodes → i < length nodes → (node_at nodes i).key ≡ key → find (is_from key) nodes ≡ Some (node_at nodes i)
from_found nodes key i rising h here = find-first (is_from key) nodes i h
    (λ k lt. is_from-below (node_at nodes k) key (subst (λ (x : List ℕ). IsBelow (node_at nodes k).key x) here (rising k i no_node lt h)))
    (is_from-itself (node_at nodes i) key here)

-- behind the node with the key
pub above_found : (nodes : List Node) (key : List ℕ) (i : ℕ) → HasRisingKeys nodes → i + 1 < length nodes → (node_at nodes i).key ≡ key → find (is_above key) nodes ≡ Some (node_at nodes (i + 1))
above_found nodes key i rising h here = find-first (is_above key) nodes (i + 1) h (not_above nodes key i rising (omega arith) here)
    (is_above-above (node_at nodes (i + 1)) key (subst (λ (x : List ℕ). IsBelow x (node_at nodes (i + 1)).key) here (rising i (i + 1) no_node (omega arith) h)))

pub above_last : (nodes : List Node) (key : List ℕ) (i : ℕ) → HasRisingKeys nodes → i + 1 ≡ length nodes → (node_at nodes i).key ≡ key → find (is_above key) nodes ≡ None
above_last nodes key i rising last here = find-none (is_above key) nodes (λ k d h. ap (is_above key) (get_or_default nodes k d no_node h) ∙ not_above nodes key i rising (omega arith) here k (omega arith))

pub or_end : {X : Type 0} (a : Option X) → option_or a None ≡ a
or_end None = refl
or_end (Some x) = refl

-- the place behind the node with the key
pub place_behind : (nodes : List Node) (key : List ℕ) (i : ℕ) → HasRisingKeys nodes → i < length nodes → (node_at nodes i).key ≡ key → IsFirstPlace (is_above key) nodes (i + 1)
place_behind nodes key i rising h here = record {
  found = λ more. above_found nodes key i rising more here;
  none = λ past. above_last nodes key i rising (omega arith) here;
}

-- the place where the key would stand
pub place_at : (test : Node → Bool) (nodes : List Node) (key : List ℕ) (i : ℕ) → PassesAbove test key → IsInsertPlace nodes key i → IsFirstPlace test nodes i
place_at test nodes key i passes place = record {
  found = λ h. above_place test nodes key i passes place h;
  none = λ h. above_none test nodes key i passes place h;
}
