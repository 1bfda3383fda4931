-- Lists in order, each element once: what lies beyond and before an element, and how many do.
use Rattle.std.proofs.Common.{◌≡◌, ℕ, suc, Bool, true, false, not, ◌&&◌, ◌||◌, cond, ◌⊎◌, inl, inr, List, [], ◌∷◌, length, filter, find, Option, Some, None, refl, sym, ap, subst, ◌∙◌, true≢false}
use Rattle.std.specs.List.{last_or, list_any}
use Rattle.common_lemmas.proofs.Booleans.{by_test, or_false}

pub record IsStrict {X : Type 0} (lt : X → X → Bool) : Type 0 where
  pub trans : (x y z : X) → lt x y ≡ true → lt y z ≡ true → lt x z ≡ true
  pub asym : (x y : X) → lt x y ≡ true → lt y x ≡ false
  pub irrefl : (x : X) → lt x x ≡ false
  pub from_not : (x y z : X) → lt x y ≡ false → lt x z ≡ true → lt y z ≡ true

-- the test answers b at each element
abbrev pub Always : {X : Type 0} → (X → Bool) → Bool → List X → Type 0
Always p b [] = Unit {0}
Always p b (x ∷ xs) = (p x ≡ b) × Always p b xs

abbrev pub InOrder : {X : Type 0} → (X → X → Bool) → List X → Type 0
InOrder lt [] = Unit {0}
InOrder lt (x ∷ xs) = Always (lt x) true xs × InOrder lt xs

pub always : {X : Type 0} (p q : X → Bool) (b c : Bool) → ((y : X) → p y ≡ b → q y ≡ c) → (xs : List X) → Always p b xs → Always q c xs
always p q b c f [] h = tt
always p q b c f (x ∷ xs) h = (f x h.0, always p q b c f xs h.1)

filter_none : {X : Type 0} (p : X → Bool) (xs : List X) → Always p false xs → filter p xs ≡ []
filter_none p [] h = refl
filter_none p (x ∷ xs) h = rw h.0 (filter_none p xs h.1)

-- two tests that answer alike
abbrev Alike : {X : Type 0} → (X → Bool) → (X → Bool) → List X → Type 0
Alike p q [] = Unit {0}
Alike p q (x ∷ xs) = (p x ≡ q x) × Alike p q xs

filter_alike : {X : Type 0} (p q : X → Bool) (xs : List X) → Alike p q xs → filter p xs ≡ filter q xs
filter_alike p q [] h = refl
filter_alike p q (x ∷ xs) h = rw h.0 (ap (λ r. cond (q x) (x ∷ r) r) (filter_alike p q xs h.1))

alike : {X : Type 0} (p q r : X → Bool) (b : Bool) → ((y : X) → r y ≡ b → p y ≡ q y) → (xs : List X) → Always r b xs → Alike p q xs
alike p q r b f [] h = tt
alike p q r b f (x ∷ xs) h = (f x h.0, alike p q r b f xs h.1)

find_none : {X : Type 0} (p : X → Bool) (xs : List X) → Always p false xs → find p xs ≡ None
find_none p [] h = refl
find_none p (x ∷ xs) h = rw h.0 (find_none p xs h.1)

any_none : {X : Type 0} (p : X → Bool) (xs : List X) → Always p false xs → list_any p xs ≡ false
any_none p [] h = refl
any_none p (x ∷ xs) h = rw h.0 (any_none p xs h.1)

-- what is found passes a test that all elements pass
found_passes : {X : Type 0} (p q : X → Bool) (b : Bool) (xs : List X) (e : X) → Always q b xs → find p xs ≡ Some e → q e ≡ b
found_passes p q b [] e h f = absurd cc
found_passes p q b (x ∷ xs) e h f =
    by_test (p x)
    (λ t. let same : x ≡ e = cc in (λ i. q (sym same i)) ∙ h.0)
    (λ t. found_passes p q b xs e h.1 (rw t at f))

-- ---- the first element that is not below f, by its neighbour before f

abbrev pub after_found : {X : Type 0} → (X → X → Bool) → Option X → List X → Option X
after_found lt None es = find (λ _. true) es
after_found lt (Some p) es = find (lt p) es

abbrev Starts : {X : Type 0} → (X → X → Bool) → Option X → List X → Type 0
Starts lt None es = Unit {0}
Starts lt (Some q) es = Always (lt q) true es

-- the last element of a list with a first
abbrev final : {X : Type 0} → X → List X → X
final q [] = q
final q (y ∷ ys) = final y ys

last_is : {X : Type 0} (q : X) (ys : List X) → last_or (Some q) ys ≡ Some (final q ys)
last_is q [] = refl
last_is q (y ∷ ys) = last_is y ys

final_passes : {X : Type 0} (p : X → Bool) (b : Bool) (q : X) (ys : List X) → p q ≡ b → Always p b ys → p (final q ys) ≡ b
final_passes p b q [] e h = e
final_passes p b q (y ∷ ys) e h = final_passes p b y ys h.0 h.1

always_filter : {X : Type 0} (p t : X → Bool) (b : Bool) (xs : List X) → Always p b xs → Always p b (filter t xs)
always_filter p t b [] h = tt
always_filter p t b (x ∷ xs) h =
    by_test (t x)
    (λ u. rw u (h.0, always_filter p t b xs h.1))
    (λ u. rw u (always_filter p t b xs h.1))

after_start : {X : Type 0} (lt : X → X → Bool) (o : Option X) (x : X) (xs : List X) → Starts lt o (x ∷ xs) → after_found lt o (x ∷ xs) ≡ Some x
after_start lt None x xs h = refl
after_start lt (Some q) x xs h = rw h.0 refl

after_nothing : {X : Type 0} (lt : X → X → Bool) (o : Option X) → after_found lt o [] ≡ None
after_nothing lt None = refl
after_nothing lt (Some q) = refl

-- all that follows an element which is not below f is not below f
not_below_follow : {X : Type 0} (lt : X → X → Bool) (s : IsStrict lt) (f x : X) (xs : List X) → lt x f ≡ false → Always (lt x) true xs → Always (λ y. lt y f) false xs
not_below_follow lt s f x xs t = always (lt x) (λ y. lt y f) true false (λ y h. s.asym f y (s.from_not x f y t h)) xs

pub first_not_below : {X : Type 0} (lt : X → X → Bool) (s : IsStrict lt) (f : X) (o : Option X) (es : List X) → Starts lt o es → InOrder lt es
    → after_found lt (last_or o (filter (λ x. lt x f) es)) es ≡ find (λ x. not (lt x f)) es
first_not_below lt s f o [] h k = after_nothing lt o
first_not_below lt s f o (x ∷ xs) h k =
    by_test (lt x f)
    (λ t.
    let r = filter (λ y. lt y f) xs in
    let low : lt (final x r) x ≡ false = final_passes (λ y. lt y x) false x r (s.irrefl x) (always_filter (λ y. lt y x) (λ y. lt y f) false xs (always (lt x) (λ y. lt y x) true false (λ y u. s.asym x y u) xs k.0)) in
    let rest : after_found lt (last_or (Some x) r) xs ≡ find (λ y. not (lt y f)) xs = first_not_below lt s f (Some x) xs k.0 k.1 in
    let rest' : find (lt (final x r)) xs ≡ find (λ y. not (lt y f)) xs = ap (λ p. after_found lt p xs) (sym (last_is x r)) ∙ rest in
    rw t (rw (last_is x r) (rw low rest')))
    (λ t.
    let none : filter (λ y. lt y f) xs ≡ [] = filter_none (λ y. lt y f) xs (not_below_follow lt s f x xs t k.0) in
    rw t (rw none (after_start lt o x xs h)))

-- ---- the elements that are not above f, by its neighbour after f

abbrev pub before_list : {X : Type 0} → (X → X → Bool) → Option X → List X → List X
before_list lt None es = filter (λ _. true) es
before_list lt (Some n) es = filter (λ x. lt x n) es

before_head : {X : Type 0} (lt : X → X → Bool) (p : X → Bool) (x : X) (xs : List X) → Always (lt x) true xs → (r : Option X) → find p xs ≡ r
    → before_list lt r (x ∷ xs) ≡ x ∷ before_list lt r xs
before_head lt p x xs k None e = refl
before_head lt p x xs k (Some n) e = let t : lt x n ≡ true = found_passes p (lt x) true xs n k e in rw t refl

all_above : {X : Type 0} (lt : X → X → Bool) (s : IsStrict lt) (f x : X) (xs : List X) → lt f x ≡ true → Always (lt x) true xs → Always (lt f) true xs
all_above lt s f x xs t = always (lt x) (lt f) true true (λ y h. s.trans f x y t h) xs

pub all_not_above : {X : Type 0} (lt : X → X → Bool) (s : IsStrict lt) (f : X) (es : List X) → InOrder lt es
    → before_list lt (find (lt f) es) es ≡ filter (λ x. not (lt f x)) es
all_not_above lt s f [] k = refl
all_not_above lt s f (x ∷ xs) k =
    by_test (lt f x)
    (λ t.
    let left : filter (λ y. lt y x) xs ≡ [] = filter_none (λ y. lt y x) xs (always (lt x) (λ y. lt y x) true false (λ y u. s.asym x y u) xs k.0) in
    let right : filter (λ y. not (lt f y)) xs ≡ [] = filter_none (λ y. not (lt f y)) xs (always (lt f) (λ y. not (lt f y)) true false (λ y u. ap not u) xs (all_above lt s f x xs t k.0)) in
    rw t (rw (s.irrefl x) (left ∙ sym right)))
    (λ t. rw t (before_head lt (lt f) x xs k.0 (find (lt f) xs) refl ∙ ap (λ r. x ∷ r) (all_not_above lt s f xs k.1)))

-- ---- whether a test holds at one of them

abbrev pub holds : {X : Type 0} → (X → Bool) → Option X → Bool
holds q None = false
holds q (Some e) = q e

pub any_not_below : {X : Type 0} (lt : X → X → Bool) (s : IsStrict lt) (f : X) (q : X → Bool) → ((x y : X) → lt x y ≡ true → q x ≡ false → q y ≡ false) → (es : List X) → InOrder lt es
    → list_any (λ e. q e && not (lt e f)) es ≡ holds q (find (λ e. not (lt e f)) es)
any_not_below lt s f q falls [] k = refl
any_not_below lt s f q falls (x ∷ xs) k =
    by_test (q x)
    (λ u. by_test (lt x f) (λ t. rw (u, t) (any_not_below lt s f q falls xs k.1)) (λ t. rw (u, t) (sym u)))
    (λ u.
    by_test (lt x f)
    (λ t. rw (u, t) (any_not_below lt s f q falls xs k.1))
    (λ t. rw (u, t) (any_none (λ e. q e && not (lt e f)) xs (always (lt x) (λ e. q e && not (lt e f)) true false (λ y h. rw (falls x y h u) refl) xs k.0) ∙ sym u)))

none_above : {X : Type 0} (lt : X → X → Bool) (f : X) (q : X → Bool) (xs : List X) → Always (lt f) true xs → list_any (λ e. q e && not (lt f e)) xs ≡ false
none_above lt f q xs h =
    any_none (λ e. q e && not (lt f e)) xs (always (lt f) (λ e. q e && not (lt f e)) true false (λ y t. by_test (q y) (λ u. rw (u, t) refl) (λ u. rw u refl)) xs h)

filter_above : {X : Type 0} (lt : X → X → Bool) (f : X) (xs : List X) → Always (lt f) true xs → filter (λ e. not (lt f e)) xs ≡ []
filter_above lt f xs h = filter_none (λ e. not (lt f e)) xs (always (lt f) (λ e. not (lt f e)) true false (λ y t. ap not t) xs h)

any_from : {X : Type 0} (lt : X → X → Bool) (s : IsStrict lt) (f : X) (q : X → Bool) → ((x y : X) → lt x y ≡ true → q x ≡ true → q y ≡ true) → (x : X) (es : List X) → Always (lt x) true es → InOrder lt es
    → (q x || list_any (λ e. q e && not (lt f e)) es) ≡ holds q (last_or (Some x) (filter (λ e. not (lt f e)) es))
any_from lt s f q rises x [] h k = or_false (q x)
any_from lt s f q rises x (y ∷ ys) h k =
    by_test (lt f y)
    (λ t.
    let above : Always (lt f) true (y ∷ ys) = (t, all_above lt s f y ys t k.0) in
    (λ i. q x || none_above lt f q (y ∷ ys) above i) ∙ or_false (q x) ∙ sym (ap (λ r. holds q (last_or (Some x) r)) (filter_above lt f (y ∷ ys) above)))
    (λ t.
    let rest : (q y || list_any (λ e. q e && not (lt f e)) ys) ≡ holds q (last_or (Some y) (filter (λ e. not (lt f e)) ys)) = any_from lt s f q rises y ys k.0 k.1 in
    by_test (q x)
    (λ u. let v : q y ≡ true = rises x y h.0 u in rw (u, t) (rw v at rest))
    (λ u. by_test (q y) (λ v. rw (u, v, t) (rw v at rest)) (λ v. rw (u, v, t) (rw v at rest))))

pub any_not_above : {X : Type 0} (lt : X → X → Bool) (s : IsStrict lt) (f : X) (q : X → Bool) → ((x y : X) → lt x y ≡ true → q x ≡ true → q y ≡ true) → (es : List X) → InOrder lt es
    → list_any (λ e. q e && not (lt f e)) es ≡ holds q (last_or None (filter (λ e. not (lt f e)) es))
any_not_above lt s f q rises [] k = refl
any_not_above lt s f q rises (x ∷ xs) k =
    by_test (lt f x)
    (λ t.
    let above : Always (lt f) true (x ∷ xs) = (t, all_above lt s f x xs t k.0) in
    none_above lt f q (x ∷ xs) above ∙ sym (ap (λ r. holds q (last_or None r)) (filter_above lt f (x ∷ xs) above)))
    (λ t.
    let rest : (q x || list_any (λ e. q e && not (lt f e)) xs) ≡ holds q (last_or (Some x) (filter (λ e. not (lt f e)) xs)) = any_from lt s f q rises x xs k.0 k.1 in
    by_test (q x) (λ v. rw (v, t) (rw v at rest)) (λ v. rw (v, t) (rw v at rest)))

-- ---- how many are not below, as far as a test holds

abbrev pub IsIn : {X : Type 0} → X → List X → Type 0
IsIn e [] = ⊥
IsIn e (x ∷ xs) = (e ≡ x) ⊎ IsIn e xs

pub find_in : {X : Type 0} (p : X → Bool) (es : List X) (e : X) → find p es ≡ Some e → IsIn e es
find_in p [] e f = absurd cc
find_in p (x ∷ xs) e f =
    by_test (p x)
    (λ t. let same : e ≡ x = cc in inl same)
    (λ t. inr (find_in p xs e (rw t at f)))

always_in : {X : Type 0} (p : X → Bool) (b : Bool) (es : List X) (e : X) → Always p b es → IsIn e es → p e ≡ b
always_in p b [] e h m = absurd m
always_in p b (x ∷ xs) e h (inl same) = ap p same ∙ h.0
always_in p b (x ∷ xs) e h (inr m) = always_in p b xs e h.1 m

abbrev pub rest_len : {X : Type 0} → (X → X → Bool) → (X → Bool) → Option X → List X → ℕ
rest_len lt q None es = 0
rest_len lt q (Some e) es = length (filter (λ x. not (lt x e) && q x) es)

rest_of_tail : {X : Type 0} (lt : X → X → Bool) (q u : X → Bool) (x : X) (xs : List X) → Always (lt x) true xs → (r : Option X) → find u xs ≡ r
    → rest_len lt q r (x ∷ xs) ≡ rest_len lt q r xs
rest_of_tail lt q u x xs k None e = refl
rest_of_tail lt q u x xs k (Some n) e = let t : lt x n ≡ true = found_passes u (lt x) true xs n k e in rw t refl

pub count_up : {X : Type 0} (lt : X → X → Bool) (s : IsStrict lt) (u q : X → Bool) → ((x y : X) → lt x y ≡ true → u x ≡ true → u y ≡ true) → (es : List X) → InOrder lt es
    → length (filter (λ x. u x && q x) es) ≡ rest_len lt q (find u es) es
count_up lt s u q up [] k = refl
count_up lt s u q up (x ∷ xs) k =
    by_test (u x)
    (λ t.
    let same : (u x && q x) ≡ (not (lt x x) && q x) = rw (t, s.irrefl x) refl in
    let rest = alike (λ y. u y && q y) (λ y. not (lt y x) && q y) (lt x) true (λ y h. rw (up x y h t, s.asym x y h) refl) xs k.0 in
    let first : find u (x ∷ xs) ≡ Some x = rw t refl in
    ap length (filter_alike (λ y. u y && q y) (λ y. not (lt y x) && q y) (x ∷ xs) (same, rest)) ∙ sym (ap (λ r. rest_len lt q r (x ∷ xs)) first))
    (λ t. rw t (count_up lt s u q up xs k.1 ∙ sym (rest_of_tail lt q u x xs k.0 (find u xs) refl)))

-- an element, and those above it
count_here : {X : Type 0} (lt : X → X → Bool) (s : IsStrict lt) (q : X → Bool) → ((x y : X) → lt x y ≡ true → q x ≡ false → q y ≡ false) → (e : X) (es : List X) → IsIn e es → InOrder lt es
    → length (filter (λ x. not (lt x e) && q x) es) ≡ cond (q e) (suc (length (filter (λ x. lt e x && q x) es))) 0
count_here lt s q falls e [] m k = absurd m
count_here {X = X} lt s q falls e (x ∷ xs) (inl same) k =
    let rest : filter (λ y. not (lt y x) && q y) xs ≡ filter (λ y. lt x y && q y) xs = filter_alike (λ y. not (lt y x) && q y) (λ y. lt x y && q y) xs (alike (λ y. not (lt y x) && q y) (λ y. lt x y && q y) (lt x) true (λ y h. rw (h, s.asym x y h) refl) xs k.0) in
    let P : X → Type 0 = λ e. length (filter (λ y. not (lt y e) && q y) (x ∷ xs)) ≡ cond (q e) (suc (length (filter (λ y. lt e y && q y) (x ∷ xs)))) 0 in
    subst P (sym same)
    (by_test (q x)
    (λ v. rw (s.irrefl x, v) (ap (λ r. suc (length r)) rest))
    (λ v.
    let none : filter (λ y. lt x y && q y) xs ≡ [] = filter_none (λ y. lt x y && q y) xs (always (lt x) (λ y. lt x y && q y) true false (λ y h. rw (h, falls x y h v) refl) xs k.0) in
    rw (s.irrefl x, v) (ap length (rest ∙ none))))
count_here lt s q falls e (x ∷ xs) (inr m) k =
    let t : lt x e ≡ true = always_in (lt x) true xs e k.0 m in
    let t' : lt e x ≡ false = s.asym x e t in
    rw (t, t') (count_here lt s q falls e xs m k.1)

pub count_step : {X : Type 0} (lt : X → X → Bool) (s : IsStrict lt) (q : X → Bool) → ((x y : X) → lt x y ≡ true → q x ≡ false → q y ≡ false) → (e : X) (es : List X) → IsIn e es → InOrder lt es → q e ≡ true
    → rest_len lt q (Some e) es ≡ suc (rest_len lt q (find (lt e) es) es)
count_step lt s q falls e es m k v =
    count_here lt s q falls e es m k ∙ rw v (ap suc (count_up lt s (lt e) q (λ x y h t. s.trans e x y t h) es k))

pub count_stop : {X : Type 0} (lt : X → X → Bool) (s : IsStrict lt) (q : X → Bool) → ((x y : X) → lt x y ≡ true → q x ≡ false → q y ≡ false) → (e : X) (es : List X) → IsIn e es → InOrder lt es → q e ≡ false
    → rest_len lt q (Some e) es ≡ 0
count_stop lt s q falls e es m k v = count_here lt s q falls e es m k ∙ rw v refl

-- ---- a first element that passes, among those that pass a wider test

abbrev pub only_passing : {X : Type 0} → (X → Bool) → Option X → Option X
only_passing p None = None
only_passing p (Some e) = cond (p e) (Some e) None

pub find_narrower : {X : Type 0} (lt : X → X → Bool) (p u : X → Bool) → ((x : X) → p x ≡ true → u x ≡ true) → ((x y : X) → lt x y ≡ true → u x ≡ true → p x ≡ false → p y ≡ false) → (es : List X) → InOrder lt es
    → find p es ≡ only_passing p (find u es)
find_narrower lt p u wider falls [] k = refl
find_narrower lt p u wider falls (x ∷ xs) k =
    by_test (u x)
    (λ t.
    by_test (p x)
    (λ v. rw (v, t) (rw v refl))
    (λ v. rw (v, t) (rw v (find_none p xs (always (lt x) p true false (λ y h. falls x y h t v) xs k.0)))))
    (λ t. by_test (p x) (λ v. absurd (true≢false (sym (wider x v) ∙ t))) (λ v. rw (v, t) (find_narrower lt p u wider falls xs k.1)))

-- what is found is an element
abbrev pub IsFound : {X : Type 0} → Option X → List X → Type 0
IsFound None es = Unit {0}
IsFound (Some e) es = IsIn e es

pub is_found : {X : Type 0} (p : X → Bool) (es : List X) (o : Option X) → find p es ≡ o → IsFound o es
is_found p es None f = tt
is_found p es (Some e) f = find_in p es e f
