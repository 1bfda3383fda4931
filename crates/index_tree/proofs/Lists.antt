-- What is found in a list, from its front and from its end, and what holds of all of it.
use Rattle.std.proofs.Common.{◌≡◌, suc, length, Bool, true, false, cond, List, [], ◌∷◌, filter, find, Option, Some, None, IfSome, refl, sym, ap, subst, ◌∙◌, true≢false, arith}
use Rattle.std.specs.Prelude.{All, AllPairs}
use Rattle.std.specs.List.{last_or, list_all, list_any}
use Rattle.std.proofs.lemmas.List.Elements.{All-cons, All-from_get_or, All-head, All-nil, All-tail}
use Rattle.common_lemmas.proofs.Booleans.{by_test}

-- ---- tests that answer alike

pub find_alike : {X : Type 0} (p q : X → Bool) (xs : List X) → All (λ x. p x ≡ q x) xs → find p xs ≡ find q xs
find_alike p q [] h = refl
find_alike p q (x ∷ xs) h =
    let here : p x ≡ q x = All-head (λ y. p y ≡ q y) x xs h in
    rw here (ap (λ r. cond (q x) (Some x) r) (find_alike p q xs (All-tail (λ y. p y ≡ q y) x xs h)))

pub filter_alike : {X : Type 0} (p q : X → Bool) (xs : List X) → All (λ x. p x ≡ q x) xs → filter p xs ≡ filter q xs
filter_alike p q [] h = refl
filter_alike p q (x ∷ xs) h =
    let here : p x ≡ q x = All-head (λ y. p y ≡ q y) x xs h in
    rw here (ap (λ r. cond (q x) (x ∷ r) r) (filter_alike p q xs (All-tail (λ y. p y ≡ q y) x xs h)))

-- ---- what holds of all

pub find_all : {X : Type 0} (P : X → Type 0) (p : X → Bool) (xs : List X) → All P xs → IfSome (find p xs) P
find_all P p [] h = tt
find_all P p (x ∷ xs) h =
    by_test (p x)
    (λ t. let here : P x = All-head P x xs h in rw t here)
    (λ t. rw t (find_all P p xs (All-tail P x xs h)))

pub last_all : {X : Type 0} (P : X → Type 0) (p : X → Bool) (o : Option X) (xs : List X) → IfSome o P → All P xs → IfSome (last_or o (filter p xs)) P
last_all P p o [] k h = k
last_all P p o (x ∷ xs) k h =
    by_test (p x)
    (λ t. rw t (last_all P p (Some x) xs (All-head P x xs h) (All-tail P x xs h)))
    (λ t. rw t (last_all P p o xs k (All-tail P x xs h)))

pub found_all : {X : Type 0} (P : X → Type 0) (p : X → Bool) (xs : List X) (f : X) → Some f ≡ find p xs → All P xs → P f
found_all P p xs f e h = subst (λ o. IfSome o P) (sym e) (find_all P p xs h)

pub found_passes : {X : Type 0} (p : X → Bool) (xs : List X) (f : X) → Some f ≡ find p xs → p f ≡ true
found_passes p [] f e = absurd cc
found_passes p (x ∷ xs) f e =
    by_test (p x)
    (λ t. let some : Some f ≡ Some x = rw t at e in let same : f ≡ x = cc in ap p same ∙ t)
    (λ t. found_passes p xs f (rw t at e))

pub none_passes : {X : Type 0} (p : X → Bool) (xs : List X) → None ≡ find p xs → All (λ x. p x ≡ false) xs
none_passes p [] e = All-nil (λ x. p x ≡ false)
none_passes p (x ∷ xs) e =
    by_test (p x)
    (λ t. absurd (never (rw t at e)))
    (λ t. All-cons (λ y. p y ≡ false) x xs t (none_passes p xs (rw t at e)))
  where
    never : None ≡ Some x → ⊥
    never f = cc

pub any_found : {X : Type 0} (p q : X → Bool) (xs : List X) (f : X) → Some f ≡ find p xs → q f ≡ true → list_any q xs ≡ true
any_found p q [] f e h = absurd cc
any_found p q (x ∷ xs) f e h =
    by_test (q x)
    (λ u. rw u refl)
    (λ u. by_test (p x)
    (λ t. let some : Some f ≡ Some x = rw t at e in let same : f ≡ x = cc in absurd (true≢false (sym h ∙ ap q same ∙ u)))
    (λ t. rw u (any_found p q xs f (rw t at e) h)))

pub any_none : {X : Type 0} (q : X → Bool) (xs : List X) → All (λ x. q x ≡ false) xs → list_any q xs ≡ false
any_none q [] h = refl
any_none q (x ∷ xs) h =
    let here : q x ≡ false = All-head (λ y. q y ≡ false) x xs h in
    rw here (any_none q xs (All-tail (λ y. q y ≡ false) x xs h))

-- where a test finds nothing, no element passes it
pub none_from_any : {X : Type 0} (q : X → Bool) (xs : List X) → list_any q xs ≡ false → All (λ x. q x ≡ false) xs
none_from_any q [] h = All-nil (λ x. q x ≡ false)
none_from_any q (x ∷ xs) h =
    by_test (q x)
    (λ t. absurd (true≢false (rw t at h)))
    (λ t. All-cons (λ y. q y ≡ false) x xs t (none_from_any q xs (rw t at h)))

pub all_from : {X : Type 0} (p : X → Bool) (xs : List X) → list_all p xs ≡ true → All (λ x. p x ≡ true) xs
all_from p [] h = All-nil (λ x. p x ≡ true)
all_from p (x ∷ xs) h =
    by_test (p x)
    (λ t. All-cons (λ y. p y ≡ true) x xs t (all_from p xs (rw t at h)))
    (λ t. absurd (true≢false (sym (rw t at h))))

pub to_all : {X : Type 0} (p : X → Bool) (xs : List X) → All (λ x. p x ≡ true) xs → list_all p xs ≡ true
to_all p [] h = refl
to_all p (x ∷ xs) h =
    let here : p x ≡ true = All-head (λ y. p y ≡ true) x xs h in
    rw here (to_all p xs (All-tail (λ y. p y ≡ true) x xs h))

-- ---- pairs of elements

pub pairs_head : {X : Type 0} (R : X → X → Type 0) (x : X) (xs : List X) → AllPairs R (x ∷ xs) → All (R x) xs
pairs_head R x xs h = All-from_get_or (R x) xs x (λ i lt. h 0 (suc i) x (omega arith) (omega arith))

pub pairs_tail : {X : Type 0} (R : X → X → Type 0) (x : X) (xs : List X) → AllPairs R (x ∷ xs) → AllPairs R xs
pairs_tail R x xs h = λ i j d lt within. h (suc i) (suc j) d (omega arith) (omega arith)

-- an element that was found lies so to each
pub pairs_found : {X : Type 0} (R : X → X → Type 0) → ((x : X) → R x x) → ((x y : X) → R x y → R y x) → (p : X → Bool) (xs : List X) (f : X) → Some f ≡ find p xs → AllPairs R xs → All (R f) xs
pairs_found R own back p [] f e h = All-nil (R f)
pairs_found R own back p (x ∷ xs) f e h =
    by_test (p x)
    (λ t.
    let some : Some f ≡ Some x = rw t at e in
    let same : x ≡ f = cc in
    subst (λ y. All (R y) (x ∷ xs)) same (All-cons (R x) x xs (own x) (pairs_head R x xs h)))
    (λ t.
    let later : Some f ≡ find p xs = rw t at e in
    All-cons (R f) x xs (back x f (found_all (R x) p xs f later (pairs_head R x xs h))) (pairs_found R own back p xs f later (pairs_tail R x xs h)))

pub all_both : {X : Type 0} (P Q : X → Type 0) (xs : List X) → All P xs → All Q xs → All (λ x. P x × Q x) xs
all_both P Q [] h k = All-nil (λ x. P x × Q x)
all_both P Q (x ∷ xs) h k = All-cons (λ x. P x × Q x) x xs (All-head P x xs h, All-head Q x xs k) (all_both P Q xs (All-tail P x xs h) (All-tail Q x xs k))

pub no_bytes : {X : Type 0} (xs : List X) → length xs ≡ 0 → xs ≡ []
no_bytes [] e = refl
no_bytes (x ∷ xs) e = absurd (omega (arith, e))
