-- What a search finds, from the front and from the end.
use Rattle.std.proofs.Common.{◌≡◌, Bool, true, false, cond, List, [], ◌∷◌, ◌++◌, map, reverse, filter, find, Option, Some, None, option_map, refl, sym, ap, ◌∙◌}
use Rattle.std.specs.List.{AllByRecursion, last_or}
use Rattle.std.proofs.lemmas.List.{reverse-append}
use Rattle.common_lemmas.proofs.Booleans.{by_test}

pub find_map : {X Y : Type 0} (f : X → Y) (p : Y → Bool) (xs : List X) → find p (map f xs) ≡ option_map f (find (λ x. p (f x)) xs)
find_map f p [] = refl
find_map f p (x ∷ xs) = by_test (p (f x)) (λ t. rw t refl) (λ t. rw t (find_map f p xs))

pub last_map : {X Y : Type 0} (f : X → Y) (p : Y → Bool) (o : Option X) (xs : List X) → last_or (option_map f o) (filter p (map f xs)) ≡ option_map f (last_or o (filter (λ x. p (f x)) xs))
last_map f p o [] = refl
last_map f p o (x ∷ xs) = by_test (p (f x)) (λ t. rw t (last_map f p (Some x) xs)) (λ t. rw t (last_map f p o xs))

pub find_nothing : {X : Type 0} (xs : List X) → None ≡ find (λ _. false) xs
find_nothing [] = refl
find_nothing (x ∷ xs) = find_nothing xs

pub last_nothing : {X : Type 0} (xs : List X) → None ≡ last_or None (filter (λ _. false) xs)
last_nothing [] = refl
last_nothing (x ∷ xs) = last_nothing xs

pub find_none : {X : Type 0} (p : X → Bool) (xs : List X) → AllByRecursion (λ x. p x ≡ false) xs → find p xs ≡ None
find_none p [] h = refl
find_none p (x ∷ xs) h = ap (λ b. cond b (Some x) (find p xs)) h.0 ∙ find_none p xs h.1

-- ---- the first from the end is the last

or_else : {X : Type 0} → Option X → Option X → Option X
or_else None o = o
or_else (Some x) o = Some x

find_append : {X : Type 0} (p : X → Bool) (xs ys : List X) → find p (xs ++ ys) ≡ or_else (find p xs) (find p ys)
unfolding or_else
find_append p [] ys = refl
find_append p (x ∷ xs) ys = by_test (p x) (λ t. rw t refl) (λ t. rw t (find_append p xs ys))

last_some : {X : Type 0} (x : X) (o : Option X) (ys : List X) → last_or (Some x) ys ≡ or_else (last_or (Some x) ys) o
unfolding or_else
last_some x o [] = refl
last_some x o (y ∷ ys) = last_some y o ys

last_default : {X : Type 0} (x : X) (ys : List X) → or_else (last_or None ys) (Some x) ≡ last_or (Some x) ys
unfolding or_else
last_default x [] = refl
last_default x (y ∷ ys) = sym (last_some y (Some x) ys)

or_none : {X : Type 0} (o : Option X) → or_else o None ≡ o
unfolding or_else
or_none None = refl
or_none (Some x) = refl

pub find_reverse : {X : Type 0} (p : X → Bool) (xs : List X) → find p (reverse xs) ≡ last_or None (filter p xs)
find_reverse p [] = refl
find_reverse p (x ∷ xs) =
    ap (find p) (reverse-append (x ∷ []) xs) ∙ find_append p (reverse xs) (x ∷ []) ∙ ap (λ o. or_else o (find p (x ∷ []))) (find_reverse p xs)
    ∙ by_test (p x) (λ t. rw t (last_default x (filter p xs))) (λ t. rw t (or_none (last_or None (filter p xs))))
