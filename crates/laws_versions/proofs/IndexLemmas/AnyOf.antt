-- Tests of some element of a list, of a part of it, and of what two lists share.
use Rattle.std.proofs.Common.{◌≡◌, ℕ, Bool, true, false, not, ◌&&◌, ◌||◌, cond, List, [], ◌∷◌, filter, refl, sym, ap, ◌∙◌, bytes_eq}
use Rattle.std.specs.List.{list_any, AllByRecursion}
use Rattle.std.specs.List.Sorted.{IsStrictlySortedBy}
use Rattle.std.specs.declared.cmp.Ordering.{Ordering}
use Rattle.std.specs.declared.cmp.Ordering.TheVariants.{Less}
use Rattle.std.specs.Cmp.Lexicographic.{nat_list_eq_equiv, bytes_decides}
use Rattle.common_lemmas.proofs.Lists.{all_each, all_filter}

pub any_filter : {X : Type 0} (p q : X → Bool) (xs : List X) → list_any p (filter q xs) ≡ list_any (λ x. q x && p x) xs
any_filter p q [] = refl
any_filter p q (x ∷ xs) = elim (q x) as (λ b. list_any p (cond b (x ∷ filter q xs) (filter q xs)) ≡ ((b && p x) || list_any (λ y. q y && p y) xs)) [
  | true ↦ ap (λ b. p x || b) (any_filter p q xs)
  | false ↦ any_filter p q xs
]

pub any_alike : {X : Type 0} (p q : X → Bool) (xs : List X) → AllByRecursion (λ x. p x ≡ q x) xs → list_any p xs ≡ list_any q xs
any_alike p q [] h = refl
any_alike p q (x ∷ xs) h = λ i. h.0 i || any_alike p q xs h.1 i

parted : (s r a b : Bool) → (r || (a || b)) ≡ (((not s && r) || a) || ((s && r) || b))
parted true true true b = refl
parted true true false b = refl
parted true false a b = refl
parted false true a b = refl
parted false false a b = refl

-- those that pass another test, and those that do not
pub any_parted : {X : Type 0} (s r : X → Bool) (xs : List X) → list_any r xs ≡ (list_any (λ x. not (s x) && r x) xs || list_any (λ x. s x && r x) xs)
any_parted s r [] = refl
any_parted s r (x ∷ xs) =
    ap (λ b. r x || b) (any_parted s r xs) ∙ parted (s x) (r x) (list_any (λ y. not (s y) && r y) xs) (list_any (λ y. s y && r y) xs)

either : (a b c d : Bool) → ((a || b) || (c || d)) ≡ ((a || c) || (b || d))
either true b c d = refl
either false true true d = refl
either false true false d = refl
either false false c d = refl

any_either : {X : Type 0} (p q : X → Bool) (xs : List X) → list_any (λ x. p x || q x) xs ≡ (list_any p xs || list_any q xs)
any_either p q [] = refl
any_either p q (x ∷ xs) = ap (λ b. (p x || q x) || b) (any_either p q xs) ∙ either (p x) (q x) (list_any p xs) (list_any q xs)

none : {X : Type 0} (xs : List X) → list_any (λ _. false) xs ≡ false
none [] = refl
none (x ∷ xs) = none xs

turned : {X Y : Type 0} (f : X → Y → Bool) (xs : List X) (ys : List Y) → list_any (λ x. list_any (λ y. f x y) ys) xs ≡ list_any (λ y. list_any (λ x. f x y) xs) ys
turned f [] ys = sym (none ys)
turned f (x ∷ xs) ys =
    ap (λ b. list_any (λ y. f x y) ys || b) (turned f xs ys) ∙ sym (any_either (λ y. f x y) (λ y. list_any (λ x. f x y) xs) ys)

any_and : {X : Type 0} (p : X → Bool) (b : Bool) (xs : List X) → (list_any p xs && b) ≡ list_any (λ x. p x && b) xs
any_and p b [] = refl
any_and p b (x ∷ xs) = elim (p x) as (λ t. ((t || list_any p xs) && b) ≡ ((t && b) || list_any (λ y. p y && b) xs)) [
  | true ↦ again b (list_any p xs) (list_any (λ y. p y && b) xs) (any_and p b xs)
  | false ↦ any_and p b xs
]
  where
    again : (b a c : Bool) → (a && b) ≡ c → b ≡ (b || c)
    again true a c h = refl
    again false true c h = h
    again false false c h = h

same_test : (r : List ℕ → Bool) (x y : List ℕ) → (bytes_eq x y && r x) ≡ (bytes_eq y x && r y)
same_test r x y = ap (λ b. b && r x) (nat_list_eq_equiv.symm x y) ∙ (elim (bytes_eq y x) as (λ b. bytes_eq y x ≡ b → (b && r x) ≡ (b && r y)) [
  | true ↦ λ e. ap r (sym ((bytes_decides y x).0 e))
  | false ↦ λ e. refl
]) refl

-- what two lists share stands in both
pub any_shared : (r : List ℕ → Bool) (xs ys : List (List ℕ)) → list_any (λ x. list_any (bytes_eq x) ys && r x) xs ≡ list_any (λ y. list_any (bytes_eq y) xs && r y) ys
any_shared r xs ys =
    any_alike (λ x. list_any (bytes_eq x) ys && r x) (λ x. list_any (λ y. bytes_eq y x && r y) ys) xs (all_each _ here xs)
    ∙ turned (λ x y. bytes_eq y x && r y) xs ys
    ∙ any_alike (λ y. list_any (λ x. bytes_eq y x && r y) xs) (λ y. list_any (bytes_eq y) xs && r y) ys (all_each _ (λ y. sym (any_and (bytes_eq y) (r y) xs)) ys)
  where
    here : (x : List ℕ) → (list_any (bytes_eq x) ys && r x) ≡ list_any (λ y. bytes_eq y x && r y) ys
    here x = any_and (bytes_eq x) (r x) ys ∙ any_alike (λ y. bytes_eq x y && r x) (λ y. bytes_eq y x && r y) ys (all_each _ (λ y. same_test r x y) ys)

-- what is left of a list in order is in order
pub rising_filter : {X : Type 0} (c : X → X → Ordering) (p : X → Bool) (xs : List X) → IsStrictlySortedBy c xs → IsStrictlySortedBy c (filter p xs)
unfolding IsStrictlySortedBy
rising_filter c p [] h = tt
rising_filter c p (x ∷ xs) h = elim (p x) as (λ b. IsStrictlySortedBy c (cond b (x ∷ filter p xs) (filter p xs))) [
  | true ↦ (all_filter (λ y. c x y ≡ Less) p xs h.0, rising_filter c p xs h.1)
  | false ↦ rising_filter c p xs h.1
]
