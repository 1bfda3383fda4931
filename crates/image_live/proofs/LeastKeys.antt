-- The least of some keys.
use Rattle.std.proofs.Common.{◌≡◌, ℕ, Bool, true, false, cond, List, [], ◌∷◌, Option, Some, None, refl, sym, ap, subst, ◌∙◌, inl, inr}
use Rattle.std.specs.Prelude.{filter}
use Rattle.std.specs.Ordering.{nat_cmp, ordering_reverse}
use Rattle.std.specs.Cmp.Lexicographic.{slice_cmp, nat_list_cmp_total}
use Rattle.std.specs.FinMap.Entries.{by_order}
use Rattle.std.specs.declared.cmp.Ordering.{Ordering}
use Rattle.std.specs.declared.cmp.Ordering.TheVariants.{Less, Equal, Greater}
use Rattle.std.proofs.lemmas.Map.Lookups.{exact_bytes}
use Rattle.common_lemmas.proofs.Booleans.{impossible}
use Rattle.common_lemmas.proofs.Orders.{less-irreflexive}
use Rattle.index_derive.specs.Entries.{insert_key, sorted_keys}
use Rattle.image_findings.specs.Images.{first_key, least_key}
use Rattle.image_live.proofs.Lists.{In}

abbrev order : List ℕ → List ℕ → Ordering
order = slice_cmp nat_cmp

-- ---- what a filter leaves

pub in_filter : {X : Type 0} (p : X → Bool) (x : X) (xs : List X) → p x ≡ true → In x xs → In x (filter p xs)
in_filter p x [] e h = absurd h
in_filter {X} p x (y ∷ xs) e h = by (p y) refl h (λ g. in_filter p x xs e g)
  where
    by : (b : Bool) → p y ≡ b → In x (y ∷ xs) → (In x xs → In x (filter p xs)) → In x (cond b (y ∷ filter p xs) (filter p xs))
    by true f (inl g) rest = inl g
    by true f (inr g) rest = inr (rest g)
    by false f (inl g) rest = impossible (sym f ∙ ap p g ∙ e)
    by false f (inr g) rest = rest g

pub of_filter : {X : Type 0} (p : X → Bool) (x : X) (xs : List X) → In x (filter p xs) → p x ≡ true
of_filter p x [] h = absurd h
of_filter {X} p x (y ∷ xs) h = by (p y) refl h (λ g. of_filter p x xs g)
  where
    by : (b : Bool) → p y ≡ b → In x (cond b (y ∷ filter p xs) (filter p xs)) → (In x (filter p xs) → p x ≡ true) → p x ≡ true
    by true f (inl g) rest = ap p (sym g) ∙ f
    by true f (inr g) rest = rest g
    by false f g rest = rest g

-- ---- the least

abbrev lesser : List ℕ → Option (List ℕ) → List ℕ
lesser key None = key
lesser key (Some other) = by_order (order key other) key other other

first_insert : (key : List ℕ) (keys : List (List ℕ)) → first_key (insert_key key keys) ≡ Some (lesser key (first_key keys))
first_insert key [] = refl
first_insert key (k ∷ keys) = by (order key k)
  where
    by : (o : Ordering) → first_key (by_order o (key ∷ k ∷ keys) (k ∷ keys) (k ∷ insert_key key keys)) ≡ Some (by_order o key k k)
    by Less = refl
    by Equal = refl
    by Greater = refl

-- none of them is below it
abbrev IsLeast : List ℕ → List (List ℕ) → Type 0
IsLeast m keys = In m keys × ((x : List ℕ) → In x keys → order x m ≡ Less → ⊥)

abbrev IsLeastIn : Option (List ℕ) → List (List ℕ) → Type 0
IsLeastIn None keys = keys ≡ []
IsLeastIn (Some m) keys = IsLeast m keys

equal_less : Equal ≡ Less → ⊥
equal_less e = cc

greater_less : Greater ≡ Less → ⊥
greater_less e = cc

least_in : (keys : List (List ℕ)) → IsLeastIn (least_key keys) keys
least_in [] = refl
least_in (key ∷ keys) = subst (λ (o : Option (List ℕ)). IsLeastIn o (key ∷ keys)) (sym (first_insert key (sorted_keys keys))) (by (least_key keys) (least_in keys))
  where
    pick : (m : List ℕ) → IsLeast m keys → (o : Ordering) → order key m ≡ o → IsLeast (by_order o key m m) (key ∷ keys)
    pick m is Less e = (inl refl, low)
      where
        low : (x : List ℕ) → In x (key ∷ keys) → order x key ≡ Less → ⊥
        low x (inl f) less = less-irreflexive key (subst (λ (k : List ℕ). order k key ≡ Less) (sym f) less)
        low x (inr f) less = is.1 x f (nat_list_cmp_total.trans x key m less e)
    pick m is Equal e = (inr is.0, low)
      where
        low : (x : List ℕ) → In x (key ∷ keys) → order x m ≡ Less → ⊥
        low x (inl f) less = equal_less (sym e ∙ ap (λ (k : List ℕ). order k m) f ∙ less)
        low x (inr f) less = is.1 x f less
    pick m is Greater e = (inr is.0, low)
      where
        low : (x : List ℕ) → In x (key ∷ keys) → order x m ≡ Less → ⊥
        low x (inl f) less = greater_less (sym e ∙ ap (λ (k : List ℕ). order k m) f ∙ less)
        low x (inr f) less = is.1 x f less

    alone : keys ≡ [] → IsLeast key (key ∷ keys)
    alone none = (inl refl, low)
      where
        low : (x : List ℕ) → In x (key ∷ keys) → order x key ≡ Less → ⊥
        low x (inl f) less = less-irreflexive key (subst (λ (k : List ℕ). order k key ≡ Less) (sym f) less)
        low x (inr f) less = absurd (subst (λ (l : List (List ℕ)). In x l) none f)

    by : (o : Option (List ℕ)) → IsLeastIn o keys → IsLeast (lesser key o) (key ∷ keys)
    by None none = alone none
    by (Some m) is = pick m is (order key m) refl

tied : (a b : List ℕ) → (order a b ≡ Less → ⊥) → (order b a ≡ Less → ⊥) → a ≡ b
tied a b f g = by (order a b) refl
  where
    by : (o : Ordering) → order a b ≡ o → a ≡ b
    by Less e = absurd (f e)
    by Equal e = exact_bytes a b e
    by Greater e = absurd (g (nat_list_cmp_total.antisymm b a ∙ ap ordering_reverse e))

pub least_is : (k : List ℕ) (keys : List (List ℕ)) → In k keys → ((x : List ℕ) → In x keys → order x k ≡ Less → ⊥) → least_key keys ≡ Some k
least_is k keys there low = by (least_key keys) (least_in keys)
  where
    by : (o : Option (List ℕ)) → IsLeastIn o keys → o ≡ Some k
    by None none = absurd (subst (λ (l : List (List ℕ)). In k l) none there)
    by (Some m) is = ap Some (tied m k (low m is.0) (is.1 k there))
