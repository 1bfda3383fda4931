-- Lists of which each element, or each two, have something.
use Rattle.std.proofs.Common.{Bool, true, false, cond, List, [], ◌∷◌, ◌++◌, map}
use Rattle.std.specs.List.{AllByRecursion}
use Rattle.common_lemmas.proofs.Lists.{all_append, all_map, all_weaker}
use Rattle.laws_versions.specs.History.{EachTwo}
use Rattle.laws_versions.specs.Readers.{until}

pub all_both : {X : Type 0} (P Q R : X → Type 0) → ((x : X) → P x → Q x → R x) → (xs : List X) → AllByRecursion P xs → AllByRecursion Q xs → AllByRecursion R xs
all_both P Q R f [] h g = tt
all_both P Q R f (x ∷ xs) h g = (f x h.0 g.0, all_both P Q R f xs h.1 g.1)

pub each_weaker : {X : Type 0} (R S : X → X → Type 0) → ((x y : X) → R x y → S x y) → (xs : List X) → EachTwo R xs → EachTwo S xs
each_weaker R S f [] h = tt
each_weaker R S f (x ∷ xs) h = (all_weaker (R x) (S x) (f x) xs h.0, each_weaker R S f xs h.1)

pub each_append : {X : Type 0} (R : X → X → Type 0) (xs : List X) (y : X) → EachTwo R xs → AllByRecursion (λ x. R x y) xs → EachTwo R (xs ++ y ∷ [])
each_append R [] y h k = (tt, tt)
each_append R (x ∷ xs) y h k = (all_append (R x) xs (y ∷ []) h.0 (k.0, tt), each_append R xs y h.1 k.1)

-- each two that become others
pub each_map : {X Y : Type 0} (P : X → Type 0) (R : X → X → Type 0) (S : Y → Y → Type 0) (f : X → Y) → ((x y : X) → P x → P y → R x y → S (f x) (f y)) → (xs : List X) → AllByRecursion P xs → EachTwo R xs → EachTwo S (map f xs)
each_map P R S f g [] p h = tt
each_map P R S f g (x ∷ xs) p h = (all_map (S (f x)) f xs (all_both P (R x) (λ y. S (f x) (f y)) (λ y py r. g x y p.0 py r) xs p.1 h.0), each_map P R S f g xs p.1 h.1)

-- each two, of which each also has something
pub each_both : {X : Type 0} (P : X → Type 0) (R S : X → X → Type 0) → ((x y : X) → P x → P y → R x y → S x y) → (xs : List X) → AllByRecursion P xs → EachTwo R xs → EachTwo S xs
each_both P R S g [] p h = tt
each_both P R S g (x ∷ xs) p h = (all_both P (R x) (S x) (λ y py r. g x y p.0 py r) xs p.1 h.0, each_both P R S g xs p.1 h.1)

pub all_until : {X : Type 0} (P : X → Type 0) (test : X → Bool) (xs : List X) → AllByRecursion P xs → AllByRecursion P (until test xs)
all_until P test [] h = tt
all_until P test (x ∷ xs) h = elim (test x) as (λ b. AllByRecursion P (cond b [] (x ∷ until test xs))) [ true ↦ tt | false ↦ (h.0, all_until P test xs h.1) ]

pub each_until : {X : Type 0} (R : X → X → Type 0) (test : X → Bool) (xs : List X) → EachTwo R xs → EachTwo R (until test xs)
each_until R test [] h = tt
each_until R test (x ∷ xs) h = elim (test x) as (λ b. EachTwo R (cond b [] (x ∷ until test xs))) [ true ↦ tt | false ↦ (all_until (R x) test xs h.0, each_until R test xs h.1) ]

pub each_and : {X : Type 0} (R S : X → X → Type 0) (xs : List X) → EachTwo R xs → EachTwo S xs → EachTwo (λ x y. R x y × S x y) xs
each_and R S [] h g = tt
each_and R S (x ∷ xs) h g = (all_both (R x) (S x) (λ y. R x y × S x y) (λ y r s. (r, s)) xs h.0 g.0, each_and R S xs h.1 g.1)
