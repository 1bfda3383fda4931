-- What it says of each of several that nothing is found of them, and of keys that nothing is found at them.
use Rattle.std.proofs.Common.{◌≡◌, ℕ, List, [], ◌∷◌, ◌++◌, Option, Some, None, refl}
use Rattle.std.specs.Prelude.{map, option_map}
use Rattle.std.specs.FinMap.Entries.{by_order}
use Rattle.std.specs.List.{AllByRecursion}
use Rattle.std.specs.Option.{option_or}
use Rattle.std.specs.Ordering.{nat_cmp}
use Rattle.std.specs.Cmp.Lexicographic.{slice_cmp}
use Rattle.std.specs.declared.cmp.Ordering.{Ordering}
use Rattle.std.specs.declared.cmp.Ordering.TheVariants.{Less, Equal, Greater}
use Rattle.common_lemmas.proofs.Options.{some_apart}
use Rattle.index_derive.specs.Entries.{insert_key, sorted_keys}
use Rattle.image_findings.specs.Images.{Finding, at_least_key, first_key, first_of}

or_none : {X : Type 0} (a b : Option X) → option_or a b ≡ None → (a ≡ None) × (b ≡ None)
or_none None b h = (refl, h)
or_none (Some x) b h = absurd (some_apart x h)

pub each_none : {X : Type 0} (f : X → Option Finding) (xs : List X) → first_of (map f xs) ≡ None → AllByRecursion (λ x. f x ≡ None) xs
each_none f [] h = tt
each_none f (x ∷ xs) h = let a = or_none (f x) (first_of (map f xs)) h in (a.0, each_none f xs a.1)

inserted : (found : List ℕ → Finding) (k : List ℕ) (ks : List (List ℕ)) → option_map found (first_key (insert_key k ks)) ≡ None → ⊥
inserted found k [] h = some_apart (found k) h
inserted found k (x ∷ ks) h = by (slice_cmp nat_cmp k x) h
  where
    by : (o : Ordering) → option_map found (first_key (by_order o (k ∷ x ∷ ks) (x ∷ ks) (x ∷ insert_key k ks))) ≡ None → ⊥
    by Less h = some_apart (found k) h
    by Equal h = some_apart (found x) h
    by Greater h = some_apart (found x) h

pub no_keys : (found : List ℕ → Finding) (keys : List (List ℕ)) → at_least_key found keys ≡ None → keys ≡ []
no_keys found [] h = refl
no_keys found (k ∷ ks) h = absurd (inserted found k (sorted_keys ks) h)

no_cons : {X A : Type 0} (x : X) (xs : List X) → x ∷ xs ≡ [] → A
no_cons x xs e = cc

pub right_empty : {X : Type 0} (xs ys : List X) → xs ++ ys ≡ [] → ys ≡ []
right_empty [] ys e = e
right_empty (x ∷ xs) ys e = no_cons x (xs ++ ys) e

pub left_empty : {X : Type 0} (xs ys : List X) → xs ++ ys ≡ [] → xs ≡ []
left_empty [] ys e = refl
left_empty (x ∷ xs) ys e = no_cons x (xs ++ ys) e
