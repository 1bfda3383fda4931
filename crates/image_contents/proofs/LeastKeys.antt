-- The least of some keys, taken one after another.
use Rattle.std.proofs.Common.{◌≡◌, ℕ, Bool, true, false, ◌||◌, cond, List, [], ◌∷◌, ◌++◌, Option, Some, None, refl, sym, ap, subst, ◌∙◌}
use Rattle.std.specs.Prelude.{bytes_eq}
use Rattle.std.specs.List.{list_any}
use Rattle.std.specs.Ordering.{is_eq, is_lt, ordering_reverse}
use Rattle.std.specs.Cmp.Lexicographic.{nat_list_cmp_total}
use Rattle.std.specs.FinMap.Entries.{by_order}
use Rattle.std.specs.declared.cmp.Ordering.{Ordering}
use Rattle.std.specs.declared.cmp.Ordering.TheVariants.{Less, Equal, Greater}
use Rattle.common_lemmas.proofs.Booleans.{by_test, impossible}
use Rattle.common_lemmas.proofs.Numbers.{same_bytes}
use Rattle.common_lemmas.proofs.Orders.{is_less, less-irreflexive}
use Rattle.index_derive.specs.Entries.{insert_key, sorted_keys}
use Rattle.image_findings.specs.Images.{first_key, least_key}
use Rattle.long_value.specs.ChangedValues.{same_key}
use Rattle.long_value.specs.Values.{order}
use Rattle.image_contents.specs.HeadlessValues.{least_of, lesser, with_lesser}

abbrev lower : List ℕ → List ℕ → Bool
lower a b = is_lt (order a b)

not_lower : (a b : List ℕ) → (lower a b ≡ true → ⊥) → lower a b ≡ false
not_lower a b h = by_test (lower a b) (λ t. absurd (h t)) (λ f. f)

lower_through : (a b c : List ℕ) → lower a b ≡ true → lower b c ≡ true → lower a c ≡ true
lower_through a b c s t = ap is_lt (nat_list_cmp_total.trans a b c (is_less (order a b) s) (is_less (order b c) t))

not_itself : (a : List ℕ) → lower a a ≡ false
not_itself a = not_lower a a (λ t. less-irreflexive a (is_less (order a a) t))

not_both : (a b : List ℕ) → lower a b ≡ true → lower b a ≡ false
not_both a b s = not_lower b a (λ t. less-irreflexive a (is_less (order a a) (lower_through a b a s t)))

tied : (a b : List ℕ) → lower a b ≡ false → lower b a ≡ false → a ≡ b
tied a b s t = by (order a b) refl
  where
    by : (o : Ordering) → order a b ≡ o → a ≡ b
    by Less e = impossible (sym s ∙ ap is_lt e)
    by Equal e = same_key a b (ap is_eq e)
    by Greater e = impossible (sym t ∙ ap is_lt (nat_list_cmp_total.antisymm b a ∙ ap ordering_reverse e))

-- ---- the lesser of two keys

picked : List ℕ → List ℕ → List ℕ
picked m k = cond (lower k m) k m

picks : (m k : List ℕ) → with_lesser (Some m) k ≡ Some (picked m k)
unfolding picked
picks m k = by (lower k m)
  where
    by : (b : Bool) → cond b (Some k) (Some m) ≡ Some (cond b k m)
    by true = refl
    by false = refl

picked_new : (m k : List ℕ) → lower k m ≡ true → picked m k ≡ k
unfolding picked
picked_new m k t = ap (λ b. cond b k m) t

picked_old : (m k : List ℕ) → lower k m ≡ false → picked m k ≡ m
unfolding picked
picked_old m k f = ap (λ b. cond b k m) f

picked_twice : (k : List ℕ) → picked k k ≡ k
picked_twice k = picked_old k k (not_itself k)

turned : (a b : List ℕ) → picked a b ≡ picked b a
turned a b =
    by_test (lower b a)
    (λ t. picked_new a b t ∙ sym (picked_old b a (not_both b a t)))
    (λ f. by_test (lower a b) (λ t. picked_old a b f ∙ sym (picked_new b a t)) (λ g. picked_old a b f ∙ tied a b g f ∙ sym (picked_old b a g)))

grouped : (m a b : List ℕ) → picked (picked m a) b ≡ picked m (picked a b)
grouped m a b =
    by_test (lower a m)
    (λ am. ap (λ k. picked k b) (picked_new m a am)
    ∙ by_test (lower b a)
    (λ ba. picked_new a b ba ∙ sym (ap (picked m) (picked_new a b ba) ∙ picked_new m b (lower_through b a m ba am)))
    (λ ba. picked_old a b ba ∙ sym (ap (picked m) (picked_old a b ba) ∙ picked_new m a am)))
    (λ am. ap (λ k. picked k b) (picked_old m a am)
    ∙ by_test (lower b a)
    (λ ba. sym (ap (picked m) (picked_new a b ba)))
    (λ ba. picked_old m b (not_lower b m (low am ba)) ∙ sym (ap (picked m) (picked_old a b ba) ∙ picked_old m a am)))
  where
    low : lower a m ≡ false → lower b a ≡ false → lower b m ≡ true → ⊥
    low am ba bm =
        by_test (lower a b)
        (λ ab. impossible (sym am ∙ lower_through a b m ab bm))
        (λ ab. impossible (sym am ∙ ap (λ k. lower k m) (tied a b ab ba) ∙ bm))

-- ---- one after another

pub swapped : (o : Option (List ℕ)) (a b : List ℕ) → with_lesser (with_lesser o a) b ≡ with_lesser (with_lesser o b) a
swapped None a b = picks a b ∙ ap Some (turned a b) ∙ sym (picks b a)
swapped (Some m) a b =
    ap (λ o. with_lesser o b) (picks m a) ∙ picks (picked m a) b ∙ ap Some (grouped m a b ∙ ap (picked m) (turned a b) ∙ sym (grouped m b a)) ∙ sym (picks (picked m b) a)
    ∙ sym (ap (λ o. with_lesser o a) (picks m b))

twice : (o : Option (List ℕ)) (k : List ℕ) → with_lesser (with_lesser o k) k ≡ with_lesser o k
twice None k = picks k k ∙ ap Some (picked_twice k)
twice (Some m) k = ap (λ o. with_lesser o k) (picks m k) ∙ picks (picked m k) k ∙ ap Some (grouped m k k ∙ ap (picked m) (picked_twice k)) ∙ sym (picks m k)

lesser_more : (b o : Option (List ℕ)) (k : List ℕ) → lesser b (with_lesser o k) ≡ with_lesser (lesser b o) k
lesser_more b None k = refl
lesser_more None (Some m) k = ap (lesser None) (picks m k) ∙ sym (picks m k)
lesser_more (Some l) (Some m) k =
    ap (lesser (Some l)) (picks m k) ∙ picks l (picked m k) ∙ ap Some (sym (grouped l m k)) ∙ sym (picks (picked l m) k) ∙ sym (ap (λ o. with_lesser o k) (picks l m))

pub least_more : (o : Option (List ℕ)) (k : List ℕ) (keys : List (List ℕ)) → least_of (with_lesser o k) keys ≡ with_lesser (least_of o keys) k
least_more o k [] = refl
least_more o k (y ∷ keys) = ap (λ l. least_of l keys) (swapped o k y) ∙ least_more (with_lesser o y) k keys

-- the least of all behind one
pub least_both : (b : Option (List ℕ)) (keys : List (List ℕ)) → lesser b (least_of None keys) ≡ least_of b keys
least_both b [] = refl
least_both b (k ∷ keys) =
    ap (lesser b) (least_more None k keys) ∙ lesser_more b (least_of None keys) k ∙ ap (λ o. with_lesser o k) (least_both b keys) ∙ sym (least_more b k keys)

-- ---- the least key

first_with : (key : List ℕ) (keys : List (List ℕ)) → first_key (insert_key key keys) ≡ with_lesser (first_key keys) key
first_with key [] = refl
first_with key (k ∷ keys) = by (order key k)
  where
    by : (o : Ordering) → first_key (by_order o (key ∷ k ∷ keys) (k ∷ keys) (k ∷ insert_key key keys)) ≡ cond (is_lt o) (Some key) (Some k)
    by Less = refl
    by Equal = refl
    by Greater = refl

least_with : (key : List ℕ) (keys : List (List ℕ)) → least_key (key ∷ keys) ≡ with_lesser (least_key keys) key
least_with key keys = first_with key (sorted_keys keys)

pub least_append : (xs ys : List (List ℕ)) → least_key (xs ++ ys) ≡ least_of (least_key xs) ys
least_append [] [] = refl
least_append [] (y ∷ ys) = least_with y ys ∙ ap (λ o. with_lesser o y) (least_append [] ys) ∙ sym (least_more None y ys)
least_append (x ∷ xs) ys = least_with x (xs ++ ys) ∙ ap (λ o. with_lesser o x) (least_append xs ys) ∙ sym (least_more (least_key xs) x ys) ∙ ap (λ o. least_of o ys) (sym (least_with x xs))

-- a key that is among them changes nothing
pub least_among : (key : List ℕ) (keys : List (List ℕ)) → list_any (bytes_eq key) keys ≡ true → with_lesser (least_key keys) key ≡ least_key keys
least_among key [] e = impossible e
least_among key (k ∷ keys) e =
    by_test (bytes_eq key k)
    (λ t. let same = same_bytes key k t in
    ap (λ o. with_lesser o key) (least_with k keys) ∙ ap (with_lesser (with_lesser (least_key keys) k)) same ∙ twice (least_key keys) k ∙ sym (least_with k keys))
    (λ f. ap (λ o. with_lesser o key) (least_with k keys) ∙ swapped (least_key keys) k key
    ∙ ap (λ o. with_lesser o k) (least_among key keys (sym (ap (λ b. b || list_any (bytes_eq key) keys) f) ∙ e)) ∙ sym (least_with k keys))

-- ---- what a comparison tells

pub lesser_second : (a b : Option (List ℕ)) (m k : List ℕ) → a ≡ Some m → b ≡ Some k → (t : Bool) → t ≡ is_lt (order k m) → t ≡ true → b ≡ lesser a b
lesser_second a b m k is_a is_b t is e = is_b ∙ sym (ap (λ o. lesser o b) is_a ∙ ap (lesser (Some m)) is_b ∙ ap (λ c. cond c (Some k) (Some m)) (sym is ∙ e))

pub lesser_first : (a b : Option (List ℕ)) (m k : List ℕ) → a ≡ Some m → b ≡ Some k → (t : Bool) → t ≡ is_lt (order k m) → t ≡ false → a ≡ lesser a b
lesser_first a b m k is_a is_b t is e = is_a ∙ sym (ap (λ o. lesser o b) is_a ∙ ap (lesser (Some m)) is_b ∙ ap (λ c. cond c (Some k) (Some m)) (sym is ∙ e))

pub new_least : (a : Option (List ℕ)) (m k : List ℕ) → a ≡ Some m → (t : Bool) → t ≡ is_lt (order k m) → t ≡ true → Some k ≡ with_lesser a k
new_least a m k is_a t is e = sym (ap (λ o. with_lesser o k) is_a ∙ ap (λ c. cond c (Some k) (Some m)) (sym is ∙ e))

pub same_least : (a : Option (List ℕ)) (m k : List ℕ) → a ≡ Some m → (t : Bool) → t ≡ is_lt (order k m) → t ≡ false → Some m ≡ with_lesser a k
same_least a m k is_a t is e = sym (ap (λ o. with_lesser o k) is_a ∙ ap (λ c. cond c (Some k) (Some m)) (sym is ∙ e))
