-- The keys of a record, each the next after the one before it.
use Rattle.std.proofs.Common.{◌≡◌, ℕ, suc, ◌<◌, Bool, true, false, cond, List, [], ◌∷◌, length, Option, Some, None, filter, refl, sym, ap, subst, ◌∙◌, arith}
use Rattle.std.specs.List.{AllByRecursion}
use Rattle.std.specs.List.Sorted.{IsStrictlySortedBy}
use Rattle.std.specs.declared.cmp.Ordering.TheVariants.{Less}
use Rattle.std.specs.Ordering.{nat_cmp, is_lt}
use Rattle.std.specs.Cmp.Lexicographic.{slice_cmp, nat_list_cmp_total}
use Rattle.std.proofs.lemmas.Bool.{false_from_ne_true}
use Rattle.common_lemmas.proofs.Found.{of_found}
use Rattle.common_lemmas.proofs.Orders.{is_less, less-asymmetric, less-irreflexive}
use Rattle.index_derive.specs.Derived.{is_above, next_in}

abbrev pub Rise : List (List ℕ) → Type 0
Rise keys = IsStrictlySortedBy (slice_cmp nat_cmp) keys

abbrev IsLess : List ℕ → List ℕ → Type 0
IsLess x y = slice_cmp nat_cmp x y ≡ Less

-- what is left of rising keys from one on
abbrev pub keys_from : List (List ℕ) → Option (List ℕ) → List (List ℕ)
keys_from keys None = []
keys_from keys (Some key) = key ∷ filter (is_above (Some key)) keys

above_more : (last : Option (List ℕ)) (x y : List ℕ) → is_above last x ≡ true → IsLess x y → is_above last y ≡ true
above_more None x y h g = refl
above_more (Some k) x y h g = ap is_lt (nat_list_cmp_total.trans k x y (is_less (slice_cmp nat_cmp k x) h) g)

not_itself : (x : List ℕ) → is_above (Some x) x ≡ false
not_itself x = false_from_ne_true (is_above (Some x) x) (λ h. less-irreflexive x (is_less (slice_cmp nat_cmp x x) h))

not_back : (x y : List ℕ) → IsLess x y → is_above (Some y) x ≡ false
not_back x y g = false_from_ne_true (is_above (Some y) x) (λ h. less-asymmetric x y g (is_less (slice_cmp nat_cmp y x) h))

filter_all : (p : List ℕ → Bool) (xs : List (List ℕ)) → AllByRecursion (λ x. p x ≡ true) xs → filter p xs ≡ xs
filter_all p [] h = refl
filter_all p (x ∷ xs) h = ap (λ b. cond b (x ∷ filter p xs) (filter p xs)) h.0 ∙ ap (λ ys. x ∷ ys) (filter_all p xs h.1)

all_above : (last : Option (List ℕ)) (x : List ℕ) (ys : List (List ℕ)) → is_above last x ≡ true → AllByRecursion (λ y. IsLess x y) ys → AllByRecursion (λ y. is_above last y ≡ true) ys
all_above last x [] h low = tt
all_above last x (y ∷ ys) h low = (above_more last x y h low.0, all_above last x ys h low.1)

all_behind : (x : List ℕ) (ys : List (List ℕ)) → AllByRecursion (λ y. IsLess x y) ys → AllByRecursion (λ y. is_above (Some x) y ≡ true) ys
all_behind x [] low = tt
all_behind x (y ∷ ys) low = (ap is_lt low.0, all_behind x ys low.1)

-- the keys above one are those from the next on
pub keys_after : (last : Option (List ℕ)) (keys : List (List ℕ)) → Rise keys → filter (is_above last) keys ≡ keys_from keys (next_in keys last)
unfolding IsStrictlySortedBy
keys_after last [] rise = refl
keys_after last (x ∷ xs) rise = by (is_above last x) refl (keys_after last xs rise.1)
  where
    behind : filter (is_above (Some x)) (x ∷ xs) ≡ xs
    behind = ap (λ b. cond b (x ∷ filter (is_above (Some x)) xs) (filter (is_above (Some x)) xs)) (not_itself x) ∙ filter_all (is_above (Some x)) xs (all_behind x xs rise.0)

    later : (o : Option (List ℕ)) → next_in xs last ≡ o → keys_from xs o ≡ keys_from (x ∷ xs) o
    later None e = refl
    later (Some key) e =
        sym (ap (λ b. key ∷ cond b (x ∷ filter (is_above (Some key)) xs) (filter (is_above (Some key)) xs))
        (not_back x key (of_found (λ y. IsLess x y) (is_above last) xs key e rise.0)))

    by : (b : Bool) → is_above last x ≡ b → filter (is_above last) xs ≡ keys_from xs (next_in xs last) → cond b (x ∷ filter (is_above last) xs) (filter (is_above last) xs) ≡ keys_from (x ∷ xs) (cond b (Some x) (next_in xs last))
    by true e rest = ap (λ ys. x ∷ ys) (filter_all (is_above last) xs (all_above last x xs e rise.0) ∙ sym behind)
    by false e rest = rest ∙ later (next_in xs last) refl

-- from the first on they are all of them
pub all_keys : (keys : List (List ℕ)) → Rise keys → keys ≡ keys_from keys (next_in keys None)
all_keys keys rise = sym (filter_all (is_above None) keys (each keys)) ∙ keys_after None keys rise
  where
    each : (ys : List (List ℕ)) → AllByRecursion (λ y. is_above None y ≡ true) ys
    each [] = tt
    each (y ∷ ys) = (refl, each ys)

-- and fewer are left from the next on
pub fewer_keys : (key : List ℕ) (keys : List (List ℕ)) → Rise keys → length (keys_from keys (next_in keys (Some key))) < length (keys_from keys (Some key))
fewer_keys key keys rise = subst (λ n. n < suc (length (filter (is_above (Some key)) keys))) (ap (λ ks. length ks) (keys_after (Some key) keys rise)) (omega arith)
