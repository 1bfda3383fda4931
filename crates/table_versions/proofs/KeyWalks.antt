-- The keys of a record, gone over one after the other.
use Rattle.std.proofs.Common.{◌≡◌, ℕ, suc, ◌<◌, Bool, true, false, ◌&&◌, ◌||◌, cond, List, [], ◌∷◌, length, Option, Some, None, filter, find, refl, sym, ap, subst, ◌∙◌, arith}
use Rattle.std.specs.List.{AllByRecursion, list_any}
use Rattle.std.specs.List.Sorted.{IsStrictlySortedBy}
use Rattle.std.specs.declared.cmp.Ordering.TheVariants.{Less}
use Rattle.std.specs.Ordering.{is_lt, nat_cmp}
use Rattle.std.specs.Cmp.Lexicographic.{slice_cmp}
use Rattle.std.proofs.lemmas.Bool.{false_from_ne_true}
use Rattle.index_derive.specs.Derived.{is_above, next_in}
use Rattle.laws_engine.proofs.TableLemmas.Neighbours.{fewer, found_in}
use Rattle.laws_engine.proofs.TableLemmas.Order.{lt_lt, not_below_itself}
use Rattle.common_lemmas.proofs.Found.{of_found}
use Rattle.common_lemmas.proofs.Booleans.{impossible}
use Rattle.table_versions.proofs.WithKey.{filter_alike}

abbrev pub Rise : List (List ℕ) → Type 0
Rise keys = IsStrictlySortedBy (slice_cmp nat_cmp) keys

-- whether this key, or one above it, passes
abbrev pub key_from : (List ℕ → Bool) → List (List ℕ) → Option (List ℕ) → Bool
key_from test keys None = false
key_from test keys (Some key) = test key || list_any test (filter (is_above (Some key)) keys)

above_itself : (key : List ℕ) → is_above (Some key) key ≡ false
above_itself key = false_from_ne_true (is_above (Some key) key) (not_below_itself key)

above_more : (after : Option (List ℕ)) (x y : List ℕ) → is_above after x ≡ true → slice_cmp nat_cmp x y ≡ Less → is_above after y ≡ true
above_more None x y h less = refl
above_more (Some key) x y h less = lt_lt key x y h (ap is_lt less)

above_all : (after : Option (List ℕ)) (x : List ℕ) (ys : List (List ℕ)) → is_above after x ≡ true → AllByRecursion (λ y. slice_cmp nat_cmp x y ≡ Less) ys → AllByRecursion (λ y. is_above after y ≡ is_above (Some x) y) ys
above_all after x [] h low = tt
above_all after x (y ∷ ys) h low = (above_more after x y h low.0 ∙ sym (ap is_lt low.0), above_all after x ys h low.1)

key_beyond : (test : List ℕ → Bool) (after : Option (List ℕ)) (keys : List (List ℕ)) → Rise keys → list_any test (filter (is_above after) keys) ≡ key_from test keys (next_in keys after)
unfolding IsStrictlySortedBy
key_beyond test after [] rise = refl
key_beyond test after (x ∷ xs) rise = by (is_above after x) refl (key_beyond test after xs rise.1)
  where
    from_x : (b : Bool) → is_above (Some x) x ≡ b → b ≡ false → filter (is_above (Some x)) xs ≡ cond b (x ∷ filter (is_above (Some x)) xs) (filter (is_above (Some x)) xs)
    from_x true e f = impossible (sym f)
    from_x false e f = refl

    later : (o : Option (List ℕ)) → find (is_above after) xs ≡ o → key_from test xs o ≡ key_from test (x ∷ xs) o
    later None f = refl
    later (Some k) f =
        let less : slice_cmp nat_cmp x k ≡ Less = of_found (λ y. slice_cmp nat_cmp x y ≡ Less) (is_above after) xs k f rise.0 in
        let not_above : is_above (Some k) x ≡ false = false_from_ne_true (is_above (Some k) x) (λ back. not_below_itself x (lt_lt x k x (ap is_lt less) back)) in
        sym (ap (λ b. test k || list_any test (cond b (x ∷ filter (is_above (Some k)) xs) (filter (is_above (Some k)) xs))) not_above)

    by : (b : Bool) → is_above after x ≡ b → list_any test (filter (is_above after) xs) ≡ key_from test xs (next_in xs after)
        → list_any test (cond b (x ∷ filter (is_above after) xs) (filter (is_above after) xs)) ≡ key_from test (x ∷ xs) (cond b (Some x) (find (is_above after) xs))
    by true e rest =
        ap (λ ys. test x || list_any test ys) (filter_alike (is_above after) (is_above (Some x)) xs (above_all after x xs e rise.0) ∙ from_x (is_above (Some x) x) refl (above_itself x))
    by false e rest = rest ∙ later (find (is_above after) xs) refl

all_above : (keys : List (List ℕ)) → filter (is_above None) keys ≡ keys
all_above [] = refl
all_above (x ∷ xs) = ap (λ rest. x ∷ rest) (all_above xs)

-- ---- the walk

-- Whether some key passes is told from the key that was found on.
abbrev pub IsKeyWalk : (List ℕ → Bool) → List (List ℕ) → Option (List ℕ) → Type 0
IsKeyWalk test keys found = list_any test keys ≡ key_from test keys found

pub keys_begin : (test : List ℕ → Bool) (keys : List (List ℕ)) (found : Option (List ℕ)) → Rise keys → found ≡ next_in keys None → IsKeyWalk test keys found
keys_begin test keys found rise is = ap (list_any test) (sym (all_above keys)) ∙ key_beyond test None keys rise ∙ ap (key_from test keys) (sym is)

pub keys_go_on : (test : List ℕ → Bool) (keys : List (List ℕ)) (found next : Option (List ℕ)) (key : List ℕ) → Rise keys → IsKeyWalk test keys found → found ≡ Some key → test key ≡ false → next ≡ next_in keys (Some key) → IsKeyWalk test keys next
keys_go_on test keys found next key rise walk here fails is =
    walk ∙ ap (key_from test keys) here
    ∙ ap (λ b. b || list_any test (filter (is_above (Some key)) keys)) fails
    ∙ key_beyond test (Some key) keys rise ∙ ap (key_from test keys) (sym is)

pub keys_find : (test : List ℕ → Bool) (keys : List (List ℕ)) (found : Option (List ℕ)) (key : List ℕ) → IsKeyWalk test keys found → found ≡ Some key → test key ≡ true → list_any test keys ≡ true
keys_find test keys found key walk here passes = walk ∙ ap (key_from test keys) here ∙ ap (λ b. b || list_any test (filter (is_above (Some key)) keys)) passes

pub keys_end : (test : List ℕ → Bool) (keys : List (List ℕ)) (found : Option (List ℕ)) → IsKeyWalk test keys found → found ≡ None → list_any test keys ≡ false
keys_end test keys found walk none = walk ∙ ap (key_from test keys) none

-- how many keys there are from one on
abbrev pub keys_left : List (List ℕ) → Option (List ℕ) → ℕ
keys_left keys None = 0
keys_left keys (Some key) = suc (length (filter (is_above (Some key)) keys))

pub fewer_keys : (keys : List (List ℕ)) (found next : Option (List ℕ)) (key : List ℕ) → found ≡ Some key → next ≡ next_in keys (Some key) → keys_left keys next < keys_left keys found
fewer_keys keys found next key here is = subst (λ (o : Option (List ℕ)). keys_left keys next < keys_left keys o) (sym here) (by next is)
  where
    by : (o : Option (List ℕ)) → o ≡ next_in keys (Some key) → keys_left keys o < keys_left keys (Some key)
    by None e = omega arith
    by (Some k) e =
        let there = found_in (is_above (Some key)) k keys (sym e) in
        let less : length (filter (is_above (Some k)) keys) < length (filter (is_above (Some key)) keys) =
        fewer (is_above (Some k)) (is_above (Some key)) k (λ y above. lt_lt key k y there.1 above) (above_itself k) there.1 keys there.0 in
        omega (arith, less)

-- ---- some of the keys

pub any_new : (new test : List ℕ → Bool) (keys : List (List ℕ)) → list_any (λ key. new key && test key) keys ≡ list_any test (filter new keys)
any_new new test [] = refl
any_new new test (x ∷ xs) = by (new x) (any_new new test xs)
  where
    by : (b : Bool) → list_any (λ key. new key && test key) xs ≡ list_any test (filter new xs)
        → ((b && test x) || list_any (λ key. new key && test key) xs) ≡ list_any test (cond b (x ∷ filter new xs) (filter new xs))
    by true rest = ap (λ b. test x || b) rest
    by false rest = rest
