-- What a list has where a test passes, of which there is at most one.
use Rattle.std.proofs.Common.{◌≡◌, ℕ, zero, suc, ◌+◌, ◌-◌, ◌<◌, ◌≤◌, Bool, true, false, ◌||◌, if◌then◌else◌, Some, None, List, [], ◌∷◌, ◌++◌, length, get_or, map, find, refl, sym, ap, ◌∙◌, arith, true≢false}
use Rattle.std.specs.Prelude.{count_by, is_some}
use Rattle.std.specs.List.{list_any, position_from}
use Rattle.std.proofs.lemmas.List.Sums.{sum_by-append, sum_by-cons}
use Rattle.common_lemmas.proofs.Booleans.{by_test}
use Rattle.table_trees.specs.StoredTables.{changed_where, without_where}
use Rattle.table_trees.proofs.Pages.{one_if}

-- ---- how many pass

pub count-yes : {X : Type 0} (p : X → Bool) (x : X) (xs : List X) → p x ≡ true → count_by p (x ∷ xs) ≡ suc (count_by p xs)
count-yes p x xs t =
    let e : count_by p (x ∷ xs) ≡ one_if (p x) + count_by p xs = sum_by-cons (λ x. one_if (p x)) x xs in
    let f : one_if (p x) ≡ 1 = ap one_if t in
    omega (arith, e, f)

pub count-no : {X : Type 0} (p : X → Bool) (x : X) (xs : List X) → p x ≡ false → count_by p (x ∷ xs) ≡ count_by p xs
count-no p x xs t =
    let e : count_by p (x ∷ xs) ≡ one_if (p x) + count_by p xs = sum_by-cons (λ x. one_if (p x)) x xs in
    let f : one_if (p x) ≡ 0 = ap one_if t in
    omega (arith, e, f)

pub count-append : {X : Type 0} (p : X → Bool) (xs ys : List X) → count_by p (xs ++ ys) ≡ count_by p xs + count_by p ys
count-append p xs ys = sum_by-append (λ x. one_if (p x)) xs ys

-- ---- where none passes

pub changed_nowhere : {X : Type 0} (p : X → Bool) (f : X → X) (xs : List X) → count_by p xs ≡ 0 → changed_where p f xs ≡ xs
changed_nowhere p f [] e = refl
changed_nowhere {X} p f (x ∷ xs) e =
    by_test (p x)
    (λ t. absurd (omega (arith, count-yes p x xs t, e)))
    (λ t. (λ i. ap (λ (b : Bool). if b then f x else x) t i ∷ changed_nowhere p f xs (sym (count-no p x xs t) ∙ e) i))

pub without_nowhere : {X : Type 0} (p : X → Bool) (xs : List X) → count_by p xs ≡ 0 → without_where p xs ≡ xs
without_nowhere p [] e = refl
without_nowhere {X} p (x ∷ xs) e =
    by_test (p x)
    (λ t. absurd (omega (arith, count-yes p x xs t, e)))
    (λ t. rw t (ap (λ (l : List X). x ∷ l) (without_nowhere p xs (sym (count-no p x xs t) ∙ e))))

pub found_nowhere : {X : Type 0} (p : X → Bool) (xs : List X) → count_by p xs ≡ 0 → find p xs ≡ None
found_nowhere p [] e = refl
found_nowhere p (x ∷ xs) e =
    by_test (p x)
    (λ t. absurd (omega (arith, count-yes p x xs t, e)))
    (λ t. rw t (found_nowhere p xs (sym (count-no p x xs t) ∙ e)))

pub none_passes : {X : Type 0} (p : X → Bool) (xs : List X) → list_any p xs ≡ false → count_by p xs ≡ 0
none_passes p [] e = refl
none_passes p (x ∷ xs) e =
    by_test (p x)
    (λ t. absurd (true≢false (rw t at e)))
    (λ t. count-no p x xs t ∙ none_passes p xs (rw t at e))

pub some_passes : {X : Type 0} (p : X → Bool) (xs : List X) → list_any p xs ≡ true → 0 < count_by p xs
some_passes p [] e = absurd (true≢false (sym e))
some_passes p (x ∷ xs) e =
    by_test (p x)
    (λ t. omega (arith, count-yes p x xs t))
    (λ t. omega (arith, count-no p x xs t, some_passes p xs (rw t at e)))

pub passes : {X : Type 0} (p : X → Bool) (xs : List X) → 0 < count_by p xs → list_any p xs ≡ true
passes p [] h = absurd (omega (arith, h))
passes p (x ∷ xs) h =
    by_test (p x)
    (λ t. rw t refl)
    (λ t. rw t (passes p xs (omega (arith, h, count-no p x xs t))))

-- ---- the one that passes

-- The only one that passes stands between these.
pub record IsOnly {X : Type 0} (p : X → Bool) (front : List X) (x : X) (back : List X) : Type 0 where
  pub is : p x ≡ true
  pub before : count_by p front ≡ 0
  pub behind : count_by p back ≡ 0

pub only : {X : Type 0} (p : X → Bool) (front : List X) (x : X) (back : List X) → p x ≡ true → count_by p (front ++ x ∷ back) ≤ 1 → IsOnly p front x back
only p front x back t once =
    let total : count_by p (front ++ x ∷ back) ≡ count_by p front + count_by p (x ∷ back) = count-append p front (x ∷ back) in
    record {
      is = t;
      before = omega (arith, once, total, count-yes p x back t);
      behind = omega (arith, once, total, count-yes p x back t);
    }

pub changed-only : {X : Type 0} (p : X → Bool) (f : X → X) (front : List X) (x : X) (back : List X) → IsOnly p front x back → changed_where p f (front ++ x ∷ back) ≡ front ++ f x ∷ back
changed-only p f [] x back o = (λ i. ap (λ (b : Bool). if b then f x else x) o.is i ∷ changed_nowhere p f back o.behind i)
changed-only p f (y ∷ front) x back o =
    by_test (p y)
    (λ t. absurd (omega (arith, count-yes p y front t, o.before)))
    (λ t. (λ i. ap (λ (b : Bool). if b then f y else y) t i ∷ changed-only p f front x back (record { is = o.is; before = sym (count-no p y front t) ∙ o.before; behind = o.behind }) i))

pub without-only : {X : Type 0} (p : X → Bool) (front : List X) (x : X) (back : List X) → IsOnly p front x back → without_where p (front ++ x ∷ back) ≡ front ++ back
without-only p [] x back o = let t = o.is in rw t (without_nowhere p back o.behind)
without-only {X} p (y ∷ front) x back o =
    by_test (p y)
    (λ t. absurd (omega (arith, count-yes p y front t, o.before)))
    (λ t. rw t (ap (λ (l : List X). y ∷ l) (without-only p front x back (record { is = o.is; before = sym (count-no p y front t) ∙ o.before; behind = o.behind }))))

pub found-only : {X : Type 0} (p : X → Bool) (front : List X) (x : X) (back : List X) → IsOnly p front x back → find p (front ++ x ∷ back) ≡ Some x
found-only p [] x back o = let t = o.is in rw t refl
found-only p (y ∷ front) x back o =
    by_test (p y)
    (λ t. absurd (omega (arith, count-yes p y front t, o.before)))
    (λ t. rw t (found-only p front x back (record { is = o.is; before = sym (count-no p y front t) ∙ o.before; behind = o.behind })))

-- ---- the place of the first that passes

pub placed : {X : Type 0} (p : X → Bool) (xs : List X) (i k : ℕ) → Some k ≡ position_from p i xs → (i ≤ k) × (k - i < length xs) × ((d : X) → p (get_or xs (k - i) d) ≡ true)
placed p [] i k e = absurd cc
placed {X} p (x ∷ xs) i k e =
    by_test (p x)
    (λ t.
    let here : Some k ≡ Some i = rw t at e in
    let same : k ≡ i = cc in
    let none : k - i ≡ zero = omega (arith, same) in
    (omega (arith, same), omega (arith, same), λ d. ap (λ n. p (get_or (x ∷ xs) n d)) none ∙ t))
    (λ t.
    let rest = placed p xs (i + 1) k (rw t at e) in
    let one : k - i ≡ suc (k - (i + 1)) = omega (arith, rest.0) in
    (omega (arith, rest.0), omega (arith, rest.0, rest.1), λ d. ap (λ n. p (get_or (x ∷ xs) n d)) one ∙ rest.2 d))

pub placed_nowhere : {X : Type 0} (p : X → Bool) (xs : List X) (i : ℕ) → None ≡ position_from p i xs → count_by p xs ≡ 0
placed_nowhere p [] i e = refl
placed_nowhere p (x ∷ xs) i e =
    by_test (p x)
    (λ t. absurd (never (rw t at e)))
    (λ t. count-no p x xs t ∙ placed_nowhere p xs (i + 1) (rw t at e))
  where
    never : None ≡ Some i → ⊥
    never e = cc

pub has_place : {X : Type 0} (p : X → Bool) (xs : List X) (i : ℕ) → is_some (position_from p i xs) ≡ list_any p xs
has_place p [] i = refl
has_place p (x ∷ xs) i =
    by_test (p x)
    (λ t. rw t refl)
    (λ t. rw t (has_place p xs (i + 1)))

-- ---- the same of what a list shows

pub count-map : {X Y : Type 0} (f : X → Y) (p : Y → Bool) (xs : List X) → count_by p (map f xs) ≡ count_by (λ x. p (f x)) xs
count-map f p [] = refl
count-map f p (x ∷ xs) =
    sum_by-cons (λ y. one_if (p y)) (f x) (map f xs) ∙ ap (λ n. one_if (p (f x)) + n) (count-map f p xs)
    ∙ sym (sum_by-cons (λ x. one_if (p (f x))) x xs)

pub any-map : {X Y : Type 0} (f : X → Y) (p : Y → Bool) (xs : List X) → list_any p (map f xs) ≡ list_any (λ x. p (f x)) xs
any-map f p [] = refl
any-map f p (x ∷ xs) = ap (λ (b : Bool). p (f x) || b) (any-map f p xs)
