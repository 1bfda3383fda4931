-- Places of held changes, and the last one of a front that passes a test.
use Rattle.std.proofs.Common.{◌≡◌, ℕ, zero, suc, ◌<◌, ◌≤◌, Bool, true, false, List, [], ◌∷◌, length, Option, Some, None, take, drop, refl, sym, ap, subst, ◌∙◌, arith}
use Rattle.std.specs.Prelude.{slice_get, ⊤}
use Rattle.common_lemmas.proofs.Options.{none_some, same_some}
use Rattle.image_live.specs.KeySpans.{begin_behind}
use Rattle.version_store.specs.HeldChanges.{HeldChange, last_place, later_place}

-- ---- places

-- what stands at a place
pub record At {X : Type 0} (xs : List X) (i : ℕ) : Type 0 where
  pub item : X
  pub is_at : slice_get xs i ≡ Some item

pub stands_at : {X : Type 0} (xs : List X) (i : ℕ) → i < length xs → At xs i
stands_at [] i lt = absurd (omega (arith, lt))
stands_at (x ∷ xs) zero lt = record { item = x; is_at = refl }
stands_at (x ∷ xs) (suc i) lt = let rest : At xs i = stands_at xs i (omega (arith, lt)) in record { item = rest.item; is_at = rest.is_at }

pub place_within : {X : Type 0} (xs : List X) (i : ℕ) (x : X) → slice_get xs i ≡ Some x → i < length xs
place_within [] i x at = none_some x at
place_within (y ∷ xs) zero x at = omega arith
place_within (y ∷ xs) (suc i) x at = let rest : i < length xs = place_within xs i x at in omega (arith, rest)

-- what is left from a place on
pub left_at : {X : Type 0} (xs : List X) (i : ℕ) (x : X) → slice_get xs i ≡ Some x → drop i xs ≡ x ∷ drop (suc i) xs
left_at [] i x at = none_some x at
left_at (y ∷ xs) zero x at = ap (λ z. z ∷ xs) (same_some y x at)
left_at (y ∷ xs) (suc i) x at = left_at xs i x at

pub first_left : {X : Type 0} (xs : List X) (i : ℕ) (x : X) (rest : List X) → drop i xs ≡ x ∷ rest → slice_get xs i ≡ Some x
first_left [] zero x rest e = absurd (nothing e)
  where
    nothing : {Y : Type 0} {y : Y} {ys : List Y} → [] ≡ y ∷ ys → ⊥
    nothing e = cc
first_left [] (suc i) x rest e = absurd (nothing e)
  where
    nothing : {Y : Type 0} {y : Y} {ys : List Y} → [] ≡ y ∷ ys → ⊥
    nothing e = cc
first_left (y ∷ xs) zero x rest e = ap first e
  where
    first : {Y : Type 0} → List Y → Option Y
    first [] = None
    first (z ∷ zs) = Some z
first_left (y ∷ xs) (suc i) x rest e = first_left xs i x rest e

pub rest_left : {X : Type 0} (xs : List X) (i : ℕ) (x : X) (rest : List X) → drop i xs ≡ x ∷ rest → drop (suc i) xs ≡ rest
rest_left xs i x rest e = tail_of (sym (left_at xs i x (first_left xs i x rest e)) ∙ e)
  where
    tail : {Y : Type 0} → List Y → List Y
    tail [] = []
    tail (z ∷ zs) = zs

    tail_of : {Y : Type 0} {y z : Y} {ys zs : List Y} → y ∷ ys ≡ z ∷ zs → ys ≡ zs
    tail_of f = ap tail f

pub nothing_left : {X : Type 0} (xs : List X) (i : ℕ) → length xs ≤ i → drop i xs ≡ []
nothing_left [] zero le = refl
nothing_left [] (suc i) le = refl
nothing_left (x ∷ xs) zero le = absurd (omega (arith, le))
nothing_left (x ∷ xs) (suc i) le = nothing_left xs i (omega (arith, le))

pub whole_front : {X : Type 0} (xs : List X) → take (length xs) xs ≡ xs
whole_front [] = refl
whole_front (x ∷ xs) = ap (λ l. x ∷ l) (whole_front xs)

-- ---- in front of a place

pub in_front : {X : Type 0} (end : ℕ) (xs : List X) (i : ℕ) (x : X) → i < end → slice_get xs i ≡ Some x → slice_get (take end xs) i ≡ Some x
in_front zero xs i x lt at = absurd (omega (arith, lt))
in_front (suc end) [] i x lt at = none_some x at
in_front (suc end) (y ∷ xs) zero x lt at = at
in_front (suc end) (y ∷ xs) (suc i) x lt at = in_front end xs i x (omega (arith, lt)) at

pub of_front : {X : Type 0} (end : ℕ) (xs : List X) (i : ℕ) (x : X) → slice_get (take end xs) i ≡ Some x → slice_get xs i ≡ Some x
of_front zero xs i x at = none_some x at
of_front (suc end) [] i x at = at
of_front (suc end) (y ∷ xs) zero x at = at
of_front (suc end) (y ∷ xs) (suc i) x at = of_front end xs i x at

-- ---- the last one that passes

abbrev pub IsBehind : Option ℕ → ℕ → Type 0
IsBehind None place = ⊤
IsBehind (Some last) place = last < place

pub behind_begin : (o : Option ℕ) (place : ℕ) → begin_behind o ≤ place → IsBehind o place
behind_begin None place le = tt
behind_begin (Some last) place le = omega (arith, le)

pub at_begin : (o : Option ℕ) (q : ℕ) → begin_behind o ≡ suc q → o ≡ Some q
at_begin None q e = absurd (omega (arith, e))
at_begin (Some last) q e = ap Some (omega (arith, e))

pub passes_not : (p : HeldChange → Bool) (held : List HeldChange) (place : ℕ) (x : HeldChange) → slice_get held place ≡ Some x → IsBehind (last_place p held) place → p x ≡ false
passes_not p [] place x is behind = none_some x is
passes_not p (h ∷ held) zero x is behind = by (last_place p held) (p h) refl behind
  where
    by : (o : Option ℕ) (b : Bool) → p h ≡ b → IsBehind (later_place b o) 0 → p x ≡ false
    by (Some last) b e lt = absurd (omega (arith, lt))
    by None true e lt = absurd (omega (arith, lt))
    by None false e lt = sym (ap p (same_some h x is)) ∙ e
passes_not p (h ∷ held) (suc place) x is behind = passes_not p held place x is (by (last_place p held) (p h) behind)
  where
    by : (o : Option ℕ) (b : Bool) → IsBehind (later_place b o) (suc place) → IsBehind o place
    by (Some last) b lt = omega (arith, lt)
    by None b lt = tt

-- what stands at the place of the last one that passes
pub record LastAt (p : HeldChange → Bool) (held : List HeldChange) (place : ℕ) : Type 0 where
  pub change : HeldChange
  pub is_at : slice_get held place ≡ Some change
  pub passes : p change ≡ true

pub last_at : (p : HeldChange → Bool) (held : List HeldChange) (place : ℕ) → last_place p held ≡ Some place → LastAt p held place
last_at p [] place is = none_some place is
last_at p (h ∷ held) place is = by (last_place p held) (p h) refl (λ n e. last_at p held n e) is
  where
    behind : (n : ℕ) → LastAt p held n → suc n ≡ place → LastAt p (h ∷ held) place
    behind n found e = subst (LastAt p (h ∷ held)) e (record { change = found.change; is_at = found.is_at; passes = found.passes })

    by : (o : Option ℕ) (b : Bool) → p h ≡ b → ((n : ℕ) → o ≡ Some n → LastAt p held n) → later_place b o ≡ Some place → LastAt p (h ∷ held) place
    by (Some n) b e rest is = behind n (rest n refl) (same_some (suc n) place is)
    by None true e rest is = subst (LastAt p (h ∷ held)) (same_some 0 place is) (record { change = h; is_at = refl; passes = e })
    by None false e rest is = none_some place is

pub begin_within : (p : HeldChange → Bool) (held : List HeldChange) (end : ℕ) → begin_behind (last_place p (take end held)) ≤ end
begin_within p held zero = omega arith
begin_within p [] (suc end) = omega arith
begin_within p (h ∷ held) (suc end) = by (p h) (last_place p (take end held)) (begin_within p held end)
  where
    by : (b : Bool) (o : Option ℕ) → begin_behind o ≤ end → begin_behind (later_place b o) ≤ suc end
    by b (Some n) le = omega (arith, le)
    by true None le = omega arith
    by false None le = omega arith
