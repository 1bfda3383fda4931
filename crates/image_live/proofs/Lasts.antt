-- The last change that passes a test, and the last of a record.
use Rattle.std.proofs.Common.{◌≡◌, ℕ, zero, suc, ◌<◌, Bool, true, false, ◌&&◌, ◌||◌, List, [], ◌∷◌, Option, Some, None, take, drop, refl, sym, ap, subst, ◌∙◌, arith}
use Rattle.std.specs.Prelude.{◌==◌, ⊤, bytes_eq, nat_le, not, slice_get}
use Rattle.std.specs.List.{list_any}
use Rattle.std.proofs.lemmas.Bool.{eqb-true}
use Rattle.std.proofs.lemmas.Bool.Decides.{nat_tests}
use Rattle.common_lemmas.proofs.Booleans.{and_left, and_right, by_test, impossible}
use Rattle.common_lemmas.proofs.Numbers.{equal_bytes, same_bytes, self_equal}
use Rattle.common_lemmas.proofs.Options.{none_some, same_some}
use Rattle.version_store.specs.HeldChanges.{HeldChange, is_record, last_place, later_place}

-- ---- of any test

abbrev pub IsBehind : Option ℕ → ℕ → Type 0
IsBehind None place = ⊤
IsBehind (Some last) place = last < place

pub passes_not : (p : HeldChange → Bool) (held : List HeldChange) (place : ℕ) (x : HeldChange) → slice_get held place ≡ Some x → IsBehind (last_place p held) place → p x ≡ false
passes_not p [] place x is behind = none_some x is
passes_not p (h ∷ held) zero x is behind = by (last_place p held) (p h) refl behind
  where
    by : (o : Option ℕ) (b : Bool) → p h ≡ b → IsBehind (later_place b o) 0 → p x ≡ false
    by (Some last) b e lt = absurd (omega (arith, lt))
    by None true e lt = absurd (omega (arith, lt))
    by None false e lt = sym (ap p (same_some h x is)) ∙ e
passes_not p (h ∷ held) (suc place) x is behind = passes_not p held place x is (by (last_place p held) (p h) behind)
  where
    by : (o : Option ℕ) (b : Bool) → IsBehind (later_place b o) (suc place) → IsBehind o place
    by (Some last) b lt = omega (arith, lt)
    by None b lt = tt

-- what stands at the place of the last one that passes
pub record LastAt (p : HeldChange → Bool) (held : List HeldChange) (place : ℕ) : Type 0 where
  pub change : HeldChange
  pub is_at : slice_get held place ≡ Some change
  pub passes : p change ≡ true

pub last_at : (p : HeldChange → Bool) (held : List HeldChange) (place : ℕ) → last_place p held ≡ Some place → LastAt p held place
last_at p [] place is = none_some place is
last_at p (h ∷ held) place is = by (last_place p held) (p h) refl (λ n e. last_at p held n e) is
  where
    behind : (n : ℕ) → LastAt p held n → suc n ≡ place → LastAt p (h ∷ held) place
    behind n found e = subst (LastAt p (h ∷ held)) e (record { change = found.change; is_at = found.is_at; passes = found.passes })

    by : (o : Option ℕ) (b : Bool) → p h ≡ b → ((n : ℕ) → o ≡ Some n → LastAt p held n) → later_place b o ≡ Some place → LastAt p (h ∷ held) place
    by (Some n) b e rest is = behind n (rest n refl) (same_some (suc n) place is)
    by None true e rest is = subst (LastAt p (h ∷ held)) (same_some 0 place is) (record { change = h; is_at = refl; passes = e })
    by None false e rest is = none_some place is

pub last_passes : (p : HeldChange → Bool) (held : List HeldChange) (place : ℕ) (x : HeldChange) → last_place p held ≡ Some place → slice_get held place ≡ Some x → p x ≡ true
last_passes p held place x is at = let found : LastAt p held place = last_at p held place is in ap p (same_some x found.change (sym at ∙ found.is_at)) ∙ found.passes

abbrev pub up_to : Option ℕ → List HeldChange → List HeldChange
up_to None held = []
up_to (Some place) held = take (suc place) held

-- the last one that passes a narrower test is not behind the last that passes the wider one
pub last_up_to : (p q : HeldChange → Bool) → ((h : HeldChange) → p h ≡ false → q h ≡ false) → (held : List HeldChange) → last_place q held ≡ last_place q (up_to (last_place p held) held)
last_up_to p q only [] = refl
last_up_to p q only (h ∷ held) = by (last_place p held) (p h) refl (last_up_to p q only held)
  where
    by : (o : Option ℕ) (b : Bool) → p h ≡ b → last_place q held ≡ last_place q (up_to o held) → later_place (q h) (last_place q held) ≡ last_place q (up_to (later_place b o) (h ∷ held))
    by (Some n) b e rest = ap (later_place (q h)) rest
    by None true e rest = ap (later_place (q h)) rest
    by None false e rest = ap (later_place (q h)) rest ∙ ap (λ b. later_place b None) (only h e)

-- whether there is a last one, as a test of all
abbrev pub Tells : Option ℕ → Bool → Type 0
Tells None any = any ≡ false
Tells (Some place) any = any ≡ true

pub last_tells : (p : HeldChange → Bool) (held : List HeldChange) → Tells (last_place p held) (list_any p held)
last_tells p [] = refl
last_tells p (h ∷ held) = by (p h) (last_place p held) (list_any p held) (last_tells p held)
  where
    by : (b : Bool) (o : Option ℕ) (any : Bool) → Tells o any → Tells (later_place b o) (b || any)
    by true None any e = refl
    by false None any e = e
    by true (Some place) any e = refl
    by false (Some place) any e = e

abbrev pub at_most : Option ℕ → ℕ → Bool
at_most None place = true
at_most (Some last) place = nat_le last place

above_none : (n : ℕ) → nat_le (suc n) 0 ≡ false
above_none n = grind (arith, nat_tests)

none_above : (n : ℕ) → nat_le 0 n ≡ true
none_above n = grind (arith, nat_tests)

both_more : (n m : ℕ) → nat_le n m ≡ nat_le (suc n) (suc m)
both_more n m = grind (arith, nat_tests)

pub none_later : (p : HeldChange → Bool) (held : List HeldChange) (place : ℕ) → not (list_any p (drop (suc place) held)) ≡ at_most (last_place p held) place
none_later p [] place = refl
none_later p (h ∷ held) zero = by (p h) (last_place p held) (list_any p held) (last_tells p held)
  where
    by : (b : Bool) (o : Option ℕ) (any : Bool) → Tells o any → not any ≡ at_most (later_place b o) 0
    by b (Some last) any e = ap not e ∙ sym (above_none last)
    by true None any e = ap not e
    by false None any e = ap not e
none_later p (h ∷ held) (suc place) = none_later p held place ∙ by (p h) (last_place p held)
  where
    by : (b : Bool) (o : Option ℕ) → at_most o place ≡ at_most (later_place b o) (suc place)
    by b (Some last) = both_more last place
    by true None = sym (none_above (suc place))
    by false None = refl

-- ---- with one change more

pub one_more_passes : (p : HeldChange → Bool) (held : List HeldChange) (place : ℕ) (x : HeldChange) → slice_get held place ≡ Some x → p x ≡ true → last_place p (take (suc place) held) ≡ Some place
one_more_passes p [] place x is passes = none_some x is
one_more_passes p (h ∷ held) zero x is passes = ap (λ b. later_place b None) (ap p (same_some h x is) ∙ passes)
one_more_passes p (h ∷ held) (suc place) x is passes = ap (later_place (p h)) (one_more_passes p held place x is passes)

pub one_more_fails : (p : HeldChange → Bool) (held : List HeldChange) (place : ℕ) (x : HeldChange) → slice_get held place ≡ Some x → p x ≡ false → last_place p (take (suc place) held) ≡ last_place p (take place held)
one_more_fails p [] place x is refused = none_some x is
one_more_fails p (h ∷ held) zero x is refused = ap (λ b. later_place b None) (ap p (same_some h x is) ∙ refused)
one_more_fails p (h ∷ held) (suc place) x is refused = ap (later_place (p h)) (one_more_fails p held place x is refused)

-- ---- one record

-- Both are of one record.
pub record AreOfOne (h x : HeldChange) : Type 0 where
  pub table : x.table ≡ h.table
  pub bookmark : x.bookmark ≡ h.bookmark

pub are_of_one : (h x : HeldChange) → is_record h.table h.bookmark x ≡ true → AreOfOne h x
are_of_one h x is = record {
  table = eqb-true x.table h.table (and_left (x.table == h.table) (bytes_eq x.bookmark h.bookmark) is);
  bookmark = same_bytes x.bookmark h.bookmark (and_right (x.table == h.table) (bytes_eq x.bookmark h.bookmark) is);
}

pub of_own : (h : HeldChange) → is_record h.table h.bookmark h ≡ true
of_own h = ap (λ b. b && bytes_eq h.bookmark h.bookmark) (self_equal h.table) ∙ equal_bytes h.bookmark h.bookmark refl

-- what is said of the record of one is said of that of the other
pub of_other : {A : Type 0} (f : ℕ → List ℕ → A) (h x : HeldChange) → AreOfOne h x → f h.table h.bookmark ≡ f x.table x.bookmark
of_other f h x one = ap (λ (t : ℕ). f t h.bookmark) (sym one.table) ∙ ap (λ (b : List ℕ). f x.table b) (sym one.bookmark)

pub other_way : (h x : HeldChange) → is_record h.table h.bookmark x ≡ true → is_record x.table x.bookmark h ≡ true
other_way h x is = sym (of_other (λ (t : ℕ) (b : List ℕ). is_record t b h) h x (are_of_one h x is)) ∙ of_own h

pub not_other_way : (h x : HeldChange) → is_record h.table h.bookmark x ≡ false → is_record x.table x.bookmark h ≡ false
not_other_way h x is = by_test (is_record x.table x.bookmark h) (λ e. impossible (sym is ∙ other_way x h e)) (λ e. e)
