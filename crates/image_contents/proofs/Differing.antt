-- Where two lists of entries differ first.
use Rattle.std.proofs.Common.{◌≡◌, ℕ, zero, suc, ◌<◌, ◌≤◌, Bool, true, false, ◌&&◌, ◌||◌, List, [], ◌∷◌, length, drop, Option, Some, None, refl, sym, ap, ◌∙◌, arith, true≢false}
use Rattle.std.specs.Prelude.{bytes_eq, if◌then◌else◌, slice_get}
use Rattle.std.specs.declared.cmp.Ordering.{Ordering}
use Rattle.std.specs.declared.cmp.Ordering.TheVariants.{Less, Equal, Greater}
use Rattle.std.specs.Ordering.{is_eq, is_lt, ordering_reverse, ordering_then}
use Rattle.std.specs.Cmp.Lexicographic.{texts_ties}
use Rattle.common_lemmas.proofs.Options.{none_some, same_some}
use Rattle.common_lemmas.proofs.Orders.{less_then}
use Rattle.column_set.specs.RecordValues.{bytes_lt}
use Rattle.cursor_nav.specs.Places.{Pair, pair_lt}
use Rattle.image_contents.specs.EntryOrder.{pair_cmp, pair_eq, pair_total}
use Rattle.image_contents.specs.FoundEntries.{found_as, lesser}
use Rattle.image_contents.specs.declared.entries.differing.Difference.{Difference}
use Rattle.image_findings.specs.EntryFindings.{differing}
use Rattle.image_findings.specs.Images.{Finding}

pub pair_lower : (p q : Pair) → pair_lt p q ≡ is_lt (pair_cmp p q)
pair_lower p q = ap (λ (e : Bool). bytes_lt p.0 q.0 || (e && bytes_lt p.1 q.1)) (texts_ties p.0 q.0) ∙ less_then _ _

abbrev Found : Type 0
Found = Pair → ℕ → ℕ → Finding

abbrev told : Found → Pair → Pair → Option Finding → Bool → Bool → Option Finding
told found p q rest below above = if below then Some (found p 1 0) else if above then Some (found q 0 1) else rest

both_lower : (found : Found) (p q : Pair) (rest : Option Finding) → told found p q rest (pair_lt p q) (pair_lt q p) ≡ told found p q rest (is_lt (pair_cmp p q)) (is_lt (ordering_reverse (pair_cmp p q)))
both_lower found p q rest = λ i. told found p q rest (pair_lower p q i) ((pair_lower q p ∙ ap is_lt (pair_total.antisymm q p)) i)

-- two that are the same are passed over
pub same_first : (found : Found) (p q : Pair) (ps qs : List Pair) → pair_eq p q ≡ true → differing found (p ∷ ps) (q ∷ qs) ≡ differing found ps qs
same_first found p q ps qs e = both_lower found p q (differing found ps qs) ∙ by (pair_cmp p q) e
  where
    by : (r : Ordering) → is_eq r ≡ true → told found p q (differing found ps qs) (is_lt r) (is_lt (ordering_reverse r)) ≡ differing found ps qs
    by Less e = absurd (true≢false (sym e))
    by Equal e = refl
    by Greater e = absurd (true≢false (sym e))

other_first : (found : Found) (p q : Pair) (ps qs : List Pair) → pair_eq p q ≡ false → differing found (p ∷ ps) (q ∷ qs) ≡ lesser found (Some p) (Some q)
other_first found p q ps qs e = both_lower found p q (differing found ps qs) ∙ by (pair_cmp p q) e ∙ ap (λ (b : Bool). if b then Some (found p 1 0) else Some (found q 0 1)) (sym (pair_lower p q))
  where
    by : (r : Ordering) → is_eq r ≡ false → told found p q (differing found ps qs) (is_lt r) (is_lt (ordering_reverse r)) ≡ (if is_lt r then Some (found p 1 0) else Some (found q 0 1))
    by Less e = refl
    by Equal e = absurd (true≢false e)
    by Greater e = refl

-- ---- the lesser of two, as it is told

pub first_is_less : (found : Found) (d : Difference) (p q : Pair) → (d.key.now, d.bookmark.now) ≡ p → d.is_stored ≡ true → is_lt (pair_cmp p q) ≡ true → Some (found_as found d) ≡ lesser found (Some p) (Some q)
first_is_less found d p q same stored lt =
    ap (λ (x : Pair). Some (found x (if d.is_stored then 1 else 0) (if d.is_stored then 0 else 1))) same
    ∙ ap (λ (b : Bool). Some (found p (if b then 1 else 0) (if b then 0 else 1))) stored
    ∙ sym (ap (λ (b : Bool). if b then Some (found p 1 0) else Some (found q 0 1)) (pair_lower p q ∙ lt))

pub second_is_less : (found : Found) (d : Difference) (p q : Pair) → (d.key.now, d.bookmark.now) ≡ q → d.is_stored ≡ false → is_lt (pair_cmp p q) ≡ false → Some (found_as found d) ≡ lesser found (Some p) (Some q)
second_is_less found d p q same stored lt =
    ap (λ (x : Pair). Some (found x (if d.is_stored then 1 else 0) (if d.is_stored then 0 else 1))) same
    ∙ ap (λ (b : Bool). Some (found q (if b then 1 else 0) (if b then 0 else 1))) stored
    ∙ sym (ap (λ (b : Bool). if b then Some (found p 1 0) else Some (found q 0 1)) (pair_lower p q ∙ lt))

-- ---- by places

drop_get : (at : ℕ) (ps : List Pair) (p : Pair) → slice_get ps at ≡ Some p → drop at ps ≡ p ∷ drop (suc at) ps
drop_get zero [] p e = none_some p e
drop_get (suc at) [] p e = none_some p e
drop_get zero (x ∷ ps) p e = ap (λ (y : Pair). y ∷ ps) (same_some x p e)
drop_get (suc at) (x ∷ ps) p e = drop_get at ps p e

pub passes : (found : Found) (at next : ℕ) (ps qs : List Pair) (p q : Pair) → slice_get ps at ≡ Some p → slice_get qs at ≡ Some q → pair_eq p q ≡ true → next ≡ suc at → differing found (drop next ps) (drop next qs) ≡ differing found (drop at ps) (drop at qs)
passes found at next ps qs p q e f same is =
    ap (λ (n : ℕ). differing found (drop n ps) (drop n qs)) is
    ∙ sym (same_first found p q (drop (suc at) ps) (drop (suc at) qs) same)
    ∙ sym (λ i. differing found (drop_get at ps p e i) (drop_get at qs q f i))

pub stops : (found : Found) (at : ℕ) (ps qs : List Pair) (p q : Pair) → slice_get ps at ≡ Some p → slice_get qs at ≡ Some q → pair_eq p q ≡ false → differing found (drop at ps) (drop at qs) ≡ lesser found (slice_get ps at) (slice_get qs at)
stops found at ps qs p q e f other =
    (λ i. differing found (drop_get at ps p e i) (drop_get at qs q f i))
    ∙ other_first found p q (drop (suc at) ps) (drop (suc at) qs) other
    ∙ sym (λ i. lesser found (e i) (f i))

drop_none : (at : ℕ) (ps : List Pair) → slice_get ps at ≡ None → drop at ps ≡ []
drop_none zero [] e = refl
drop_none (suc at) [] e = refl
drop_none zero (x ∷ ps) e = none_some x (sym e)
drop_none (suc at) (x ∷ ps) e = drop_none at ps e

-- where one of them ends
pub ends_first : (found : Found) (at : ℕ) (ps qs : List Pair) → slice_get ps at ≡ None → differing found (drop at ps) (drop at qs) ≡ lesser found (slice_get ps at) (slice_get qs at)
ends_first found at ps qs e = by (slice_get qs at) refl
  where
    by : (o : Option Pair) → slice_get qs at ≡ o → differing found (drop at ps) (drop at qs) ≡ lesser found (slice_get ps at) (slice_get qs at)
    by None f = (λ i. differing found (drop_none at ps e i) (drop_none at qs f i)) ∙ sym (λ i. lesser found (e i) (f i))
    by (Some q) f = (λ i. differing found (drop_none at ps e i) (drop_get at qs q f i)) ∙ sym (λ i. lesser found (e i) (f i))

pub ends_second : (found : Found) (at : ℕ) (ps qs : List Pair) → slice_get qs at ≡ None → differing found (drop at ps) (drop at qs) ≡ lesser found (slice_get ps at) (slice_get qs at)
ends_second found at ps qs f = by (slice_get ps at) refl
  where
    by : (o : Option Pair) → slice_get ps at ≡ o → differing found (drop at ps) (drop at qs) ≡ lesser found (slice_get ps at) (slice_get qs at)
    by None e = (λ i. differing found (drop_none at ps e i) (drop_none at qs f i)) ∙ sym (λ i. lesser found (e i) (f i))
    by (Some p) e = (λ i. differing found (drop_get at ps p e i) (drop_none at qs f i)) ∙ sym (λ i. lesser found (e i) (f i))
