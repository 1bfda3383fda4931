-- The last change of a record that is no sum, by place.
use Rattle.std.proofs.Common.{◌≡◌, ℕ, zero, suc, ◌+◌, ◌<◌, Bool, true, false, ◌&&◌, List, [], ◌∷◌, ◌++◌, length, Option, Some, None, get_or, take, refl, sym, ap, subst, ◌∙◌, ◌⊎◌, inl, inr, arith}
use Rattle.std.specs.Prelude.{not, slice_get}
use Rattle.common_lemmas.proofs.Booleans.{and_left, and_right, by_test, impossible}
use Rattle.version_cleanup.specs.LiveSessions.{LiveState}
use Rattle.version_store.specs.HeldChanges.{HeldChange, is_add, is_record, last_place}
use Rattle.image_findings.specs.LiveFindings.{are_apart}
use Rattle.image_live.proofs.Passed.{AllApart, PassedTo, all_passed, one_fails, other_record, passed_base, two_sums, which}
use Rattle.image_live.proofs.Fronts.{below_end, in_front, next_place}
use Rattle.image_live.proofs.Lasts.{IsBehind, LastAt, are_of_one, last_at, last_passes, last_up_to, not_other_way, of_other, of_own, one_more_fails, one_more_passes, passes_not, up_to}
use Rattle.image_live.specs.Orders.{ArePlaced, all_pairs, base_of, is_base, stays_apart}

-- ---- what is a base

is_no_sum : (a : Bool) → not a ≡ true → a ≡ false
is_no_sum true e = sym e
is_no_sum false e = refl

no_base : (a b : Bool) → (a && not b) ≡ false → (a ≡ true) → b ≡ true
no_base true true e is = refl
no_base true false e is = sym e
no_base false b e is = impossible is

only_of_record : (table : ℕ) (bookmark : List ℕ) (x : HeldChange) → is_record table bookmark x ≡ false → is_base table bookmark x ≡ false
only_of_record table bookmark x e = ap (λ b. b && not (is_add x.kind)) e

pub base_here : (changes : List HeldChange) (place : ℕ) (h : HeldChange) → slice_get changes place ≡ Some h → is_add h.kind ≡ false → Some place ≡ base_of changes (place + 1) h
base_here changes place h at other =
    sym (one_more_passes (is_base h.table h.bookmark) changes place h at (ap (λ b. b && not (is_add h.kind)) (of_own h) ∙ ap not other))
    ∙ ap (λ (n : ℕ). base_of changes n h) (next_place place)

pub base_sum : (changes : List HeldChange) (place : ℕ) (h : HeldChange) → slice_get changes place ≡ Some h → is_add h.kind ≡ true → base_of changes (place + 1) h ≡ last_place (is_base h.table h.bookmark) (take place changes)
base_sum changes place h at sum =
    ap (λ (n : ℕ). base_of changes n h) (sym (next_place place))
    ∙ one_more_fails (is_base h.table h.bookmark) changes place h at (ap (λ b. b && not (is_add h.kind)) (of_own h) ∙ ap not sum)

fewer : (n end : ℕ) (held : List HeldChange) → n < end → take (suc n) (take end held) ≡ take (suc n) held
fewer n zero held below = absurd (omega (arith, below))
fewer n (suc end) [] below = refl
fewer zero (suc end) (h ∷ held) below = refl
fewer (suc n) (suc end) (h ∷ held) below = ap (λ l. h ∷ l) (fewer n end held (omega (arith, below)))

pub base_none : (changes : List HeldChange) (place : ℕ) (h : HeldChange) → slice_get changes place ≡ Some h → is_add h.kind ≡ true → None ≡ last_place (is_record h.table h.bookmark) (take place changes) → None ≡ base_of changes (place + 1) h
base_none changes place h at sum none =
    sym (base_sum changes place h at sum
    ∙ last_up_to (is_record h.table h.bookmark) (is_base h.table h.bookmark) (only_of_record h.table h.bookmark) (take place changes)
    ∙ ap (λ (o : Option ℕ). last_place (is_base h.table h.bookmark) (up_to o (take place changes))) (sym none))

pub base_before : (changes : List HeldChange) (place older : ℕ) (h x : HeldChange) (known : Option ℕ) → slice_get changes place ≡ Some h → is_add h.kind ≡ true → Some older ≡ last_place (is_record h.table h.bookmark) (take place changes) → older < place
    → slice_get changes older ≡ Some x → known ≡ base_of changes (older + 1) x → known ≡ base_of changes (place + 1) h
base_before changes place older h x known at sum last lt at_older is =
    is
    ∙ ap (λ (n : ℕ). base_of changes n x) (sym (next_place older))
    ∙ sym (of_other (λ (t : ℕ) (b : List ℕ). last_place (is_base t b) (take (suc older) changes)) h x (are_of_one h x own))
    ∙ sym (ap (last_place (is_base h.table h.bookmark)) (fewer older place changes lt))
    ∙ ap (λ (o : Option ℕ). last_place (is_base h.table h.bookmark) (up_to o (take place changes))) last
    ∙ sym (last_up_to (is_record h.table h.bookmark) (is_base h.table h.bookmark) (only_of_record h.table h.bookmark) (take place changes))
    ∙ sym (base_sum changes place h at sum)
  where
    own : is_record h.table h.bookmark x ≡ true
    own = last_passes (is_record h.table h.bookmark) (take place changes) older x (sym last) (in_front place changes older x lt at_older)

-- ---- a list of them

pub pushed_old : (xs : List (Option ℕ)) (v : Option ℕ) (i : ℕ) → i < length xs → get_or (xs ++ v ∷ []) i None ≡ get_or xs i None
pushed_old [] v i lt = absurd (omega (arith, lt))
pushed_old (x ∷ xs) v zero lt = refl
pushed_old (x ∷ xs) v (suc i) lt = pushed_old xs v i (omega (arith, lt))

pub pushed_new : (xs : List (Option ℕ)) (v : Option ℕ) → get_or (xs ++ v ∷ []) (length xs) None ≡ v
pushed_new [] v = refl
pushed_new (x ∷ xs) v = pushed_new xs v

-- The bases are known up to a place, and that of the next is put behind them.
pub known_more : (bases : List (Option ℕ)) (changes : List HeldChange) (place : ℕ) (base : Option ℕ) → length bases ≡ place → ((i : ℕ) (h : HeldChange) → i < place → slice_get changes i ≡ Some h → get_or bases i None ≡ base_of changes (i + 1) h)
    → ((h : HeldChange) → slice_get changes place ≡ Some h → base ≡ base_of changes (place + 1) h)
    → (i : ℕ) (h : HeldChange) → i < place + 1 → slice_get changes i ≡ Some h → get_or (bases ++ base ∷ []) i None ≡ base_of changes (i + 1) h
known_more bases changes place base count known is i h lt at = by (which i place)
  where
    by : (i < place) ⊎ ((i ≡ place) ⊎ (place < i)) → get_or (bases ++ base ∷ []) i None ≡ base_of changes (i + 1) h
    by (inl e) = pushed_old bases base i (omega (arith, e, count)) ∙ known i h e at
    by (inr (inl e)) =
        ap (λ (n : ℕ). get_or (bases ++ base ∷ []) n None) (e ∙ sym count) ∙ pushed_new bases base
        ∙ is h (sym (ap (slice_get changes) e) ∙ at)
        ∙ ap (λ (n : ℕ). base_of changes (n + 1) h) (sym e)
    by (inr (inr e)) = absurd (omega (arith, e, lt))

-- ---- a sum and its base

behind_base : (sessions : List LiveState) (changes : List HeldChange) (place : ℕ) (h : HeldChange) (base : Option ℕ) → is_add h.kind ≡ true → base ≡ last_place (is_base h.table h.bookmark) (take place changes) → PassedTo sessions changes place h base
behind_base sessions changes place h base sum is i x below at behind =
    by_test (is_record h.table h.bookmark x)
    (λ own. two_sums sessions x h (no_base (is_record h.table h.bookmark x) (is_add x.kind) (passes_not (is_base h.table h.bookmark) (take place changes) i x (in_front place changes i x below at) (subst (λ (o : Option ℕ). IsBehind o i) is behind)) own) sum)
    (λ other. other_record sessions x h (not_other_way h x other))

pub sum_without_base : (sessions : List LiveState) (changes : List HeldChange) (place : ℕ) (h : HeldChange) → slice_get changes place ≡ Some h → is_add h.kind ≡ true → None ≡ base_of changes (place + 1) h → true ≡ AllApart sessions changes place h
sum_without_base sessions changes place h at sum is = all_passed sessions changes place h (behind_base sessions changes place h None sum (is ∙ base_sum changes place h at sum))

pub base_within : (changes : List HeldChange) (place base : ℕ) (h : HeldChange) → slice_get changes place ≡ Some h → is_add h.kind ≡ true → Some base ≡ base_of changes (place + 1) h → base < place
base_within changes place base h at sum is =
    let found : LastAt (is_base h.table h.bookmark) (take place changes) base = last_at (is_base h.table h.bookmark) (take place changes) base (sym (is ∙ base_sum changes place h at sum)) in
    below_end place changes base found.change found.is_at

pub sum_with_base : (sessions : List LiveState) (changes : List HeldChange) (place base : ℕ) (h x : HeldChange) (apart : Bool) → ArePlaced changes → all_pairs (stays_apart sessions) (take place changes) ≡ true → slice_get changes place ≡ Some h → is_add h.kind ≡ true
    → Some base ≡ base_of changes (place + 1) h → slice_get changes base ≡ Some x → apart ≡ are_apart sessions x h → apart ≡ AllApart sessions changes place h
sum_with_base sessions changes place base h x apart placed before at sum is at_base told = by apart told
  where
    lt : base < place
    lt = base_within changes place base h at sum is

    own_base : is_base h.table h.bookmark x ≡ true
    own_base = last_passes (is_base h.table h.bookmark) (take place changes) base x (sym (is ∙ base_sum changes place h at sum)) (in_front place changes base x lt at_base)

    own : is_record h.table h.bookmark x ≡ true
    own = and_left (is_record h.table h.bookmark x) (not (is_add x.kind)) own_base

    other : is_add x.kind ≡ false
    other = is_no_sum (is_add x.kind) (and_right (is_record h.table h.bookmark x) (not (is_add x.kind)) own_base)

    by : (b : Bool) → b ≡ are_apart sessions x h → b ≡ AllApart sessions changes place h
    by true e =
        all_passed sessions changes place h
        (passed_base sessions changes place base h x placed before at lt at_base own other (sym e) (behind_base sessions changes place h (Some base) sum (is ∙ base_sum changes place h at sum)))
    by false e = one_fails sessions changes place base h x lt at_base own (ap (λ b. b && is_add h.kind) other) (sym e)
