-- Which changes of a record are apart follows from few pairs: through a change that is no sum it goes on.
use Rattle.std.proofs.Common.{◌≡◌, ℕ, zero, suc, ◌<◌, Bool, true, false, ◌&&◌, ◌||◌, List, Option, Some, None, take, refl, sym, ap, subst, ◌∙◌, ◌⊎◌, inl, inr, arith}
use Rattle.std.specs.Prelude.{not, option_map, slice_get}
use Rattle.std.specs.List.{list_all}
use Rattle.common_lemmas.proofs.Booleans.{by_test}
use Rattle.common_lemmas.proofs.Options.{same_some}
use Rattle.image_findings.specs.LiveFindings.{are_apart}
use Rattle.laws_images.specs.ShownStates.{with_empty_snapshot}
use Rattle.version_cleanup.specs.LiveSessions.{LiveState, transaction_in}
use Rattle.version_store.specs.HeldChanges.{HeldChange, is_add, is_record}
use Rattle.image_live.proofs.ApartThrough.{apart_through}
use Rattle.image_live.proofs.Fronts.{below_end, in_front, of_front}
use Rattle.image_live.proofs.Lasts.{IsBehind, are_of_one, of_other, other_way}
use Rattle.image_live.proofs.Pairs.{all_by, all_fails, pairs_at}
use Rattle.image_live.specs.Orders.{ArePlaced, all_pairs, stays_apart}

-- ---- two changes

-- another record's change
pub other_record : (sessions : List LiveState) (x h : HeldChange) → is_record x.table x.bookmark h ≡ false → stays_apart sessions x h ≡ true
other_record sessions x h e = ap (λ b. not b || ((is_add x.kind && is_add h.kind) || are_apart sessions x h)) e

or_true : (a : Bool) → (a || true) ≡ true
or_true true = refl
or_true false = refl

pub two_sums : (sessions : List LiveState) (x h : HeldChange) → is_add x.kind ≡ true → is_add h.kind ≡ true → stays_apart sessions x h ≡ true
two_sums sessions x h e f =
    ap (λ b. not (is_record x.table x.bookmark h) || ((b && is_add h.kind) || are_apart sessions x h)) e
    ∙ ap (λ b. not (is_record x.table x.bookmark h) || (b || are_apart sessions x h)) f
    ∙ or_true (not (is_record x.table x.bookmark h))

pub apart_stays : (sessions : List LiveState) (x h : HeldChange) → are_apart sessions x h ≡ true → stays_apart sessions x h ≡ true
apart_stays sessions x h e =
    ap (λ b. not (is_record x.table x.bookmark h) || ((is_add x.kind && is_add h.kind) || b)) e
    ∙ ap (λ b. not (is_record x.table x.bookmark h) || b) (or_true (is_add x.kind && is_add h.kind))
    ∙ or_true (not (is_record x.table x.bookmark h))

-- of one record, and not both sums
not_both : (a b : Bool) → a ≡ false → (a && b) ≡ false
not_both a b e = ap (λ c. c && b) e

pub not_both_behind : (a b : Bool) → b ≡ false → (a && b) ≡ false
not_both_behind true b e = e
not_both_behind false b e = refl

tells_apart : (sessions : List LiveState) (x h : HeldChange) → is_record x.table x.bookmark h ≡ true → (is_add x.kind && is_add h.kind) ≡ false → stays_apart sessions x h ≡ are_apart sessions x h
tells_apart sessions x h own sums =
    ap (λ b. not b || ((is_add x.kind && is_add h.kind) || are_apart sessions x h)) own
    ∙ ap (λ b. b || are_apart sessions x h) sums

-- ---- through a change that is no sum

-- what is apart from a base is apart from what the base is apart from
through : (sessions : List LiveState) (changes : List HeldChange) (i j k : ℕ) (x base h : HeldChange) → ArePlaced changes → i < j → j < k → slice_get changes i ≡ Some x → slice_get changes j ≡ Some base → slice_get changes k ≡ Some h
    → is_record h.table h.bookmark base ≡ true → is_add base.kind ≡ false → are_apart sessions base h ≡ true → stays_apart sessions x base ≡ true → stays_apart sessions x h ≡ true
through sessions changes i j k x base h placed first second at_i at_j at_k own other apart so_far =
    by_test (is_record x.table x.bookmark h) here (λ e. other_record sessions x h e)
  where
    here : is_record x.table x.bookmark h ≡ true → stays_apart sessions x h ≡ true
    here e =
        let one : is_record x.table x.bookmark base ≡ true = of_other (λ (t : ℕ) (b : List ℕ). is_record t b base) x h (are_of_one x h e) ∙ own in
        let before : are_apart sessions x base ≡ true = sym (tells_apart sessions x base one (not_both_behind (is_add x.kind) (is_add base.kind) other)) ∙ so_far in
        apart_stays sessions x h
        (apart_through (λ (s : ℕ). option_map with_empty_snapshot (transaction_in s sessions)) x.session base.session h.session base.number h.number x.status base.status h.status
        (placed.rise j k base h second at_j at_k) (placed.behind j base at_j) before apart)

-- ---- where a walk from behind has come to

-- each change of the front behind the place is apart, or of another record, or a sum as this one
abbrev pub PassedTo : List LiveState → List HeldChange → ℕ → HeldChange → Option ℕ → Type 0
PassedTo sessions changes place h at = (i : ℕ) (x : HeldChange) → i < place → slice_get changes i ≡ Some x → IsBehind at i → stays_apart sessions x h ≡ true

abbrev pub AllApart : List LiveState → List HeldChange → ℕ → HeldChange → Bool
AllApart sessions changes place h = list_all (λ (x : HeldChange). stays_apart sessions x h) (take place changes)

pub all_passed : (sessions : List LiveState) (changes : List HeldChange) (place : ℕ) (h : HeldChange) → PassedTo sessions changes place h None → true ≡ AllApart sessions changes place h
all_passed sessions changes place h passed =
    sym (all_by (λ (x : HeldChange). stays_apart sessions x h) (take place changes) (λ i x is. passed i x (below_end place changes i x is) (of_front place changes i x is) tt))

pub one_fails : (sessions : List LiveState) (changes : List HeldChange) (place older : ℕ) (h x : HeldChange) → older < place → slice_get changes older ≡ Some x → is_record h.table h.bookmark x ≡ true → (is_add x.kind && is_add h.kind) ≡ false → are_apart sessions x h ≡ false
    → false ≡ AllApart sessions changes place h
one_fails sessions changes place older h x lt at own sums refused =
    sym (all_fails (λ (y : HeldChange). stays_apart sessions y h) (take place changes) older x (in_front place changes older x lt at) (tells_apart sessions x h (other_way h x own) sums ∙ refused))

pub which : (i j : ℕ) → (i < j) ⊎ ((i ≡ j) ⊎ (j < i))
which zero zero = inr (inl refl)
which zero (suc j) = inl (omega arith)
which (suc i) zero = inr (inr (omega arith))
which (suc i) (suc j) = up (which i j)
  where
    up : (i < j) ⊎ ((i ≡ j) ⊎ (j < i)) → (suc i < suc j) ⊎ ((suc i ≡ suc j) ⊎ (suc j < suc i))
    up (inl e) = inl (omega (arith, e))
    up (inr (inl e)) = inr (inl (ap suc e))
    up (inr (inr e)) = inr (inr (omega (arith, e)))

-- From a base that is apart on, all are.
pub passed_base : (sessions : List LiveState) (changes : List HeldChange) (place older : ℕ) (h x : HeldChange) → ArePlaced changes → all_pairs (stays_apart sessions) (take place changes) ≡ true → slice_get changes place ≡ Some h
    → older < place → slice_get changes older ≡ Some x → is_record h.table h.bookmark x ≡ true → is_add x.kind ≡ false → are_apart sessions x h ≡ true
    → PassedTo sessions changes place h (Some older) → PassedTo sessions changes place h None
passed_base sessions changes place older h x placed before at_place lt at own other apart passed i y below is any =
    by (which i older)
  where
    by : (i < older) ⊎ ((i ≡ older) ⊎ (older < i)) → stays_apart sessions y h ≡ true
    by (inl e) =
        through sessions changes i older place y x h placed e lt is at at_place own other apart
        (pairs_at (stays_apart sessions) (take place changes) i older y x before e (in_front place changes i y below is) (in_front place changes older x lt at))
    by (inr (inl e)) = subst (λ (z : HeldChange). stays_apart sessions z h ≡ true) (same_some x y (sym (ap (slice_get changes) e ∙ at) ∙ is)) (apart_stays sessions x h apart)
    by (inr (inr e)) = passed i y below is e
