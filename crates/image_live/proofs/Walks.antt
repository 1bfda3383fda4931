-- A walk back over the changes of a record, to the first that is no sum.
use Rattle.std.proofs.Common.{◌≡◌, ℕ, suc, ◌<◌, true, false, List, Option, Some, None, take, sym, ap, subst, ◌∙◌, ◌⊎◌, inl, inr, arith}
use Rattle.std.specs.Prelude.{IfSome, slice_get}
use Rattle.common_lemmas.proofs.Options.{same_some}
use Rattle.image_findings.specs.LiveFindings.{are_apart}
use Rattle.version_cleanup.specs.LiveSessions.{LiveState}
use Rattle.version_store.specs.HeldChanges.{HeldChange, is_add, is_record, last_place}
use Rattle.image_live.proofs.Passed.{AllApart, PassedTo, all_passed, apart_stays, not_both_behind, one_fails, other_record, passed_base, which}
use Rattle.image_live.proofs.Fronts.{in_front}
use Rattle.image_live.proofs.Lasts.{IsBehind, are_of_one, last_passes, not_other_way, of_other, passes_not}
use Rattle.image_live.specs.Orders.{ArePlaced, all_pairs, stays_apart}

-- What a walk knows that has come to a place: all behind it are apart, and it is one of the record before the change.
pub record WalksApart (sessions : List LiveState) (changes : List HeldChange) (place : ℕ) (at : Option ℕ) : Type 0 where
  pub passed : (h : HeldChange) → slice_get changes place ≡ Some h → PassedTo sessions changes place h at
  pub within : IfSome at (λ n. n < place)
  pub own : (n : ℕ) (h x : HeldChange) → at ≡ Some n → slice_get changes place ≡ Some h → slice_get changes n ≡ Some x → is_record h.table h.bookmark x ≡ true

pub walk_begins : (sessions : List LiveState) (changes : List HeldChange) (place : ℕ) (at : Option ℕ) → ((h : HeldChange) → slice_get changes place ≡ Some h → at ≡ last_place (is_record h.table h.bookmark) (take place changes)) → IfSome at (λ n. n < place)
    → WalksApart sessions changes place at
walk_begins sessions changes place at is within = record {
  passed = λ h at_h i x below at_i behind.
      other_record sessions x h (not_other_way h x (passes_not (is_record h.table h.bookmark) (take place changes) i x (in_front place changes i x below at_i) (subst (λ (o : Option ℕ). IsBehind o i) (is h at_h) behind)));
  within = within;
  own = λ n h x come at_h at_x.
      last_passes (is_record h.table h.bookmark) (take place changes) n x (sym (is h at_h) ∙ come) (in_front place changes n x (subst (λ (o : Option ℕ). IfSome o (λ k. k < place)) come within) at_x);
}

pub walk_within : (sessions : List LiveState) (changes : List HeldChange) (place n : ℕ) (at : Option ℕ) → WalksApart sessions changes place at → at ≡ Some n → n < place
walk_within sessions changes place n at walk come = subst (λ (o : Option ℕ). IfSome o (λ k. k < place)) come walk.within

come_to : (sessions : List LiveState) (changes : List HeldChange) (place n : ℕ) (h : HeldChange) (at : Option ℕ) → WalksApart sessions changes place at → at ≡ Some n → slice_get changes place ≡ Some h → PassedTo sessions changes place h (Some n)
come_to sessions changes place n h at walk come at_h = subst (PassedTo sessions changes place h) come (walk.passed h at_h)

pub walk_goes_on : (sessions : List LiveState) (changes : List HeldChange) (place n : ℕ) (h x : HeldChange) (at older : Option ℕ) → WalksApart sessions changes place at → at ≡ Some n → slice_get changes place ≡ Some h → slice_get changes n ≡ Some x
    → true ≡ are_apart sessions x h → ((y : HeldChange) → slice_get changes n ≡ Some y → older ≡ last_place (is_record y.table y.bookmark) (take n changes)) → IfSome older (λ k. k < n) → WalksApart sessions changes place older
walk_goes_on sessions changes place n h x at older walk come at_h at_x apart is below = record {
  passed = λ g at_g i y lt at_y behind. subst (λ (z : HeldChange). stays_apart sessions y z ≡ true) (same_some h g (sym at_h ∙ at_g)) (by i y lt at_y behind (which i n));
  within = less older below;
  own = λ k g y next at_g at_y.
      subst (λ (z : HeldChange). is_record z.table z.bookmark y ≡ true) (same_some h g (sym at_h ∙ at_g))
      (of_other (λ t b. is_record t b y) h x (are_of_one h x own) ∙ last_passes (is_record x.table x.bookmark) (take n changes) k y (sym (is x at_x) ∙ next) (in_front n changes k y (subst (λ (o : Option ℕ). IfSome o (λ m. m < n)) next below) at_y));
}
  where
    lt_place : n < place
    lt_place = walk_within sessions changes place n at walk come

    own : is_record h.table h.bookmark x ≡ true
    own = walk.own n h x come at_h at_x

    less : (o : Option ℕ) → IfSome o (λ k. k < n) → IfSome o (λ k. k < place)
    less None e = tt
    less (Some k) e = omega (arith, e, lt_place)

    by : (i : ℕ) (y : HeldChange) → i < place → slice_get changes i ≡ Some y → IsBehind older i → (i < n) ⊎ ((i ≡ n) ⊎ (n < i)) → stays_apart sessions y h ≡ true
    by i y lt at_y behind (inl e) =
        other_record sessions y h (not_other_way h y
        (of_other (λ t b. is_record t b y) h x (are_of_one h x own) ∙ passes_not (is_record x.table x.bookmark) (take n changes) i y (in_front n changes i y e at_y) (subst (λ (o : Option ℕ). IsBehind o i) (is x at_x) behind)))
    by i y lt at_y behind (inr (inl e)) = subst (λ (z : HeldChange). stays_apart sessions z h ≡ true) (same_some x y (sym at_x ∙ sym (ap (slice_get changes) e) ∙ at_y)) (apart_stays sessions x h (sym apart))
    by i y lt at_y behind (inr (inr e)) = come_to sessions changes place n h at walk come at_h i y lt at_y e

pub walk_done : (sessions : List LiveState) (changes : List HeldChange) (place : ℕ) (at : Option ℕ) (h : HeldChange) → WalksApart sessions changes place at → at ≡ None → slice_get changes place ≡ Some h → true ≡ AllApart sessions changes place h
walk_done sessions changes place at h walk come at_h = all_passed sessions changes place h (subst (PassedTo sessions changes place h) come (walk.passed h at_h))

pub walk_fails : (sessions : List LiveState) (changes : List HeldChange) (place n : ℕ) (h x : HeldChange) (at : Option ℕ) → WalksApart sessions changes place at → at ≡ Some n → slice_get changes place ≡ Some h → is_add h.kind ≡ false → slice_get changes n ≡ Some x
    → false ≡ are_apart sessions x h → false ≡ AllApart sessions changes place h
walk_fails sessions changes place n h x at walk come at_h other at_x refused =
    one_fails sessions changes place n h x (walk_within sessions changes place n at walk come) at_x (walk.own n h x come at_h at_x) (not_both_behind (is_add x.kind) (is_add h.kind) other) (sym refused)

pub walk_ends : (sessions : List LiveState) (changes : List HeldChange) (place n : ℕ) (h x : HeldChange) (at : Option ℕ) → ArePlaced changes → all_pairs (stays_apart sessions) (take place changes) ≡ true → WalksApart sessions changes place at → at ≡ Some n
    → slice_get changes place ≡ Some h → slice_get changes n ≡ Some x → is_add x.kind ≡ false → true ≡ are_apart sessions x h → true ≡ AllApart sessions changes place h
walk_ends sessions changes place n h x at placed before walk come at_h at_x other apart =
    all_passed sessions changes place h
    (passed_base sessions changes place n h x placed before at_h (walk_within sessions changes place n at walk come) at_x (walk.own n h x come at_h at_x) other (sym apart) (come_to sessions changes place n h at walk come at_h))

-- ---- how far it is

abbrev pub places_left : Option ℕ → ℕ
places_left None = 0
places_left (Some place) = suc place

pub fewer_places : (place : ℕ) (at older : Option ℕ) → at ≡ Some place → IfSome older (λ n. n < place) → places_left older < places_left at
fewer_places place at older is below = subst (λ (o : Option ℕ). places_left older < places_left o) (sym is) (by older below)
  where
    by : (older : Option ℕ) → IfSome older (λ n. n < place) → places_left older < suc place
    by None below = omega arith
    by (Some n) below = omega arith
