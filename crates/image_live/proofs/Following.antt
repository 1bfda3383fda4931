-- How changes go on from one to the next of a record, seen from behind.
use Rattle.std.proofs.Common.{◌≡◌, ℕ, ◌<◌, Bool, true, false, ◌&&◌, ◌||◌, List, [], ◌∷◌, ◌++◌, Option, Some, None, take, refl, sym, ap, ◌∙◌}
use Rattle.std.specs.Prelude.{if◌then◌else◌, slice_get}
use Rattle.std.specs.List.{list_any}
use Rattle.common_lemmas.proofs.Booleans.{and_false}
use Rattle.common_lemmas.proofs.Options.{same_some}
use Rattle.version_store.specs.Answers.{change_at}
use Rattle.version_store.specs.HeldChanges.{HeldChange, is_record, last_place, later_place}
use Rattle.image_live.proofs.Fronts.{GoesByFronts, in_front}
use Rattle.image_live.proofs.Lasts.{Tells, are_of_one, last_tells, not_other_way, of_other, other_way}
use Rattle.image_live.proofs.Pairs.{and_assoc, and_true}
use Rattle.image_live.specs.Orders.{all_follow, follows, follows_in, follows_last, next_follows}

-- ---- the next one of a record, with one change more

-- whether a change follows the one before it, where no other of its record stands between
abbrev unless : Bool → HeldChange → HeldChange → Bool
unless true h x = true
unless false h x = follows h x

-- another record's change behind tells nothing
of_another : (h x : HeldChange) (held : List HeldChange) → is_record h.table h.bookmark x ≡ false → next_follows h (held ++ x ∷ []) ≡ next_follows h held
of_another h x [] other = ap (λ b. if b then follows h x else true) other
of_another h x (next ∷ held) other = by (is_record h.table h.bookmark next) (of_another h x held other)
  where
    by : (b : Bool) → next_follows h (held ++ x ∷ []) ≡ next_follows h held → (if b then follows h next else next_follows h (held ++ x ∷ [])) ≡ (if b then follows h next else next_follows h held)
    by true rest = refl
    by false rest = rest

-- the next change of the record follows, or none does and the one behind does
one_behind : (h x : HeldChange) (held : List HeldChange) → is_record h.table h.bookmark x ≡ true
    → next_follows h (held ++ x ∷ []) ≡ (next_follows h held && unless (list_any (is_record h.table h.bookmark) held) h x)
one_behind h x [] own = ap (λ b. if b then follows h x else true) own
one_behind h x (next ∷ held) own = by (is_record h.table h.bookmark next) (one_behind h x held own)
  where
    by : (b : Bool) → next_follows h (held ++ x ∷ []) ≡ (next_follows h held && unless (list_any (is_record h.table h.bookmark) held) h x)
        → (if b then follows h next else next_follows h (held ++ x ∷ [])) ≡ ((if b then follows h next else next_follows h held) && unless (b || list_any (is_record h.table h.bookmark) held) h x)
    by true rest = sym (and_true (follows h next))
    by false rest = rest

-- ---- the last one of the record before

any_last : (p : HeldChange → Bool) (held : List HeldChange) (h x : HeldChange) → follows_in (change_at (h ∷ held) (later_place true (last_place p held))) x ≡ (follows_in (change_at held (last_place p held)) x && unless (list_any p held) h x)
any_last p held h x = by (last_place p held) (list_any p held) (last_tells p held)
  where
    by : (o : Option ℕ) (b : Bool) → Tells o b → follows_in (change_at (h ∷ held) (later_place true o)) x ≡ (follows_in (change_at held o) x && unless b h x)
    by None b e = sym (ap (λ c. unless c h x) e)
    by (Some place) b e = sym (ap (λ c. follows_in (change_at held (Some place)) x && unless c h x) e ∙ and_true (follows_in (change_at held (Some place)) x))

none_last : (held : List HeldChange) (h x : HeldChange) (o : Option ℕ) → follows_in (change_at (h ∷ held) (later_place false o)) x ≡ follows_in (change_at held o) x
none_last held h x None = refl
none_last held h x (Some place) = refl

-- ---- all of them

shuffled : (a b c d : Bool) → ((a && d) && (b && c)) ≡ ((a && b) && (c && d))
shuffled false b c d = refl
shuffled true true c true = sym (and_true c)
shuffled true true c false = sym (and_false c)
shuffled true false c true = refl
shuffled true false c false = refl

one_more : (held : List HeldChange) (x : HeldChange) → all_follow (held ++ x ∷ []) ≡ (all_follow held && follows_last held x)
one_more [] x = refl
one_more (h ∷ held) x = by (is_record h.table h.bookmark x) refl (one_more held x)
  where
    p : HeldChange → Bool
    p = is_record x.table x.bookmark

    last : Bool → Bool
    last b = follows_in (change_at (h ∷ held) (later_place b (last_place p held))) x

    by : (b : Bool) → is_record h.table h.bookmark x ≡ b → all_follow (held ++ x ∷ []) ≡ (all_follow held && follows_last held x) → (next_follows h (held ++ x ∷ []) && all_follow (held ++ x ∷ [])) ≡ ((next_follows h held && all_follow held) && follows_last (h ∷ held) x)
    by true own rest =
        ap (λ b. b && all_follow (held ++ x ∷ [])) (one_behind h x held own)
        ∙ ap (λ b. (next_follows h held && unless (list_any (is_record h.table h.bookmark) held) h x) && b) rest
        ∙ ap (λ (q : HeldChange → Bool). (next_follows h held && unless (list_any q held) h x) && (all_follow held && follows_last held x)) (of_other is_record h x (are_of_one h x own))
        ∙ shuffled (next_follows h held) (all_follow held) (follows_last held x) (unless (list_any p held) h x)
        ∙ ap (λ b. (next_follows h held && all_follow held) && b) (sym (any_last p held h x))
        ∙ ap (λ b. (next_follows h held && all_follow held) && last b) (sym (other_way h x own))
    by false other rest =
        ap (λ b. b && all_follow (held ++ x ∷ [])) (of_another h x held other)
        ∙ ap (λ b. next_follows h held && b) rest
        ∙ and_assoc (next_follows h held) (all_follow held) (follows_last held x)
        ∙ ap (λ b. (next_follows h held && all_follow held) && b) (sym (none_last held h x (last_place p held)))
        ∙ ap (λ b. (next_follows h held && all_follow held) && last b) (sym (not_other_way h x other))

pub following_goes : GoesByFronts all_follow follows_last
following_goes = record { begins = refl; goes = one_more }

-- ---- told by the place of the one before

pub follows_none : (held : List HeldChange) (place : ℕ) (h : HeldChange) → None ≡ last_place (is_record h.table h.bookmark) (take place held) → true ≡ follows_last (take place held) h
follows_none held place h none = ap (λ (o : Option ℕ). follows_in (change_at (take place held) o) h) none

pub follows_some : (held : List HeldChange) (place older : ℕ) (h x c : HeldChange) → slice_get held place ≡ Some h → slice_get held place ≡ Some c → Some older ≡ last_place (is_record h.table h.bookmark) (take place held) → older < place → slice_get held older ≡ Some x
    → follows x c ≡ follows_last (take place held) h
follows_some held place older h x c at_h at_c is lt at_x =
    ap (follows x) (same_some c h (sym at_c ∙ at_h))
    ∙ sym (ap (λ (o : Option HeldChange). follows_in o h) (in_front place held older x lt at_x))
    ∙ ap (λ (o : Option ℕ). follows_in (change_at (take place held) o) h) is
