-- The puts and drops of a record that are not undone, from the newest back.
use Rattle.std.proofs.Common.{◌≡◌, ℕ, zero, suc, ◌<◌, Bool, true, false, ◌&&◌, ◌||◌, List, [], ◌∷◌, length, Option, Some, None, take, refl, sym, ap, subst, ◌∙◌, arith}
use Rattle.std.specs.Prelude.{◌==◌, IfSome, IsSomeAnd, bytes_eq, is_some, nat_lt, not, slice_get, unwrap_or}
use Rattle.std.specs.List.{list_any}
use Rattle.std.proofs.lemmas.Bool.{eqb-true}
use Rattle.common_lemmas.proofs.Booleans.{and_left, and_right, or_false}
use Rattle.common_lemmas.proofs.Numbers.{same_bytes}
use Rattle.common_lemmas.proofs.Options.{same_some}
use Rattle.database_state.specs.State.{is_open, is_undone}
use Rattle.image_findings.specs.RowFindings.{has_before, lacks_room}
use Rattle.stored_variants.proofs.HeldPlaces.{StandsAt, last_stands, take_all}
use Rattle.version_store.specs.HeldChanges.{HeldChange, is_record, is_rewrite, is_standing_rewrite, last_place, later_place}

-- ---- any test

-- the changes up to a place
abbrev pub up_to : Option ℕ → List HeldChange → List HeldChange
up_to None held = []
up_to (Some place) held = take (suc place) held

or_assoc : (a b c : Bool) → ((a || b) || c) ≡ (a || (b || c))
or_assoc true b c = refl
or_assoc false b c = refl

or_turned : (a b : Bool) → (a || b) ≡ (b || a)
or_turned true true = refl
or_turned true false = refl
or_turned false true = refl
or_turned false false = refl

-- what the changes up to the last one that passes a test tell of one that only these pass
last_tells : (p q : HeldChange → Bool) → ((h : HeldChange) → p h ≡ false → q h ≡ false) → (held : List HeldChange) → list_any q held ≡ list_any q (up_to (last_place p held) held)
last_tells p q only [] = refl
last_tells p q only (h ∷ held) = by (last_place p held) (p h) refl (last_tells p q only held)
  where
    by : (o : Option ℕ) (b : Bool) → p h ≡ b → list_any q held ≡ list_any q (up_to o held) → (q h || list_any q held) ≡ list_any q (up_to (later_place b o) (h ∷ held))
    by (Some place) b e rest = ap (λ c. q h || c) rest
    by None true e rest = ap (λ c. q h || c) rest
    by None false e rest = ap (λ c. q h || c) rest ∙ or_false (q h) ∙ only h e

one_more : (q : HeldChange → Bool) (held : List HeldChange) (place : ℕ) (h : HeldChange) → slice_get held place ≡ Some h → list_any q (take (suc place) held) ≡ (list_any q (take place held) || q h)
one_more q [] place h is = cc
one_more q (x ∷ held) zero h is = or_false (q x) ∙ ap q (same_some x h is)
one_more q (x ∷ held) (suc place) h is = ap (λ b. q x || b) (one_more q held place h is) ∙ sym (or_assoc (q x) (list_any q (take place held)) (q h))

up_to_fewer : (q : HeldChange → Bool) (end : ℕ) (held : List HeldChange) (o : Option ℕ) → IfSome o (λ n. n < end) → list_any q (up_to o (take end held)) ≡ list_any q (up_to o held)
up_to_fewer q end held None below = refl
up_to_fewer q end held (Some n) below = ap (list_any q) (fewer n end held below)
  where
    fewer : (n end : ℕ) (held : List HeldChange) → n < end → take (suc n) (take end held) ≡ take (suc n) held
    fewer n zero held below = absurd (omega (arith, below))
    fewer n (suc end) [] below = refl
    fewer zero (suc end) (h ∷ held) below = refl
    fewer (suc n) (suc end) (h ∷ held) below = ap (λ l. h ∷ l) (fewer n end held (omega (arith, below)))

-- ---- of a record

-- a put or drop of the record that is not undone passes
abbrev pub passes : (HeldChange → Bool) → ℕ → List ℕ → HeldChange → Bool
passes test table bookmark h = is_standing_rewrite table bookmark h && test h

only_standing : (test : HeldChange → Bool) (table : ℕ) (bookmark : List ℕ) (h : HeldChange) → is_standing_rewrite table bookmark h ≡ false → passes test table bookmark h ≡ false
only_standing test table bookmark h e = ap (λ b. b && test h) e

-- What a walk knows that has come to a place: what it found, or what the changes up to there tell.
pub record WalksBack (test : HeldChange → Bool) (table : ℕ) (bookmark : List ℕ) (held : List HeldChange) (found : Bool) (at : Option ℕ) : Type 0 where
  pub told : list_any (passes test table bookmark) held ≡ (found || list_any (passes test table bookmark) (up_to at held))
  pub stands : StandsAt (is_standing_rewrite table bookmark) held at

pub walk_begins : (test : HeldChange → Bool) (table : ℕ) (bookmark : List ℕ) (held : List HeldChange) (at : Option ℕ) → at ≡ last_place (is_standing_rewrite table bookmark) held → WalksBack test table bookmark held false at
walk_begins test table bookmark held at is = subst (WalksBack test table bookmark held false) (sym is) (record {
  told = last_tells (is_standing_rewrite table bookmark) (passes test table bookmark) (only_standing test table bookmark) held;
  stands = subst (StandsAt (is_standing_rewrite table bookmark) held) (ap (last_place (is_standing_rewrite table bookmark)) (take_all held)) (last_stands (is_standing_rewrite table bookmark) (length held) held);
})

of_record : (table : ℕ) (bookmark : List ℕ) (h : HeldChange) → is_standing_rewrite table bookmark h ≡ true → is_record table bookmark h ≡ true
of_record table bookmark h stands = and_left (is_record table bookmark h) (is_rewrite h.kind) (and_left (is_record table bookmark h && is_rewrite h.kind) (not (is_undone h.status)) stands)

older_is : (table : ℕ) (bookmark : List ℕ) (held : List HeldChange) (place : ℕ) (h : HeldChange) (older : Option ℕ) → slice_get held place ≡ Some h → is_standing_rewrite table bookmark h ≡ true
    → ((x : HeldChange) → slice_get held place ≡ Some x → older ≡ last_place (is_standing_rewrite x.table x.bookmark) (take place held)) → older ≡ last_place (is_standing_rewrite table bookmark) (take place held)
older_is table bookmark held place h older at stands is =
    let own = of_record table bookmark h stands in
    is h at
    ∙ (λ i. last_place (is_standing_rewrite (eqb-true h.table table (and_left (h.table == table) (bytes_eq h.bookmark bookmark) own) i) (same_bytes h.bookmark bookmark (and_right (h.table == table) (bytes_eq h.bookmark bookmark) own) i)) (take place held))

here_stands : (table : ℕ) (bookmark : List ℕ) (held : List HeldChange) (place : ℕ) (h : HeldChange) → StandsAt (is_standing_rewrite table bookmark) held (Some place) → slice_get held place ≡ Some h → is_standing_rewrite table bookmark h ≡ true
here_stands table bookmark held place h stands at = subst (λ (o : Option HeldChange). IsSomeAnd o (λ x. is_standing_rewrite table bookmark x ≡ true)) at stands

pub walk_goes_on : (test : HeldChange → Bool) (table : ℕ) (bookmark : List ℕ) (held : List HeldChange) (found here : Bool) (at older : Option ℕ) (place : ℕ) (h : HeldChange) → at ≡ Some place → slice_get held place ≡ Some h → here ≡ test h
    → ((x : HeldChange) → slice_get held place ≡ Some x → older ≡ last_place (is_standing_rewrite x.table x.bookmark) (take place held)) → IfSome older (λ n. n < place)
    → WalksBack test table bookmark held found at → WalksBack test table bookmark held (found || here) older
walk_goes_on test table bookmark held found here at older place h come at_place is next below walk = record {
  told =
      walk.told
      ∙ ap (λ (o : Option ℕ). found || list_any q (up_to o held)) come
      ∙ ap (λ b. found || b) (one_more q held place h at_place ∙ ap (λ b. list_any q (take place held) || b) passed ∙ or_turned (list_any q (take place held)) here)
      ∙ sym (or_assoc found here (list_any q (take place held)))
      ∙ ap (λ b. (found || here) || b) (rest ∙ up_to_fewer q place held older below);
  stands = subst (StandsAt p held) (sym own) (last_stands p place held);
}
  where
    p : HeldChange → Bool
    p = is_standing_rewrite table bookmark

    q : HeldChange → Bool
    q = passes test table bookmark

    stands_here : is_standing_rewrite table bookmark h ≡ true
    stands_here = here_stands table bookmark held place h (subst (StandsAt (is_standing_rewrite table bookmark) held) come walk.stands) at_place

    passed : passes test table bookmark h ≡ here
    passed = ap (λ b. b && test h) stands_here ∙ sym is

    own : older ≡ last_place (is_standing_rewrite table bookmark) (take place held)
    own = older_is table bookmark held place h older at_place stands_here next

    rest : list_any (passes test table bookmark) (take place held) ≡ list_any (passes test table bookmark) (up_to older (take place held))
    rest =
        last_tells (is_standing_rewrite table bookmark) (passes test table bookmark) (only_standing test table bookmark) (take place held)
        ∙ sym (ap (λ (o : Option ℕ). list_any (passes test table bookmark) (up_to o (take place held))) own)

pub walk_done : (test : HeldChange → Bool) (table : ℕ) (bookmark : List ℕ) (held : List HeldChange) (found : Bool) (at : Option ℕ) → WalksBack test table bookmark held found at → at ≡ None → found ≡ list_any (passes test table bookmark) held
walk_done test table bookmark held found at walk none =
    sym (walk.told ∙ ap (λ (o : Option ℕ). found || list_any (passes test table bookmark) (up_to o held)) none ∙ or_false found)

-- the place is one of the changes
pub place_within : (test : HeldChange → Bool) (table : ℕ) (bookmark : List ℕ) (held : List HeldChange) (found : Bool) (at : Option ℕ) (place : ℕ) → WalksBack test table bookmark held found at → at ≡ Some place → place < length held
place_within test table bookmark held found at place walk come = by held place (subst (StandsAt (is_standing_rewrite table bookmark) held) come walk.stands)
  where
    by : (held : List HeldChange) (place : ℕ) → StandsAt (is_standing_rewrite table bookmark) held (Some place) → place < length held
    by [] place stands = absurd stands
    by (h ∷ held) zero stands = omega arith
    by (h ∷ held) (suc place) stands = let rest : place < length held = by held place stands in omega (arith, rest)

-- ---- how far it is

abbrev pub places_left : Option ℕ → ℕ
places_left None = 0
places_left (Some place) = suc place

pub fewer_places : (place : ℕ) (at older : Option ℕ) → at ≡ Some place → IfSome older (λ n. n < place) → places_left older < places_left at
fewer_places place at older is below = subst (λ (o : Option ℕ). places_left older < places_left o) (sym is) (by older below)
  where
    by : (older : Option ℕ) → IfSome older (λ n. n < place) → places_left older < suc place
    by None below = omega arith
    by (Some n) below = omega arith

-- ---- the two tests

abbrev pub had_row : HeldChange → Bool
had_row h = is_some h.before

abbrev pub outgrew : ℕ → HeldChange → Bool
outgrew extent h = is_open h.status && nat_lt extent (length (unwrap_or h.before []))

pub before_is : (table : ℕ) (bookmark : List ℕ) (held : List HeldChange) → list_any (passes had_row table bookmark) held ≡ has_before table bookmark held
before_is table bookmark held = refl

pub room_is : (extent table : ℕ) (bookmark : List ℕ) (held : List HeldChange) → list_any (passes (outgrew extent) table bookmark) held ≡ list_any (lacks_room extent table bookmark) held
room_is extent table bookmark held = refl
