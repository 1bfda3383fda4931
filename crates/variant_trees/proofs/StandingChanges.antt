-- The puts and drops of a record that are not undone, from the newest back.
use Rattle.std.proofs.Common.{◌≡◌, ℕ, zero, suc, ◌<◌, ◌≤◌, Bool, true, false, ◌&&◌, ◌||◌, cond, List, [], ◌∷◌, length, Option, Some, None, map, drop, take, option_map, refl, sym, ap, subst, ◌∙◌, arith}
use Rattle.std.specs.Prelude.{◌==◌, IfSome, IsSomeAnd, bytes_eq, is_some, not, slice_get}
use Rattle.std.specs.List.{list_any}
use Rattle.std.proofs.lemmas.Bool.{and_from, eqb-true}
use Rattle.common_lemmas.proofs.Booleans.{and_left, and_right, or_swap}
use Rattle.common_lemmas.proofs.Numbers.{same_bytes}
use Rattle.column_set.specs.RecordValues.{RecordFields}
use Rattle.database_state.specs.State.{is_undone}
use Rattle.version_store.specs.HeldChanges.{HeldChange, is_record, is_rewrite, is_standing_rewrite, last_place, later_place}
use Rattle.stored_variants.specs.RecordRows.{TableValues, some_before, IsRecordRow, held_record_in, record_of}
use Rattle.variant_trees.specs.GoneKeys.{AreRows, held_from}
use Rattle.stored_variants.proofs.HeldPlaces.{take_all, StandsAt, last_stands}
use Rattle.long_value.specs.Values.{Values}

-- ---- of any test

-- whether one of the changes from one place on, and before another, passes
abbrev pub passes_between : (HeldChange → Bool) → ℕ → ℕ → List HeldChange → Bool
passes_between q from end [] = false
passes_between q from zero (h ∷ held) = false
passes_between q zero (suc end) (h ∷ held) = q h || passes_between q zero end held
passes_between q (suc from) (suc end) (h ∷ held) = passes_between q from end held

abbrev pub passes_at : (HeldChange → Bool) → Option HeldChange → Bool
passes_at q None = false
passes_at q (Some h) = q h

abbrev pub is_below : ℕ → ℕ → Bool
is_below n zero = false
is_below zero (suc m) = true
is_below (suc n) (suc m) = is_below n m

-- the same, told from the newest one that stands
abbrev pub passes_from : (HeldChange → Bool) → ℕ → Option ℕ → List HeldChange → Bool
passes_from q from None held = false
passes_from q from (Some place) held = cond (is_below place from) false (passes_at q (slice_get held place) || passes_between q from place held)

all_between : (q : HeldChange → Bool) (from : ℕ) (held : List HeldChange) → passes_between q from (length held) held ≡ list_any q (drop from held)
all_between q zero [] = refl
all_between q (suc from) [] = refl
all_between q zero (h ∷ held) = ap (λ b. q h || b) (all_between q zero held)
all_between q (suc from) (h ∷ held) = all_between q from held

between_from : (p q : HeldChange → Bool) → ((h : HeldChange) → p h ≡ false → q h ≡ false) → (from end : ℕ) (held : List HeldChange) → passes_between q from end held ≡ passes_from q from (last_place p (take end held)) held
between_from p q only from end [] = none end
  where
    none : (end : ℕ) → false ≡ passes_from q from (last_place p (take end [])) []
    none zero = refl
    none (suc end) = refl
between_from p q only from zero (h ∷ held) = refl
between_from p q only zero (suc end) (h ∷ held) = by (last_place p (take end held)) (p h) refl (between_from p q only zero end held)
  where
    by : (o : Option ℕ) (b : Bool) → p h ≡ b → passes_between q zero end held ≡ passes_from q zero o held → (q h || passes_between q zero end held) ≡ passes_from q zero (later_place b o) (h ∷ held)
    by (Some place) b e rest = ap (λ c. q h || c) rest ∙ or_swap (q h) (passes_at q (slice_get held place)) (passes_between q zero place held)
    by None true e rest = ap (λ c. q h || c) rest
    by None false e rest = λ i. only h e i || rest i
between_from p q only (suc from) (suc end) (h ∷ held) = by (last_place p (take end held)) (p h) (between_from p q only from end held)
  where
    by : (o : Option ℕ) (b : Bool) → passes_between q from end held ≡ passes_from q from o held → passes_between q from end held ≡ passes_from q (suc from) (later_place b o) (h ∷ held)
    by (Some place) b rest = rest
    by None true rest = rest
    by None false rest = rest

-- ---- of the records before them

-- whether a put or drop of the record that is not undone has a record before it that passes
abbrev pub passes_before : TableValues → (Option RecordFields → Bool) → ℕ → List ℕ → HeldChange → Bool
passes_before longs test table bookmark h = is_standing_rewrite table bookmark h && test (held_record_in longs h).before

some_is : (longs : TableValues) (test : Option RecordFields → Bool) (table : ℕ) (bookmark : List ℕ) (held : List HeldChange) → list_any (passes_before longs test table bookmark) held ≡ some_before test table bookmark (map (held_record_in longs) held)
some_is longs test table bookmark [] = refl
some_is longs test table bookmark (h ∷ held) = ap (λ b. passes_before longs test table bookmark h || b) (some_is longs test table bookmark held)

-- how many changes there are up to a place
abbrev pub places_left : Option ℕ → ℕ
places_left None = 0
places_left (Some place) = suc place

-- What a walk knows that has come to a place.
pub record WalksBack (longs : TableValues) (test : Option RecordFields → Bool) (table : ℕ) (bookmark : List ℕ) (from : ℕ) (held : List HeldChange) (at : Option ℕ) : Type 0 where
  pub told : some_before test table bookmark (held_from longs from held) ≡ passes_from (passes_before longs test table bookmark) from at held
  pub stands : StandsAt (is_standing_rewrite table bookmark) held at

only_standing : (longs : TableValues) (test : Option RecordFields → Bool) (table : ℕ) (bookmark : List ℕ) (h : HeldChange) → is_standing_rewrite table bookmark h ≡ false → passes_before longs test table bookmark h ≡ false
only_standing longs test table bookmark h e = ap (λ b. b && test (held_record_in longs h).before) e

pub walk_begins : (longs : TableValues) (test : Option RecordFields → Bool) (table : ℕ) (bookmark : List ℕ) (from : ℕ) (held : List HeldChange) (at : Option ℕ) → at ≡ last_place (is_standing_rewrite table bookmark) held → WalksBack longs test table bookmark from held at
walk_begins longs test table bookmark from held at is = subst (WalksBack longs test table bookmark from held) (sym (is ∙ ap (last_place p) (sym (take_all held)))) (record {
  told =
      sym (some_is longs test table bookmark (drop from held)) ∙ sym (all_between q from held)
      ∙ between_from p q (only_standing longs test table bookmark) from (length held) held;
  stands = last_stands p (length held) held;
})
  where
    p : HeldChange → Bool
    p = is_standing_rewrite table bookmark

    q : HeldChange → Bool
    q = passes_before longs test table bookmark

-- a change that stands is of the record, and is a put or drop that is not undone
of_record : (table : ℕ) (bookmark : List ℕ) (h : HeldChange) → is_standing_rewrite table bookmark h ≡ true → is_record table bookmark h ≡ true
of_record table bookmark h stands = and_left (is_record table bookmark h) (is_rewrite h.kind) (and_left (is_record table bookmark h && is_rewrite h.kind) (not (is_undone h.status)) stands)

not_undone : (table : ℕ) (bookmark : List ℕ) (h : HeldChange) → is_standing_rewrite table bookmark h ≡ true → (is_rewrite h.kind && not (is_undone h.status)) ≡ true
not_undone table bookmark h stands =
    and_from (is_rewrite h.kind) (not (is_undone h.status))
    (and_right (is_record table bookmark h) (is_rewrite h.kind) (and_left (is_record table bookmark h && is_rewrite h.kind) (not (is_undone h.status)) stands))
    (and_right (is_record table bookmark h && is_rewrite h.kind) (not (is_undone h.status)) stands)

-- the change at a place has the table and the bookmark
pub older_is : (table : ℕ) (bookmark : List ℕ) (held : List HeldChange) (place : ℕ) (older : Option ℕ) → StandsAt (is_standing_rewrite table bookmark) held (Some place)
    → ((h : HeldChange) → slice_get held place ≡ Some h → older ≡ last_place (is_standing_rewrite h.table h.bookmark) (take place held)) → older ≡ last_place (is_standing_rewrite table bookmark) (take place held)
older_is table bookmark held place older stands is = by (slice_get held place) stands is
  where
    by : (o : Option HeldChange) → IsSomeAnd o (λ h. is_standing_rewrite table bookmark h ≡ true) → ((h : HeldChange) → o ≡ Some h → older ≡ last_place (is_standing_rewrite h.table h.bookmark) (take place held))
        → older ≡ last_place (is_standing_rewrite table bookmark) (take place held)
    by None stands is = absurd stands
    by (Some h) stands is =
        is h refl
        ∙ (λ i. last_place (is_standing_rewrite (eqb-true h.table table (and_left (h.table == table) (bytes_eq h.bookmark bookmark) own) i) (same_bytes h.bookmark bookmark (and_right (h.table == table) (bytes_eq h.bookmark bookmark) own) i)) (take place held))
      where
        own : is_record table bookmark h ≡ true
        own = of_record table bookmark h stands

is_low : (a b : ℕ) → a < b → is_below a b ≡ true
is_low a zero h = absurd (no h)
  where
    no : a < 0 → ⊥
    no h = omega arith
is_low zero (suc b) h = refl
is_low (suc a) (suc b) h = is_low a b (omega arith)

is_high : (a b : ℕ) → b ≤ a → is_below a b ≡ false
is_high a zero h = refl
is_high zero (suc b) h = absurd (no h)
  where
    no : suc b ≤ 0 → ⊥
    no h = omega arith
is_high (suc a) (suc b) h = is_high a b (omega arith)

pub walk_ends : (longs : TableValues) (test : Option RecordFields → Bool) (table : ℕ) (bookmark : List ℕ) (from : ℕ) (held : List HeldChange) (place : ℕ) → WalksBack longs test table bookmark from held (Some place) → place < from → some_before test table bookmark (held_from longs from held) ≡ false
walk_ends longs test table bookmark from held place walk low =
    walk.told ∙ ap (λ b. cond b false (passes_at (passes_before longs test table bookmark) (slice_get held place) || passes_between (passes_before longs test table bookmark) from place held)) (is_low place from low)

-- what the walk finds at a place: the test of the row before the change
found_here : (longs : TableValues) (test : Option RecordFields → Bool) (table : ℕ) (bookmark : List ℕ) (held : List HeldChange) (place : ℕ) (row : Option (List ℕ)) → StandsAt (is_standing_rewrite table bookmark) held (Some place)
    → slice_get (map (λ (h : HeldChange). h.before) held) place ≡ Some row → passes_at (passes_before longs test table bookmark) (slice_get held place) ≡ test (option_map (record_of (longs table)) row)
found_here longs test table bookmark [] place row stands is = absurd stands
found_here longs test table bookmark (h ∷ held) zero row stands is =
    ap (λ b. b && test (held_record_in longs h).before) stands
    ∙ ap (λ b. test (cond b (option_map (record_of (longs h.table)) h.before) None)) (not_undone table bookmark h stands)
    ∙ ap (λ n. test (option_map (record_of (longs n)) h.before)) (eqb-true h.table table (and_left (h.table == table) (bytes_eq h.bookmark bookmark) (of_record table bookmark h stands)))
    ∙ ap (λ (r : Option (List ℕ)). test (option_map (record_of (longs table)) r)) (same h.before row is)
  where
    same : (x y : Option (List ℕ)) → Some x ≡ Some y → x ≡ y
    same x y e = cc
found_here longs test table bookmark (h ∷ held) (suc place) row stands is = found_here longs test table bookmark held place row stands is

pub walk_finds : (longs : TableValues) (test : Option RecordFields → Bool) (table : ℕ) (bookmark : List ℕ) (from : ℕ) (held : List HeldChange) (place : ℕ) (row : Option (List ℕ)) → WalksBack longs test table bookmark from held (Some place) → from ≤ place
    → slice_get (map (λ (h : HeldChange). h.before) held) place ≡ Some row → test (option_map (record_of (longs table)) row) ≡ true → some_before test table bookmark (held_from longs from held) ≡ true
walk_finds longs test table bookmark from held place row walk high is passes =
    walk.told
    ∙ (λ i. cond (is_high place from high i) false ((found_here longs test table bookmark held place row walk.stands is ∙ passes) i || passes_between (passes_before longs test table bookmark) from place held))

pub walk_goes_on : (longs : TableValues) (test : Option RecordFields → Bool) (table : ℕ) (bookmark : List ℕ) (from : ℕ) (held : List HeldChange) (place : ℕ) (row : Option (List ℕ)) (older : Option ℕ) → WalksBack longs test table bookmark from held (Some place) → from ≤ place
    → slice_get (map (λ (h : HeldChange). h.before) held) place ≡ Some row → test (option_map (record_of (longs table)) row) ≡ false
    → ((h : HeldChange) → slice_get held place ≡ Some h → older ≡ last_place (is_standing_rewrite h.table h.bookmark) (take place held)) → WalksBack longs test table bookmark from held older
walk_goes_on longs test table bookmark from held place row older walk high is fails next = subst (WalksBack longs test table bookmark from held) (sym (older_is table bookmark held place older walk.stands next)) (record {
  told =
      walk.told
      ∙ (λ i. cond (is_high place from high i) false ((found_here longs test table bookmark held place row walk.stands is ∙ fails) i || passes_between (passes_before longs test table bookmark) from place held))
      ∙ between_from (is_standing_rewrite table bookmark) (passes_before longs test table bookmark) (only_standing longs test table bookmark) from place held;
  stands = last_stands (is_standing_rewrite table bookmark) place held;
})

pub walk_done : (longs : TableValues) (test : Option RecordFields → Bool) (table : ℕ) (bookmark : List ℕ) (from : ℕ) (held : List HeldChange) (at : Option ℕ) → WalksBack longs test table bookmark from held at → at ≡ None → some_before test table bookmark (held_from longs from held) ≡ false
walk_done longs test table bookmark from held at walk none = walk.told ∙ ap (λ (o : Option ℕ). passes_from (passes_before longs test table bookmark) from o held) none

pub walk_at : (longs : TableValues) (test : Option RecordFields → Bool) (table : ℕ) (bookmark : List ℕ) (from : ℕ) (held : List HeldChange) (at : Option ℕ) (place : ℕ) → WalksBack longs test table bookmark from held at → at ≡ Some place → WalksBack longs test table bookmark from held (Some place)
walk_at longs test table bookmark from held at place walk is = subst (WalksBack longs test table bookmark from held) is walk

-- the place is one of the changes
pub place_within : (p : HeldChange → Bool) (held : List HeldChange) (place : ℕ) → StandsAt p held (Some place) → place < length held
place_within p [] place stands = absurd stands
place_within p (h ∷ held) zero stands = omega arith
place_within p (h ∷ held) (suc place) stands = let rest : place < length held = place_within p held place stands in omega arith

-- the row before a change is spelled as a record
pub row_before : (longs : TableValues) (table : ℕ) (bookmark : List ℕ) (held : List HeldChange) (place : ℕ) (row : Option (List ℕ)) → AreRows longs held → StandsAt (is_standing_rewrite table bookmark) held (Some place)
    → slice_get (map (λ (h : HeldChange). h.before) held) place ≡ Some row → IfSome row (IsRecordRow (longs table))
row_before longs table bookmark [] place row are stands is = absurd stands
row_before longs table bookmark (h ∷ held) zero row are stands is =
    subst (λ (n : ℕ). IfSome row (IsRecordRow (longs n))) (eqb-true h.table table (and_left (h.table == table) (bytes_eq h.bookmark bookmark) (of_record table bookmark h stands)))
    (subst (λ (o : Option (List ℕ)). IfSome o (IsRecordRow (longs h.table))) (same h.before row is) (are.0 (not_undone table bookmark h stands)))
  where
    same : (x y : Option (List ℕ)) → Some x ≡ Some y → x ≡ y
    same x y e = cc
row_before longs table bookmark (h ∷ held) (suc place) row are stands is = row_before longs table bookmark held place row are.1 stands is

pub fewer_places : (place : ℕ) (at older : Option ℕ) → at ≡ Some place → IfSome older (λ n. n < place) → places_left older < places_left at
fewer_places place at older is below = subst (λ (o : Option ℕ). places_left older < places_left o) (sym is) (by older below)
  where
    by : (older : Option ℕ) → IfSome older (λ n. n < place) → places_left older < suc place
    by None below = omega arith
    by (Some n) below = omega arith

-- there is a record where there is a row
pub some_mapped : (vals : Values) (row : Option (List ℕ)) → is_some (option_map (record_of vals) row) ≡ is_some row
some_mapped vals None = refl
some_mapped vals (Some row) = refl
