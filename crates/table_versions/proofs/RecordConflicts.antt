-- Going over the held changes of one record, from the newest back.
use Rattle.std.proofs.Common.{◌≡◌, ℕ, zero, suc, ◌<◌, Bool, true, false, not, ◌&&◌, ◌||◌, cond, List, [], ◌∷◌, length, Option, Some, None, find, map, drop, take, option_map, refl, sym, ap, subst, ◌∙◌, arith}
use Rattle.std.specs.Prelude.{◌==◌, slice_get, unwrap_or, IfSome}
use Rattle.std.proofs.lemmas.Bool.{eqb-true}
use Rattle.common_lemmas.proofs.Options.{none_some}
use Rattle.common_lemmas.proofs.Booleans.{and_false, and_left, and_right}
use Rattle.common_lemmas.proofs.Numbers.{same_bytes}
use Rattle.database_state.specs.Conflicts.{yields_key}
use Rattle.database_state.specs.State.{is_undone}
use Rattle.index_derive.specs.declared.rules.IndexRule.{IndexRule}
use Rattle.index_derive.specs.declared.rules.Schema.{Schema}
use Rattle.version_store.specs.declared.calls.Reader.{Reader}
use Rattle.version_store.specs.HeldChanges.{HeldChange, is_concurrent, is_record, is_rewrite, is_standing, last_place, later_place}
use Rattle.laws_engine.specs.HeldRecords.{is_standing_rewrite}
use Rattle.table_versions.specs.KeyConflicts.{conflicts_under, next_yields, yields_before, yields_before_change}
use Rattle.stored_variants.specs.RecordRows.{TableValues, held_record_in, record_of}

-- ---- places

-- how many changes there are up to the one at the place
abbrev pub up_to : Option ℕ → ℕ
up_to None = 0
up_to (Some place) = suc place

-- what holds of the change at a place
pub at_place : {P : Type 0} (held : List HeldChange) (place : ℕ) → place < length held → ((h : HeldChange) → slice_get held place ≡ Some h → P) → P
at_place [] place within f = absurd (omega arith)
at_place (h ∷ held) zero within f = f h refl
at_place (h ∷ held) (suc place) within f = at_place held place (omega arith) f

same_some : (x y : HeldChange) → Some x ≡ Some y → x ≡ y
same_some x y e = ap (λ (o : Option HeldChange). unwrap_or o x) e

pub from_here : (held : List HeldChange) (place : ℕ) (h : HeldChange) → slice_get held place ≡ Some h → drop place held ≡ h ∷ drop (suc place) held
from_here [] place h e = none_some h e
from_here (x ∷ held) zero h e = ap (λ (y : HeldChange). y ∷ held) (same_some x h e)
from_here (x ∷ held) (suc place) h e = from_here held place h e

pub mapped : {B : Type 0} (f : HeldChange → B) (held : List HeldChange) (place : ℕ) (h : HeldChange) (b : B) → slice_get held place ≡ Some h → slice_get (map f held) place ≡ Some b → f h ≡ b
mapped f [] place h b e g = none_some h e
mapped {B} f (x ∷ held) zero h b e g = ap f (sym (same_some x h e)) ∙ ap (λ (o : Option B). unwrap_or o (f x)) g
mapped f (x ∷ held) (suc place) h b e g = mapped f held place h b e g

-- the last one that passes does
pub last_passes : (test : HeldChange → Bool) (count : ℕ) (held : List HeldChange) (place : ℕ) (h : HeldChange) → last_place test (take count held) ≡ Some place → slice_get held place ≡ Some h → test h ≡ true
last_passes test count [] place h e g = none_some h g
last_passes test zero (x ∷ held) place h e g = none_some place e
last_passes test (suc count) (x ∷ held) place h e g = by (test x) refl (last_place test (take count held)) refl e (λ later l at. last_passes test count held later h l at)
  where
    number : Option ℕ → ℕ
    number o = unwrap_or o 0

    by : (b : Bool) → test x ≡ b → (o : Option ℕ) → last_place test (take count held) ≡ o → later_place b o ≡ Some place
        → ((later : ℕ) → last_place test (take count held) ≡ Some later → slice_get held later ≡ Some h → test h ≡ true) → test h ≡ true
    by b t (Some later) l f rest = rest later l (ap (λ n. slice_get (x ∷ held) n) (ap number f) ∙ g)
    by true t None l f rest = ap test (sym (same_some x h (ap (λ n. slice_get (x ∷ held) n) (ap number f) ∙ g))) ∙ t
    by false t None l f rest = none_some place f

-- ---- what only the changes that pass add to

-- what is told from the last one that passes on is told from the place on
pub skipped : {X : Type 0} (test : HeldChange → Bool) (told : List HeldChange → X) → ((h : HeldChange) (rest : List HeldChange) → test h ≡ false → told (h ∷ rest) ≡ told rest)
    → (place : ℕ) (held : List HeldChange) → told (drop (up_to (last_place test (take place held))) held) ≡ told (drop place held)
skipped test told skips zero held = refl
skipped test told skips (suc place) [] = refl
skipped test told skips (suc place) (h ∷ held) = by (test h) refl (last_place test (take place held)) refl (skipped test told skips place held)
  where
    by : (b : Bool) → test h ≡ b → (o : Option ℕ) → last_place test (take place held) ≡ o → told (drop (up_to (last_place test (take place held))) held) ≡ told (drop place held)
        → told (drop (up_to (later_place b o)) (h ∷ held)) ≡ told (drop place held)
    by b t (Some later) l rest = ap (λ (o : Option ℕ). told (drop (up_to o) held)) (sym l) ∙ rest
    by true t None l rest = ap (λ (o : Option ℕ). told (drop (up_to o) held)) (sym l) ∙ rest
    by false t None l rest = skips h held t ∙ ap (λ (o : Option ℕ). told (drop (up_to o) held)) (sym l) ∙ rest

take_all : (held : List HeldChange) → take (length held) held ≡ held
take_all [] = refl
take_all (h ∷ held) = ap (λ rest. h ∷ rest) (take_all held)

drop_all : (held : List HeldChange) → drop (length held) held ≡ []
drop_all [] = refl
drop_all (h ∷ held) = drop_all held

pub skipped_newest : {X : Type 0} (test : HeldChange → Bool) (told : List HeldChange → X) → ((h : HeldChange) (rest : List HeldChange) → test h ≡ false → told (h ∷ rest) ≡ told rest)
    → (held : List HeldChange) → told (drop (up_to (last_place test held)) held) ≡ told []
skipped_newest test told skips held =
    ap (λ (changes : List HeldChange). told (drop (up_to (last_place test changes)) held)) (sym (take_all held))
    ∙ skipped test told skips (length held) held ∙ ap told (drop_all held)

pub newest_passes : (test : HeldChange → Bool) (held : List HeldChange) (place : ℕ) (h : HeldChange) → last_place test held ≡ Some place → slice_get held place ≡ Some h → test h ≡ true
newest_passes test held place h e g = last_passes test (length held) held place h (ap (last_place test) (take_all held) ∙ e) g

-- ---- the keys and the conflicts of one record

-- a record, and a key that is asked of it
pub record Asked : Type 0 where
  pub reader : Reader
  pub rule : IndexRule
  pub schema : Schema
  pub key : List ℕ
  pub newest : Bool
  pub table : ℕ
  pub bookmark : List ℕ

-- whether the record before the oldest of its puts and drops that stand has the key, and whether there is a conflict
abbrev pub first_yields : TableValues → Asked → List HeldChange → Bool
first_yields longs a held = next_yields a.rule a.schema a.key a.newest a.table a.bookmark (map (held_record_in longs) held)

abbrev pub conflicts_in : TableValues → Asked → List HeldChange → Bool
conflicts_in longs a held = conflicts_under a.reader a.rule a.schema a.key a.newest a.table a.bookmark (map (held_record_in longs) held)

abbrev pub is_of : Asked → HeldChange → Bool
is_of a h = is_record a.table a.bookmark h

pub own_table : (a : Asked) (h : HeldChange) → is_of a h ≡ true → h.table ≡ a.table
own_table a h own = eqb-true h.table a.table (and_left (h.table == a.table) _ own)

pub other_yields : (longs : TableValues) (a : Asked) (h : HeldChange) (rest : List HeldChange) → is_of a h ≡ false → first_yields longs a (h ∷ rest) ≡ first_yields longs a rest
other_yields longs a h rest e =
    ap (λ b. yields_before a.rule a.schema a.key a.newest (cond (b && is_rewrite h.kind && not (is_undone h.status)) (Some (held_record_in longs h)) (find (is_standing_rewrite a.table a.bookmark) (map (held_record_in longs) rest)))) e

pub other_conflicts : (longs : TableValues) (a : Asked) (h : HeldChange) (rest : List HeldChange) → is_of a h ≡ false → conflicts_in longs a (h ∷ rest) ≡ conflicts_in longs a rest
other_conflicts longs a h rest e =
    ap (λ b. (is_concurrent a.reader h && (b && (first_yields longs a (h ∷ rest) || first_yields longs a rest))) || conflicts_in longs a rest) e
    ∙ ap (λ b. b || conflicts_in longs a rest) (and_false (is_concurrent a.reader h))

own_yields : (longs : TableValues) (a : Asked) (h : HeldChange) (rest : List HeldChange) → is_of a h ≡ true → first_yields longs a (h ∷ rest) ≡ yields_before_change longs a.rule a.schema a.key (first_yields longs a rest) h
own_yields longs a h rest e =
    ap (λ b. yields_before a.rule a.schema a.key a.newest (cond (b && is_rewrite h.kind && not (is_undone h.status)) (Some (held_record_in longs h)) (find (is_standing_rewrite a.table a.bookmark) (map (held_record_in longs) rest)))) e
    ∙ by (is_standing h) refl
  where
    by : (b : Bool) → is_standing h ≡ b → yields_before a.rule a.schema a.key a.newest (cond b (Some (held_record_in longs h)) (find (is_standing_rewrite a.table a.bookmark) (map (held_record_in longs) rest)))
        ≡ cond b (yields_key a.rule a.schema a.key (option_map (record_of (longs h.table)) h.before)) (first_yields longs a rest)
    by true s = ap (λ c. yields_key a.rule a.schema a.key (cond c (option_map (record_of (longs h.table)) h.before) None)) s
    by false s = refl

own_conflicts : (longs : TableValues) (a : Asked) (h : HeldChange) (rest : List HeldChange) → is_of a h ≡ true → conflicts_in longs a rest ≡ false
    → conflicts_in longs a (h ∷ rest) ≡ (is_concurrent a.reader h && (first_yields longs a (h ∷ rest) || first_yields longs a rest))
own_conflicts longs a h rest e none =
    (λ i. (is_concurrent a.reader h && (e i && (first_yields longs a (h ∷ rest) || first_yields longs a rest))) || none i)
    ∙ or_none (is_concurrent a.reader h && (first_yields longs a (h ∷ rest) || first_yields longs a rest))
  where
    or_none : (b : Bool) → (b || false) ≡ b
    or_none true = refl
    or_none false = refl

-- a conflict of the newer changes is one
later_conflict : (longs : TableValues) (a : Asked) (count : ℕ) (held : List HeldChange) → conflicts_in longs a (drop count held) ≡ true → conflicts_in longs a held ≡ true
later_conflict longs a zero held e = e
later_conflict longs a (suc count) [] e = e
later_conflict longs a (suc count) (h ∷ held) e = or_right _ (conflicts_in longs a held) (later_conflict longs a count held e)
  where
    or_right : (b c : Bool) → c ≡ true → (b || c) ≡ true
    or_right true c e = refl
    or_right false c e = e

-- ---- the walk

-- The walk stands on a change of the record, or has passed all. No conflict is among the changes that it has passed, and it
-- knows whether the record after the next one has the key.
pub record Walks (longs : TableValues) (a : Asked) (held : List HeldChange) (found : Option ℕ) (after : Bool) : Type 0 where
  pub within : IfSome found (λ place. place < length held)
  pub own : (place : ℕ) (h : HeldChange) → found ≡ Some place → slice_get held place ≡ Some h → is_of a h ≡ true
  pub yields : first_yields longs a (drop (up_to found) held) ≡ after
  pub none : conflicts_in longs a (drop (up_to found) held) ≡ false

pub walk_begins : (longs : TableValues) (a : Asked) (held : List HeldChange) (found : Option ℕ) → found ≡ last_place (is_record a.table a.bookmark) held → IfSome found (λ place. place < length held) → Walks longs a held found a.newest
walk_begins longs a held found is within = record {
  within = within;
  own = λ place h e g. newest_passes (is_of a) held place h (sym is ∙ e) g;
  yields = ap (λ (o : Option ℕ). first_yields longs a (drop (up_to o) held)) is ∙ skipped_newest (is_of a) (first_yields longs a) (other_yields longs a) held;
  none = ap (λ (o : Option ℕ). conflicts_in longs a (drop (up_to o) held)) is ∙ skipped_newest (is_of a) (conflicts_in longs a) (other_conflicts longs a) held;
}

-- what the change at the place tells
record Here (longs : TableValues) (a : Asked) (held : List HeldChange) (place : ℕ) (before after concurrent : Bool) : Type 0 where
  yields : first_yields longs a (drop place held) ≡ before
  conflict : conflicts_in longs a (drop place held) ≡ (concurrent && (before || after))

here : (longs : TableValues) (a : Asked) (held : List HeldChange) (place : ℕ) (before after concurrent : Bool) → Walks longs a held (Some place) after
    → ((h : HeldChange) → slice_get held place ≡ Some h → before ≡ yields_before_change longs a.rule a.schema a.key after h) → slice_get (map (is_concurrent a.reader) held) place ≡ Some concurrent
    → (h : HeldChange) → slice_get held place ≡ Some h → Here longs a held place before after concurrent
here longs a held place before after concurrent walk before_is concurrent_is h at = record {
  yields = yielding;
  conflict =
      ap (conflicts_in longs a) start ∙ own_conflicts longs a h rest own walk.none
      ∙ (λ i. mapped (is_concurrent a.reader) held place h concurrent at concurrent_is i && ((sym (ap (first_yields longs a) start) ∙ yielding) i || walk.yields i));
}
  where
    rest : List HeldChange
    rest = drop (suc place) held

    start : drop place held ≡ h ∷ rest
    start = from_here held place h at

    own : is_of a h ≡ true
    own = walk.own place h refl at

    yielding : first_yields longs a (drop place held) ≡ before
    yielding = ap (first_yields longs a) start ∙ own_yields longs a h rest own ∙ ap (λ b. yields_before_change longs a.rule a.schema a.key b h) walk.yields ∙ sym (before_is h at)

pub walk_finds : (longs : TableValues) (a : Asked) (held : List HeldChange) (place : ℕ) (before after concurrent : Bool) → Walks longs a held (Some place) after
    → ((h : HeldChange) → slice_get held place ≡ Some h → before ≡ yields_before_change longs a.rule a.schema a.key after h) → slice_get (map (is_concurrent a.reader) held) place ≡ Some concurrent
    → (concurrent && (before || after)) ≡ true → conflicts_in longs a held ≡ true
walk_finds longs a held place before after concurrent walk before_is concurrent_is meets =
    at_place held place walk.within (λ h at.
    later_conflict longs a place held ((here longs a held place before after concurrent walk before_is concurrent_is h at).conflict ∙ meets))

pub walk_goes_on : (longs : TableValues) (a : Asked) (held : List HeldChange) (place : ℕ) (before after concurrent : Bool) → Walks longs a held (Some place) after
    → ((h : HeldChange) → slice_get held place ≡ Some h → before ≡ yields_before_change longs a.rule a.schema a.key after h) → slice_get (map (is_concurrent a.reader) held) place ≡ Some concurrent
    → (concurrent && (before || after)) ≡ false → (next : Option ℕ) → ((h : HeldChange) → slice_get held place ≡ Some h → next ≡ last_place (is_record h.table h.bookmark) (take place held))
    → IfSome next (λ older. older < place) → Walks longs a held next before
walk_goes_on longs a held place before after concurrent walk before_is concurrent_is meets next next_is below = at_place held place walk.within goes_on
  where
    less : (o : Option ℕ) → IfSome o (λ older. older < place) → IfSome o (λ older. older < length held)
    less None is = tt
    less (Some older) is = omega (arith, is, walk.within)

    goes_on : (h : HeldChange) → slice_get held place ≡ Some h → Walks longs a held next before
    goes_on h at =
        let own : is_of a h ≡ true = walk.own place h refl at in
        let number : h.table ≡ a.table = eqb-true h.table a.table (and_left (h.table == a.table) _ own) in
        let bookmark : h.bookmark ≡ a.bookmark = same_bytes h.bookmark a.bookmark (and_right (h.table == a.table) _ own) in
        let is : next ≡ last_place (is_of a) (take place held) = next_is h at ∙ (λ i. last_place (is_record (number i) (bookmark i)) (take place held)) in
        let told = here longs a held place before after concurrent walk before_is concurrent_is h at in
        record {
          within = less next below;
          own = λ older g e at_older. last_passes (is_of a) place held older g (sym is ∙ e) at_older;
          yields = ap (λ (o : Option ℕ). first_yields longs a (drop (up_to o) held)) is ∙ skipped (is_of a) (first_yields longs a) (other_yields longs a) place held ∙ told.yields;
          none = ap (λ (o : Option ℕ). conflicts_in longs a (drop (up_to o) held)) is ∙ skipped (is_of a) (conflicts_in longs a) (other_conflicts longs a) place held ∙ told.conflict ∙ meets;
        }

-- each place is before the one that the walk stands on
pub falls : (found next : Option ℕ) (place : ℕ) → found ≡ Some place → IfSome next (λ older. older < place) → up_to next < up_to found
falls found next place is below = subst (λ (o : Option ℕ). up_to next < up_to o) (sym is) (by next below)
  where
    by : (o : Option ℕ) → IfSome o (λ older. older < place) → up_to o < suc place
    by None h = omega arith
    by (Some older) h = omega (arith, h)

pub walk_ends : (longs : TableValues) (a : Asked) (held : List HeldChange) (found : Option ℕ) (after : Bool) → Walks longs a held found after → found ≡ None → conflicts_in longs a held ≡ false
walk_ends longs a held found after walk is = ap (λ (o : Option ℕ). conflicts_in longs a (drop (up_to o) held)) (sym is) ∙ walk.none

-- a change that is not concurrent is passed over, whatever the rows before it and after it have
pub walk_passes : (longs : TableValues) (a : Asked) (held : List HeldChange) (found : Option ℕ) (place : ℕ) → found ≡ Some place → ((after : Bool) × Walks longs a held found after) → slice_get (map (is_concurrent a.reader) held) place ≡ Some false
    → (next : Option ℕ) → ((h : HeldChange) → slice_get held place ≡ Some h → next ≡ last_place (is_record h.table h.bookmark) (take place held)) → IfSome next (λ older. older < place) → (before : Bool) × Walks longs a held next before
walk_passes longs a held found place is (after, walk) apart next next_is below = at_place held place stands.within passes
  where
    stands : Walks longs a held (Some place) after
    stands = subst (λ (o : Option ℕ). Walks longs a held o after) is walk

    passes : (h : HeldChange) → slice_get held place ≡ Some h → (before : Bool) × Walks longs a held next before
    passes h at = (
      yields_before_change longs a.rule a.schema a.key after h,
      walk_goes_on longs a held place (yields_before_change longs a.rule a.schema a.key after h) after false stands
          (λ other there. ap (yields_before_change longs a.rule a.schema a.key after) (ap (λ (o : Option HeldChange). unwrap_or o h) (sym at ∙ there))) apart refl next next_is below,
    )

pub older_within : (next : Option ℕ) (place count : ℕ) → IfSome next (λ older. older < place) → place < count → IfSome next (λ older. older < count)
older_within None place count below within = tt
older_within (Some older) place count below within = omega (arith, below, within)
