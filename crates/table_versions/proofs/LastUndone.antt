-- The newest open change of a level, and what its undo shows.
use Rattle.std.proofs.Common.{◌≡◌, ℕ, zero, suc, Bool, true, false, not, ◌&&◌, ◌||◌, cond, List, [], ◌∷◌, Option, Some, None, map, option_map, refl, sym, ap, ◌∙◌}
use Rattle.std.specs.Prelude.{◌==◌, slice_get}
use Rattle.std.specs.List.{list_any}
use Rattle.common_lemmas.proofs.Booleans.{impossible}
use Rattle.database_state.specs.Changes.{tables_after}
use Rattle.database_state.specs.State.{is_open, is_undone, undone}
use Rattle.database_state.specs.Table.{Table}
use Rattle.version_store.specs.HeldChanges.{HeldChange, is_open_at, is_rewrite, last_place, later_place, undone_at, with_status}
use Rattle.laws_engine.specs.HeldRecords.{HeldRecord, as_undone, inverse, is_open_at as is_open_record, undone_change}
use Rattle.laws_engine.specs.VersionedTables.{last_undone, tables_with_last_back}
use Rattle.stored_variants.specs.RecordRows.{TableValues, held_record_in, record_of}
use Rattle.common_lemmas.proofs.Options.{same_some}
use Rattle.std.proofs.Math.Bool.{and_comm}

abbrev pub is_there : Option ℕ → Bool
is_there None = false
is_there (Some place) = true

-- the test of a record and that of a change are one
pub same_level : (longs : TableValues) (session level : ℕ) (h : HeldChange) → is_open_record session level (held_record_in longs h) ≡ is_open_at session level h
same_level longs session level h = ap (λ b. b && (h.level == level)) (and_comm (is_open h.status) (h.session == session))

no_place : {A : Type 0} (n : ℕ) → None ≡ Some n → A
no_place n e = cc

same_place : (m n : ℕ) → Some m ≡ Some n → m ≡ n
same_place m n e = cc

no_zero : {A : Type 0} (n : ℕ) → suc n ≡ zero → A
no_zero n e = cc

no_suc : {A : Type 0} (n : ℕ) → zero ≡ suc n → A
no_suc n e = cc

same_pred : (m n : ℕ) → suc m ≡ suc n → m ≡ n
same_pred m n e = cc

-- whether there is one
pub any_last : (longs : TableValues) (test : HeldRecord → Bool) (p : HeldChange → Bool) → ((h : HeldChange) → test (held_record_in longs h) ≡ p h) → (held : List HeldChange) (o : Option ℕ) → last_place p held ≡ o → list_any test (map (held_record_in longs) held) ≡ is_there o
any_last longs test p same [] None e = refl
any_last longs test p same [] (Some place) e = no_place place e
any_last longs test p same (x ∷ held) o e = by (last_place p held) (p x) (same x) (any_last longs test p same held (last_place p held) refl) ∙ ap is_there e
  where
    either : (b : Bool) → (b || true) ≡ true
    either true = refl
    either false = refl

    by : (o : Option ℕ) (b : Bool) → test (held_record_in longs x) ≡ b → list_any test (map (held_record_in longs) held) ≡ is_there o → (test (held_record_in longs x) || list_any test (map (held_record_in longs) held)) ≡ is_there (later_place b o)
    by (Some place) b f rest = ap (λ c. test (held_record_in longs x) || c) rest ∙ either (test (held_record_in longs x))
    by None true f rest = λ i. f i || list_any test (map (held_record_in longs) held)
    by None false f rest = λ i. f i || rest i

-- the change at the place is taken back
pub last_back : (longs : TableValues) (test : HeldRecord → Bool) (p : HeldChange → Bool) → ((h : HeldChange) → test (held_record_in longs h) ≡ p h) → (held : List HeldChange) (place : ℕ) (h : HeldChange) → last_place p held ≡ Some place → slice_get held place ≡ Some h
    → (tables : List Table) → tables_with_last_back test (map (held_record_in longs) held) tables ≡ tables_after tables (inverse (held_record_in longs h))
last_back longs test p same [] place h e at tables = no_place place e
last_back longs test p same (x ∷ held) place h e at tables = by (last_place p held) refl (p x) (same x) place e at (λ (q : ℕ) f g. last_back longs test p same held q h f g tables)
  where
    by : (o : Option ℕ) → last_place p held ≡ o → (b : Bool) → test (held_record_in longs x) ≡ b → (place : ℕ) → later_place b o ≡ Some place → slice_get (x ∷ held) place ≡ Some h
        → ((q : ℕ) → last_place p held ≡ Some q → slice_get held q ≡ Some h → tables_with_last_back test (map (held_record_in longs) held) tables ≡ tables_after tables (inverse (held_record_in longs h)))
        → cond (list_any test (map (held_record_in longs) held)) (tables_with_last_back test (map (held_record_in longs) held) tables) (cond (test (held_record_in longs x)) (tables_after tables (inverse (held_record_in longs x))) tables) ≡ tables_after tables (inverse (held_record_in longs h))
    by (Some q) f b t zero e at rest = no_zero q (same_place (suc q) zero e)
    by (Some q) f b t (suc place) e at rest =
        ap (λ c. cond c (tables_with_last_back test (map (held_record_in longs) held) tables) (cond (test (held_record_in longs x)) (tables_after tables (inverse (held_record_in longs x))) tables)) (any_last longs test p same held (Some q) f)
        ∙ rest place (f ∙ ap Some (same_pred q place (same_place (suc q) (suc place) e))) at
    by None f true t (suc place) e at rest = no_suc place (same_place zero (suc place) e)
    by None f true t zero e at rest =
        ap (λ c. cond c (tables_with_last_back test (map (held_record_in longs) held) tables) (cond (test (held_record_in longs x)) (tables_after tables (inverse (held_record_in longs x))) tables)) (any_last longs test p same held None f)
        ∙ ap (λ c. cond c (tables_after tables (inverse (held_record_in longs x))) tables) t
        ∙ ap (λ (y : HeldChange). tables_after tables (inverse (held_record_in longs y))) (same_some x h at)
    by None f false t place e at rest = no_place place e

-- an undone change holds no record
pub undone_record : (longs : TableValues) (h : HeldChange) → held_record_in longs (with_status undone h) ≡ as_undone (held_record_in longs h)
undone_record longs h = by (is_rewrite h.kind)
  where
    by : (b : Bool) → record (held_record_in longs h) { status = undone; before = cond (b && not (is_undone undone)) (option_map (record_of (longs h.table)) h.before) None } ≡ as_undone (held_record_in longs h)
    by true = refl
    by false = refl

pub last_changed : (longs : TableValues) (test : HeldRecord → Bool) (p : HeldChange → Bool) → ((h : HeldChange) → test (held_record_in longs h) ≡ p h) → (held : List HeldChange) → map (held_record_in longs) (undone_at (last_place p held) held) ≡ last_undone test (map (held_record_in longs) held)
last_changed longs test p same [] = refl
last_changed longs test p same (x ∷ held) = by (last_place p held) refl (p x) (same x) (last_changed longs test p same held)
  where
    by : (o : Option ℕ) → last_place p held ≡ o → (b : Bool) → test (held_record_in longs x) ≡ b → map (held_record_in longs) (undone_at (last_place p held) held) ≡ last_undone test (map (held_record_in longs) held)
        → map (held_record_in longs) (undone_at (later_place b o) (x ∷ held)) ≡ cond (list_any test (map (held_record_in longs) held)) (held_record_in longs x ∷ last_undone test (map (held_record_in longs) held)) (undone_change test (held_record_in longs x) ∷ map (held_record_in longs) held)
    by (Some q) f b t rest =
        ap (λ hs. held_record_in longs x ∷ hs) (ap (λ o. map (held_record_in longs) (undone_at o held)) (sym f) ∙ rest)
        ∙ sym (ap (λ c. cond c (held_record_in longs x ∷ last_undone test (map (held_record_in longs) held)) (undone_change test (held_record_in longs x) ∷ map (held_record_in longs) held)) (any_last longs test p same held (Some q) f))
    by None f true t rest =
        (λ i. undone_record longs x i ∷ map (held_record_in longs) held)
        ∙ sym (ap (λ c. cond c (as_undone (held_record_in longs x)) (held_record_in longs x) ∷ map (held_record_in longs) held) t)
        ∙ sym (ap (λ c. cond c (held_record_in longs x ∷ last_undone test (map (held_record_in longs) held)) (undone_change test (held_record_in longs x) ∷ map (held_record_in longs) held)) (any_last longs test p same held None f))
    by None f false t rest =
        sym (ap (λ c. cond c (as_undone (held_record_in longs x)) (held_record_in longs x) ∷ map (held_record_in longs) held) t)
        ∙ sym (ap (λ c. cond c (held_record_in longs x ∷ last_undone test (map (held_record_in longs) held)) (undone_change test (held_record_in longs x) ∷ map (held_record_in longs) held)) (any_last longs test p same held None f))

-- where there is none, nothing is taken back
pub none_back : (test : HeldRecord → Bool) (held : List HeldRecord) (tables : List Table) → list_any test held ≡ false → tables_with_last_back test held tables ≡ tables
none_back test [] tables e = refl
none_back test (x ∷ held) tables e = by (test x) (list_any test held) e
  where
    by : (a b : Bool) → (a || b) ≡ false → cond b (tables_with_last_back test held tables) (cond a (tables_after tables (inverse x)) tables) ≡ tables
    by true b e = impossible (sym e)
    by false true e = impossible (sym e)
    by false false e = refl
