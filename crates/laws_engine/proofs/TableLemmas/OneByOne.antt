-- Changes that are taken back one by one, the newest first.
use Rattle.std.proofs.Common.{◌≡◌, Bool, true, false, cond, List, [], ◌∷◌, refl, sym, ap, ◌∙◌}
use Rattle.std.specs.Prelude.{map}
use Rattle.std.specs.List.{list_any}
use Rattle.database_state.specs.Table.{Table}
use Rattle.database_state.specs.Changes.{tables_after}
use Rattle.laws_versions.proofs.ChangeLemmas.Tests.{or_first, or_second}
use Rattle.laws_engine.specs.HeldRecords.{HeldRecord, as_undone, inverse, undone_change}
use Rattle.laws_engine.specs.VersionedTables.{LeavesUndone, VersionedTables, last_undone, tables_taken_back, tables_with_last_back, with_changes_undone, with_last_undone}

-- ---- none passes

none_back : (test : HeldRecord → Bool) (held : List HeldRecord) (tables : List Table) → list_any test held ≡ false → tables_taken_back test held tables ≡ tables
none_back test [] tables e = refl
none_back test (h ∷ held) tables e =
    ap (λ b. cond b (tables_after (tables_taken_back test held tables) (inverse h)) (tables_taken_back test held tables)) (or_first (test h) (list_any test held) e)
    ∙ none_back test held tables (or_second (test h) (list_any test held) e)

none_changed : (test : HeldRecord → Bool) (held : List HeldRecord) → list_any test held ≡ false → map (undone_change test) held ≡ held
none_changed test [] e = refl
none_changed test (h ∷ held) e = λ i. cond (or_first (test h) (list_any test held) e i) (as_undone h) h ∷ none_changed test held (or_second (test h) (list_any test held) e) i

pub none_undone : (test : HeldRecord → Bool) (store : VersionedTables) → list_any test store.held ≡ false → with_changes_undone test store ≡ store
none_undone test store e = λ i. record { tables = none_back test store.held store.tables e i; held = none_changed test store.held e i }

-- ---- the last is taken back first

last_back : (test : HeldRecord → Bool) → LeavesUndone test → (held : List HeldRecord) (tables : List Table) → tables_taken_back test (last_undone test held) (tables_with_last_back test held tables) ≡ tables_taken_back test held tables
last_back test leaves [] tables = refl
last_back test leaves (h ∷ held) tables = by (list_any test held) refl (last_back test leaves held tables)
  where
    here : (b : Bool) → test h ≡ b → list_any test held ≡ false
        → tables_taken_back test (cond b (as_undone h) h ∷ held) (cond b (tables_after tables (inverse h)) tables) ≡ cond b (tables_after (tables_taken_back test held tables) (inverse h)) (tables_taken_back test held tables)
    here true e none =
        ap (λ b. cond b (tables_after (tables_taken_back test held (tables_after tables (inverse h))) (inverse (as_undone h))) (tables_taken_back test held (tables_after tables (inverse h)))) (leaves h)
        ∙ none_back test held (tables_after tables (inverse h)) none
        ∙ ap (λ t. tables_after t (inverse h)) (sym (none_back test held tables none))
    here false e none = ap (λ b. cond b (tables_after (tables_taken_back test held tables) (inverse h)) (tables_taken_back test held tables)) e

    by : (b : Bool) → list_any test held ≡ b → tables_taken_back test (last_undone test held) (tables_with_last_back test held tables) ≡ tables_taken_back test held tables
        → tables_taken_back test (cond b (h ∷ last_undone test held) (undone_change test h ∷ held)) (cond b (tables_with_last_back test held tables) (cond (test h) (tables_after tables (inverse h)) tables))
        ≡ tables_taken_back test (h ∷ held) tables
    by true e rest = ap (λ later. cond (test h) (tables_after later (inverse h)) later) rest
    by false e rest = here (test h) refl e

last_changed : (test : HeldRecord → Bool) → LeavesUndone test → (held : List HeldRecord) → map (undone_change test) (last_undone test held) ≡ map (undone_change test) held
last_changed test leaves [] = refl
last_changed test leaves (h ∷ held) = by (list_any test held) (last_changed test leaves held)
  where
    twice : (b : Bool) → test h ≡ b → undone_change test (cond b (as_undone h) h) ≡ cond b (as_undone h) h
    twice true e = ap (λ b. cond b (as_undone (as_undone h)) (as_undone h)) (leaves h)
    twice false e = ap (λ b. cond b (as_undone h) h) e

    by : (b : Bool) → map (undone_change test) (last_undone test held) ≡ map (undone_change test) held
        → map (undone_change test) (cond b (h ∷ last_undone test held) (undone_change test h ∷ held)) ≡ map (undone_change test) (h ∷ held)
    by true rest = ap (λ changes. undone_change test h ∷ changes) rest
    by false rest = ap (λ change. change ∷ map (undone_change test) held) (twice (test h) refl)

pub one_undone_first : (test : HeldRecord → Bool) (store : VersionedTables) → LeavesUndone test → with_changes_undone test (with_last_undone test store) ≡ with_changes_undone test store
one_undone_first test store leaves = λ i. record { tables = last_back test leaves store.held store.tables i; held = last_changed test leaves store.held i }
