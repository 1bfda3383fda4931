-- What is prepared on cursors, after an entry.
use Rattle.std.proofs.Common.{◌≡◌, ℕ, true, false, ◌&&◌, ◌||◌, cond, List, [], ◌∷◌, Option, Some, None, refl, sym, ap, subst, ◌∙◌}
use Rattle.std.specs.Prelude.{filter, map, IsSome, IsTrue}
use Rattle.std.specs.List.{AllByRecursion, list_any}
use Rattle.common_lemmas.proofs.Booleans.{and_left, impossible}
use Rattle.common_lemmas.proofs.Lists.{all_weaker, filter_none}
use Rattle.database_state.specs.Table.{Table, row_at, rows_of, table_with_id}
use Rattle.database_state.specs.State.{DatabaseState, PastChange, change_of, is_open_change_of, open_changes_of, transaction_of}
use Rattle.database_state.specs.View.{view}
use Rattle.database_state.specs.Lawful.{keeps_escrow}
use Rattle.laws_versions.specs.Records.{Records}
use Rattle.laws_versions.specs.History.{IsHistory, IsPlaced}
use Rattle.laws_versions.proofs.HistoryLemmas.SeenRecords.{of_kept}
use Rattle.laws_versions.proofs.HistoryLemmas.Viewing.{none_open}
use Rattle.session_local.specs.Agreement.{IsStorable, MayReplace, has_lock, is_lock_on, replaced_in}
use Rattle.session_local.specs.Local.{OpenCursor, PreparedFor, PreparedUpdate, inserting, replacing}

-- ---- locks

pub locked_by_open : (session table : ℕ) (bookmark : List ℕ) (past : List PastChange)
    → list_any (λ item. is_open_change_of session item && is_lock_on table bookmark item.change) past ≡ list_any (is_lock_on table bookmark) (open_changes_of session past)
locked_by_open session table bookmark [] = refl
locked_by_open session table bookmark (item ∷ past) =
    elim (is_open_change_of session item) as (λ b. ((b && is_lock_on table bookmark item.change) || list_any (λ item. is_open_change_of session item && is_lock_on table bookmark item.change) past)
    ≡ list_any (is_lock_on table bookmark) (map change_of (cond b (item ∷ filter (is_open_change_of session) past) (filter (is_open_change_of session) past)))) [
      | true ↦ ap (λ r. is_lock_on table bookmark item.change || r) (locked_by_open session table bookmark past)
      | false ↦ locked_by_open session table bookmark past
    ]

-- the locks are those of the open changes
pub same_locks : (one other : DatabaseState) (session : ℕ) → open_changes_of session other.past ≡ open_changes_of session one.past → (table : ℕ) (bookmark : List ℕ) → has_lock one session table bookmark ≡ true → has_lock other session table bookmark ≡ true
same_locks one other session same table bookmark h =
    locked_by_open session table bookmark other.past ∙ ap (list_any (is_lock_on table bookmark)) same ∙ sym (locked_by_open session table bookmark one.past) ∙ h

-- ---- outside transactions

pub none_open_outside : (base : Records) (dropped kept : List PastChange) (state : DatabaseState) (session : ℕ) → IsHistory base dropped kept state → transaction_of state session ≡ None → open_changes_of session state.past ≡ []
none_open_outside base dropped kept state session h none =
    ap (map change_of) (of_kept base dropped kept state h (is_open_change_of session) (λ item e. and_left _ _ e)
    ∙ filter_none (is_open_change_of session) kept (all_weaker (IsPlaced state.number state.tables (transaction_of state)) (λ item. is_open_change_of session item ≡ false) (none_open state.number state.tables (transaction_of state) session none) kept h.keeps.placed))

pub unlocked_outside : (base : Records) (dropped kept : List PastChange) (state : DatabaseState) (session : ℕ) → IsHistory base dropped kept state → transaction_of state session ≡ None → (table : ℕ) (bookmark : List ℕ) → has_lock state session table bookmark ≡ false
unlocked_outside base dropped kept state session h none table bookmark = locked_by_open session table bookmark state.past ∙ ap (list_any (is_lock_on table bookmark)) (none_open_outside base dropped kept state session h none)

-- ---- what may be stored

-- where the session sees the same, and has its locks
pub storable_stays : (one other : DatabaseState) (session : ℕ) → view other session ≡ view one session → ((table : ℕ) (bookmark : List ℕ) → has_lock one session table bookmark ≡ true → has_lock other session table bookmark ≡ true)
    → (c : OpenCursor) (o : Option PreparedUpdate) → IsStorable one session c o → IsStorable other session c o
storable_stays one other session same locks c None h = tt
storable_stays one other session same locks c (Some p) h = let rest = by p.for (h.2, h.3) in (h.0, h.1, rest.0, rest.1)
  where
    by : (for : PreparedFor) → IsTrue (keeps_escrow c.schema.columns (replaced_in one session c for) p.values) × MayReplace one session c for → IsTrue (keeps_escrow c.schema.columns (replaced_in other session c for) p.values) × MayReplace other session c for
    by (inserting copied) g = g
    by (replacing b) g = (
      subst (λ (tables : List Table). IsTrue (keeps_escrow c.schema.columns (row_at (rows_of (table_with_id tables c.cursor.table)) b) p.values)) (sym same) g.0,
      (subst (λ (tables : List Table). IsSome (row_at (rows_of (table_with_id tables c.cursor.table)) b)) (sym same) g.1.0, locks c.cursor.table b g.1.1),
    )

-- where the session has no lock, only inserts are prepared, which no state touches
pub storable_anywhere : (one other : DatabaseState) (session : ℕ) → ((table : ℕ) (bookmark : List ℕ) → has_lock one session table bookmark ≡ false) → (c : OpenCursor) (o : Option PreparedUpdate) → IsStorable one session c o → IsStorable other session c o
storable_anywhere one other session none c None h = tt
storable_anywhere one other session none c (Some p) h = let rest = by p.for (h.2, h.3) in (h.0, h.1, rest.0, rest.1)
  where
    by : (for : PreparedFor) → IsTrue (keeps_escrow c.schema.columns (replaced_in one session c for) p.values) × MayReplace one session c for → IsTrue (keeps_escrow c.schema.columns (replaced_in other session c for) p.values) × MayReplace other session c for
    by (inserting copied) g = g
    by (replacing b) g = impossible (sym (none c.cursor.table b) ∙ g.1.1)

abbrev pub AreStorable : DatabaseState → ℕ → List OpenCursor → Type 0
AreStorable state session cursors = AllByRecursion (λ c. IsStorable state session c c.prepared) cursors

pub all_stay : (one other : DatabaseState) (session : ℕ) → view other session ≡ view one session → ((table : ℕ) (bookmark : List ℕ) → has_lock one session table bookmark ≡ true → has_lock other session table bookmark ≡ true)
    → (cursors : List OpenCursor) → AreStorable one session cursors → AreStorable other session cursors
all_stay one other session same locks cursors h = all_weaker (λ c. IsStorable one session c c.prepared) (λ c. IsStorable other session c c.prepared) (λ c. storable_stays one other session same locks c c.prepared) cursors h

pub all_anywhere : (one other : DatabaseState) (session : ℕ) → ((table : ℕ) (bookmark : List ℕ) → has_lock one session table bookmark ≡ false) → (cursors : List OpenCursor) → AreStorable one session cursors → AreStorable other session cursors
all_anywhere one other session none cursors h = all_weaker (λ c. IsStorable one session c c.prepared) (λ c. IsStorable other session c c.prepared) (λ c. storable_anywhere one other session none c c.prepared) cursors h
