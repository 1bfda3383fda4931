-- What is read of a state without some of its undone changes.
use Rattle.std.proofs.Common.{◌≡◌, ℕ, ◌≤◌, Bool, ◌&&◌, List, Option, Some, None, refl, sym, ap, subst}
use Rattle.std.specs.Prelude.{IsSome, IsTrue, map}
use Rattle.common_lemmas.proofs.Booleans.{and_left}
use Rattle.common_lemmas.proofs.Lists.{all_weaker}
use Rattle.column_set.specs.RecordValues.{RecordFields}
use Rattle.database_state.specs.Changes.{tables_after_all}
use Rattle.database_state.specs.Conflicts.{concurrent_changes, is_concurrent}
use Rattle.database_state.specs.Lawful.{keeps_escrow}
use Rattle.database_state.specs.State.{DatabaseState, PastChange, Transaction, change_of, is_open, is_open_change_of, open_changes, open_changes_of, transaction_of}
use Rattle.database_state.specs.Table.{row_at, rows_of, table_with_id}
use Rattle.database_state.specs.VersionStore.{version_span}
use Rattle.database_state.specs.View.{newest, view, view_in}
use Rattle.laws_images.proofs.SettledLemmas.Filters.{concurrent_stands, newly_open_stands, own_open_stands}
use Rattle.session_local.specs.Agreement.{Agrees, IsStorable, MayReplace, is_lock_on, replaced_in}
use Rattle.session_local.specs.Local.{LocalState, OpenCursor, PreparedFor, PreparedUpdate, inserting, replacing}
use Rattle.image_writing.specs.LighterStates.{AreUndone, lighter, without_marked}
use Rattle.image_writing.proofs.Marked.{any-without, filter-without, span_without}

pub own_open : (marks : List Bool) (past : List PastChange) → AreUndone marks past → (session : ℕ) → open_changes_of session (without_marked marks past) ≡ open_changes_of session past
own_open marks past h session = ap (map change_of) (filter-without (is_open_change_of session) (own_open_stands session) marks past h)

all_open : (marks : List Bool) (past : List PastChange) → AreUndone marks past → open_changes (without_marked marks past) ≡ open_changes past
all_open marks past h = ap (map change_of) (filter-without (λ item. is_open item.status) newly_open_stands marks past h)

pub lighter_newest : (marks : List Bool) (state : DatabaseState) → AreUndone marks state.past → newest (lighter marks state) ≡ newest state
unfolding newest
lighter_newest marks state h = ap (tables_after_all state.tables) (all_open marks state.past h)

pub lighter_view : (marks : List Bool) (state : DatabaseState) → AreUndone marks state.past → (session : ℕ) → view (lighter marks state) session ≡ view state session
unfolding view
lighter_view marks state h session = by (transaction_of state session)
  where
    by : (transaction : Option Transaction) → view_in (lighter marks state) session transaction ≡ view_in state session transaction
    by None = refl
    by (Some transaction) = ap (tables_after_all transaction.snapshot) (own_open marks state.past h session)

pub lighter_concurrent : (marks : List Bool) (state : DatabaseState) → AreUndone marks state.past → (session : ℕ) → concurrent_changes (lighter marks state) session ≡ concurrent_changes state session
unfolding concurrent_changes
lighter_concurrent marks state h session = filter-without (is_concurrent session (transaction_of state session)) (concurrent_stands session (transaction_of state session)) marks state.past h

pub lighter_span : (marks : List Bool) (state : DatabaseState) → AreUndone marks state.past → version_span (lighter marks state) ≤ version_span state
unfolding version_span
lighter_span marks state h = span_without state.sessions marks state.past h

-- ---- agreement

storable : (marks : List Bool) (state : DatabaseState) → AreUndone marks state.past → (session : ℕ) (c : OpenCursor) (prepared : Option PreparedUpdate) → IsStorable state session c prepared → IsStorable (lighter marks state) session c prepared
storable marks state u session c None h = h
storable marks state u session c (Some prepared) h = (h.0, h.1, by prepared.for h.2, may prepared.for h.3)
  where
    row : (bookmark : List ℕ) → row_at (rows_of (table_with_id (view state session) c.cursor.table)) bookmark ≡ row_at (rows_of (table_with_id (view (lighter marks state) session) c.cursor.table)) bookmark
    row bookmark = ap (λ tables. row_at (rows_of (table_with_id tables c.cursor.table)) bookmark) (sym (lighter_view marks state u session))

    by : (for : PreparedFor) → IsTrue (keeps_escrow c.schema.columns (replaced_in state session c for) prepared.values) → IsTrue (keeps_escrow c.schema.columns (replaced_in (lighter marks state) session c for) prepared.values)
    by (inserting copied) g = g
    by (replacing bookmark) g = subst (λ (o : Option RecordFields). IsTrue (keeps_escrow c.schema.columns o prepared.values)) (row bookmark) g

    lock : List ℕ → PastChange → Bool
    lock bookmark item = is_open_change_of session item && is_lock_on c.cursor.table bookmark item.change

    may : (for : PreparedFor) → MayReplace state session c for → MayReplace (lighter marks state) session c for
    may (inserting copied) g = g
    may (replacing bookmark) g = (
      subst (λ (o : Option RecordFields). IsSome o) (row bookmark) g.0,
      subst (λ (b : Bool). IsTrue b)
          (sym (any-without (lock bookmark) (λ item e. own_open_stands session item (and_left (is_open_change_of session item) (is_lock_on c.cursor.table bookmark item.change) e)) marks state.past u)) g.1,
    )

pub lighter_agrees : (marks : List Bool) (state : DatabaseState) → AreUndone marks state.past → (session : ℕ) (local : LocalState) → Agrees state session local → Agrees (lighter marks state) session local
lighter_agrees marks state u session local h = record {
  begun = h.begun;
  tables = h.tables;
  schemas = h.schemas;
  prepared = all_weaker (λ c. IsStorable state session c c.prepared) (λ c. IsStorable (lighter marks state) session c c.prepared) (λ c. storable marks state u session c c.prepared) local.cursors h.prepared;
}
