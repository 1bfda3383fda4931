-- The history of a shown state.
use Rattle.std.proofs.Common.{◌≡◌, ◌≤◌, ℕ, Bool, true, false, not, cond, Option, Some, None, List, [], ◌∷◌, refl, sym, ap, ◌∙◌}
use Rattle.std.specs.Prelude.{◌==◌, filter, find, map, nat_lt, option_map, option_and_then, IfSome}
use Rattle.database_state.specs.State.{LiveSession, PastChange, Status, Transaction, change_of, uncommitted, committed, undone}
use Rattle.database_state.specs.Table.{Table}
use Rattle.laws_versions.specs.Records.{records_after_items, records_of}
use Rattle.version_cleanup.specs.LiveSessions.{LiveState}
use Rattle.version_cleanup.specs.declared.live.Transaction.{Transaction as LiveTransaction}
use Rattle.laws_versions.specs.History.{IsBegun, IsHistory}
use Rattle.laws_versions.specs.Readers.{was_committed, was_committed_status}
use Rattle.laws_versions.proofs.HistoryLemmas.EndEntries.{same_definitions}
use Rattle.laws_engine.specs.VersionedTables.{VersionedTables}
use Rattle.laws_images.specs.InTurn.{ArePlaced, AreInTurn}
use Rattle.laws_images.specs.ShownStates.{past_of, session_of, shown_state, tables_before, tables_with, with_snapshot, with_empty_snapshot}
use Rattle.laws_images.proofs.OpenedLemmas.TakenBack.{befores, readers}

-- which changes were committed at a begin does not depend on the copy
same_status : (t u : Transaction) → t.begin ≡ u.begin → (status : Status) → was_committed_status (Some t) status ≡ was_committed_status (Some u) status
same_status t u e uncommitted = refl
same_status t u e (committed number) = ap (λ n. not (nat_lt n number)) e
same_status t u e undone = refl

same_test : (t u : Transaction) → t.begin ≡ u.begin → was_committed (Some t) ≡ was_committed (Some u)
same_test t u e = λ i item. same_status t u e item.status i

-- a found transaction is one with its copy
found : (P Q : Transaction → Type 0) (first : List Table) (past : List PastChange) → ((l : LiveTransaction) → Q (with_snapshot first past l) → P (with_snapshot first past l)) → (sessions : List LiveState) (session : ℕ)
    → IfSome (option_and_then (λ (s : LiveSession). s.transaction) (find (λ (s : LiveSession). s.label == session) (map (session_of first past) sessions))) Q
    → IfSome (option_and_then (λ (s : LiveSession). s.transaction) (find (λ (s : LiveSession). s.label == session) (map (session_of first past) sessions))) P
found P Q first past turn [] session q = tt
found P Q first past turn (s ∷ sessions) session q = at (s.label == session) (found P Q first past turn sessions session) q
  where
    rest : Option LiveSession
    rest = find (λ (s : LiveSession). s.label == session) (map (session_of first past) sessions)

    one : (o : Option LiveTransaction) → IfSome (option_map (with_snapshot first past) o) Q → IfSome (option_map (with_snapshot first past) o) P
    one None q = tt
    one (Some l) q = turn l q

    at : (b : Bool) → (IfSome (option_and_then (λ (s : LiveSession). s.transaction) rest) Q → IfSome (option_and_then (λ (s : LiveSession). s.transaction) rest) P)
        → IfSome (option_and_then (λ (s : LiveSession). s.transaction) (cond b (Some (session_of first past s)) rest)) Q → IfSome (option_and_then (λ (s : LiveSession). s.transaction) (cond b (Some (session_of first past s)) rest)) P
    at true next q = one s.transaction q
    at false next q = next q

pub history : (number greatest : ℕ) (sessions : List LiveState) (store : VersionedTables) → AreInTurn store.held store.tables → ArePlaced number greatest sessions store
    → IsHistory (records_of (tables_before store.held store.tables)) [] (past_of store.held store.tables) (shown_state number greatest sessions store)
history number greatest sessions store turn placed =
    let first = tables_before store.held store.tables in
    let past = past_of store.held store.tables in
    let base = records_of first in
    let tables = tables_with (was_committed None) first past in
    record {
      past = refl;
      passed = tt;
      keeps = record {
        committed = readers store.held store.tables turn (was_committed None);
        begun = λ session. found (IsBegun number tables base past) (λ t. (t.begin ≤ number) × (1 ≤ t.levels)) first past (λ l q. record {
          snapshot = readers store.held store.tables turn (was_committed (Some (with_empty_snapshot l))) ∙ ap (λ test. records_after_items test base past) (same_test (with_empty_snapshot l) (with_snapshot first past l) refl);
          defined = same_definitions first (map change_of (filter (was_committed (Some (with_empty_snapshot l))) past)) ∙ sym (same_definitions first (map change_of (filter (was_committed None) past)));
          begin = q.0;
          levels = q.1;
        }) sessions session (placed.begins session);
        in_order = placed.in_order;
        numbers = placed.numbers;
        levels = placed.levels;
        befores = befores store.held store.tables turn;
        placed = placed.placed;
      };
    }
