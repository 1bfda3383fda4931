-- Every lawful entry keeps the history.
use Rattle.std.proofs.Common.{◌≡◌, ℕ, ◌≤◌, Bool, true, false, not, ◌&&◌, ◌||◌, cond, List, [], Option, Some, None, refl, sym, ap, subst, ◌∙◌, arith}
use Rattle.std.specs.Prelude.{◌==◌, nat_lt, find, option_and_then, is_some, is_none, IfSome}
use Rattle.std.specs.List.{list_any}
use Rattle.std.proofs.lemmas.Bool.Decides.{nat_tests}
use Rattle.std.proofs.lemmas.Bool.{eqb-true, not-true}
use Rattle.common_lemmas.proofs.Booleans.{and_left, and_right, impossible}
use Rattle.column_set.specs.declared.changes.Change.{Change}
use Rattle.index_derive.specs.declared.log.Entry.{Entry}
use Rattle.index_derive.specs.declared.log.EntryKind.{EntryKind}
use Rattle.index_derive.specs.declared.log.EntryKind.TheVariants as entry
use Rattle.index_derive.specs.declared.schema_calls.SchemaStep.{SchemaStep}
use Rattle.database_state.specs.Table.{Table, table_with_id}
use Rattle.column_set.specs.ChangedRecords.{changed_table}
use Rattle.database_state.specs.State.{DatabaseState, PastChange, Transaction, live_session, transaction_of, levels_of, levels}
use Rattle.database_state.specs.Conflicts.{has_write_conflict}
use Rattle.database_state.specs.SchemaChanges.{schema_refusal, is_in_use, step_table}
use Rattle.database_state.specs.Step.{applied, state_after}
use Rattle.database_state.specs.Lawful.{has_number, is_lawful, is_lawful_kind, is_lawful_change, is_lawful_at}
use Rattle.laws_versions.specs.Records.{Records, records_of}
use Rattle.laws_versions.specs.History.{HasHistory, IsBegun, IsHistory}
use Rattle.laws_versions.specs.KeptSteps.{base_after, dropped_after, kept_after, with_next_number}
use Rattle.laws_versions.proofs.HistoryLemmas.EndEntries.{history_changed, history_committed, history_defined, history_released}
use Rattle.laws_versions.proofs.HistoryLemmas.Entries.{history_all_undone, history_begun, history_entered, history_innermost_undone, history_later, history_left, history_saved, history_with}
use Rattle.laws_versions.proofs.HistoryLemmas.Transactions.{none_elsewhere}

-- ---- whether a session is in a transaction

none_at_zero : (P : Transaction → Type 0) → ((t : Transaction) → P t → 1 ≤ t.levels) → (t : Option Transaction) → IfSome t P → (levels_of t == 0) ≡ true → t ≡ None
none_at_zero P f None h e = refl
none_at_zero P f (Some t) h e = absurd (never t.levels (f t h) e)
  where
    never : (n : ℕ) → 1 ≤ n → (n == 0) ≡ true → ⊥
    never n le e = grind (arith, nat_tests)

pub outside : (base : Records) (dropped kept : List PastChange) (state : DatabaseState) → IsHistory base dropped kept state → (label : ℕ) → (levels state label == 0) ≡ true → transaction_of state label ≡ None
outside base dropped kept state h label e = none_at_zero (IsBegun state.number state.tables base kept) (λ t b. b.levels) (transaction_of state label) (h.keeps.begun label) e

-- ---- a change

changed_by : (base : Records) (dropped kept : List PastChange) (state : DatabaseState) (label : ℕ) (change : Change) → IsHistory base dropped kept state → is_lawful_change state label change ≡ true → (t : Option Transaction) → transaction_of state label ≡ t
    → IsHistory base dropped (kept_after state label (entry.Change change) kept) (applied label (entry.Change change) (with_next_number state))
changed_by base dropped kept state label change h e None none = absurd (never (nat_lt 0 (levels state label)) (and_left _ _ (and_left _ _ e)) (ap (λ t. nat_lt 0 (levels_of t)) none))
  where
    never : (b : Bool) → b ≡ true → b ≡ false → ⊥
    never b e f = impossible (sym f ∙ e)
changed_by base dropped kept state label change h e (Some t) is =
    history_changed base dropped kept label change t state is
    (not-true (has_write_conflict state label change) (and_right (nat_lt 0 (levels state label)) _ (and_left _ _ e)))
    (there (table_with_id state.tables (changed_table change)) (and_right (nat_lt 0 (levels state label) && not (has_write_conflict state label change)) _ e)) h
  where
    there : (found : Option Table) → is_lawful_at state label found change ≡ true → is_some found ≡ true
    there None e = e
    there (Some found) e = refl

-- ---- a schema step

none_in_use : (state : DatabaseState) (label : ℕ) (made : SchemaStep) → is_none (schema_refusal state label made) ≡ true → (levels state label == 0) ≡ true × list_any (λ s. not (s.label == label) && is_some s.transaction) state.sessions ≡ false
unfolding schema_refusal
none_in_use state label made e = (first (levels state label == 0) _ _ e, left (list_any (λ s. not (s.label == label) && is_some s.transaction) state.sessions) _ (third (not (levels state label == 0)) _ (is_in_use state label (step_table state.tables made)) _ _ _ _ e))
  where
    first : {X : Type 0} (b : Bool) (x : X) (rest : Option X) → is_none (cond (not b) (Some x) rest) ≡ true → b ≡ true
    first true x rest e = refl
    first false x rest e = e

    third : {X : Type 0} (a b c : Bool) (x y z : X) (rest : Option X) → is_none (cond a (Some x) (cond b (Some y) (cond c (Some z) rest))) ≡ true → c ≡ false
    third true b c x y z rest e = impossible e
    third false true c x y z rest e = impossible e
    third false false true x y z rest e = impossible e
    third false false false x y z rest e = refl

    left : (a b : Bool) → (a || b) ≡ false → a ≡ false
    left true b e = e
    left false b e = refl

pub all_outside : (base : Records) (dropped kept : List PastChange) (state : DatabaseState) (label : ℕ) (made : SchemaStep) → IsHistory base dropped kept state → is_none (schema_refusal state label made) ≡ true → (x : ℕ) → transaction_of state x ≡ None
all_outside base dropped kept state label made h e x =
    let free = none_in_use state label made e in
    elim (x == label) as (λ b. (x == label) ≡ b → transaction_of state x ≡ None) [
      | true ↦ λ f. ap (transaction_of state) (eqb-true x label f) ∙ outside base dropped kept state h label free.0
      | false ↦ λ f. none_elsewhere label state.sessions free.1 x f
    ] refl

-- ---- any entry

by_kind : (base : Records) (dropped kept : List PastChange) (state : DatabaseState) (label : ℕ) (kind : EntryKind) → IsHistory base dropped kept state → is_lawful_kind state label kind ≡ true
    → IsHistory (base_after state kind base) (dropped_after kind dropped kept) (kept_after state label kind kept) (applied label kind (with_next_number state))
by_kind base dropped kept state label entry.Enter h e =
    history_entered base dropped kept label (with_next_number state) (not-true (is_some (live_session state label)) (and_left _ _ e)) (history_later base dropped kept state h)
by_kind base dropped kept state label entry.Leave h e = history_left base dropped kept label (with_next_number state) (history_later base dropped kept state h)
by_kind base dropped kept state label (entry.Open table) h e =
    history_with base dropped kept label _ (λ s. refl) (λ s. refl) (with_next_number state) (history_later base dropped kept state h)
by_kind base dropped kept state label (entry.Shut table) h e =
    history_with base dropped kept label _ (λ s. refl) (λ s. refl) (with_next_number state) (history_later base dropped kept state h)
by_kind base dropped kept state label entry.Begin h e =
    history_begun base dropped kept label state (and_left _ _ e) (outside base dropped kept state h label (and_right (is_some (live_session state label)) _ e)) h
by_kind base dropped kept state label entry.Save h e = history_saved base dropped kept label (with_next_number state) (history_later base dropped kept state h)
by_kind base dropped kept state label (entry.Change change) h e = changed_by base dropped kept state label change h e (transaction_of state label) refl
by_kind base dropped kept state label entry.Release h e = history_released base dropped kept label (with_next_number state) e (history_later base dropped kept state h)
by_kind base dropped kept state label entry.Undo h e = history_innermost_undone base dropped kept label (with_next_number state) (history_later base dropped kept state h)
by_kind base dropped kept state label entry.UndoAll h e = history_all_undone base dropped kept label (with_next_number state) (history_later base dropped kept state h)
by_kind base dropped kept state label entry.Commit h e = history_committed base dropped kept label state h
by_kind base dropped kept state label (entry.Schema made) h e =
    history_defined base dropped kept made (with_next_number state) (all_outside base dropped kept state label made h (and_right (is_some (live_session state label)) _ (and_left _ _ e))) (history_later base dropped kept state h)

pub keeps_lawful : (base : Records) (dropped kept : List PastChange) (state : DatabaseState) (made : Entry) → IsHistory base dropped kept state → is_lawful state made ≡ true
    → IsHistory (base_after state made.kind base) (dropped_after made.kind dropped kept) (kept_after state made.session.0 made.kind kept) (state_after state made)
unfolding is_lawful state_after
keeps_lawful base dropped kept state made h e = by_kind base dropped kept state made.session.0 made.kind h (and_right (has_number state.number made.kind) _ e)

pub keeps_some : (state : DatabaseState) (made : Entry) → HasHistory state → is_lawful state made ≡ true → HasHistory (state_after state made)
keeps_some state made h e = record {
  base = base_after state made.kind h.base;
  dropped = dropped_after made.kind h.dropped h.kept;
  kept = kept_after state made.session.0 made.kind h.kept;
  is_history = keeps_lawful h.base h.dropped h.kept state made h.is_history e;
}

-- ---- where it begins

pub history_alone : (state : DatabaseState) → state.sessions ≡ [] → state.past ≡ [] → IsHistory (records_of state.tables) [] [] state
history_alone state sessions past = record {
  past = past;
  passed = tt;
  keeps = record { committed = refl; begun = λ session. subst (λ found. IfSome (option_and_then (λ s. s.transaction) (find (λ s. s.label == session) found)) (IsBegun state.number state.tables (records_of state.tables) [])) (sym sessions) tt; in_order = tt; numbers = tt; levels = tt; befores = tt; placed = tt };
}
