-- What undone levels and sessions that leave make of versioned tables.
use Rattle.std.proofs.Common.{◌≡◌, ℕ, ◌+◌, ◌-◌, ◌≤◌, Bool, true, false, ◌&&◌, cond, List, map, Option, Some, None, refl, sym, ap, subst, ◌∙◌, arith, inl, inr}
use Rattle.std.specs.Prelude.{◌==◌, nat_lt}
use Rattle.std.specs.List.{AllByRecursion}
use Rattle.std.proofs.lemmas.Bool.Decides.{nat_tests}
use Rattle.std.proofs.lemmas.Bool.{eqb-true}
use Rattle.common_lemmas.proofs.Booleans.{and_left, and_right, impossible}
use Rattle.common_lemmas.proofs.Lists.{all_each, all_weaker}
use Rattle.index_derive.specs.declared.log.Entry.{Entry}
use Rattle.index_derive.specs.declared.log.EntryKind.{EntryKind}
use Rattle.index_derive.specs.declared.log.EntryKind.TheVariants as entry
use Rattle.database_state.specs.State.{DatabaseState, PastChange, Transaction, Status, uncommitted, committed, undone, is_open, is_open_change_of, levels, levels_of, transaction_of}
use Rattle.column_set.specs.ChangedRecords.{changed_table}
use Rattle.database_state.specs.Step.{entry_by, every_change, innermost_undone, is_at_level, state_after, with_changes_at, with_levels, with_transaction}
use Rattle.database_state.specs.Lawful.{is_lawful}
use Rattle.laws_versions.specs.Records.{IsThere, Records, records_after_items, records_of}
use Rattle.laws_versions.specs.History.{EachTwo, IsHistory, IsOpenIn, IsPlaced, IsPlacedBy, LevelsRise, without_rows}
use Rattle.laws_versions.specs.KeptSteps.{is_own_open, undone_where}
use Rattle.laws_versions.specs.Readers.{is_standing}
use Rattle.laws_versions.proofs.HistoryLemmas.Befores.{GoesApart}
use Rattle.laws_versions.proofs.HistoryLemmas.Keeping.{goes_apart}
use Rattle.laws_versions.proofs.HistoryLemmas.LawfulEntries.{keeps_lawful}
use Rattle.laws_versions.proofs.HistoryLemmas.SeenRecords.{are_there, newest_records}
use Rattle.laws_versions.proofs.HistoryLemmas.Viewing.{same_there}
use Rattle.laws_engine.specs.HeldRecords.{HeldRecord, is_open_at, is_open_of}
use Rattle.laws_engine.specs.VersionedTables.{VersionedTables, tables_taken_back, with_changes_undone}
use Rattle.laws_engine.specs.Holding.{Holds, RecordsRise}
use Rattle.laws_engine.specs.TakenBack.{CanBeTakenBack}
use Rattle.laws_engine.proofs.TableLemmas.Ending.{same_open}
use Rattle.laws_engine.proofs.TableLemmas.RisingSteps.{step_keeps_order}
use Rattle.laws_engine.proofs.TableLemmas.ExactSums.{Numbers, any, first_numbers, numbers_back, plain_back}
use Rattle.laws_engine.proofs.TableLemmas.TakingBack.{SameTest, all_undone_match, taken_defined, taken_records, taken_rise}

-- ---- what goes

own_stands : (session : ℕ) (test : PastChange → Bool) (item : PastChange) → is_own_open session test item ≡ true → is_standing item ≡ true
own_stands session test item e = by item.status (and_left _ _ (and_left _ _ e))
  where
    by : (s : Status) → is_open s ≡ true → is_standing (record item { status = s }) ≡ true
    by uncommitted e = refl
    by (committed n) e = refl
    by undone e = impossible e

all_goes : (base : Records) (dropped kept : List PastChange) (state : DatabaseState) → IsHistory base dropped kept state → (session : ℕ) → EachTwo (GoesApart (is_own_open session every_change)) kept
all_goes base dropped kept state h session =
    goes_apart state.number state.tables (transaction_of state) base kept session every_change (λ item. Unit {0}) (all_each (λ item. Unit {0}) (λ item. tt) kept) (λ p q e own placed each rise less. refl) h.keeps

open_in : (number : ℕ) (transactions : ℕ → Option Transaction) (q : PastChange) (s : Status) → is_open s ≡ true → IsPlacedBy number transactions q s → IsOpenIn q (transactions q.session)
open_in number transactions q uncommitted e placed = placed
open_in number transactions q (committed n) e placed = impossible e
open_in number transactions q undone e placed = impossible e

at_most : (q : PastChange) (t : Option Transaction) → IsOpenIn q t → q.level ≤ levels_of t
at_most q None inside = absurd inside
at_most q (Some t) inside = inside.2

between : (a b c : ℕ) → a ≤ b → a ≡ c → b ≤ c → (b == c) ≡ true
between a b c le e up = grind (arith, nat_tests)

-- what stands behind an open change of the innermost level, of its session, is of this level too
level_goes : (base : Records) (dropped kept : List PastChange) (state : DatabaseState) → IsHistory base dropped kept state → (session : ℕ) → EachTwo (GoesApart (is_own_open session (is_at_level (levels state session)))) kept
level_goes base dropped kept state h session =
    goes_apart state.number state.tables (transaction_of state) base kept session (is_at_level (levels state session)) (λ item. Unit {0}) (all_each (λ item. Unit {0}) (λ item. tt) kept)
    (λ p q e own placed each rise less. suffix p q e own placed rise) h.keeps
  where
    suffix : (p q : PastChange) → is_own_open session (is_at_level (levels state session)) p ≡ true → is_open_change_of session q ≡ true → IsPlaced state.number state.tables (transaction_of state) q → LevelsRise p q → (q.level == levels state session) ≡ true
    suffix p q e own placed rise =
        let own_p : is_open_change_of session p ≡ true = and_left _ _ e in
        let of_p : p.session ≡ session = eqb-true p.session session (and_right (is_open p.status) _ own_p) in
        let of_q : q.session ≡ session = eqb-true q.session session (and_right (is_open q.status) _ own) in
        let low : p.level ≡ levels state session = eqb-true p.level (levels state session) (and_right (is_open_change_of session p) _ e) in
        let le = rise (and_left _ _ own_p) (and_left _ _ own) (of_p ∙ sym of_q) in
        let inside : IsOpenIn q (transaction_of state session) = subst (λ (k : ℕ). IsOpenIn q (transaction_of state k)) of_q (open_in state.number (transaction_of state) q q.status (and_left _ _ own) placed.2) in
        between p.level q.level (levels state session) le low (at_most q (transaction_of state session) inside)

all_test : (session : ℕ) → SameTest (is_own_open session every_change) (is_open_of session)
all_test session item h m = same_open item h m session ∙ with_true (is_open_change_of session item)
  where
    with_true : (b : Bool) → b ≡ (b && true)
    with_true true = refl
    with_true false = refl

level_test : (session level : ℕ) → SameTest (is_own_open session (is_at_level level)) (is_open_at session level)
level_test session level item h m = λ i. same_open item h m session i && (m.level i == level)

-- ---- the entries

there_in : (base : Records) (dropped kept : List PastChange) (store : VersionedTables) (state : DatabaseState) → Holds base dropped kept store state → AllByRecursion (λ item. IsThere store.tables item.change) kept
there_in base dropped kept store state h =
    all_weaker (λ item. IsThere state.tables item.change) (λ item. IsThere store.tables item.change) (λ item there. same_there store.tables state.tables h.defined (changed_table item.change) ∙ there) kept
    (are_there state.number state.tables (transaction_of state) base kept h.history.keeps)

-- the records that are left
newest_taken : (base : Records) (dropped kept : List PastChange) (store : VersionedTables) (state : DatabaseState) (gone : PastChange → Bool) (test : HeldRecord → Bool) → Holds base dropped kept store state → CanBeTakenBack base kept state
    → SameTest gone test → ((item : PastChange) → gone item ≡ true → is_standing item ≡ true) → EachTwo (GoesApart gone) kept
    → records_of (tables_taken_back test store.held store.tables) ≡ records_after_items is_standing base (map (undone_where gone) kept)
newest_taken base dropped kept store state gone test h (inl none) same stands apart =
    taken_records (λ table bookmark values. Unit {0}) gone test same stands store.tables kept store.held base h.held h.history.keeps.befores (λ table bookmark. any (base table bookmark))
    (plain_back kept none) apart (there_in base dropped kept store state h) (h.newest ∙ newest_records base dropped kept state h.history)
newest_taken base dropped kept store state gone test h (inr numbers) same stands apart =
    taken_records (Numbers state) gone test same stands store.tables kept store.held base h.held h.history.keeps.befores (first_numbers base kept state numbers)
    (numbers_back base kept state numbers h.history.keeps.placed) apart (there_in base dropped kept store state h) (h.newest ∙ newest_records base dropped kept state h.history)

-- an entry that leaves the committed tables and undoes the kept changes that pass
undoing : (base : Records) (dropped kept : List PastChange) (store : VersionedTables) (state after : DatabaseState) (gone : PastChange → Bool) (test : HeldRecord → Bool) → Holds base dropped kept store state → CanBeTakenBack base kept state
    → SameTest gone test → ((item : PastChange) → gone item ≡ true → is_standing item ≡ true) → EachTwo (GoesApart gone) kept → IsHistory base dropped (map (undone_where gone) kept) after → after.tables ≡ state.tables
    → (made : Entry) → after ≡ state_after state made → Holds base dropped (map (undone_where gone) kept) (with_changes_undone test store) after
undoing base dropped kept store state after gone test h can same stands apart history tables made is = record {
  history = history;
  rise = subst (λ s. RecordsRise s) (sym is) (step_keeps_order state made h.rise);
  defined = taken_defined test store.held store.tables ∙ h.defined ∙ ap (map without_rows) (sym tables);
  newest =
      newest_taken base dropped kept store state gone test h can same stands apart
      ∙ sym (newest_records base dropped (map (undone_where gone) kept) after history);
  in_order = taken_rise test store.held store.tables h.in_order;
  held = all_undone_match gone test same kept store.held h.held;
}

innermost_tables : (session : ℕ) (state : DatabaseState) → (innermost_undone session state).tables ≡ state.tables
innermost_tables session state = by (nat_lt 1 (levels state session))
  where
    undone_level : DatabaseState
    undone_level = with_changes_at session (is_at_level (levels state session)) (λ item. record item { status = undone }) state

    by : (b : Bool) → (cond b (with_levels session (λ n. n - 1) undone_level) (with_transaction session None undone_level)).tables ≡ state.tables
    by true = refl
    by false = refl

undo_tables : (state : DatabaseState) (session : ℕ) → (state_after state (entry_by session entry.Undo)).tables ≡ state.tables
unfolding state_after
undo_tables state session = innermost_tables session (record state { number = state.number + 1 })

pub undone_holds : (base : Records) (dropped kept : List PastChange) (store : VersionedTables) (state : DatabaseState) (session : ℕ) → Holds base dropped kept store state → CanBeTakenBack base kept state → is_lawful state (entry_by session entry.Undo) ≡ true
    → Holds base dropped (map (undone_where (is_own_open session (is_at_level (levels state session)))) kept) (with_changes_undone (is_open_at session (levels state session)) store) (state_after state (entry_by session entry.Undo))
undone_holds base dropped kept store state session h can lawful =
    undoing base dropped kept store state (state_after state (entry_by session entry.Undo)) (is_own_open session (is_at_level (levels state session))) (is_open_at session (levels state session)) h can
    (level_test session (levels state session)) (own_stands session (is_at_level (levels state session))) (level_goes base dropped kept state h.history session)
    (keeps_lawful base dropped kept state (entry_by session entry.Undo) h.history lawful) (undo_tables state session) (entry_by session entry.Undo) refl

all_undone_tables : (state : DatabaseState) (session : ℕ) → (state_after state (entry_by session entry.UndoAll)).tables ≡ state.tables
unfolding state_after
all_undone_tables state session = refl

pub all_undone_holds : (base : Records) (dropped kept : List PastChange) (store : VersionedTables) (state : DatabaseState) (session : ℕ) → Holds base dropped kept store state → CanBeTakenBack base kept state → is_lawful state (entry_by session entry.UndoAll) ≡ true
    → Holds base dropped (map (undone_where (is_own_open session every_change)) kept) (with_changes_undone (is_open_of session) store) (state_after state (entry_by session entry.UndoAll))
all_undone_holds base dropped kept store state session h can lawful =
    undoing base dropped kept store state (state_after state (entry_by session entry.UndoAll)) (is_own_open session every_change) (is_open_of session) h can
    (all_test session) (own_stands session every_change) (all_goes base dropped kept state h.history session)
    (keeps_lawful base dropped kept state (entry_by session entry.UndoAll) h.history lawful) (all_undone_tables state session) (entry_by session entry.UndoAll) refl

left_tables : (state : DatabaseState) (session : ℕ) → (state_after state (entry_by session entry.Leave)).tables ≡ state.tables
unfolding state_after
left_tables state session = refl

pub left_holds : (base : Records) (dropped kept : List PastChange) (store : VersionedTables) (state : DatabaseState) (session : ℕ) → Holds base dropped kept store state → CanBeTakenBack base kept state → is_lawful state (entry_by session entry.Leave) ≡ true
    → Holds base dropped (map (undone_where (is_own_open session every_change)) kept) (with_changes_undone (is_open_of session) store) (state_after state (entry_by session entry.Leave))
left_holds base dropped kept store state session h can lawful =
    undoing base dropped kept store state (state_after state (entry_by session entry.Leave)) (is_own_open session every_change) (is_open_of session) h can
    (all_test session) (own_stands session every_change) (all_goes base dropped kept state h.history session)
    (keeps_lawful base dropped kept state (entry_by session entry.Leave) h.history lawful) (left_tables state session) (entry_by session entry.Leave) refl
