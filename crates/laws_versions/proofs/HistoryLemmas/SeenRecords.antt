-- The newest records and each session's view, as the kept changes give them.
use Rattle.std.proofs.Common.{◌≡◌, ℕ, Bool, true, false, not, ◌||◌, List, [], ◌∷◌, ◌++◌, Option, None, refl, sym, ap, ◌∙◌}
use Rattle.std.specs.Prelude.{◌==◌, map, filter, fold}
use Rattle.std.specs.List.{AllByRecursion}
use Rattle.std.proofs.lemmas.List.Elements.{filter-append}
use Rattle.common_lemmas.proofs.Booleans.{and_left}
use Rattle.common_lemmas.proofs.Lists.{all_filter, all_weaker, filter_none}
use Rattle.database_state.specs.Table.{Table}
use Rattle.database_state.specs.Changes.{tables_after, tables_after_all}
use Rattle.column_set.specs.ChangedRecords.{changed_table}
use Rattle.database_state.specs.State.{DatabaseState, PastChange, Transaction, Status, uncommitted, committed, undone, is_open, is_open_change_of, change_of, transaction_of, open_changes, open_changes_of}
use Rattle.database_state.specs.View.{newest}
use Rattle.database_state.specs.Conflicts.{collide}
use Rattle.laws_versions.specs.Records.{IsThere, Records, after_item, records_after_items, records_of}
use Rattle.laws_versions.proofs.ChangeLemmas.Commuting.{commute}
use Rattle.laws_versions.proofs.ChangeLemmas.Projecting.{projected, stays}
use Rattle.laws_versions.proofs.ChangeLemmas.Tests.{contradicted}
use Rattle.laws_versions.specs.History.{EachTwo, InOrder, IsHistory, IsPassed, IsPassedBy, IsPlaced, KeepsHistory, is_apart_by}
use Rattle.laws_versions.specs.Readers.{is_standing, was_committed, was_committed_status}
use Rattle.laws_versions.proofs.HistoryLemmas.Lists.{each_weaker}
use Rattle.laws_versions.proofs.HistoryLemmas.Merging.{Commute, merged}

-- ---- changes of tables as changes of records

pub AreThere : List Table → List PastChange → Type 0
AreThere tables items = AllByRecursion (λ item. IsThere tables item.change) items

pub folded : (tables : List Table) (items : List PastChange) → AllByRecursion (λ item. IsThere tables item.change) items
    → records_of (tables_after_all tables (map change_of items)) ≡ fold after_item (records_of tables) items
folded tables [] h = refl
folded tables (item ∷ items) h =
    folded (tables_after tables item.change) items
    (all_weaker (λ i. IsThere tables i.change) (λ i. IsThere (tables_after tables item.change) i.change) (λ i there. stays tables item.change (changed_table i.change) ∙ there) items h.1)
    ∙ ap (λ r. fold after_item r items) (projected tables item.change h.0)

-- ---- what is open comes after what was committed

not_open : (t : Option Transaction) (s : Status) → was_committed_status t s ≡ true → is_open s ≡ false
not_open t uncommitted h = cc
not_open t (committed n) h = refl
not_open t undone h = refl

open_is : (s : Status) → is_open s ≡ true → s ≡ uncommitted
open_is uncommitted h = refl
open_is (committed n) h = cc
open_is undone h = cc

none_apart : (t u : Option Transaction) (number : ℕ) (same : Bool) (earlier later : Status) → is_open earlier ≡ true → was_committed_status t later ≡ true → is_apart_by u number same earlier later ≡ false
none_apart t u number same uncommitted uncommitted h g = cc
none_apart t u number true uncommitted (committed n) h g = refl
none_apart t u number false uncommitted (committed n) h g = refl
none_apart t u number same uncommitted undone h g = cc
none_apart t u number same (committed n) later h g = cc
none_apart t u number same undone later h g = cc

live_open : (s : Status) → is_open s ≡ true → not (Rattle.database_state.specs.State.is_undone s) ≡ true
live_open uncommitted h = refl
live_open (committed n) h = refl
live_open undone h = cc

live_committed : (t : Option Transaction) (s : Status) → was_committed_status t s ≡ true → not (Rattle.database_state.specs.State.is_undone s) ≡ true
live_committed t uncommitted h = refl
live_committed t (committed n) h = refl
live_committed t undone h = cc

pub no_collision : (transactions : ℕ → Option Transaction) (t : Option Transaction) (p q : PastChange) → InOrder transactions p q → is_open p.status ≡ true → was_committed t q ≡ true → collide p.change q.change ≡ false
no_collision transactions t p q h open_p committed_q =
    elim (collide p.change q.change) as (λ b. collide p.change q.change ≡ b → b ≡ false) [
      | true ↦ λ e. sym (h (live_open p.status open_p) (live_committed t q.status committed_q) e) ∙ none_apart t (transactions q.session) q.number (p.session == q.session) p.status q.status open_p committed_q
      | false ↦ λ e. refl
    ] refl

-- the open changes that pass a test, made after the committed ones
pub open_after : (transactions : ℕ → Option Transaction) (t : Option Transaction) (test : PastChange → Bool) → ((item : PastChange) → test item ≡ true → is_open item.status ≡ true)
    → (base : Records) (kept : List PastChange) → EachTwo (InOrder transactions) kept
    → fold after_item (records_after_items (was_committed t) base kept) (filter test kept) ≡ records_after_items (λ item. was_committed t item || test item) base kept
open_after transactions t test opens base kept order =
    merged after_item (was_committed t) test (λ item c. closed item c)
    base kept
    (each_weaker (InOrder transactions) (λ p q. test p ≡ true → was_committed t q ≡ true → Commute after_item p q)
    (λ p q h tp cq. commute p q (no_collision transactions t p q h (opens p tp) cq)) kept order)
  where
    closed : (item : PastChange) → was_committed t item ≡ true → test item ≡ false
    closed item c = contradicted (test item) (λ e. sym (opens item e) ∙ not_open t item.status c)

-- ---- what is kept, of the whole past

passed_open : (number : ℕ) (transactions : ℕ → Option Transaction) (s : Status) → IsPassedBy number transactions s → is_open s ≡ false
passed_open number transactions uncommitted h = absurd h
passed_open number transactions (committed n) h = refl
passed_open number transactions undone h = refl

-- a test of open changes finds none among those that passed
pub of_kept : (base : Records) (dropped kept : List PastChange) (state : DatabaseState) → IsHistory base dropped kept state → (test : PastChange → Bool) → ((item : PastChange) → test item ≡ true → is_open item.status ≡ true)
    → filter test state.past ≡ filter test kept
of_kept base dropped kept state h test opens =
    ap (filter test) h.past ∙ filter-append test dropped kept
    ∙ ap (λ xs. xs ++ filter test kept) (filter_none test dropped (all_weaker (IsPassed state.number (transaction_of state)) (λ item. test item ≡ false) (λ item p. closed item p) dropped h.passed))
  where
    closed : (item : PastChange) → IsPassed state.number (transaction_of state) item → test item ≡ false
    closed item p = contradicted (test item) (λ e. sym (opens item e) ∙ passed_open state.number (transaction_of state) item.status p)

pub are_there : (number : ℕ) (tables : List Table) (transactions : ℕ → Option Transaction) (base : Records) (kept : List PastChange) → KeepsHistory number tables transactions base kept → AllByRecursion (λ item. IsThere tables item.change) kept
are_there number tables transactions base kept h = all_weaker (IsPlaced number tables transactions) (λ item. IsThere tables item.change) (λ item p. p.1) kept h.placed

-- ---- the newest records

live_by : (s : Status) → (was_committed_status None s || is_open s) ≡ not (Rattle.database_state.specs.State.is_undone s)
live_by uncommitted = refl
live_by (committed n) = refl
live_by undone = refl

pub newest_records : (base : Records) (dropped kept : List PastChange) (state : DatabaseState) → IsHistory base dropped kept state
    → records_of (newest state) ≡ records_after_items is_standing base kept
unfolding newest
newest_records base dropped kept state h =
    let opens : PastChange → Bool = λ (item : PastChange). is_open item.status in
    ap (λ items. records_of (tables_after_all state.tables (map change_of items))) (of_kept base dropped kept state h (λ item. is_open item.status) (λ item e. e))
    ∙ folded state.tables (filter (λ item. is_open item.status) kept) (all_filter (λ item. IsThere state.tables item.change) (λ item. is_open item.status) kept (are_there state.number state.tables (transaction_of state) base kept h.keeps))
    ∙ ap (λ r. fold after_item r (filter (λ item. is_open item.status) kept)) h.keeps.committed
    ∙ open_after (transaction_of state) None (λ item. is_open item.status) (λ item e. e) base kept h.keeps.in_order
    ∙ ap (λ (test : PastChange → Bool). records_after_items test base kept) (λ i item. live_by item.status i)

-- ---- what a session sees

pub own_open : (session : ℕ) (item : PastChange) → is_open_change_of session item ≡ true → is_open item.status ≡ true
own_open session item e = and_left _ _ e
