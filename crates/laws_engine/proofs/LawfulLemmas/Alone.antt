-- A change outside a transaction: what its session meets after the begin that comes before it, and the commit behind it.
use Rattle.std.proofs.Common.{◌≡◌, ℕ, ◌+◌, ◌≤◌, Bool, true, false, not, ◌&&◌, ◌||◌, cond, List, [], ◌∷◌, Option, Some, None, refl, sym, ap, ◌∙◌, arith}
use Rattle.std.specs.Prelude.{◌==◌, filter, map, nat_lt}
use Rattle.std.specs.List.{AllByRecursion, list_any}
use Rattle.std.proofs.lemmas.Bool.Decides.{nat_tests}
use Rattle.std.proofs.lemmas.Bool.{and_from}
use Rattle.common_lemmas.proofs.Booleans.{and_left}
use Rattle.common_lemmas.proofs.Lists.{all_weaker, filter_none}
use Rattle.common_lemmas.proofs.Numbers.{self_equal}
use Rattle.column_set.specs.declared.changes.Change.{Change}
use Rattle.index_derive.specs.declared.log.Entry.{Entry}
use Rattle.index_derive.specs.declared.log.EntryKind.TheVariants as entry
use Rattle.index_derive.specs.declared.log.Step.TheVariants.{Alone}
use Rattle.index_derive.specs.declared.rules.IndexRule.{IndexRule}
use Rattle.index_derive.specs.declared.rules.Schema.{Schema}
use Rattle.index_derive.specs.Steps.{entries_of_step}
use Rattle.database_state.specs.Table.{Table}
use Rattle.database_state.specs.Changes.{tables_after_all}
use Rattle.column_set.specs.ChangedRecords.{changed_table}
use Rattle.database_state.specs.State.{DatabaseState, PastChange, Status, Transaction, change_of, committed, is_open_change_of, levels, levels_of, transaction_of, uncommitted, undone}
use Rattle.database_state.specs.View.{view, view_in}
use Rattle.database_state.specs.Conflicts.{collide, concurrent_changes, has_key_conflict, has_write_conflict, is_concurrent, is_concurrent_status, yields_key}
use Rattle.database_state.specs.Step.{state_after}
use Rattle.database_state.specs.Lawful.{is_lawful, is_live, log_limit}
use Rattle.laws_versions.proofs.IndexLemmas.Adding.{KeysRise}
use Rattle.laws_versions.specs.Records.{Records}
use Rattle.laws_versions.specs.History.{IsHistory, IsPlaced, IsPlacedBy}
use Rattle.laws_versions.specs.KeptSteps.{kept_after, with_next_number}
use Rattle.laws_versions.proofs.HistoryLemmas.Concurrent.{concurrent_kept}
use Rattle.laws_versions.proofs.HistoryLemmas.Entries.{history_begun}
use Rattle.laws_versions.proofs.HistoryLemmas.LawfulEntries.{keeps_lawful, outside}
use Rattle.laws_versions.proofs.HistoryLemmas.SeenRecords.{of_kept}
use Rattle.laws_versions.proofs.HistoryLemmas.Transactions.{transaction-begun}
use Rattle.laws_versions.proofs.HistoryLemmas.Viewing.{none_open}
use Rattle.laws_versions.proofs.KeyLemmas.BookmarkKeys.{HasOneEntry}
use Rattle.laws_versions.proofs.KeyLemmas.EscrowSums.{sums_kept, unseen_next, unseen_now}
use Rattle.laws_versions.proofs.KeyLemmas.LawfulCommits.{commit_lawful}
use Rattle.laws_versions.proofs.KeyLemmas.OrderedTables.{order_kept}
use Rattle.laws_versions.proofs.KeyLemmas.UniqueLaws.{keys_kept}
use Rattle.laws_engine.specs.LawfulSteps.{AreLawful, IsReached, begin_of}
use Rattle.laws_engine.proofs.LawfulLemmas.ReachedStates.{reaches}

-- ---- after the begin

begun_at : (state : DatabaseState) (session : ℕ) → is_live state session ≡ true → transaction_of (state_after state (begin_of session)) session ≡ Some (record { levels = 1; begin = state.number + 1; snapshot = state.tables })
unfolding state_after
begun_at state session live =
    ap (λ (ts : ℕ → Option Transaction). ts session) (transaction-begun session (record { levels = 1; begin = state.number + 1; snapshot = state.tables }) (with_next_number state) live)
    ∙ ap (λ b. cond b (Some (record { levels = 1; begin = state.number + 1; snapshot = state.tables })) (transaction_of state session)) (self_equal session)

pub one_level : (state : DatabaseState) (session : ℕ) → is_live state session ≡ true → levels (state_after state (begin_of session)) session ≡ 1
one_level state session live = ap levels_of (begun_at state session live)

history_after : (base : Records) (dropped kept : List PastChange) (state : DatabaseState) (session : ℕ) → IsHistory base dropped kept state → is_live state session ≡ true → (levels state session == 0) ≡ true
    → IsHistory base dropped kept (state_after state (begin_of session))
unfolding state_after
history_after base dropped kept state session h live out = history_begun base dropped kept session state live (outside base dropped kept state h session out) h

filter_same : (p q : PastChange → Bool) (xs : List PastChange) → AllByRecursion (λ x. p x ≡ q x) xs → filter p xs ≡ filter q xs
filter_same p q [] h = refl
filter_same p q (x ∷ xs) h = λ i. cond (h.0 i) (x ∷ filter_same p q xs h.1 i) (filter_same p q xs h.1 i)

-- no commit is after a begin that is the last entry
same_concurrent : (n : ℕ) (tables : List Table) (transactions : ℕ → Option Transaction) (session : ℕ) (t : Transaction) → t.begin ≡ n + 1 → (item : PastChange) → IsPlaced n tables transactions item
    → is_concurrent session (Some t) item ≡ is_concurrent session None item
same_concurrent n tables transactions session t e item placed = ap (λ b. not (item.session == session) && b) (by item.status placed.2)
  where
    by : (s : Status) → IsPlacedBy n transactions item s → is_concurrent_status (Some t) s ≡ is_concurrent_status None s
    by uncommitted h = refl
    by (committed at) h = late at n t.begin h.1 e
      where
        late : (a n b : ℕ) → a ≤ n → b ≡ n + 1 → nat_lt b a ≡ false
        late a n b le e = let below : a ≤ b = omega (arith, le, e) in not_less a b below
          where
            not_less : (a b : ℕ) → a ≤ b → nat_lt b a ≡ false
            not_less a b le = grind (arith, nat_tests)
    by undone h = refl

concurrent_after : (base : Records) (dropped kept : List PastChange) (state : DatabaseState) (session : ℕ) → IsHistory base dropped kept state → is_live state session ≡ true → (levels state session == 0) ≡ true
    → concurrent_changes (state_after state (begin_of session)) session ≡ concurrent_changes state session
concurrent_after base dropped kept state session h live out =
    concurrent_kept base dropped kept (state_after state (begin_of session)) (history_after base dropped kept state session h live out) session
    ∙ ap (λ t. filter (is_concurrent session t) kept) (begun_at state session live)
    ∙ filter_same (is_concurrent session (Some (record { levels = 1; begin = state.number + 1; snapshot = state.tables }))) (is_concurrent session None) kept
    (all_weaker (IsPlaced state.number state.tables (transaction_of state)) (λ item. is_concurrent session (Some (record { levels = 1; begin = state.number + 1; snapshot = state.tables })) item ≡ is_concurrent session None item)
    (same_concurrent state.number state.tables (transaction_of state) session (record { levels = 1; begin = state.number + 1; snapshot = state.tables }) refl) kept h.keeps.placed)
    ∙ sym (concurrent_kept base dropped kept state h session ∙ ap (λ t. filter (is_concurrent session t) kept) (outside base dropped kept state h session out))

pub conflict_after : (base : Records) (dropped kept : List PastChange) (state : DatabaseState) (session : ℕ) → IsHistory base dropped kept state → is_live state session ≡ true → (levels state session == 0) ≡ true → (change : Change)
    → has_write_conflict (state_after state (begin_of session)) session change ≡ has_write_conflict state session change
unfolding has_write_conflict
conflict_after base dropped kept state session h live out change = ap (list_any (λ item. collide item.change change)) (concurrent_after base dropped kept state session h live out)

pub key_conflict_after : (base : Records) (dropped kept : List PastChange) (state : DatabaseState) (session : ℕ) → IsHistory base dropped kept state → is_live state session ≡ true → (levels state session == 0) ≡ true
    → (table : ℕ) (schema : Schema) (rule : IndexRule) (key : List ℕ) → has_key_conflict (state_after state (begin_of session)) session table schema rule key ≡ has_key_conflict state session table schema rule key
unfolding has_key_conflict
key_conflict_after base dropped kept state session h live out table schema rule key =
    ap (list_any (λ item. (changed_table item.change == table) && (yields_key rule schema key item.before || yields_key rule schema key item.after))) (concurrent_after base dropped kept state session h live out)

pub view_after : (base : Records) (dropped kept : List PastChange) (state : DatabaseState) (session : ℕ) → IsHistory base dropped kept state → is_live state session ≡ true → (levels state session == 0) ≡ true
    → view (state_after state (begin_of session)) session ≡ view state session
unfolding view state_after
view_after base dropped kept state session h live out =
    ap (view_in (state_after state (begin_of session)) session) (begun_at state session live)
    ∙ ap (λ items. tables_after_all state.tables (map change_of items)) (of_kept base dropped kept state h (is_open_change_of session) (λ item e. and_left _ _ e)
    ∙ filter_none (is_open_change_of session) kept (all_weaker (IsPlaced state.number state.tables (transaction_of state)) (λ item. is_open_change_of session item ≡ false)
    (none_open state.number state.tables (transaction_of state) session (outside base dropped kept state h session out)) kept h.keeps.placed))
    ∙ sym (ap (view_in state session) (outside base dropped kept state h session out))

-- ---- the begin, the change and the commit

begin_lawful : (state : DatabaseState) (session : ℕ) → nat_lt state.number log_limit ≡ true → is_live state session ≡ true → (levels state session == 0) ≡ true → is_lawful state (begin_of session) ≡ true
unfolding is_lawful
begin_lawful state session few live out = and_from _ _ few (and_from _ _ live out)

same_levels : (state : DatabaseState) (session : ℕ) (change : Change) → levels (state_after state (record { session = record { 0 = session }; kind = entry.Change change })) session ≡ levels state session
unfolding state_after
same_levels state session change = refl

pub alone_lawful : HasOneEntry → KeysRise → (base : Records) (dropped kept : List PastChange) (state : DatabaseState) (session : ℕ) (change : Change) → IsReached base dropped kept state → nat_lt state.number log_limit ≡ true → is_live state session ≡ true
    → (levels state session == 0) ≡ true → is_lawful (state_after state (begin_of session)) (record { session = record { 0 = session }; kind = entry.Change change }) ≡ true
    → AreLawful state (entries_of_step (Some (Alone (record { session = record { 0 = session }; kind = entry.Change change }))))
alone_lawful one rise base dropped kept state session change r few live out e =
    let begins = begin_lawful state session few live out in
    let begun = reaches one base dropped kept state (begin_of session) r begins tt in
    let as_seen : DatabaseState = state_after state (begin_of session) in
    let made : Entry = record { session = record { 0 = session }; kind = entry.Change change } in
    let sums = sums_kept base dropped kept as_seen made begun.history e begun.sums in
    let unique = keys_kept one base dropped kept as_seen made begun.history e (unseen_now base kept as_seen begun.sums) (unseen_next base dropped kept as_seen made begun.history e begun.sums) begun.unique in
    let changed : DatabaseState = state_after (state_after state (begin_of session)) (record { session = record { 0 = session }; kind = entry.Change change }) in
    let kept_changes : List PastChange = kept_after (state_after state (begin_of session)) session (entry.Change change) kept in (
      begins,
      (
        e,
        (
          commit_lawful rise base dropped kept_changes changed session (keeps_lawful base dropped kept as_seen made begun.history e) (unseen_now base kept_changes changed sums) unique (order_kept as_seen made begun.order e)
              (same_levels (state_after state (begin_of session)) session change ∙ one_level state session live),
          tt,
        ),
      ),
    )
