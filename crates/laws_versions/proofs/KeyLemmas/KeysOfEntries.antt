-- What entries leave of the free keys of a unique index.
use Rattle.std.proofs.Common.{◌≡◌, inl, inr, ℕ, ◌+◌, ◌-◌, Bool, true, false, not, ◌&&◌, cond, List, [], ◌∷◌, ◌++◌, Option, Some, None, refl, sym, ap, subst, ◌∙◌, bytes_eq, arith}
use Rattle.std.specs.Prelude.{◌==◌, nat_lt, nat_le, is_some, map}
use Rattle.std.specs.List.{AllByRecursion}
use Rattle.std.proofs.lemmas.Bool.Decides.{nat_tests}
use Rattle.std.proofs.lemmas.Bool.{and_from, eqb-true, false_from_ne_true, not-true}
use Rattle.common_lemmas.proofs.Booleans.{and_left, and_right, impossible}
use Rattle.common_lemmas.proofs.Lists.{all_each}
use Rattle.index_derive.specs.declared.rules.IndexRule.{IndexRule}
use Rattle.index_derive.specs.declared.rules.Schema.{Schema}
use Rattle.index_derive.specs.declared.log.EntryKind.{EntryKind}
use Rattle.index_derive.specs.declared.log.EntryKind.TheVariants as entry
use Rattle.database_state.specs.Table.{Table}
use Rattle.database_state.specs.Changes.{tables_after_all}
use Rattle.column_set.specs.ChangedRecords.{changed_table, changed_bookmark}
use Rattle.database_state.specs.State.{DatabaseState, PastChange, Transaction, is_open, is_undone, is_open_change_of, committed, undone, uncommitted, live_session, transaction_of, levels, open_changes_of}
use Rattle.database_state.specs.Conflicts.{is_concurrent, yields_key}
use Rattle.database_state.specs.Step.{all_undone, applied, at_levels, every_change, is_at_level, with_changes_at, with_levels, with_transaction}
use Rattle.database_state.specs.Lawful.{is_lawful_kind}
use Rattle.laws_versions.specs.Records.{Records, after_item, records_after, records_after_items}
use Rattle.laws_versions.specs.History.{InOrder, IsHistory, IsPlaced, KeepsHistory, LevelsRise, is_apart}
use Rattle.laws_versions.specs.KeptSteps.{committed_own, is_own_open, kept_after, lowered_own, undone_where, with_next_number}
use Rattle.laws_versions.specs.Readers.{is_standing}
use Rattle.laws_versions.proofs.HistoryLemmas.Beginning.{order_begun, order_new}
use Rattle.laws_versions.proofs.HistoryLemmas.Ending.{commit_before, commit_change, commit_live, lower_before, lower_change, lower_status, lowered, order_committed}
use Rattle.laws_versions.proofs.HistoryLemmas.Entries.{at_innermost, fewer, follows_at, more}
use Rattle.laws_versions.proofs.HistoryLemmas.Keeping.{Follows, also_open, open_in, open_live, order_followed, order_undone, with_at}
use Rattle.laws_versions.proofs.HistoryLemmas.LawfulEntries.{outside}
use Rattle.laws_versions.proofs.HistoryLemmas.Lists.{all_both, each_and, each_append, each_both, each_map}
use Rattle.laws_versions.proofs.HistoryLemmas.Transactions.{same-with, transaction-begun, transaction-ended, transaction-entered, transaction-left, transaction-levels}
use Rattle.laws_versions.specs.UniqueKeys.{BringsFreeKeys, BringsKey, HasFreeKeys, InKeyOrder, MeetsKey, SeesEarlier}
use Rattle.laws_versions.specs.KeySums.{SeesNoSum}
use Rattle.laws_versions.proofs.KeyLemmas.KeepingKeys.{keys_append, keys_undone}

-- ---- changes that become others of the same records

brings_map : (rule : IndexRule) (schema : Schema) (table : ℕ) (f : PastChange → PastChange) → ((item : PastChange) → (f item).change ≡ item.change) → ((item : PastChange) → (f item).before ≡ item.before)
    → ((item : PastChange) → (f item).after ≡ item.after) → ((item : PastChange) → is_standing (f item) ≡ is_standing item) → (items : List PastChange) (base : Records)
    → BringsFreeKeys rule schema table base items → BringsFreeKeys rule schema table base (map f items)
brings_map rule schema table f change before after live [] base h = tt
brings_map rule schema table f change before after live (item ∷ items) base h = (
  (λ stands own key other brings apart.
      h.0 (sym (live item) ∙ stands) (ap changed_table (sym (change item)) ∙ own) key other
      (ap (yields_key rule schema key) (sym (after item)) ∙ brings.0, ap (yields_key rule schema key) (sym (before item)) ∙ brings.1)
      (ap (λ c. bytes_eq (changed_bookmark c) other) (sym (change item)) ∙ apart)),
  subst (λ (r : Records). BringsFreeKeys rule schema table r (map f items))
      (ap (λ c. cond (is_standing item) (records_after base c) base) (sym (change item)) ∙ ap (λ b. cond b (records_after base (f item).change) base) (sym (live item)))
      (brings_map rule schema table f change before after live items (cond (is_standing item) (after_item base item) base) h.1),
)

meets_before : (rule : IndexRule) (schema : Schema) (table : ℕ) (f : PastChange → PastChange) → ((item : PastChange) → (f item).change ≡ item.change) → ((item : PastChange) → (f item).before ≡ item.before)
    → ((item : PastChange) → (f item).after ≡ item.after) → (p q : PastChange) → MeetsKey rule schema table (f p) (f q) → MeetsKey rule schema table p q
meets_before rule schema table f change before after p q meets = (
  ap changed_table (sym (change p)) ∙ meets.0,
  ap changed_table (sym (change q)) ∙ meets.1,
  ap (λ c. bytes_eq (changed_bookmark c) (changed_bookmark p.change)) (sym (change q)) ∙ ap (λ c. bytes_eq (changed_bookmark (f q).change) (changed_bookmark c)) (sym (change p)) ∙ meets.2,
  (
    meets.3.0,
    ap (yields_key rule schema meets.3.0) (sym (before p)) ∙ meets.3.1,
    (ap (yields_key rule schema meets.3.0) (sym (after q)) ∙ meets.3.2.0, ap (yields_key rule schema meets.3.0) (sym (before q)) ∙ meets.3.2.1),
  ),
)

-- ---- transactions that go on, or end

pub keys_followed : (rule : IndexRule) (schema : Schema) (table : ℕ) (n : ℕ) (tables : List Table) (one other : ℕ → Option Transaction) (base : Records) (kept : List PastChange) → ((x : ℕ) → Follows (one x) (other x))
    → AllByRecursion (IsPlaced n tables other) kept → HasFreeKeys rule schema table one base kept → HasFreeKeys rule schema table other base kept
keys_followed rule schema table n tables one other base kept follows placed h = record {
  at_first = h.at_first;
  free_keys = h.free_keys;
  key_order = each_both (IsPlaced n tables other) (InKeyOrder rule schema table one) (InKeyOrder rule schema table other)
      (λ p q pp pq. order_followed (MeetsKey rule schema table) one other follows p q (λ e. open_in n other q q.status e pq.2)) kept placed h.key_order;
}

-- ---- changes undone

stays_pair : (rule : IndexRule) (schema : Schema) (table n : ℕ) (tables : List Table) (transactions : ℕ → Option Transaction) (session : ℕ) (test : PastChange → Bool)
    → ((p q : PastChange) → is_own_open session test p ≡ true → is_open_change_of session q ≡ true → IsPlaced n tables transactions q → LevelsRise p q → test q ≡ true)
    → (p q : PastChange) → IsPlaced n tables transactions p → IsPlaced n tables transactions q → LevelsRise p q × (InOrder transactions p q × InKeyOrder rule schema table transactions p q)
    → SeesEarlier rule schema table (λ item. is_standing item && not (is_own_open session test item)) p q
stays_pair rule schema table n tables transactions session test next p q pp pq orders live stays either =
    and_from _ _ live (ap not (false_from_ne_true (is_own_open session test p) (λ goes.
    let own : is_open_change_of session p ≡ true = and_left _ _ goes in
    let stands : is_standing q ≡ true = and_left _ _ stays in
    let apart : is_apart transactions p q ≡ true = elim either [ inl hit ↦ orders.1.0 live stands hit | inr meets ↦ orders.1.1 live stands meets ] in
    let also : is_open_change_of session q ≡ true = also_open transactions session p q p.status q.status (and_left _ _ own) (eqb-true p.session session (and_right (is_open p.status) _ own)) apart in
    impossible (sym (not-true (is_own_open session test q) (and_right (is_standing q) _ stays)) ∙ and_from _ _ also (next p q goes also pq orders.0)))))

pub keys_undone_own : (rule : IndexRule) (schema : Schema) (table n : ℕ) (tables : List Table) (transactions : ℕ → Option Transaction) (base : Records) (kept : List PastChange) (session : ℕ) (test : PastChange → Bool)
    → ((p q : PastChange) → is_own_open session test p ≡ true → is_open_change_of session q ≡ true → IsPlaced n tables transactions q → LevelsRise p q → test q ≡ true)
    → SeesNoSum rule table kept → KeepsHistory n tables transactions base kept → HasFreeKeys rule schema table transactions base kept → HasFreeKeys rule schema table transactions base (map (undone_where (is_own_open session test)) kept)
keys_undone_own rule schema table n tables transactions base kept session test next sees keeps h = record {
  at_first = h.at_first;
  free_keys = keys_undone rule schema table (is_own_open session test) (λ item e. open_live item.status (and_left _ _ (and_left _ _ e))) kept base keeps.befores sees
      (each_both (IsPlaced n tables transactions) (λ p q. LevelsRise p q × (InOrder transactions p q × InKeyOrder rule schema table transactions p q))
      (SeesEarlier rule schema table (λ item. is_standing item && not (is_own_open session test item))) (stays_pair rule schema table n tables transactions session test next) kept keeps.placed
      (each_and LevelsRise (λ p q. InOrder transactions p q × InKeyOrder rule schema table transactions p q) kept keeps.levels (each_and (InOrder transactions) (InKeyOrder rule schema table transactions) kept keeps.in_order h.key_order)))
      h.free_keys;
  key_order = each_map (λ item. Unit {0}) (InKeyOrder rule schema table transactions) (InKeyOrder rule schema table transactions) (undone_where (is_own_open session test))
      (λ p q x y. undone_pair p q) kept (all_each (λ item. Unit {0}) (λ item. tt) kept) h.key_order;
}
  where
    undone_pair : (p q : PastChange) → InKeyOrder rule schema table transactions p q → InKeyOrder rule schema table transactions (undone_where (is_own_open session test) p) (undone_where (is_own_open session test) q)
    undone_pair = order_undone (MeetsKey rule schema table) transactions (is_own_open session test)

-- ---- a level released

pub lower_after : (session level : ℕ) (item : PastChange) → (lowered_own session level item).after ≡ item.after
lower_after session level item = lowered (λ i. i.after ≡ item.after) session level item refl refl

pub keys_lowered : (rule : IndexRule) (schema : Schema) (table : ℕ) (transactions : ℕ → Option Transaction) (base : Records) (kept : List PastChange) (session level : ℕ)
    → HasFreeKeys rule schema table transactions base kept → HasFreeKeys rule schema table transactions base (map (lowered_own session level) kept)
keys_lowered rule schema table transactions base kept session level h = record {
  at_first = h.at_first;
  free_keys = brings_map rule schema table (lowered_own session level) (lower_change session level) (lower_before session level) (lower_after session level) (λ item. ap (λ s. not (is_undone s)) (lower_status session level item)) kept base h.free_keys;
  key_order = each_map (λ item. Unit {0}) (InKeyOrder rule schema table transactions) (InKeyOrder rule schema table transactions) (lowered_own session level)
      (λ p q x y order. lowered (λ i. InKeyOrder rule schema table transactions i (lowered_own session level q)) session level p
      (lowered (λ i. InKeyOrder rule schema table transactions (record p { level = p.level - 1 }) i) session level q order order)
      (lowered (λ i. InKeyOrder rule schema table transactions p i) session level q order order)) kept (all_each (λ item. Unit {0}) (λ item. tt) kept) h.key_order;
}

-- ---- a commit

pub commit_after : (session number : ℕ) (item : PastChange) → (committed_own session number item).after ≡ item.after
commit_after session number item = elim (is_open_change_of session item) as (λ b. (cond b (record item { status = committed number }) item).after ≡ item.after) [ true ↦ refl | false ↦ refl ]

pub keys_committed : (rule : IndexRule) (schema : Schema) (table n : ℕ) (transactions : ℕ → Option Transaction) (base : Records) (kept : List PastChange) (session : ℕ)
    → HasFreeKeys rule schema table transactions base kept → HasFreeKeys rule schema table (with_at session None transactions) base (map (committed_own session (n + 1)) kept)
keys_committed rule schema table n transactions base kept session h = record {
  at_first = h.at_first;
  free_keys = brings_map rule schema table (committed_own session (n + 1)) (commit_change session (n + 1)) (commit_before session (n + 1)) (commit_after session (n + 1)) (commit_live session (n + 1)) kept base h.free_keys;
  key_order = each_map (λ item. Unit {0}) (InKeyOrder rule schema table transactions) (InKeyOrder rule schema table (with_at session None transactions)) (committed_own session (n + 1))
      (λ p q x y. order_committed (MeetsKey rule schema table) session n transactions p q
      (meets_before rule schema table (committed_own session (n + 1)) (commit_change session (n + 1)) (commit_before session (n + 1)) (commit_after session (n + 1)) p q)) kept (all_each (λ item. Unit {0}) (λ item. tt) kept) h.key_order;
}

-- ---- a change

pub keys_changed : (rule : IndexRule) (schema : Schema) (table n : ℕ) (tables : List Table) (transactions : ℕ → Option Transaction) (base : Records) (kept : List PastChange) (t : Transaction) (new : PastChange)
    → new.number ≡ n + 1 → new.status ≡ uncommitted → transactions new.session ≡ Some t → AllByRecursion (IsPlaced n tables transactions) kept
    → (changed_table new.change ≡ table → (key other : List ℕ) → BringsKey rule schema key new → bytes_eq (changed_bookmark new.change) other ≡ false → yields_key rule schema key (records_after_items is_standing base kept table other) ≡ false)
    → AllByRecursion (λ p. is_standing p ≡ true → MeetsKey rule schema table p new → is_concurrent new.session (Some t) p ≡ false) kept
    → HasFreeKeys rule schema table transactions base kept → HasFreeKeys rule schema table transactions base (kept ++ new ∷ [])
keys_changed rule schema table n tables transactions base kept t new number is_new e placed free unmet h = record {
  at_first = h.at_first;
  free_keys = keys_append rule schema table kept base new h.free_keys (λ live. free);
  key_order = each_append (InKeyOrder rule schema table transactions) kept new h.key_order
      (all_both (IsPlaced n tables transactions) (λ p. is_standing p ≡ true → MeetsKey rule schema table p new → is_concurrent new.session (Some t) p ≡ false) (λ p. InKeyOrder rule schema table transactions p new)
      (order_new (MeetsKey rule schema table) n tables transactions t new number is_new e) kept placed unmet);
}

-- ---- entries that change no record

-- what a transaction of the session becomes, and those of others stay
abbrev IsAt : DatabaseState → DatabaseState → ℕ → Option Transaction → Type 0
IsAt state after label u = (transaction_of after ≡ with_at label u (transaction_of state)) × Follows (transaction_of state label) u

keys_moved : (rule : IndexRule) (schema : Schema) (table : ℕ) (base : Records) (dropped kept moved : List PastChange) (state after : DatabaseState) (label : ℕ) (u : Option Transaction) → IsAt state after label u
    → IsHistory base dropped kept state → IsHistory base dropped moved after → HasFreeKeys rule schema table (transaction_of state) base moved → HasFreeKeys rule schema table (transaction_of after) base moved
keys_moved rule schema table base dropped kept moved state after label u is h h_after free =
    keys_followed rule schema table after.number after.tables (transaction_of state) (transaction_of after) base moved
    (λ x. subst (λ (ts : ℕ → Option Transaction). Follows (transaction_of state x) (ts x)) (sym is.0) (follows_at state.number state.tables base kept (transaction_of state) h.keeps.begun label u is.1 x))
    h_after.keeps.placed free

-- an entry that is no change, no commit and no schema step
abbrev pub changes_records : EntryKind → Bool
changes_records (entry.Change change) = true
changes_records (entry.Schema made) = true
changes_records _ = false

pub keys_same : (rule : IndexRule) (schema : Schema) (table : ℕ) (base : Records) (kept : List PastChange) (one other : ℕ → Option Transaction) → other ≡ one → HasFreeKeys rule schema table one base kept → HasFreeKeys rule schema table other base kept
keys_same rule schema table base kept one other e h = subst (λ (ts : ℕ → Option Transaction). HasFreeKeys rule schema table ts base kept) (sym e) h

two_levels : (n : ℕ) → nat_le 2 n ≡ true → nat_lt 1 n ≡ true
two_levels n e = grind (arith, nat_tests)

pub keys_by_kind : (rule : IndexRule) (schema : Schema) (table : ℕ) (base : Records) (dropped kept : List PastChange) (state : DatabaseState) (label : ℕ) (kind : EntryKind) → changes_records kind ≡ false
    → IsHistory base dropped kept state → SeesNoSum rule table kept → is_lawful_kind state label kind ≡ true → IsHistory base dropped (kept_after state label kind kept) (applied label kind (with_next_number state))
    → HasFreeKeys rule schema table (transaction_of state) base kept → HasFreeKeys rule schema table (transaction_of (applied label kind (with_next_number state))) base (kept_after state label kind kept)
keys_by_kind rule schema table base dropped kept state label entry.Enter plain h sees e after free =
    keys_same rule schema table base kept (transaction_of state) _ (transaction-entered label (with_next_number state) (not-true (is_some (live_session state label)) (and_left _ _ e))) free
keys_by_kind rule schema table base dropped kept state label entry.Leave plain h sees e after free =
    let undoing : DatabaseState = with_changes_at label every_change (λ item. record item { status = undone }) (with_next_number state) in
    keys_moved rule schema table base dropped kept _ state _ label None
    (transaction-left label (all_undone label (with_next_number state)) ∙ ap (with_at label None) (transaction-ended label (with_changes_at label every_change (λ item. record item { status = undone }) (with_next_number state))) ∙ twice, tt) h after
    (keys_undone_own rule schema table state.number state.tables (transaction_of state) base kept label every_change (λ p q x y z w. refl) sees h.keeps free)
  where
    twice : with_at label None (with_at label None (transaction_of state)) ≡ with_at label None (transaction_of state)
    twice = λ i (x : ℕ). same (x == label) (transaction_of state x) i
      where
        same : (b : Bool) (t : Option Transaction) → cond b None (cond b None t) ≡ cond b None t
        same true t = refl
        same false t = refl
keys_by_kind rule schema table base dropped kept state label (entry.Open opened) plain h sees e after free =
    keys_same rule schema table base kept (transaction_of state) _ (same-with label _ (λ s. refl) (λ s. refl) (with_next_number state)) free
keys_by_kind rule schema table base dropped kept state label (entry.Shut opened) plain h sees e after free =
    keys_same rule schema table base kept (transaction_of state) _ (same-with label _ (λ s. refl) (λ s. refl) (with_next_number state)) free
keys_by_kind rule schema table base dropped kept state label entry.Begin plain h sees e after free =
    keys_same rule schema table base kept (with_at label (Some (record { levels = 1; begin = state.number + 1; snapshot = state.tables })) (transaction_of state)) _
    (transaction-begun label (record { levels = 1; begin = state.number + 1; snapshot = state.tables }) (with_next_number state) (and_left _ _ e))
    (record {
      at_first = free.at_first;
      free_keys = free.free_keys;
      key_order = each_both (IsPlaced state.number state.tables (transaction_of state)) (InKeyOrder rule schema table (transaction_of state))
          (InKeyOrder rule schema table (with_at label (Some (record { levels = 1; begin = state.number + 1; snapshot = state.tables })) (transaction_of state)))
          (λ p q pp pq. order_begun (MeetsKey rule schema table) state.number label state.tables (transaction_of state) (outside base dropped kept state h label (and_right (is_some (live_session state label)) _ e))
          (record { levels = 1; begin = state.number + 1; snapshot = state.tables }) p q pq) kept h.keeps.placed free.key_order;
    })
keys_by_kind rule schema table base dropped kept state label entry.Save plain h sees e after free =
    keys_moved rule schema table base dropped kept kept state _ label (at_levels (λ n. n + 1) (transaction_of state label)) (transaction-levels label (λ n. n + 1) (with_next_number state), more (transaction_of state label)) h after free
keys_by_kind rule schema table base dropped kept state label (entry.Change change) plain h sees e after free = impossible (sym plain)
keys_by_kind rule schema table base dropped kept state label entry.Release plain h sees e after free =
    keys_moved rule schema table base dropped kept _ state _ label (at_levels (λ n. n - 1) (transaction_of state label))
    (transaction-levels label (λ n. n - 1) (with_changes_at label (is_at_level (levels state label)) (λ item. record item { level = item.level - 1 }) (with_next_number state)), fewer (transaction_of state label) (two_levels (levels state label) e))
    h after (keys_lowered rule schema table (transaction_of state) base kept label (levels state label) free)
keys_by_kind rule schema table base dropped kept state label entry.Undo plain h sees e after free =
    elim (nat_lt 1 (levels state label)) as (λ b. nat_lt 1 (levels state label) ≡ b → IsHistory base dropped kept_undone (cond b (with_levels label (λ n. n - 1) undoing) (with_transaction label None undoing))
    → HasFreeKeys rule schema table (transaction_of (cond b (with_levels label (λ n. n - 1) undoing) (with_transaction label None undoing))) base kept_undone) [
      | true ↦ λ more after. keys_moved rule schema table base dropped kept kept_undone state _ label (at_levels (λ n. n - 1) (transaction_of state label))
          (transaction-levels label (λ n. n - 1) undoing, fewer (transaction_of state label) more) h after made
      | false ↦ λ last after. keys_moved rule schema table base dropped kept kept_undone state _ label None (transaction-ended label undoing, tt) h after made
    ] refl after
  where
    undoing : DatabaseState
    undoing = with_changes_at label (is_at_level (levels state label)) (λ item. record item { status = undone }) (with_next_number state)

    kept_undone : List PastChange
    kept_undone = map (undone_where (is_own_open label (is_at_level (levels state label)))) kept

    made : HasFreeKeys rule schema table (transaction_of state) base kept_undone
    made = keys_undone_own rule schema table state.number state.tables (transaction_of state) base kept label (is_at_level (levels state label)) (at_innermost label state) sees h.keeps free
keys_by_kind rule schema table base dropped kept state label entry.UndoAll plain h sees e after free =
    keys_moved rule schema table base dropped kept _ state _ label None (transaction-ended label (with_changes_at label every_change (λ item. record item { status = undone }) (with_next_number state)), tt) h after
    (keys_undone_own rule schema table state.number state.tables (transaction_of state) base kept label every_change (λ p q x y z w. refl) sees h.keeps free)
keys_by_kind rule schema table base dropped kept state label entry.Commit plain h sees e after free =
    keys_same rule schema table base _ (with_at label None (transaction_of state)) _ (transaction-ended label (with_changes_at label every_change (λ item. record item { status = committed (state.number + 1) }) (record (with_next_number state) { tables = tables_after_all state.tables (open_changes_of label state.past) })))
    (keys_committed rule schema table state.number (transaction_of state) base kept label free)
keys_by_kind rule schema table base dropped kept state label (entry.Schema made) plain h sees e after free = impossible (sym plain)
