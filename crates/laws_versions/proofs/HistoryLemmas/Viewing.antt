-- What a session sees, as the kept changes give it.
use Rattle.std.proofs.Common.{◌≡◌, ℕ, true, false, cond, List, [], ◌∷◌, Option, Some, None, refl, sym, ap, subst, ◌∙◌}
use Rattle.std.specs.Prelude.{◌==◌, is_some, map, filter, fold, IfSome}
use Rattle.std.proofs.lemmas.Bool.{eqb-true, false_from_ne_true}
use Rattle.common_lemmas.proofs.Booleans.{and_left, and_right}
use Rattle.common_lemmas.proofs.Lists.{all_filter, all_weaker, filter_none}
use Rattle.database_state.specs.Table.{Table, table_with_id}
use Rattle.database_state.specs.Changes.{tables_after_all}
use Rattle.column_set.specs.ChangedRecords.{changed_table}
use Rattle.database_state.specs.State.{DatabaseState, PastChange, Transaction, Status, uncommitted, committed, undone, is_open, is_open_change_of, change_of, transaction_of}
use Rattle.database_state.specs.View.{newest, view, view_in}
use Rattle.laws_versions.specs.Records.{IsThere, Records, after_item, records_after_items, records_of}
use Rattle.laws_versions.specs.History.{IsBegun, IsHistory, IsOpenIn, IsPlaced, IsPlacedBy, without_rows}
use Rattle.laws_versions.specs.Readers.{found_record, hides, is_unseen, sees, until, was_committed}
use Rattle.laws_versions.proofs.HistoryLemmas.FoundRecord.{found}
use Rattle.laws_versions.proofs.HistoryLemmas.SeenEarlier.{seen_earlier}
use Rattle.laws_versions.proofs.HistoryLemmas.SeenRecords.{folded, newest_records, of_kept, open_after, own_open}

-- ---- outside a transaction

pub none_open : (number : ℕ) (tables : List Table) (transactions : ℕ → Option Transaction) (session : ℕ) → transactions session ≡ None → (item : PastChange) → IsPlaced number tables transactions item → is_open_change_of session item ≡ false
none_open number tables transactions session e item placed = false_from_ne_true (is_open_change_of session item) (λ own. by item.status (and_left _ _ own) placed.2 (eqb-true item.session session (and_right (is_open item.status) _ own)))
  where
    by : (s : Status) → is_open s ≡ true → IsPlacedBy number transactions item s → item.session ≡ session → ⊥
    by uncommitted h open_in is = subst (IsOpenIn item) (ap transactions is ∙ e) open_in
    by (committed n) h open_in is = absurd_of h
      where
        absurd_of : false ≡ true → ⊥
        absurd_of h = cc
    by undone h open_in is = absurd_of h
      where
        absurd_of : false ≡ true → ⊥
        absurd_of h = cc

-- ---- the tables of a snapshot

there_without : (tables : List Table) (id : ℕ) → is_some (table_with_id (map without_rows tables) id) ≡ is_some (table_with_id tables id)
there_without [] id = refl
there_without (t ∷ tables) id = elim (t.id == id) as (λ b. is_some (cond b (Some (without_rows t)) (table_with_id (map without_rows tables) id)) ≡ is_some (cond b (Some t) (table_with_id tables id))) [
  | true ↦ refl
  | false ↦ there_without tables id
]

pub same_there : (one other : List Table) → map without_rows one ≡ map without_rows other → (id : ℕ) → is_some (table_with_id one id) ≡ is_some (table_with_id other id)
same_there one other e id = sym (there_without one id) ∙ ap (λ tables. is_some (table_with_id tables id)) e ∙ there_without other id

-- ---- the view

view_by : (base : Records) (dropped kept : List PastChange) (state : DatabaseState) → IsHistory base dropped kept state → (session : ℕ) (t : Option Transaction) → transaction_of state session ≡ t
    → records_of (view_in state session t) ≡ records_after_items (sees session t) base kept
view_by base dropped kept state h session None e =
    h.keeps.committed
    ∙ ap (λ items. fold after_item (records_after_items (was_committed None) base kept) items) (sym (filter_none (is_open_change_of session) kept (all_weaker (IsPlaced state.number state.tables (transaction_of state)) (λ item. is_open_change_of session item ≡ false) (none_open state.number state.tables (transaction_of state) session e) kept h.keeps.placed)))
    ∙ open_after (transaction_of state) None (is_open_change_of session) (own_open session) base kept h.keeps.in_order
view_by base dropped kept state h session (Some t) e =
    let begun : IsBegun state.number state.tables base kept t = subst (λ u. IfSome u (IsBegun state.number state.tables base kept)) e (h.keeps.begun session) in
    ap (λ items. records_of (tables_after_all t.snapshot (map change_of items))) (of_kept base dropped kept state h (is_open_change_of session) (own_open session))
    ∙ folded t.snapshot (filter (is_open_change_of session) kept)
    (all_filter (λ item. IsThere t.snapshot item.change) (is_open_change_of session) kept
    (all_weaker (IsPlaced state.number state.tables (transaction_of state)) (λ item. IsThere t.snapshot item.change) (λ item p. same_there t.snapshot state.tables begun.defined (changed_table item.change) ∙ p.1) kept h.keeps.placed))
    ∙ ap (λ r. fold after_item r (filter (is_open_change_of session) kept)) begun.snapshot
    ∙ open_after (transaction_of state) (Some t) (is_open_change_of session) (own_open session) base kept h.keeps.in_order

pub view_records : (base : Records) (dropped kept : List PastChange) (state : DatabaseState) → IsHistory base dropped kept state → (session : ℕ)
    → records_of (view state session) ≡ records_after_items (sees session (transaction_of state session)) base kept
unfolding view
view_records base dropped kept state h session = view_by base dropped kept state h session (transaction_of state session) refl

-- ---- what is found

pub found_in : (base : Records) (dropped kept : List PastChange) (state : DatabaseState) → IsHistory base dropped kept state → (session table : ℕ) (bookmark : List ℕ)
    → found_record session (transaction_of state session) table bookmark (records_of (newest state) table bookmark) kept
    ≡ records_after_items (is_unseen session (transaction_of state session)) (records_of (view state session)) (until (hides session (transaction_of state session) table bookmark) kept) table bookmark
found_in base dropped kept state h session table bookmark =
    let t = transaction_of state session in
    found session (transaction_of state session) table bookmark base kept (records_of (newest state) table bookmark)
    (seen_earlier state.number state.tables (transaction_of state) base kept h.keeps session) h.keeps.befores (ap (λ (r : Records). r table bookmark) (newest_records base dropped kept state h))
    ∙ ap (λ (r : Records). records_after_items (is_unseen session (transaction_of state session)) r (until (hides session (transaction_of state session) table bookmark) kept) table bookmark) (sym (view_records base dropped kept state h session))
