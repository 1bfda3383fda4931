-- No reader finds a key of a unique index at two records.
use Rattle.std.proofs.Common.{◌≡◌, inl, inr, ℕ, List, Option, refl, sym, subst}
use Rattle.common_lemmas.proofs.Lists.{all_weaker}
use Rattle.index_derive.specs.declared.rules.IndexRule.{IndexRule}
use Rattle.index_derive.specs.declared.rules.Schema.{Schema}
use Rattle.database_state.specs.Table.{Table}
use Rattle.database_state.specs.State.{DatabaseState, PastChange, Transaction, transaction_of}
use Rattle.database_state.specs.View.{newest, view}
use Rattle.laws_versions.specs.Records.{Records, record_after, records_of}
use Rattle.laws_versions.specs.History.{InOrder, IsHistory, IsPlaced}
use Rattle.laws_versions.specs.Readers.{is_standing, sees}
use Rattle.laws_versions.specs.UniqueKeys.{AreUnique, HasFreeKeys, InKeyOrder, SeesEarlier}
use Rattle.laws_versions.specs.KeySums.{SeesNoSum}
use Rattle.laws_versions.proofs.HistoryLemmas.FoundRecord.{seen_live}
use Rattle.laws_versions.proofs.HistoryLemmas.Lists.{each_and, each_both, each_weaker}
use Rattle.laws_versions.proofs.HistoryLemmas.SeenEarlier.{seen_where_apart}
use Rattle.laws_versions.proofs.HistoryLemmas.SeenRecords.{newest_records}
use Rattle.laws_versions.proofs.HistoryLemmas.Viewing.{view_records}
use Rattle.laws_versions.proofs.KeyLemmas.UniqueThroughout.{unique_throughout}

-- ---- a session

seen_pair : (rule : IndexRule) (schema : Schema) (table : ℕ) (number : ℕ) (tables : List Table) (transactions : ℕ → Option Transaction) (session : ℕ) (p q : PastChange) → IsPlaced number tables transactions p → IsPlaced number tables transactions q
    → InOrder transactions p q × InKeyOrder rule schema table transactions p q → SeesEarlier rule schema table (sees session (transactions session)) p q
seen_pair rule schema table number tables transactions session p q placed_p placed_q orders live seen either =
    seen_where_apart number tables transactions session p q placed_q live (λ standing. elim either [ inl hit ↦ orders.0 live standing hit | inr meets ↦ orders.1 live standing meets ]) seen

pub unique_in_view : (base : Records) (dropped kept : List PastChange) (state : DatabaseState) → IsHistory base dropped kept state → (rule : IndexRule) (schema : Schema) (table : ℕ)
    → SeesNoSum rule table kept → HasFreeKeys rule schema table (transaction_of state) base kept → (session : ℕ) → AreUnique rule schema table (records_of (view state session))
unique_in_view base dropped kept state h rule schema table plain free session =
    subst (AreUnique rule schema table) (sym (view_records base dropped kept state h session))
    (unique_throughout rule schema table (sees session (transaction_of state session)) (seen_live session (transaction_of state session)) kept base base h.keeps.befores plain
    (all_weaker (IsPlaced state.number state.tables (transaction_of state)) (λ item. item.after ≡ record_after item.change item.before) (λ item p. p.3) kept h.keeps.placed)
    free.free_keys
    (each_both (IsPlaced state.number state.tables (transaction_of state)) (λ p q. InOrder (transaction_of state) p q × InKeyOrder rule schema table (transaction_of state) p q) (SeesEarlier rule schema table (sees session (transaction_of state session)))
    (seen_pair rule schema table state.number state.tables (transaction_of state) session) kept h.keeps.placed (each_and (InOrder (transaction_of state)) (InKeyOrder rule schema table (transaction_of state)) kept h.keeps.in_order free.key_order))
    (λ bookmark. inl (λ key. refl)) free.at_first)

-- ---- the newest state

pub unique_newest : (base : Records) (dropped kept : List PastChange) (state : DatabaseState) → IsHistory base dropped kept state → (rule : IndexRule) (schema : Schema) (table : ℕ)
    → SeesNoSum rule table kept → HasFreeKeys rule schema table (transaction_of state) base kept → AreUnique rule schema table (records_of (newest state))
unique_newest base dropped kept state h rule schema table plain free =
    subst (AreUnique rule schema table) (sym (newest_records base dropped kept state h))
    (unique_throughout rule schema table is_standing (λ item standing. standing) kept base base h.keeps.befores plain
    (all_weaker (IsPlaced state.number state.tables (transaction_of state)) (λ item. item.after ≡ record_after item.change item.before) (λ item p. p.3) kept h.keeps.placed)
    free.free_keys
    (each_weaker (InOrder (transaction_of state)) (SeesEarlier rule schema table is_standing) (λ p q order live seen either. live) kept h.keeps.in_order)
    (λ bookmark. inl (λ key. refl)) free.at_first)
