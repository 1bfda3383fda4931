-- A commit in a transaction of one level is always lawful.
use Rattle.std.proofs.Common.{◌≡◌, ℕ, true, List, Some, ap, ◌∙◌}
use Rattle.std.specs.Prelude.{◌==◌}
use Rattle.std.proofs.lemmas.Bool.{and_from}
use Rattle.common_lemmas.proofs.Numbers.{self_equal}
use Rattle.index_derive.specs.declared.log.EntryKind.TheVariants as entry
use Rattle.database_state.specs.Table.{table_with_id}
use Rattle.database_state.specs.Changes.{tables_after_all}
use Rattle.database_state.specs.State.{DatabaseState, PastChange, levels, open_changes_of}
use Rattle.database_state.specs.Step.{state_after}
use Rattle.database_state.specs.Lawful.{is_lawful}
use Rattle.laws_versions.proofs.IndexLemmas.Adding.{KeysRise}
use Rattle.laws_versions.proofs.IndexLemmas.Rows.{RowsRise}
use Rattle.laws_versions.specs.Records.{Records}
use Rattle.laws_versions.specs.History.{IsHistory}
use Rattle.laws_versions.proofs.HistoryLemmas.Lists.{all_both}
use Rattle.laws_versions.specs.TableOrder.{HasTablesInOrder}
use Rattle.laws_versions.specs.UniqueKeys.{HasUniqueKeys}
use Rattle.laws_versions.specs.KeySums.{IndexesSeeNoSum}
use Rattle.laws_versions.proofs.KeyLemmas.CommitKeys.{committed_unique}
use Rattle.laws_versions.proofs.KeyLemmas.OrderedTables.{found_each, order_after, to_rise}

pub commit_lawful : KeysRise → (base : Records) (dropped kept : List PastChange) (state : DatabaseState) (label : ℕ) → IsHistory base dropped kept state → IndexesSeeNoSum kept state → HasUniqueKeys base kept state → HasTablesInOrder state → levels state label ≡ 1
    → is_lawful state (record { session = record { 0 = label }; kind = entry.Commit }) ≡ true
unfolding is_lawful state_after
commit_lawful rise base dropped kept state label h sees unique ordered one =
    let order = order_after state.greatest_table state.tables (open_changes_of label state.past) (to_rise state ordered) in
    and_from _ _ (ap (λ n. n == 1) one ∙ self_equal 1)
    (committed_unique rise base dropped kept state label h sees unique
    (all_both (λ t. table_with_id (tables_after_all state.tables (open_changes_of label state.past)) t.id ≡ Some t) (λ t. RowsRise t.rows) (λ t. (table_with_id (tables_after_all state.tables (open_changes_of label state.past)) t.id ≡ Some t) × RowsRise t.rows)
    (λ t found rise. (found, rise)) (tables_after_all state.tables (open_changes_of label state.past)) (found_each (tables_after_all state.tables (open_changes_of label state.past)) order.0) order.2))
