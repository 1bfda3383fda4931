-- Tables stay in order, and so do their records.
use Rattle.std.proofs.Common.{◌≡◌, ℕ, ◌+◌, ◌-◌, ◌<◌, ◌≤◌, Bool, true, false, not, cond, List, [], ◌∷◌, Option, Some, None, refl, sym, ap, subst, ◌∙◌, bytes_eq, arith}
use Rattle.std.specs.Prelude.{◌==◌, filter, map, nat_lt}
use Rattle.std.specs.List.{AllByRecursion, list_all}
use Rattle.std.specs.declared.cmp.Ordering.TheVariants.{Less}
use Rattle.std.specs.Ordering.{is_lt, ordering_then}
use Rattle.std.proofs.lemmas.Bool.Decides.{nat_tests}
use Rattle.std.proofs.lemmas.Bool.{and_from, eqb-true}
use Rattle.common_lemmas.proofs.Booleans.{and_left, and_right}
use Rattle.common_lemmas.proofs.Lists.{all_append, all_each, all_filter, all_map, all_weaker}
use Rattle.column_set.specs.declared.changes.Change.{Change}
use Rattle.column_set.specs.declared.changes.Change.TheVariants.{Put, Drop, Hold, Add}
use Rattle.column_set.specs.RecordValues.{RecordFields, with_values, tagged_if_long}
use Rattle.cursor_nav.specs.Places.{are_sorted, pair_lt}
use Rattle.index_derive.specs.declared.log.Entry.{Entry}
use Rattle.index_derive.specs.declared.log.EntryKind.{EntryKind}
use Rattle.index_derive.specs.declared.log.EntryKind.TheVariants as entry
use Rattle.index_derive.specs.declared.schema_calls.SchemaStep.{SchemaStep}
use Rattle.index_derive.specs.declared.schema_calls.SchemaStep.TheVariants as step
use Rattle.index_derive.specs.Entries.{own_order}
use Rattle.index_derive.specs.RisingKeys.{key_cmp}
use Rattle.database_state.specs.Table.{Rows, Table, row_at, table_with_id}
use Rattle.database_state.specs.Changes.{rows_after, rows_with_sum, tables_after, tables_after_all, with_sum}
use Rattle.column_set.specs.ChangedRecords.{changed_table}
use Rattle.database_state.specs.SchemaChanges.{greatest_table_after, new_table, tables_after_step, with_column, with_index, without_column, without_index}
use Rattle.database_state.specs.State.{DatabaseState, levels, open_changes_of, undone}
use Rattle.database_state.specs.Step.{applied, is_at_level, state_after, with_changes_at, with_levels, with_transaction}
use Rattle.database_state.specs.Lawful.{has_next_numbers, has_number, is_lawful, is_lawful_kind}
use Rattle.laws_versions.proofs.IndexLemmas.PairOrder.{pair_lt-is}
use Rattle.laws_versions.proofs.IndexLemmas.Rows.{IsBelow, RowsRise, rise-put, rise-sorted}
use Rattle.laws_versions.specs.History.{EachTwo}
use Rattle.laws_versions.specs.KeptSteps.{with_next_number}
use Rattle.laws_versions.proofs.HistoryLemmas.Lists.{each_append, each_map}
use Rattle.laws_versions.specs.TableOrder.{HasTablesInOrder, IdsRise}

-- ---- records in order

sorted_rise : (rows : Rows) → RowsRise rows → are_sorted (own_order rows) ≡ true
sorted_rise [] h = refl
sorted_rise (row ∷ rows) h = and_from (list_all (pair_lt (row.0, row.0)) (own_order rows)) (are_sorted (own_order rows)) (above rows h.0) (sorted_rise rows h.1)
  where
    above : (rest : Rows) → IsBelow row.0 rest → list_all (pair_lt (row.0, row.0)) (own_order rest) ≡ true
    above [] b = refl
    above (other ∷ rest) b = and_from (pair_lt (row.0, row.0) (other.0, other.0)) (list_all (pair_lt (row.0, row.0)) (own_order rest))
        (pair_lt-is (row.0, row.0) (other.0, other.0) ∙ ap (λ o. is_lt (ordering_then o (key_cmp row.0 other.0))) b.0) (above rest b.1)

rise_filter : (p : List ℕ × RecordFields → Bool) (rows : Rows) → RowsRise rows → RowsRise (filter p rows)
rise_filter p [] h = tt
rise_filter p (row ∷ rows) h = elim (p row) as (λ b. RowsRise (cond b (row ∷ filter p rows) (filter p rows))) [
  | true ↦ (all_filter (λ other. key_cmp row.0 other.0 ≡ Less) p rows h.0, rise_filter p rows h.1)
  | false ↦ rise_filter p rows h.1
]

rise_after : (rows : Rows) (change : Change) → RowsRise rows → RowsRise (rows_after rows change)
rise_after rows (Put table bookmark copied values) h = rise-put bookmark values rows h
rise_after rows (Drop table bookmark) h = rise_filter (λ row. not (bytes_eq row.0 bookmark)) rows h
rise_after rows (Hold table bookmark) h = h
rise_after rows (Add table bookmark column amount) h = by (row_at rows bookmark)
  where
    by : (found : Option RecordFields) → RowsRise (rows_with_sum rows bookmark found column.0 amount)
    by None = h
    by (Some values) = rise-put bookmark (with_sum values column.0 amount) rows h

-- ---- tables that change in place

abbrev InOrderTo : ℕ → List Table → Type 0
InOrderTo greatest tables = EachTwo IdsRise tables × AllByRecursion (λ t. (0 < t.id) × (t.id ≤ greatest)) tables × AllByRecursion (λ t. RowsRise t.rows) tables

mapped_order : (greatest : ℕ) (f : Table → Table) → ((t : Table) → (f t).id ≡ t.id) → ((t : Table) → RowsRise t.rows → RowsRise (f t).rows) → (tables : List Table) → InOrderTo greatest tables → InOrderTo greatest (map f tables)
mapped_order greatest f same rise tables h = (
  each_map (λ t. Unit {0}) IdsRise IdsRise f (λ one other x y less. subst (λ (a : ℕ). a < (f other).id) (sym (same one)) (subst (λ (b : ℕ). one.id < b) (sym (same other)) less)) tables (all_each (λ t. Unit {0}) (λ t. tt) tables) h.0,
  all_map (λ t. (0 < t.id) × (t.id ≤ greatest)) f tables (all_weaker (λ t. (0 < t.id) × (t.id ≤ greatest)) (λ t. (0 < (f t).id) × ((f t).id ≤ greatest)) (λ t le. subst (λ (a : ℕ). (0 < a) × (a ≤ greatest)) (sym (same t)) le) tables h.1),
  all_map (λ t. RowsRise t.rows) f tables (all_weaker (λ t. RowsRise t.rows) (λ t. RowsRise (f t).rows) rise tables h.2),
)

with_order : (greatest id : ℕ) (change : Table → Table) → ((t : Table) → (change t).id ≡ t.id) → ((t : Table) → RowsRise t.rows → RowsRise (change t).rows) → (tables : List Table) → InOrderTo greatest tables
    → InOrderTo greatest (map (λ t. cond (t.id == id) (change t) t) tables)
with_order greatest id change same rise tables h = mapped_order greatest (λ t. cond (t.id == id) (change t) t)
    (λ t. elim (t.id == id) as (λ b. (cond b (change t) t).id ≡ t.id) [ true ↦ same t | false ↦ refl ])
    (λ t r. elim (t.id == id) as (λ b. RowsRise (cond b (change t) t).rows) [ true ↦ rise t r | false ↦ r ]) tables h

pub order_after : (greatest : ℕ) (tables : List Table) (changes : List Change) → InOrderTo greatest tables → InOrderTo greatest (tables_after_all tables changes)
order_after greatest tables [] h = h
order_after greatest tables (change ∷ changes) h =
    order_after greatest (tables_after tables change) changes
    (with_order greatest (changed_table change) (λ t. record t { rows = rows_after t.rows change }) (λ t. refl) (λ t r. rise_after t.rows change r) tables h)

pub to_rise : (state : DatabaseState) → HasTablesInOrder state → InOrderTo state.greatest_table state.tables
to_rise state h = (h.ids, h.given, all_weaker (λ t. are_sorted (own_order t.rows) ≡ true) (λ t. RowsRise t.rows) (λ t sorted. rise-sorted t.rows sorted) state.tables h.rows)

from_rise : (state : DatabaseState) → InOrderTo state.greatest_table state.tables → HasTablesInOrder state
from_rise state h = record { ids = h.0; given = h.1; rows = all_weaker (λ t. RowsRise t.rows) (λ t. are_sorted (own_order t.rows) ≡ true) (λ t r. sorted_rise t.rows r) state.tables h.2 }

-- each table is found
pub found_each : (tables : List Table) → EachTwo IdsRise tables → AllByRecursion (λ t. table_with_id tables t.id ≡ Some t) tables
found_each [] h = tt
found_each (t ∷ tables) h = (
  ap (λ b. cond b (Some t) (table_with_id tables t.id)) (self t.id),
  both (IdsRise t) (λ u. table_with_id tables u.id ≡ Some u) (λ u. table_with_id (t ∷ tables) u.id ≡ Some u)
      (λ u less e. ap (λ b. cond b (Some t) (table_with_id tables u.id)) (apart t.id u.id less) ∙ e) tables h.0 (found_each tables h.1),
)
  where
    self : (n : ℕ) → (n == n) ≡ true
    self n = grind (arith, nat_tests)

    apart : (a b : ℕ) → a < b → (a == b) ≡ false
    apart a b lt = grind (arith, nat_tests)

    both : (P Q R : Table → Type 0) → ((u : Table) → P u → Q u → R u) → (us : List Table) → AllByRecursion P us → AllByRecursion Q us → AllByRecursion R us
    both P Q R f [] p q = tt
    both P Q R f (u ∷ us) p q = (f u p.0 q.0, both P Q R f us p.1 q.1)

-- ---- schema steps

each_filter : (R : Table → Table → Type 0) (p : Table → Bool) (tables : List Table) → EachTwo R tables → EachTwo R (filter p tables)
each_filter R p [] h = tt
each_filter R p (t ∷ tables) h = elim (p t) as (λ b. EachTwo R (cond b (t ∷ filter p tables) (filter p tables))) [
  | true ↦ (all_filter (R t) p tables h.0, each_filter R p tables h.1)
  | false ↦ each_filter R p tables h.1
]

rise_map : (f : RecordFields → RecordFields) (rows : Rows) → RowsRise rows → RowsRise (map (λ row. (row.0, f row.1)) rows)
rise_map f [] h = tt
rise_map f (row ∷ rows) h = (all_map (λ other. key_cmp row.0 other.0 ≡ Less) (λ row. (row.0, f row.1)) rows h.0, rise_map f rows h.1)

order_step : (state : DatabaseState) (made : SchemaStep) → has_next_numbers state made ≡ true → InOrderTo state.greatest_table state.tables → InOrderTo (greatest_table_after state.greatest_table made) (tables_after_step state.tables made)
order_step state (step.CreateTable table name) numbers h =
    let next : table.0 ≡ state.greatest_table + 1 = eqb-true table.0 (state.greatest_table + 1) (and_left _ _ numbers) in (
      each_append IdsRise state.tables (new_table table.0 name) h.0 (all_weaker (λ t. (0 < t.id) × (t.id ≤ state.greatest_table)) (λ t. t.id < table.0) (λ t le. above t.id state.greatest_table table.0 le.1 next) state.tables h.1),
      all_append (λ t. (0 < t.id) × (t.id ≤ table.0)) state.tables (new_table table.0 name ∷ []) (all_weaker (λ t. (0 < t.id) × (t.id ≤ state.greatest_table)) (λ t. (0 < t.id) × (t.id ≤ table.0)) (λ t le. (le.0, below t.id state.greatest_table table.0 le.1 next)) state.tables h.1) ((positive state.greatest_table table.0 next, itself table.0), tt),
      all_append (λ t. RowsRise t.rows) state.tables (new_table table.0 name ∷ []) h.2 (tt, tt),
    )
  where
    above : (a g n : ℕ) → a ≤ g → n ≡ g + 1 → a < n
    above a g n le e = omega arith

    below : (a g n : ℕ) → a ≤ g → n ≡ g + 1 → a ≤ n
    below a g n le e = omega arith

    positive : (g n : ℕ) → n ≡ g + 1 → 0 < n
    positive g n e = omega arith

    itself : (n : ℕ) → n ≤ n
    itself n = omega arith
order_step state (step.DeleteTable table) numbers h = (
  each_filter IdsRise (λ t. not (t.id == table.0)) state.tables h.0,
  all_filter (λ t. (0 < t.id) × (t.id ≤ state.greatest_table)) (λ t. not (t.id == table.0)) state.tables h.1,
  all_filter (λ t. RowsRise t.rows) (λ t. not (t.id == table.0)) state.tables h.2,
)
order_step state (step.AddColumn table column) numbers h = with_order state.greatest_table table.0 (with_column (tagged_if_long column)) (λ t. refl) (λ t r. r) state.tables h
order_step state (step.DeleteColumn table column) numbers h =
    with_order state.greatest_table table.0 (without_column column.0) (λ t. refl) (λ t r. rise_map (λ values. with_values values column.0 []) t.rows r) state.tables h
order_step state (step.CreateIndex table rule) numbers h = with_order state.greatest_table table.0 (with_index rule) (λ t. refl) (λ t r. r) state.tables h
order_step state (step.DeleteIndex table index) numbers h = with_order state.greatest_table table.0 (without_index index.0) (λ t. refl) (λ t r. r) state.tables h

-- ---- any entry

order_by_kind : (state : DatabaseState) (label : ℕ) (kind : EntryKind) → is_lawful_kind state label kind ≡ true → HasTablesInOrder state → HasTablesInOrder (applied label kind (with_next_number state))
order_by_kind state label entry.Enter e h = record { ids = h.ids; given = h.given; rows = h.rows }
order_by_kind state label entry.Leave e h = record { ids = h.ids; given = h.given; rows = h.rows }
order_by_kind state label (entry.Open table) e h = record { ids = h.ids; given = h.given; rows = h.rows }
order_by_kind state label (entry.Shut table) e h = record { ids = h.ids; given = h.given; rows = h.rows }
order_by_kind state label entry.Begin e h = record { ids = h.ids; given = h.given; rows = h.rows }
order_by_kind state label entry.Save e h = record { ids = h.ids; given = h.given; rows = h.rows }
order_by_kind state label (entry.Change change) e h = record { ids = h.ids; given = h.given; rows = h.rows }
order_by_kind state label entry.Release e h = record { ids = h.ids; given = h.given; rows = h.rows }
order_by_kind state label entry.Undo e h =
    elim (nat_lt 1 (levels state label)) as (λ b. HasTablesInOrder (cond b (with_levels label (λ n. n - 1) undoing) (with_transaction label None undoing))) [
      | true ↦ record { ids = h.ids; given = h.given; rows = h.rows }
      | false ↦ record { ids = h.ids; given = h.given; rows = h.rows }
    ]
  where
    undoing : DatabaseState
    undoing = with_changes_at label (is_at_level (levels state label)) (λ item. record item { status = undone }) (with_next_number state)
order_by_kind state label entry.UndoAll e h = record { ids = h.ids; given = h.given; rows = h.rows }
order_by_kind state label entry.Commit e h = from_rise (applied label entry.Commit (with_next_number state)) (order_after state.greatest_table state.tables (open_changes_of label state.past) (to_rise state h))
order_by_kind state label (entry.Schema made) e h = from_rise (applied label (entry.Schema made) (with_next_number state)) (order_step state made (and_right _ _ e) (to_rise state h))

pub order_kept : (state : DatabaseState) (made : Entry) → HasTablesInOrder state → is_lawful state made ≡ true → HasTablesInOrder (state_after state made)
unfolding is_lawful state_after
order_kept state made h e = order_by_kind state made.session.0 made.kind (and_right (has_number state.number made.kind) _ e) h
