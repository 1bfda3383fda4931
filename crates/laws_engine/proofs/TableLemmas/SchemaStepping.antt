-- What schema steps make of versioned tables.
use Rattle.std.proofs.Common.{◌≡◌, ℕ, Bool, true, false, not, cond, List, [], ◌∷◌, ◌++◌, map, filter, Option, Some, None, refl, sym, ap, ◌∙◌}
use Rattle.std.specs.Prelude.{◌==◌, fold, option_map, is_none}
use Rattle.std.specs.List.{AllByRecursion}
use Rattle.std.proofs.lemmas.Bool.{eqb-true}
use Rattle.common_lemmas.proofs.Booleans.{and_left, and_right, impossible}
use Rattle.index_derive.specs.declared.log.Entry.{Entry}
use Rattle.index_derive.specs.declared.log.EntryKind.TheVariants as entry
use Rattle.index_derive.specs.declared.schema_calls.SchemaStep.{SchemaStep}
use Rattle.index_derive.specs.declared.schema_calls.SchemaStep.TheVariants as step
use Rattle.column_set.specs.RecordValues.{tagged_if_long}
use Rattle.database_state.specs.Table.{Table, row_at, rows_of, table_with_id, with_table}
use Rattle.database_state.specs.State.{DatabaseState, PastChange, Status, uncommitted, committed, undone, transaction_of}
use Rattle.database_state.specs.SchemaChanges.{new_table, tables_after_step, with_column, without_column, with_index, without_index}
use Rattle.database_state.specs.Step.{state_after}
use Rattle.database_state.specs.Lawful.{has_number, is_lawful, is_live}
use Rattle.laws_versions.specs.Records.{Records, after_item, records_after_items, records_of}
use Rattle.laws_versions.specs.History.{IsHistory, IsOpenIn, IsPlaced, IsPlacedBy, without_rows}
use Rattle.laws_versions.specs.Readers.{is_standing, was_committed, was_committed_status}
use Rattle.laws_versions.proofs.HistoryLemmas.LawfulEntries.{all_outside, keeps_lawful}
use Rattle.laws_versions.proofs.HistoryLemmas.SeenRecords.{newest_records}
use Rattle.laws_engine.specs.VersionedTables.{VersionedTables, with_schema_step}
use Rattle.laws_engine.specs.Holding.{Holds}
use Rattle.laws_engine.proofs.TableLemmas.Rising.{same_table}
use Rattle.laws_engine.proofs.TableLemmas.RisingSteps.{step_keeps_order, step_rises}

-- ---- definitions

bare_with : (id : ℕ) (change : Table → Table) → ((t : Table) → without_rows (change t) ≡ without_rows (change (without_rows t))) → (tables : List Table) → map without_rows (with_table id change tables) ≡ map without_rows (with_table id change (map without_rows tables))
bare_with id change same [] = refl
bare_with id change same (t ∷ tables) = λ i. by (t.id == id) i ∷ bare_with id change same tables i
  where
    by : (b : Bool) → without_rows (cond b (change t) t) ≡ without_rows (cond b (change (without_rows t)) (without_rows t))
    by true = same t
    by false = refl

bare_append : (tables : List Table) (new : Table) → map without_rows (tables ++ new ∷ []) ≡ map without_rows (map without_rows tables ++ new ∷ [])
bare_append [] new = refl
bare_append (t ∷ tables) new = λ i. without_rows t ∷ bare_append tables new i

bare_filter : (id : ℕ) (tables : List Table) → map without_rows (filter (λ t. not (t.id == id)) tables) ≡ map without_rows (filter (λ t. not (t.id == id)) (map without_rows tables))
bare_filter id [] = refl
bare_filter id (t ∷ tables) = by (t.id == id) (bare_filter id tables)
  where
    by : (b : Bool) → map without_rows (filter (λ t. not (t.id == id)) tables) ≡ map without_rows (filter (λ t. not (t.id == id)) (map without_rows tables))
        → map without_rows (cond (not b) (t ∷ filter (λ t. not (t.id == id)) tables) (filter (λ t. not (t.id == id)) tables))
        ≡ map without_rows (cond (not b) (without_rows t ∷ filter (λ t. not (t.id == id)) (map without_rows tables)) (filter (λ t. not (t.id == id)) (map without_rows tables)))
    by true rest = rest
    by false rest = λ i. without_rows t ∷ rest i

-- a step makes of the definitions what it makes of the tables
step_bare : (tables : List Table) (made : SchemaStep) → map without_rows (tables_after_step tables made) ≡ map without_rows (tables_after_step (map without_rows tables) made)
step_bare tables (step.CreateTable table name) = bare_append tables (new_table table.0 name)
step_bare tables (step.DeleteTable table) = bare_filter table.0 tables
step_bare tables (step.AddColumn table column) = bare_with table.0 (with_column (tagged_if_long column)) (λ t. refl) tables
step_bare tables (step.DeleteColumn table column) = bare_with table.0 (without_column column.0) (λ t. refl) tables
step_bare tables (step.CreateIndex table rule) = bare_with table.0 (with_index rule) (λ t. refl) tables
step_bare tables (step.DeleteIndex table index) = bare_with table.0 (without_index index.0) (λ t. refl) tables

step_defined : (one other : List Table) (made : SchemaStep) → map without_rows one ≡ map without_rows other → map without_rows (tables_after_step one made) ≡ map without_rows (tables_after_step other made)
step_defined one other made e = step_bare one made ∙ ap (λ tables. map without_rows (tables_after_step tables made)) e ∙ sym (step_bare other made)

-- ---- tables by their ids

abbrev or_new : Option Table → Table → ℕ → Option Table
or_new None new id = cond (new.id == id) (Some new) None
or_new (Some t) new id = Some t

found_append : (tables : List Table) (new : Table) (id : ℕ) → table_with_id (tables ++ new ∷ []) id ≡ or_new (table_with_id tables id) new id
found_append [] new id = refl
found_append (t ∷ tables) new id = by (t.id == id) (found_append tables new id)
  where
    by : (b : Bool) → table_with_id (tables ++ new ∷ []) id ≡ or_new (table_with_id tables id) new id → cond b (Some t) (table_with_id (tables ++ new ∷ []) id) ≡ or_new (cond b (Some t) (table_with_id tables id)) new id
    by true rest = refl
    by false rest = rest

found_filter : (gone : ℕ) (tables : List Table) (id : ℕ) → table_with_id (filter (λ t. not (t.id == gone)) tables) id ≡ cond (id == gone) None (table_with_id tables id)
found_filter gone [] id = by (id == gone)
  where
    by : (b : Bool) → table_with_id [] id ≡ cond b None (table_with_id [] id)
    by true = refl
    by false = refl
found_filter gone (t ∷ tables) id = by (t.id == gone) (t.id == id) refl refl (found_filter gone tables id)
  where
    left : List Table
    left = filter (λ t. not (t.id == gone)) tables

    by : (a b : Bool) → (t.id == gone) ≡ a → (t.id == id) ≡ b → table_with_id left id ≡ cond (id == gone) None (table_with_id tables id)
        → table_with_id (cond (not a) (t ∷ left) left) id ≡ cond (id == gone) None (cond b (Some t) (table_with_id tables id))
    by true true e f rest = rest ∙ ap (λ c. cond c None (table_with_id tables id)) here ∙ sym (ap (λ c. cond c None (Some t)) here)
      where
        here : (id == gone) ≡ true
        here = ap (λ n. n == gone) (sym (eqb-true t.id id f)) ∙ e
    by true false e f rest = rest
    by false true e f rest = ap (λ c. cond c (Some t) (table_with_id left id)) f ∙ sym (ap (λ c. cond c None (Some t)) (ap (λ n. n == gone) (sym (eqb-true t.id id f)) ∙ e))
    by false false e f rest = ap (λ c. cond c (Some t) (table_with_id left id)) f ∙ rest

abbrev changed_at : ℕ → (Table → Table) → Table → Table
changed_at id change t = cond (t.id == id) (change t) t

found_with : (at : ℕ) (change : Table → Table) → ((t : Table) → (change t).id ≡ t.id) → (tables : List Table) (id : ℕ) → table_with_id (with_table at change tables) id ≡ option_map (changed_at at change) (table_with_id tables id)
found_with at change keeps [] id = refl
found_with at change keeps (t ∷ tables) id =
    ap (λ n. cond (n == id) (Some (cond (t.id == at) (change t) t)) (table_with_id (with_table at change tables) id)) (number (t.id == at))
    ∙ by (t.id == id) (found_with at change keeps tables id)
  where
    number : (b : Bool) → (cond b (change t) t).id ≡ t.id
    number true = keeps t
    number false = refl

    by : (b : Bool) → table_with_id (with_table at change tables) id ≡ option_map (changed_at at change) (table_with_id tables id)
        → cond b (Some (cond (t.id == at) (change t) t)) (table_with_id (with_table at change tables) id) ≡ option_map (changed_at at change) (cond b (Some t) (table_with_id tables id))
    by true rest = refl
    by false rest = rest

step_found : (one other : List Table) (made : SchemaStep) (id : ℕ) → table_with_id one id ≡ table_with_id other id → table_with_id (tables_after_step one made) id ≡ table_with_id (tables_after_step other made) id
step_found one other (step.CreateTable table name) id e = found_append one (new_table table.0 name) id ∙ ap (λ o. or_new o (new_table table.0 name) id) e ∙ sym (found_append other (new_table table.0 name) id)
step_found one other (step.DeleteTable table) id e = found_filter table.0 one id ∙ ap (cond (id == table.0) None) e ∙ sym (found_filter table.0 other id)
step_found one other (step.AddColumn table column) id e =
    let made = with_column (tagged_if_long column) in
    found_with table.0 made (λ t. refl) one id ∙ ap (option_map (changed_at table.0 made)) e ∙ sym (found_with table.0 made (λ t. refl) other id)
step_found one other (step.DeleteColumn table column) id e =
    found_with table.0 (without_column column.0) (λ t. refl) one id ∙ ap (option_map (changed_at table.0 (without_column column.0))) e ∙ sym (found_with table.0 (without_column column.0) (λ t. refl) other id)
step_found one other (step.CreateIndex table rule) id e = found_with table.0 (with_index rule) (λ t. refl) one id ∙ ap (option_map (changed_at table.0 (with_index rule))) e ∙ sym (found_with table.0 (with_index rule) (λ t. refl) other id)
step_found one other (step.DeleteIndex table index) id e =
    found_with table.0 (without_index index.0) (λ t. refl) one id ∙ ap (option_map (changed_at table.0 (without_index index.0))) e ∙ sym (found_with table.0 (without_index index.0) (λ t. refl) other id)

-- ---- no transaction is open

-- then what stands is what was committed
all_settled : (number : ℕ) (tables : List Table) (transactions : ℕ → Option _) → ((x : ℕ) → transactions x ≡ None) → (kept : List PastChange) → AllByRecursion (IsPlaced number tables transactions) kept → (base : Records)
    → records_after_items is_standing base kept ≡ records_after_items (was_committed None) base kept
all_settled number tables transactions none [] placed base = refl
all_settled number tables transactions none (item ∷ kept) placed base =
    ap (λ b. fold after_item base (cond b (item ∷ filter is_standing kept) (filter is_standing kept))) (same item.status placed.0.2)
    ∙ by (was_committed None item) (all_settled number tables transactions none kept placed.1 (after_item base item)) (all_settled number tables transactions none kept placed.1 base)
  where
    closed : (t : Option _) → t ≡ None → IsOpenIn item t → ⊥
    closed None e h = h
    closed (Some t) e h = impossible (ap is_none e)

    same : (s : Status) → IsPlacedBy number transactions item s → is_standing (record item { status = s }) ≡ was_committed_status None s
    same uncommitted h = absurd (closed (transactions item.session) (none item.session) h)
    same (committed n) h = refl
    same undone h = refl

    by : (b : Bool) → records_after_items is_standing (after_item base item) kept ≡ records_after_items (was_committed None) (after_item base item) kept → records_after_items is_standing base kept ≡ records_after_items (was_committed None) base kept
        → fold after_item base (cond b (item ∷ filter is_standing kept) (filter is_standing kept)) ≡ fold after_item base (cond b (item ∷ filter (was_committed None) kept) (filter (was_committed None) kept))
    by true with_it without = with_it
    by false with_it without = without

none_open : (base : Records) (dropped kept : List PastChange) (state : DatabaseState) (session : ℕ) (made : SchemaStep) → IsHistory base dropped kept state → is_lawful state (record { session = record { 0 = session }; kind = entry.Schema made }) ≡ true → (x : ℕ) → transaction_of state x ≡ None
unfolding is_lawful
none_open base dropped kept state session made h e =
    all_outside base dropped kept state session made h (and_right (is_live state session) _ (and_left _ _ (and_right (has_number state.number (entry.Schema made)) _ e)))

-- ---- the step

step_tables : (state : DatabaseState) (session : ℕ) (made : SchemaStep) → (state_after state (record { session = record { 0 = session }; kind = entry.Schema made })).tables ≡ tables_after_step state.tables made
unfolding state_after
step_tables state session made = refl

pub stepped_holds : (base : Records) (dropped kept : List PastChange) (store : VersionedTables) (state : DatabaseState) (session : ℕ) (made : SchemaStep) → Holds base dropped kept store state
    → is_lawful state (record { session = record { 0 = session }; kind = entry.Schema made }) ≡ true
    → Holds (records_of (tables_after_step state.tables made)) (dropped ++ kept) [] (with_schema_step made store) (state_after state (record { session = record { 0 = session }; kind = entry.Schema made }))
stepped_holds base dropped kept store state session made h lawful =
    let entry_made : Entry = record { session = record { 0 = session }; kind = entry.Schema made } in
    let after : IsHistory (records_of (tables_after_step state.tables made)) (dropped ++ kept) [] (state_after state entry_made) = keeps_lawful base dropped kept state entry_made h.history lawful in
    let settled : records_of store.tables ≡ records_of state.tables =
    h.newest ∙ newest_records base dropped kept state h.history
    ∙ all_settled state.number state.tables (transaction_of state) (none_open base dropped kept state session made h.history lawful) kept h.history.keeps.placed base ∙ sym h.history.keeps.committed in
    record {
      history = after;
      rise = step_keeps_order state entry_made h.rise;
      defined = step_defined store.tables state.tables made h.defined ∙ ap (map without_rows) (sym (step_tables state session made));
      newest =
          (λ i id bookmark. row_at (rows_of (step_found store.tables state.tables made id (same_table store.tables state.tables id h.defined h.in_order h.rise.committed (λ bookmark. ap (λ (r : Records). r id bookmark) settled)) i)) bookmark)
          ∙ sym (newest_records (records_of (tables_after_step state.tables made)) (dropped ++ kept) [] (state_after state entry_made) after);
      in_order = step_rises store.tables made h.in_order;
      held = tt;
    }
