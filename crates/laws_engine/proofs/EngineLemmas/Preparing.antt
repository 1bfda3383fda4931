-- Updates that a session prepares by itself, or copies, keep it in step.
use Rattle.std.proofs.Common.{◌≡◌, ℕ, ◌≤◌, true, false, not, ◌&&◌, ◌||◌, List, [], ◌++◌, map, Option, Some, None, refl, sym, ap, subst, ◌∙◌}
use Rattle.std.specs.Prelude.{◌==◌, bytes_eq, is_none, nat_le, unwrap_or, IfSome}
use Rattle.std.specs.List.{list_all}
use Rattle.std.proofs.lemmas.Bool.{and_from, leb-true, not-false}
use Rattle.jet_base.specs.declared.ids.CursorId.{CursorId}
use Rattle.jet_base.specs.declared.words.Given.{Given}
use Rattle.jet_base.specs.declared.words.Prepare.TheVariants as prepare
use Rattle.column_set.specs.declared.columns.Column.{Column}
use Rattle.column_set.specs.RecordValues.{RecordFields, column_named, has_value, is_kept_column, record_fits, record_size, values_of, stands_in}
use Rattle.record_edit.specs.SetColumn.{fields_after, set_refusals, size_refusals, stored_value, values_after}
use Rattle.index_derive.specs.declared.rules.Schema.{Schema}
use Rattle.database_state.specs.Table.{Table, row_at, schema_of, table_with_id}
use Rattle.database_state.specs.Lawful.{keeps_escrow}
use Rattle.database_state.specs.State.{DatabaseState}
use Rattle.database_state.specs.View.{view}
use Rattle.laws_versions.specs.Records.{records_of}
use Rattle.laws_versions.specs.EscrowNumbers.{ColumnsRise}
use Rattle.laws_versions.specs.StoredRecords.{IsStored}
use Rattle.laws_versions.specs.RecordNumbers.{HoldsNumbers}
use Rattle.laws_versions.proofs.RecordLemmas.EscrowRecords.{numbers_seen}
use Rattle.laws_versions.proofs.RecordLemmas.StoredSums.{IsStoredWithNumbers, stored_seen_with_sums}
use Rattle.common_lemmas.proofs.Found.{of_found}
use Rattle.common_lemmas.proofs.Booleans.{and_left, and_right, impossible}
use Rattle.common_lemmas.proofs.Lists.{all_stronger}
use Rattle.session_local.specs.declared.request.Request.TheVariants as call
use Rattle.session_local.specs.Agreement.{IsStorable, MayReplace, replaced_in}
use Rattle.session_local.specs.Calls.{answer}
use Rattle.session_local.specs.Local.{LocalState, OpenCursor, PreparedUpdate, cursor_labelled, inserting, with_cursor}
use Rattle.session_local.specs.Outcome.{CallInputs, rows_seen}
use Rattle.session_local.specs.RecordCalls.{bookmark_at, current, on_column, on_prepared, prepare_copy, prepare_insert, prepared_refusals, record_at, set_column, set_column_in, with_sums_at_zero}
use Rattle.session_local.specs.FormedLaws.{new_is_well_formed, set_is_well_formed}
use Rattle.session_local.specs.FoundLaws.{by_number}
use Rattle.session_local.specs.SessionSide.{are_distinct}
use Rattle.session_local.specs.WellFormed.{is_well_formed_record, is_well_formed_schema, number_of_column}
use Rattle.laws_engine.specs.ColumnNumbers.{are_in_range, has_own_numbers, is_given_number}
use Rattle.laws_engine.proofs.LawfulLemmas.ChangeSteps.{IsAtTable, at_its_table}
use Rattle.laws_engine.specs.EntryTypes.{HasRisingColumns}
use Rattle.laws_engine.proofs.LawfulLemmas.TableTests.{all_found}
use Rattle.laws_engine.specs.InStep.{IsInStep, StaysInStep}
use Rattle.laws_engine.proofs.AgreeingLemmas.Answering.{at_found, past, when_begun}
use Rattle.laws_engine.proofs.AgreeingLemmas.OpenCursors.{prepared_in_step}
use Rattle.laws_engine.proofs.AgreeingLemmas.Replacing.{seen_rises}
use Rattle.laws_engine.proofs.AgreeingLemmas.RisingColumns.{values_rise, zeros_rise}
use Rattle.session_local.specs.BuiltTables.{is_built_column, is_built_rule, is_built_sum, is_built_table}
use Rattle.laws_engine.proofs.EngineLemmas.BuiltColumns.{its_sum}
use Rattle.laws_engine.specs.EngineState.{EngineState}
use Rattle.laws_engine.specs.HoldsState.{HoldsState, inputs_of}
use Rattle.laws_engine.proofs.EngineLemmas.WellFormed.{table_formed}
use Rattle.laws_engine.proofs.EngineLemmas.ZeroSums.{all_kept, apart_from_sums, set_keeps_sums, set_leaves_sums, sums_kept, zeros_kept, zeros_stored, zeros_there}

-- ---- columns that are built

abbrev AreBuilt : List Column → Type 0
AreBuilt columns = list_all is_built_column columns ≡ true

columns_built : (engine : EngineState) (state : DatabaseState) (session : ℕ) (local : LocalState) → HoldsState engine state → (c : OpenCursor) → IsAtTable (inputs_of engine state session local) c → AreBuilt c.schema.columns
columns_built engine state session local h c at =
    ap (λ (schema : Schema). list_all is_built_column schema.columns) at.schema
    ∙ and_left (list_all is_built_column at.table.columns) (list_all is_built_rule at.table.indexes)
    (subst (λ (o : Option Table). IfSome o (λ t. is_built_table t ≡ true)) at.found (all_found is_built_table state.tables h.built c.cursor.table))

columns_distinct : (engine : EngineState) (state : DatabaseState) (session : ℕ) (local : LocalState) → HoldsState engine state → (c : OpenCursor) → IsAtTable (inputs_of engine state session local) c → are_distinct (map number_of_column c.schema.columns) ≡ true
columns_distinct engine state session local h c at =
    ap (λ (schema : Schema). are_distinct (map number_of_column schema.columns)) at.schema
    ∙ and_right (are_in_range at.table.greatest && list_all (is_given_number at.table.greatest) at.table.columns) (are_distinct (map number_of_column at.table.columns))
    (subst (λ (o : Option Table). IfSome o (λ t. has_own_numbers t ≡ true)) at.found (all_found has_own_numbers state.tables h.reached.columns c.cursor.table))

schema_formed : (engine : EngineState) (state : DatabaseState) (session : ℕ) (local : LocalState) → HoldsState engine state → (c : OpenCursor) → IsAtTable (inputs_of engine state session local) c → is_well_formed_schema c.schema ≡ true
schema_formed engine state session local h c at =
    ap is_well_formed_schema at.schema ∙ subst (λ (o : Option Table). IfSome o (λ t. is_well_formed_schema (schema_of t) ≡ true)) at.found (table_formed engine state h c.cursor.table)

-- a well-formed record may be stored where it has every sum, as it may be stored
storable_formed : (state : DatabaseState) (session : ℕ) (c : OpenCursor) (p : PreparedUpdate) → AreBuilt c.schema.columns → is_well_formed_record c.schema.columns p.values ≡ true → MayReplace state session c p.for
    → list_all (λ d. not d.escrow || has_value p.values d.id.0) c.schema.columns ≡ true → keeps_escrow c.schema.columns (replaced_in state session c p.for) p.values ≡ true → IsStorable state session c (Some p)
storable_formed state session c p built formed may there keeps = (
  leb-true (record_size p.values) 1700 (and_right (list_all (stands_in c.schema.columns) p.values) (nat_le (record_size p.values) 1700) formed),
  and_from (list_all (stands_in c.schema.columns) p.values) (list_all (λ column. not (is_kept_column column) || has_value p.values column.id.0) c.schema.columns)
      (and_left (list_all (stands_in c.schema.columns) p.values) (nat_le (record_size p.values) 1700) formed)
      (all_kept p.values c.schema.columns built there),
  keeps,
  may,
)

-- ---- calls that a session answers by itself

with_update : (engine : EngineState) (state : DatabaseState) (session : ℕ) (local : LocalState) → HoldsState engine state → IsInStep state session local → (label : ℕ) (c : OpenCursor) → cursor_labelled local label ≡ Some c → (p : PreparedUpdate) → MayReplace state session c p.for → ColumnsRise p.values
    → list_all (λ d. not d.escrow || has_value p.values d.id.0) c.schema.columns ≡ true → keeps_escrow c.schema.columns (replaced_in state session c p.for) p.values ≡ true
    → is_well_formed_record c.schema.columns p.values ≡ true → IsInStep state session (with_cursor local (record c { prepared = Some p }))
with_update engine state session local h step label c e p may rise there keeps formed =
    prepared_in_step state session local label c (Some p) step e
    (storable_formed state session (record c { prepared = Some p }) p (columns_built engine state session local h c (at_its_table (inputs_of engine state session local) label c step.agrees e)) formed may there keeps) rise

pub insert_prepared : (engine : EngineState) (state : DatabaseState) (session : ℕ) (local : LocalState) (cursor : CursorId) → HoldsState engine state → IsInStep state session local
    → StaysInStep (inputs_of engine state session local) (answer (inputs_of engine state session local) (call.PrepareUpdate cursor prepare.Insert))
insert_prepared engine state session local cursor h step =
    let asked = inputs_of engine state session local in
    when_begun asked (call.PrepareUpdate cursor prepare.Insert)
    (λ begun. at_found asked step cursor.0 (prepare_insert asked) (λ c e. past asked step (prepared_refusals c) _ (λ r.
    with_update engine state session local h step cursor.0 c e _ tt (zeros_rise c.schema.columns [] tt) (zeros_there c.schema.columns []) (zeros_kept c.schema.columns [])
    (new_is_well_formed c.schema (schema_formed engine state session local h c (at_its_table asked cursor.0 c step.agrees e))))))
    (λ begun. step)

-- ---- columns that are set

-- no sum is set
column_set : (engine : EngineState) (state : DatabaseState) (session : ℕ) (local : LocalState) → HoldsState engine state → IsInStep state session local → (label : ℕ) (c : OpenCursor) → cursor_labelled local label ≡ Some c → (name : List ℕ) (sequence : ℕ) (value : Given) (p : PreparedUpdate)
    → IsStorable state session c (Some p) → ColumnsRise p.values → (o : Option Column) → column_named c.schema.columns name ≡ o → StaysInStep (inputs_of engine state session local) (on_column (inputs_of engine state session local) o (set_column_in (inputs_of engine state session local) c p sequence value))
column_set engine state session local h step label c e name sequence value p storable rise None found = step
column_set engine state session local h step label c e name sequence value p storable rise (Some column) found =
    let asked = inputs_of engine state session local in
    let values = values_after column.multi sequence (stored_value column value) (values_of p.values column.id.0) in
    let distinct = columns_distinct engine state session local h c (at_its_table asked label c step.agrees e) in
    past asked step (set_refusals column sequence value p.values) _ (λ refused.
    let apart = apart_from_sums (λ o. bytes_eq o.name name) c.schema.columns column distinct found refused.0 in
    past asked step (size_refusals column sequence value p.values) _ (λ small.
    with_update engine state session local h step label c e (record p { values = fields_after column sequence value p.values }) storable.3
    (values_rise p.values column.id.0 values rise)
    (set_leaves_sums c.schema.columns p.values column.id.0 values apart (sums_kept p.values c.schema.columns (and_right _ _ storable.1)))
    (set_keeps_sums c.schema.columns (replaced_in state session c p.for) p.values column.id.0 values apart storable.2)
    (set_is_well_formed c.schema.columns column sequence value p.values (by_number (λ o. bytes_eq o.name name) c.schema.columns column distinct found)
    (and_left (list_all (stands_in c.schema.columns) p.values) (list_all (λ column. not (is_kept_column column) || has_value p.values column.id.0) c.schema.columns) storable.1)
    (record { fits = not-false _ refused.1.1.0; small = refused.1.1.1.0; size = small.0 }))))

pub column_is_set : (engine : EngineState) (state : DatabaseState) (session : ℕ) (local : LocalState) (cursor : CursorId) (name : List ℕ) (sequence : ℕ) (value : Given) → HoldsState engine state → IsInStep state session local
    → StaysInStep (inputs_of engine state session local) (answer (inputs_of engine state session local) (call.SetColumn cursor name sequence value))
column_is_set engine state session local cursor name sequence value h step =
    when_begun asked (call.SetColumn cursor name sequence value)
    (λ begun. at_found asked step cursor.0 (λ c. set_column asked c name sequence value) (λ c e. by c e c.prepared (of_found (λ c. IsStorable state session c c.prepared) (λ c. c.label == cursor.0) local.cursors c e step.agrees.prepared) (of_found (λ c. HasRisingColumns c.prepared) (λ c. c.label == cursor.0) local.cursors c e step.updates)))
    (λ begun. step)
  where
    asked : CallInputs
    asked = inputs_of engine state session local

    by : (c : OpenCursor) → cursor_labelled local cursor.0 ≡ Some c → (o : Option PreparedUpdate) → IsStorable state session c o → HasRisingColumns o → StaysInStep asked (on_prepared asked o (λ p. on_column asked (column_named c.schema.columns name) (set_column_in asked c p sequence value)))
    by c e None storable rise = step
    by c e (Some p) storable rise = column_set engine state session local h step cursor.0 c e name sequence value p storable rise (column_named c.schema.columns name) refl

-- ---- a copy

-- the record that is seen may be stored, and so may it be with its sums at 0
copy_storable : (engine : EngineState) (state : DatabaseState) (session : ℕ) (local : LocalState) → HoldsState engine state → (c : OpenCursor) → IsAtTable (inputs_of engine state session local) c → (o : Option RecordFields) → row_at (rows_seen (inputs_of engine state session local) c) (bookmark_at c) ≡ o → is_none o ≡ false
    → IsStorable state session c (Some (record { for = inserting (Some (bookmark_at c)); values = with_sums_at_zero c.schema.columns (unwrap_or o []) }))
copy_storable engine state session local h c at None e there = impossible (sym there)
copy_storable engine state session local h c at (Some values) e there = (fit.0, fit.1, zeros_kept c.schema.columns values, tt)
  where
    seen : (P : ℕ → Schema → List ℕ → RecordFields → Type 0) → IfSome (table_with_id state.tables c.cursor.table) (λ table. (bookmark : List ℕ) → IfSome (records_of (view state session) c.cursor.table bookmark) (P state.number (schema_of table) bookmark))
        → P state.number (schema_of at.table) (bookmark_at c) values
    seen P has =
        subst (λ (o : Option RecordFields). IfSome o (P state.number (schema_of at.table) (bookmark_at c))) e
        (subst (λ (o : Option Table). IfSome o (λ table. (bookmark : List ℕ) → IfSome (records_of (view state session) c.cursor.table bookmark) (P state.number (schema_of table) bookmark))) at.found has (bookmark_at c))

    with_zeros : IsStoredWithNumbers state.number (schema_of at.table) (bookmark_at c) (with_sums_at_zero (schema_of at.table).columns values)
    with_zeros =
        zeros_stored state.number (schema_of at.table) (bookmark_at c) values
        (all_stronger is_built_column is_built_sum its_sum at.table.columns (subst (λ (schema : Schema). list_all is_built_column schema.columns ≡ true) at.schema (columns_built engine state session local h c at)))
        (subst (λ (schema : Schema). are_distinct (map number_of_column schema.columns) ≡ true) at.schema (columns_distinct engine state session local h c at)) (
          seen IsStored (stored_seen_with_sums h.base h.dropped h.kept state h.reached.history h.reached.numbers h.stored session c.cursor.table),
          seen HoldsNumbers (numbers_seen h.base h.dropped h.kept state h.reached.history h.reached.numbers session c.cursor.table),
        )

    fit : (record_size (with_sums_at_zero c.schema.columns values) ≤ 1700) × (record_fits c.schema.columns (with_sums_at_zero c.schema.columns values) ≡ true)
    fit = subst (λ (schema : Schema). (record_size (with_sums_at_zero schema.columns values) ≤ 1700) × (record_fits schema.columns (with_sums_at_zero schema.columns values) ≡ true)) (sym at.schema) with_zeros.0

pub copy_prepared : (engine : EngineState) (state : DatabaseState) (session : ℕ) (local : LocalState) (cursor : CursorId) → HoldsState engine state → IsInStep state session local
    → StaysInStep (inputs_of engine state session local) (answer (inputs_of engine state session local) (call.PrepareUpdate cursor prepare.InsertCopy))
copy_prepared engine state session local cursor h step =
    when_begun asked (call.PrepareUpdate cursor prepare.InsertCopy)
    (λ begun. at_found asked step cursor.0 (prepare_copy asked) (λ c e. past asked step (prepared_refusals c ++ current asked c) _ (λ r.
    let at = at_its_table asked cursor.0 c step.agrees e in
    prepared_in_step state session local cursor.0 c (Some (copied c)) step e (at_copy c at r.1.1.0) (zeros_rise c.schema.columns (record_at asked c) (seen_rises h.base h.dropped h.kept asked c h.reached at)))))
    (λ begun. step)
  where
    asked : CallInputs
    asked = inputs_of engine state session local

    copied : OpenCursor → PreparedUpdate
    copied c = record { for = inserting (Some (bookmark_at c)); values = with_sums_at_zero c.schema.columns (record_at (inputs_of engine state session local) c) }

    at_copy : (c : OpenCursor) → IsAtTable (inputs_of engine state session local) c → is_none (row_at (rows_seen (inputs_of engine state session local) c) (bookmark_at c)) ≡ false → IsStorable state session (record c { prepared = Some (copied c) }) (Some (copied c))
    at_copy c at there = copy_storable engine state session local h c at (row_at (rows_seen (inputs_of engine state session local) c) (bookmark_at c)) refl there
