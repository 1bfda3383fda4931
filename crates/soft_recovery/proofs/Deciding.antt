-- What is decided of an entry, part by part.
use Rattle.std.proofs.Common.{◌≡◌, ℕ, ◌+◌, Bool, true, false, not, ◌&&◌, ◌||◌, List, Option, Some, None, Result, Ok, Err, option_map, refl, sym, ap, subst, ◌∙◌, arith}
use Rattle.std.specs.Prelude.{ℤ, ◌==◌, is_none, is_some, nat_le, nat_lt, IfOk, IsSomeAnd}
use Rattle.std.proofs.lemmas.Bool.Decides.{nat_tests}
use Rattle.common_lemmas.proofs.Booleans.{impossible}
use Rattle.jet_base.specs.declared.ids.ColumnId.{ColumnId}
use Rattle.jet_base.specs.declared.ids.TableId.{TableId}
use Rattle.jet_base.specs.declared.memory.OutOfMemory.{OutOfMemory}
use Rattle.column_set.specs.declared.changes.Change.{Change}
use Rattle.column_set.specs.declared.changes.Change.TheVariants.{Put, Drop, Hold, Add}
use Rattle.column_set.specs.ChangedRecords.{changed_table}
use Rattle.column_set.specs.RecordValues.{RecordFields, is_missing_a_value, record_fits, record_size}
use Rattle.index_derive.specs.declared.log.Entry.{Entry}
use Rattle.index_derive.specs.declared.log.EntryKind.TheVariants as entry
use Rattle.index_derive.specs.declared.rules.Schema.{Schema}
use Rattle.index_derive.specs.declared.schema_calls.SchemaStep.{SchemaStep}
use Rattle.index_derive.specs.Entries.{is_escrow_column}
use Rattle.index_derive.specs.Schemas.{primary_rule}
use Rattle.database_state.specs.Conflicts.{has_write_conflict}
use Rattle.database_state.specs.Lawful.{has_free_keys, has_next_numbers, has_number, is_bookmark_of, is_copied_in, is_indexable, is_lawful, is_lawful_at, is_lawful_change, is_lawful_kind, is_live, keeps_escrow}
use Rattle.database_state.specs.SchemaChanges.{schema_refusal}
use Rattle.database_state.specs.State.{DatabaseState, levels}
use Rattle.database_state.specs.Table.{Rows, Table, row_at, rows_of, schema_of, table_with_id}
use Rattle.database_state.specs.View.{view}
use Rattle.version_cleanup.specs.Cleaning.{reader_in}
use Rattle.version_cleanup.specs.LiveSessions.{is_live as is_live_in, levels_in}
use Rattle.laws_versions.specs.History.{without_rows}
use Rattle.laws_versions.proofs.KeyLemmas.UniqueKept.{id_of}
use Rattle.laws_engine.specs.EngineState.{EngineState}
use Rattle.laws_engine.specs.HeldRecords.{has_conflict}
use Rattle.laws_engine.specs.HoldsState.{HoldsState}
use Rattle.record_decisions.specs.Changing.{is_outside_in}
use Rattle.record_decisions.specs.Updating.{IsSchemaOf}
use Rattle.soft_recovery.specs.LawfulEntries.{IsTold, is_lawful_put_in, rows_in}
use Rattle.soft_recovery.proofs.HeldTables.{HasIt, committed_table, from_some}

-- ---- the number of the log

pub numbered : (engine : EngineState) (made : Entry) (result : Result Bool OutOfMemory) → has_number engine.number made.kind ≡ true → IfOk result (IsTold engine (λ state. is_lawful_kind state made.session.0 made.kind))
    → IfOk result (IsTold engine (λ state. is_lawful state made))
unfolding is_lawful
numbered engine made (Err fault) has told = tt
numbered engine made (Ok may) has told = λ state h. told state h ∙ sym (ap (λ b. b && is_lawful_kind state made.session.0 made.kind) (ap (λ (n : ℕ). has_number n made.kind) h.number ∙ has))

pub unnumbered : (engine : EngineState) (made : Entry) → has_number engine.number made.kind ≡ false → IsTold engine (λ state. is_lawful state made) false
unfolding is_lawful
unnumbered engine made lacks = λ state h. sym (ap (λ b. b && is_lawful_kind state made.session.0 made.kind) (ap (λ (n : ℕ). has_number n made.kind) h.number ∙ lacks))

-- ---- schema steps

abbrev TellsLive : Type 0
TellsLive = (engine : EngineState) (state : DatabaseState) → HoldsState engine state → (session : ℕ) → is_live_in session engine.sessions ≡ is_live state session

pub step_live : TellsLive → (engine : EngineState) (session : ℕ) (made : SchemaStep) (result : Result Bool OutOfMemory) → is_live_in session engine.sessions ≡ true
    → IfOk result (IsTold engine (λ state. is_none (schema_refusal state session made) && has_next_numbers state made)) → IfOk result (IsTold engine (λ state. is_lawful_kind state session (entry.Schema made)))
step_live live engine session made (Err fault) is told = tt
step_live live engine session made (Ok may) is told = λ state h.
    told state h ∙ sym (ap (λ b. b && is_none (schema_refusal state session made) && has_next_numbers state made) (sym (live engine state h session) ∙ is))

pub step_dead : TellsLive → (engine : EngineState) (session : ℕ) (made : SchemaStep) → is_live_in session engine.sessions ≡ false → IsTold engine (λ state. is_lawful_kind state session (entry.Schema made)) false
step_dead live engine session made is = λ state h. sym (ap (λ b. b && is_none (schema_refusal state session made) && has_next_numbers state made) (sym (live engine state h session) ∙ is))

-- ---- changes

abbrev TellsLevels : Type 0
TellsLevels = (engine : EngineState) (state : DatabaseState) → HoldsState engine state → (session : ℕ) → levels_in session engine.sessions ≡ levels state session

abbrev TellsConflicts : Type 0
TellsConflicts = (engine : EngineState) (state : DatabaseState) → HoldsState engine state → (session : ℕ) (change : Change) → has_conflict (reader_in session engine.sessions) change engine.store.held ≡ has_write_conflict state session change

abbrev pub is_hindered : EngineState → ℕ → Change → Bool
is_hindered engine session change = is_outside_in engine session || has_conflict (reader_in session engine.sessions) change engine.store.held

inside : (n : ℕ) → (n == 0) ≡ false → nat_lt 0 n ≡ true
inside n e = grind (arith, nat_tests)

outside : (n : ℕ) → (n == 0) ≡ true → nat_lt 0 n ≡ false
outside n e = grind (arith, nat_tests)

stopped : (n : ℕ) (conflict at : Bool) → ((n == 0) || conflict) ≡ true → false ≡ (nat_lt 0 n && not conflict && at)
stopped n conflict at = by (n == 0) refl conflict
  where
    by : (b : Bool) → (n == 0) ≡ b → (c : Bool) → (b || c) ≡ true → false ≡ (nat_lt 0 n && not c && at)
    by true e c h = sym (ap (λ b. b && not c && at) (outside n e))
    by false e true h = sym (ap (λ b. b && false && at) (inside n e))
    by false e false h = impossible h

goes : (n : ℕ) (conflict at : Bool) → ((n == 0) || conflict) ≡ false → at ≡ (nat_lt 0 n && not conflict && at)
goes n conflict at = by (n == 0) refl conflict
  where
    by : (b : Bool) → (n == 0) ≡ b → (c : Bool) → (b || c) ≡ false → at ≡ (nat_lt 0 n && not c && at)
    by true e c h = impossible (sym h)
    by false e true h = impossible (sym h)
    by false e false h = sym (ap (λ b. b && true && at) (inside n e))

hindered_alike : TellsLevels → TellsConflicts → (engine : EngineState) (state : DatabaseState) → HoldsState engine state → (session : ℕ) (change : Change) → is_hindered engine session change ≡ ((levels state session == 0) || has_write_conflict state session change)
hindered_alike at_levels conflicts engine state h session change = λ i. (at_levels engine state h session i == 0) || conflicts engine state h session change i

pub change_stopped : TellsLevels → TellsConflicts → (engine : EngineState) (session : ℕ) (change : Change) → is_hindered engine session change ≡ true → IsTold engine (λ state. is_lawful_change state session change) false
change_stopped at_levels conflicts engine session change is = λ state h.
    stopped (levels state session) (has_write_conflict state session change) (is_lawful_at state session (table_with_id state.tables (changed_table change)) change) (sym (hindered_alike at_levels conflicts engine state h session change) ∙ is)

pub change_goes : TellsLevels → TellsConflicts → (engine : EngineState) (session : ℕ) (change : Change) (result : Result Bool OutOfMemory) → is_hindered engine session change ≡ false
    → IfOk result (IsTold engine (λ state. is_lawful_at state session (table_with_id state.tables (changed_table change)) change)) → IfOk result (IsTold engine (λ state. is_lawful_change state session change))
change_goes at_levels conflicts engine session change (Err fault) is told = tt
change_goes at_levels conflicts engine session change (Ok may) is told = λ state h.
    told state h ∙ goes (levels state session) (has_write_conflict state session change) (is_lawful_at state session (table_with_id state.tables (changed_table change)) change) (sym (hindered_alike at_levels conflicts engine state h session change) ∙ is)

-- its table is not there
abbrev TellsNumbered : Type 0
TellsNumbered = (engine : EngineState) (state : DatabaseState) → HoldsState engine state → (table : ℕ) → option_map without_rows (table_with_id engine.store.tables table) ≡ option_map without_rows (table_with_id state.tables table)

no_table : (state : DatabaseState) (session : ℕ) (change : Change) (found : Option Table) → None ≡ option_map without_rows found → false ≡ is_lawful_at state session found change
no_table state session change None e = refl
no_table state session change (Some t) e = impossible (ap (λ (o : Option Table). is_some o) e)

pub table_lacks : TellsNumbered → (engine : EngineState) (session : ℕ) (change : Change) → None ≡ option_map without_rows (table_with_id engine.store.tables (changed_table change))
    → IsTold engine (λ state. is_lawful_at state session (table_with_id state.tables (changed_table change)) change) false
table_lacks at_numbers engine session change none = λ state h. no_table state session change (table_with_id state.tables (changed_table change)) (none ∙ at_numbers engine state h (changed_table change))

pub named_by : (stored : Option Table) (t : Table) (schema : Schema) → Some t ≡ option_map without_rows stored → schema ≡ schema_of t → IsSomeAnd stored (λ u. schema ≡ schema_of u)
named_by None t schema e same = impossible (ap (λ (o : Option Table). is_some o) (sym e))
named_by (Some u) t schema e same = same ∙ ap schema_of (from_some t (without_rows u) e)

-- ---- changes of each kind, at their table

-- what is told of a table of this schema is told of the committed one
abbrev AtTable : DatabaseState → ℕ → ℕ → Schema → Change → Bool → Type 0
AtTable state session table schema made told = is_lawful_at state session (table_with_id state.tables table) made ≡ told

sums_at : (state : DatabaseState) (session : ℕ) (table : TableId) (bookmark : List ℕ) (column : ColumnId) (amount : ℤ) (schema : Schema) → HasIt (table_with_id state.tables table.0) schema
    → AtTable state session table.0 schema (Add table bookmark column amount) (is_some (row_at (rows_in state session table.0) bookmark) && is_escrow_column schema column.0)
sums_at state session table bookmark column amount schema it =
    ap (λ (o : Option Table). is_lawful_at state session o (Add table bookmark column amount)) it.1
    ∙ (λ i. is_some (row_at (rows_of (table_with_id (view state session) (id_of state.tables table.0 it.0 it.1 i))) bookmark) && is_escrow_column (sym it.2 i) column.0)

drop_at : (state : DatabaseState) (session : ℕ) (table : TableId) (bookmark : List ℕ) (schema : Schema) → HasIt (table_with_id state.tables table.0) schema
    → AtTable state session table.0 schema (Drop table bookmark) (is_some (row_at (rows_in state session table.0) bookmark))
drop_at state session table bookmark schema it =
    ap (λ (o : Option Table). is_lawful_at state session o (Drop table bookmark)) it.1
    ∙ (λ i. is_some (row_at (rows_of (table_with_id (view state session) (id_of state.tables table.0 it.0 it.1 i))) bookmark))

hold_at : (state : DatabaseState) (session : ℕ) (table : TableId) (bookmark : List ℕ) (schema : Schema) → HasIt (table_with_id state.tables table.0) schema
    → AtTable state session table.0 schema (Hold table bookmark) (is_some (row_at (rows_in state session table.0) bookmark))
hold_at state session table bookmark schema it =
    ap (λ (o : Option Table). is_lawful_at state session o (Hold table bookmark)) it.1
    ∙ (λ i. is_some (row_at (rows_of (table_with_id (view state session) (id_of state.tables table.0 it.0 it.1 i))) bookmark))

grouped : (a b c d e f g i : Bool) → (a && b && c && d && e && f && g && i) ≡ ((a && b && c) && (d && (e && f && g && i)))
grouped false b c d e f g i = refl
grouped true false c d e f g i = refl
grouped true true false d e f g i = refl
grouped true true true false e f g i = refl
grouped true true true true e f g i = refl

put_at : (state : DatabaseState) (session : ℕ) (table : TableId) (bookmark : List ℕ) (copied : Option (List ℕ)) (values : RecordFields) (schema : Schema) → HasIt (table_with_id state.tables table.0) schema
    → AtTable state session table.0 schema (Put table bookmark copied values) (is_lawful_put_in state session table.0 schema bookmark copied values)
put_at state session table bookmark copied values schema it =
    let t = it.0 in
    let rows : Rows = rows_of (table_with_id (view state session) t.id) in
    ap (λ (o : Option Table). is_lawful_at state session o (Put table bookmark copied values)) it.1
    ∙ grouped (record_fits t.columns values) (not (is_missing_a_value t.columns values)) (nat_le (record_size values) 1700) (is_indexable (schema_of t) values) (has_free_keys state session t.id (schema_of t) rows bookmark values)
    (is_bookmark_of (state.number + 1) (schema_of t) rows (primary_rule (schema_of t)) bookmark values) (keeps_escrow t.columns (row_at rows bookmark) values) (is_copied_in rows copied)
    ∙ (λ i. is_lawful_put_in state session (id_of state.tables table.0 it.0 it.1 i) (sym it.2 i) bookmark copied values)

-- so is what the engine tells of it
made_at : (engine : EngineState) (session : ℕ) (schema : Schema) (made : Change) (told : DatabaseState → Bool) → ((state : DatabaseState) → HasIt (table_with_id state.tables (changed_table made)) schema → AtTable state session (changed_table made) schema made (told state))
    → IsSchemaOf engine (changed_table made) schema → (may : Bool) → IsTold engine told may → IsTold engine (λ state. is_lawful_at state session (table_with_id state.tables (changed_table made)) made) may
made_at engine session schema made told at named may is = λ state h. is state h ∙ sym (at state (committed_table engine state h (changed_table made) schema named))

abbrev IsToldAt : EngineState → ℕ → Change → Bool → Type 0
IsToldAt engine session made = IsTold engine (λ state. is_lawful_at state session (table_with_id state.tables (changed_table made)) made)

pub drop_told : (engine : EngineState) (session : ℕ) (schema : Schema) (made : Change) (table : TableId) (bookmark : List ℕ) (may : Bool) → made ≡ Drop table bookmark → IsSchemaOf engine (changed_table made) schema
    → IsTold engine (λ state. is_some (row_at (rows_in state session table.0) bookmark)) may → IsToldAt engine session made may
drop_told engine session schema made table bookmark may is named told =
    subst (λ (m : Change). IsToldAt engine session m may) (sym is)
    (made_at engine session schema (Drop table bookmark) (λ state. is_some (row_at (rows_in state session table.0) bookmark)) (λ state it. drop_at state session table bookmark schema it) (subst (λ (m : Change). IsSchemaOf engine (changed_table m) schema) is named) may told)

pub hold_told : (engine : EngineState) (session : ℕ) (schema : Schema) (made : Change) (table : TableId) (bookmark : List ℕ) (may : Bool) → made ≡ Hold table bookmark → IsSchemaOf engine (changed_table made) schema
    → IsTold engine (λ state. is_some (row_at (rows_in state session table.0) bookmark)) may → IsToldAt engine session made may
hold_told engine session schema made table bookmark may is named told =
    subst (λ (m : Change). IsToldAt engine session m may) (sym is)
    (made_at engine session schema (Hold table bookmark) (λ state. is_some (row_at (rows_in state session table.0) bookmark)) (λ state it. hold_at state session table bookmark schema it) (subst (λ (m : Change). IsSchemaOf engine (changed_table m) schema) is named) may told)

pub sum_told : (engine : EngineState) (session : ℕ) (schema : Schema) (made : Change) (table : TableId) (bookmark : List ℕ) (column : ColumnId) (amount : ℤ) (may : Bool) → made ≡ Add table bookmark column amount → IsSchemaOf engine (changed_table made) schema
    → IsTold engine (λ state. is_some (row_at (rows_in state session table.0) bookmark) && is_escrow_column schema column.0) may → IsToldAt engine session made may
sum_told engine session schema made table bookmark column amount may is named told =
    subst (λ (m : Change). IsToldAt engine session m may) (sym is)
    (made_at engine session schema (Add table bookmark column amount) (λ state. is_some (row_at (rows_in state session table.0) bookmark) && is_escrow_column schema column.0) (λ state it. sums_at state session table bookmark column amount schema it)
    (subst (λ (m : Change). IsSchemaOf engine (changed_table m) schema) is named) may told)

pub put_told : (engine : EngineState) (session : ℕ) (schema : Schema) (made : Change) (table : TableId) (bookmark : List ℕ) (copied : Option (List ℕ)) (values : RecordFields) (result : Result Bool OutOfMemory) → made ≡ Put table bookmark copied values
    → IsSchemaOf engine (changed_table made) schema → IfOk result (IsTold engine (λ state. is_lawful_put_in state session table.0 schema bookmark copied values)) → IfOk result (IsToldAt engine session made)
put_told engine session schema made table bookmark copied values (Err fault) is named told = tt
put_told engine session schema made table bookmark copied values (Ok may) is named told =
    subst (λ (m : Change). IsToldAt engine session m may) (sym is)
    (made_at engine session schema (Put table bookmark copied values) (λ state. is_lawful_put_in state session table.0 schema bookmark copied values) (λ state it. put_at state session table bookmark copied values schema it)
    (subst (λ (m : Change). IsSchemaOf engine (changed_table m) schema) is named) may told)

-- ---- tests one behind the other

pub sum_taken : (engine : EngineState) (test : DatabaseState → Bool) (escrow may : Bool) → escrow ≡ true → IsTold engine test may → IsTold engine (λ state. test state && escrow) may
sum_taken engine test escrow may is told = λ state h. told state h ∙ sym (with_true (test state)) ∙ sym (ap (λ b. test state && b) is)
  where
    with_true : (b : Bool) → (b && true) ≡ b
    with_true true = refl
    with_true false = refl

pub sum_refused : (engine : EngineState) (test : DatabaseState → Bool) (escrow : Bool) → escrow ≡ false → IsTold engine (λ state. test state && escrow) false
sum_refused engine test escrow is = λ state h. sym (ap (λ b. test state && b) is ∙ with_false (test state))
  where
    with_false : (b : Bool) → (b && false) ≡ false
    with_false true = refl
    with_false false = refl
