-- Why the engine refuses an update, and what it puts, by what it holds.
use Rattle.std.specs.Prelude.{◌≡◌, ℕ, ◌+◌, ◌≤◌, false, true, List, [], ◌∷◌, ◌++◌, filter, length, slice_get, Option, Some, None, Result, Ok, Err, IsSomeAnd, is_some, nat_lt, option_map, if◌then◌else◌}
use Rattle.std.specs.List.{flat_map}
use Rattle.jet_base.specs.declared.replies.Jet.{Jet}
use Rattle.jet_base.specs.declared.replies.Jet.TheVariants as jet
use Rattle.jet_base.specs.ColumnType.{big_endian}
use Rattle.column_set.specs.declared.changes.Change.{Change}
use Rattle.column_set.specs.declared.changes.Change.TheVariants as change
use Rattle.column_set.specs.RecordValues.{RecordFields, is_missing_a_value}
use Rattle.index_derive.specs.declared.rules.IndexRule.{IndexRule}
use Rattle.index_derive.specs.declared.rules.Schema.{Schema}
use Rattle.index_derive.specs.Entries.{KeyRefusal, entries, is_legal, is_unique, primary_key}
use Rattle.database_state.specs.Puts.{is_cut_refusal, is_null_refusal, key_refusals, null_refusals}
use Rattle.column_set.specs.Refusals.{Refusals, first_refusal}
use Rattle.database_state.specs.State.{DatabaseState}
use Rattle.database_state.specs.Table.{schema_of, table_with_id}
use Rattle.index_derive.specs.Schemas.{primary_rule, rule_with_id}
use Rattle.session_local.specs.Local.{LocalState, OpenCursor, PreparedFor, PreparedUpdate, inserting, replacing, cursor_labelled}
use Rattle.session_local.specs.Outcome.{rows_seen}
use Rattle.session_local.specs.RecordCalls.{is_primary_changed, replaced_by}
use Rattle.laws_engine.specs.InStep.{IsInStep}
use Rattle.table_versions.specs.KeyConflicts.{unique_refusals}
use Rattle.version_cleanup.specs.Cleaning.{reader_in}
use Rattle.laws_engine.specs.EngineState.{EngineState}
use Rattle.laws_engine.specs.HoldsState.{HoldsState, inputs_of}
use Rattle.record_decisions.specs.Changing.{is_outside_in, room_in, span_with}
use Rattle.engine_parts.specs.Reading.{shown_for}

-- ---- what is put

-- the number of the entry that a change will be: outside a transaction its begin comes before it
abbrev pub number_of_change : EngineState → ℕ → ℕ
number_of_change engine session = engine.number + (if is_outside_in engine session then 2 else 1)

-- the bookmark of a new record: its primary key, or else the number of the entry that inserts it, in 8 bytes big-endian
abbrev pub new_bookmark : ℕ → Schema → RecordFields → Option IndexRule → List ℕ
new_bookmark number schema values None = big_endian 8 number
new_bookmark number schema values (Some rule) = primary_key rule schema values

-- the key of a record in the primary index, where its table has one
abbrev pub own_key : Schema → RecordFields → Option (List ℕ)
own_key schema values = option_map (λ rule. primary_key rule schema values) (primary_rule schema)

-- a replace keeps the bookmark of its record
abbrev pub bookmark_by : EngineState → ℕ → Schema → PreparedFor → RecordFields → List ℕ
bookmark_by engine session schema (inserting copied) values = new_bookmark (number_of_change engine session) schema values (primary_rule schema)
bookmark_by engine session schema (replacing bookmark) values = bookmark

-- the record that an insert was copied from, where the session still sees one under that bookmark
abbrev pub copied_by : EngineState → ℕ → ℕ → PreparedFor → Option (List ℕ)
copied_by engine session table (inserting None) = None
copied_by engine session table (inserting (Some bookmark)) = if is_some (shown_for engine session table bookmark) then Some bookmark else None
copied_by engine session table (replacing bookmark) = None

abbrev pub put_by : EngineState → ℕ → OpenCursor → PreparedUpdate → Change
put_by engine session c prepared =
    change.Put (record { 0 = c.cursor.table }) (bookmark_by engine session c.schema prepared.for prepared.values) (copied_by engine session c.cursor.table prepared.for) prepared.values

-- ---- why it is not put

-- an index refuses the record for a NULL, and then for a cut key
abbrev pub refusals_of_keys : Result (List (List ℕ)) KeyRefusal → Refusals
refusals_of_keys keys = (is_null_refusal keys, jet.NullKeyDisallowed) ∷ (is_cut_refusal keys, jet.KeyTruncated) ∷ []

abbrev pub entry_refusals : Schema → RecordFields → IndexRule → Refusals
entry_refusals schema values rule = refusals_of_keys (entries rule schema values)

-- what its values alone tell
abbrev pub values_in : Schema → PreparedUpdate → Refusals
values_in schema prepared =
    (is_missing_a_value schema.columns prepared.values, jet.NullInvalid)
    ∷ (is_primary_changed schema prepared.for prepared.values, jet.RecordPrimaryChanged)
    ∷ null_refusals schema prepared.values

-- a unique index is asked for each key of the record
abbrev pub rule_refusals : EngineState → ℕ → ℕ → Schema → Option (List ℕ) → RecordFields → IndexRule → Refusals
rule_refusals engine session table schema own values rule = unique_refusals (reader_in session engine.sessions) engine.store table schema rule own values

abbrev pub keys_in : EngineState → ℕ → ℕ → Schema → Option (List ℕ) → RecordFields → Refusals
keys_in engine session table schema own values = flat_map (rule_refusals engine session table schema own values) (filter is_unique schema.indexes)

abbrev pub record_in : EngineState → ℕ → OpenCursor → PreparedUpdate → Refusals
record_in engine session c prepared = values_in c.schema prepared ++ keys_in engine session c.cursor.table c.schema (replaced_by prepared.for) prepared.values

-- the version store has no room for the change
abbrev pub span_in : EngineState → Change → Refusals
span_in engine made = (nat_lt engine.limit (span_with engine made), jet.VersionStoreOutOfMemory) ∷ []

abbrev pub update_in : EngineState → ℕ → OpenCursor → PreparedUpdate → Refusals
update_in engine session c prepared = record_in engine session c prepared ++ room_in engine (put_by engine session c prepared)

-- ---- what is decided

-- the change where none of the refusals holds, or else the first of them
abbrev pub IsMade : Refusals → Change → Result Change Jet → Type 0
IsMade refusals change (Ok made) = (first_refusal refusals ≡ None) × (made ≡ change)
IsMade refusals change (Err refusal) = first_refusal refusals ≡ Some refusal

abbrev pub IsMadeOf : EngineState → ℕ → OpenCursor → Option PreparedUpdate → Result Change Jet → Type 0
IsMadeOf engine session c None made = made ≡ Err jet.UpdateNotPrepared
IsMadeOf engine session c (Some prepared) made = IsMade (update_in engine session c prepared) (put_by engine session c prepared) made

-- ---- what the code is told of a schema

-- the schema is that of a table that the engine has
abbrev pub IsSchemaOf : EngineState → ℕ → Schema → Type 0
IsSchemaOf engine table schema = IsSomeAnd (table_with_id engine.store.tables table) (λ t. schema ≡ schema_of t)

-- each rule is found by its number, is legal, and has keys of 255 bytes at most
abbrev pub IsLegalRule : Schema → IndexRule → Type 0
IsLegalRule schema rule = (rule_with_id schema rule.id.0 ≡ Some rule) × (is_legal rule schema ≡ true) × (rule.key_most ≤ 255)

abbrev pub HasLegalRules : Schema → Type 0
HasLegalRules schema = (place : ℕ) (rule : IndexRule) → slice_get schema.indexes place ≡ Some rule → IsLegalRule schema rule

-- ---- what the definitions ask of a state that the engine holds

-- the cursor's schema is that of a table that the engine has
abbrev pub TellsSchemas : Type 0
TellsSchemas =
    (engine : EngineState) (state : DatabaseState) (session : ℕ) (local : LocalState) (label : ℕ) (c : OpenCursor) → HoldsState engine state → IsInStep state session local → cursor_labelled local label ≡ Some c
    → IsSchemaOf engine c.cursor.table c.schema

-- the keys of a unique index meet the same conflicts, and are taken by the same records
abbrev pub TellsKeys : Type 0
TellsKeys =
    (engine : EngineState) (state : DatabaseState) (session : ℕ) (local : LocalState) (label : ℕ) (c : OpenCursor) → HoldsState engine state → IsInStep state session local → cursor_labelled local label ≡ Some c
    → (own : Option (List ℕ)) (values : RecordFields)
    → keys_in engine session c.cursor.table c.schema own values ≡ key_refusals state session c.cursor.table c.schema (rows_seen (inputs_of engine state session local) c) own values

-- the bookmark under which an update puts has 255 bytes at most, where a replace keeps its primary key
abbrev pub HasShortBookmarks : Type 0
HasShortBookmarks =
    (engine : EngineState) (state : DatabaseState) (session : ℕ) (local : LocalState) (label : ℕ) (c : OpenCursor) (prepared : PreparedUpdate) → HoldsState engine state → IsInStep state session local → cursor_labelled local label ≡ Some c
    → c.prepared ≡ Some prepared → HasLegalRules c.schema → is_primary_changed c.schema prepared.for prepared.values ≡ false → length (bookmark_by engine session c.schema prepared.for prepared.values) ≤ 255
