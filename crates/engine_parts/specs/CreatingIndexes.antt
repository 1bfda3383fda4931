-- The call that makes an index, and what it asks of the records of its table.
use Rattle.std.specs.Prelude.{◌≡◌, ℕ, ◌≤◌, Bool, true, false, ◌&&◌, ◌||◌, List, [], ◌∷◌, ◌++◌, Option, Some, None, flat_map, if◌then◌else◌, Result, Ok}
use Rattle.std.specs.List.{list_any}
use Rattle.jet_base.specs.declared.replies.Jet.TheVariants as jet
use Rattle.column_set.specs.RecordValues.{RecordFields}
use Rattle.index_derive.specs.declared.rules.IndexRule.{IndexRule}
use Rattle.index_derive.specs.declared.rules.Schema.{Schema}
use Rattle.index_derive.specs.declared.schema_calls.SchemaStep.{SchemaStep}
use Rattle.index_derive.specs.declared.schema_calls.SchemaStep.TheVariants as step
use Rattle.index_derive.specs.Entries.{KeyRefusal, entries, has_double, has_double_key, is_legal, is_unique, key_list, keys_or_none}
use Rattle.database_state.specs.Puts.{is_cut_refusal, is_null_refusal}
use Rattle.column_set.specs.Refusals.{Refusals}
use Rattle.database_state.specs.SchemaChanges.{record_refusals}
use Rattle.database_state.specs.Table.{Rows, Table, rows_of, schema_of, table_with_id}
use Rattle.session_local.specs.declared.request.Request.{Request}
use Rattle.session_local.specs.declared.request.Request.TheVariants as call
use Rattle.version_store.specs.declared.calls.Reader.{Reader}
use Rattle.laws_engine.specs.VersionedTables.{VersionedTables, seen_tables}
use Rattle.laws_engine.specs.EngineState.{EngineState}
use Rattle.engine_parts.specs.declared.index_records.Brought.{Brought}
use Rattle.engine_parts.specs.SchemaRequests.{rows_for}

-- the call that makes an index
abbrev pub makes_index : Request → Bool
makes_index (call.CreateIndex table index flags key_most segments conditions) = true
makes_index _ = false

-- ---- what is asked of the records

-- why records may not stand in an index: NULL before a cut key, and then a key that two of them share
abbrev pub row_refusals : IndexRule → Schema → Rows → Refusals
row_refusals rule schema rows =
    (list_any (λ row. is_null_refusal (entries rule schema row.1)) rows, jet.NullKeyDisallowed)
    ∷ (list_any (λ row. is_cut_refusal (entries rule schema row.1)) rows, jet.KeyTruncated)
    ∷ (is_unique rule && has_double_key rule schema rows, jet.KeyDuplicate) ∷ []

-- whether an index can refuse a record
abbrev pub asks_of_records : IndexRule → Bool
asks_of_records rule = rule.flags.disallownull || (rule.flags.disallowtruncation || is_unique rule)

-- the keys of a record, or why it is refused; none where there is no record
abbrev pub entries_of : IndexRule → Schema → Option RecordFields → Result (List (List ℕ)) KeyRefusal
entries_of rule schema None = Ok []
entries_of rule schema (Some values) = entries rule schema values

-- the records of a table that a reader sees
abbrev pub rows_shown : Reader → VersionedTables → ℕ → Rows
rows_shown reader store table = rows_of (table_with_id (seen_tables reader store) table)

-- why the records of a table that was found, as the session sees them, refuse a step; none where there is no table
abbrev pub step_refusals_in : EngineState → ℕ → Option Table → SchemaStep → Refusals
step_refusals_in engine session None made = []
step_refusals_in engine session (Some table) made = record_refusals (record table { rows = rows_for engine session table.id }) made

-- Keys can be derived for the index that a step makes.
abbrev pub HasKeys : SchemaStep → Table → Type 0
HasKeys (step.CreateTable id name) table = Unit {0}
HasKeys (step.DeleteTable id) table = Unit {0}
HasKeys (step.AddColumn id column) table = Unit {0}
HasKeys (step.DeleteColumn id column) table = Unit {0}
HasKeys (step.CreateIndex id rule) table = (is_legal rule (schema_of table) ≡ true) × (rule.key_most ≤ 255)
HasKeys (step.DeleteIndex id index) table = Unit {0}

-- ---- records gone over one after the other

-- What these records bring into the index: whether one of them is refused for a NULL or a cut key, and all keys, where no
-- two records may share one.
pub record IsBrought (rule : IndexRule) (schema : Schema) (rows : Rows) (brought : Brought) : Type 0 where
  pub unique : brought.is_unique ≡ is_unique rule
  pub null : brought.has_null ≡ list_any (λ row. is_null_refusal (entries rule schema row.1)) rows
  pub cut : brought.has_cut ≡ list_any (λ row. is_cut_refusal (entries rule schema row.1)) rows
  pub keys : is_unique rule ≡ true → brought.keys.items ≡ flat_map (λ row. key_list rule schema row.1) rows

-- One record more, with these keys or this refusal.
pub record IsAdded (told : Result (List (List ℕ)) KeyRefusal) (old new : Brought) : Type 0 where
  pub unique : new.is_unique ≡ old.is_unique
  pub null : new.has_null ≡ (if is_null_refusal told then true else old.has_null)
  pub cut : new.has_cut ≡ (if is_cut_refusal told then true else old.has_cut)
  pub keys : old.is_unique ≡ true → new.keys.items ≡ old.keys.items ++ keys_or_none told

abbrev pub brought_refusals : Brought → Refusals
brought_refusals brought =
    (brought.has_null, jet.NullKeyDisallowed)
    ∷ (brought.has_cut, jet.KeyTruncated)
    ∷ (brought.is_unique && has_double brought.keys.items, jet.KeyDuplicate) ∷ []
