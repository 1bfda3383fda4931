-- What is asked of an engine, so that it holds the state that it shows.
use Rattle.std.specs.Prelude.{◌≡◌, ◌<◌, ◌≤◌, ℕ, true, List, IfSome, neg_ℤ}
use Rattle.std.specs.List.{AllByRecursion}
use Rattle.column_set.specs.RecordValues.{RecordFields}
use Rattle.database_state.specs.Changes.{with_sum}
use Rattle.column_set.specs.ChangedRecords.{changed_table}
use Rattle.database_state.specs.State.{DatabaseState, PastChange}
use Rattle.database_state.specs.Table.{Table, schema_of, table_with_id}
use Rattle.index_derive.specs.declared.rules.Schema.{Schema}
use Rattle.laws_versions.specs.Records.{Records, records_of}
use Rattle.laws_versions.specs.History.{EachTwo, LabelsRise}
use Rattle.laws_engine.specs.EngineState.{EngineState}
use Rattle.session_local.specs.BuiltTables.{are_built}
use Rattle.laws_engine.specs.ColumnNumbers.{have_own_numbers}
use Rattle.laws_images.specs.InTurn.{ArePlaced, HaveTheirCosts, AreInTurn}
use Rattle.laws_images.specs.ShownStates.{past_of, shown_state, tables_before}
use Rattle.laws_versions.specs.KeySums.{IsPlainIndex, SeesNoSum}
use Rattle.laws_versions.specs.TableOrder.{IdsRise}
use Rattle.laws_versions.specs.UniqueKeys.{HasUniqueKeys}
use Rattle.laws_versions.specs.Bookmarks.{StandsUnder, TouchesRecord}
use Rattle.laws_versions.specs.RecordNumbers.{AddsToEscrow, HasSingleSums, HoldsNumbers}
use Rattle.laws_versions.specs.StoredRecords.{IsStored}
use Rattle.version_store.specs.declared.calls.ChangeKind.{ChangeKind}
use Rattle.version_store.specs.declared.calls.ChangeKind.TheVariants as kind
use Rattle.laws_engine.specs.HeldRecords.{HeldRecord}
use Rattle.laws_engine.specs.Holding.{AllRise}

-- ---- records

-- a record that is stored, holds numbers in the escrow columns, and stands under its bookmark
abbrev pub IsSoundRecord : ℕ → Schema → List ℕ → RecordFields → Type 0
IsSoundRecord number schema bookmark values = IsStored number schema bookmark values × HoldsNumbers number schema bookmark values × StandsUnder number schema bookmark values

-- what each record has, by the schema of its table
abbrev pub EachIn : (ℕ → Schema → List ℕ → RecordFields → Type 0) → ℕ → List Table → Records → Type 0
EachIn P number tables records = (id : ℕ) → IfSome (table_with_id tables id) (λ table. (bookmark : List ℕ) → IfSome (records id bookmark) (P number (schema_of table) bookmark))

-- what each record before a held change has
abbrev pub EachHeld : (ℕ → Schema → List ℕ → RecordFields → Type 0) → ℕ → List Table → List HeldRecord → Type 0
EachHeld P number tables held = AllByRecursion (λ (h : HeldRecord). IfSome (table_with_id tables h.table) (λ table. IfSome h.before (P number (schema_of table) h.bookmark))) held

-- what a record has stays where a sum is taken out of it
abbrev pub SumsKeepIt : (ℕ → Schema → List ℕ → RecordFields → Type 0) → ℕ → Schema → List ℕ → ChangeKind → Type 0
SumsKeepIt P number schema bookmark kind.Put = Unit {0}
SumsKeepIt P number schema bookmark kind.Drop = Unit {0}
SumsKeepIt P number schema bookmark kind.Hold = Unit {0}
SumsKeepIt P number schema bookmark (kind.Add column amount) = (values : RecordFields) → P number schema bookmark values → P number schema bookmark (with_sum values column.0 (neg_ℤ amount))

-- and so with each held change
abbrev pub SumsKeepAll : (ℕ → Schema → List ℕ → RecordFields → Type 0) → ℕ → List Table → List HeldRecord → Type 0
SumsKeepAll P number tables held = AllByRecursion (λ (h : HeldRecord). IfSome (table_with_id tables h.table) (λ table. SumsKeepIt P number (schema_of table) h.bookmark h.kind)) held

-- ---- the whole

-- the state that an engine shows
abbrev pub state_of : EngineState → DatabaseState
state_of engine = shown_state engine.number engine.greatest_table engine.sessions engine.store

-- its records before all held changes
abbrev pub first_records : EngineState → Records
first_records engine = records_of (tables_before engine.store.held engine.store.tables)

-- its held changes as past ones
abbrev pub past_in : EngineState → List PastChange
past_in engine = past_of engine.store.held engine.store.tables

-- What is asked of its tables: their order, the numbers of their columns, single sums, and indexes over columns that are no sums.
pub record HasSoundTables (engine : EngineState) : Type 0 where
  pub rise : AllRise engine.store.tables
  pub ids : EachTwo IdsRise engine.store.tables
  pub given : AllByRecursion (λ (table : Table). (0 < table.id) × (table.id ≤ engine.greatest_table)) engine.store.tables
  pub columns : have_own_numbers engine.store.tables ≡ true
  pub built : are_built engine.store.tables ≡ true
  pub single : (id : ℕ) → IfSome (table_with_id engine.store.tables id) HasSingleSums
  pub plain : (id : ℕ) → IfSome (table_with_id engine.store.tables id) (λ table. AllByRecursion (λ rule. IsPlainIndex table rule × SeesNoSum rule table.id (past_in engine)) table.indexes)

-- What is asked of its records and held changes: they can be taken back, each record is sound, and no unique key comes twice.
pub record HasSoundRecords (engine : EngineState) : Type 0 where
  pub turn : AreInTurn engine.store.held engine.store.tables
  pub costs : HaveTheirCosts engine.store.held engine.store.tables
  pub newest : EachIn IsSoundRecord engine.number engine.store.tables (records_of engine.store.tables)
  pub befores : EachHeld IsSoundRecord engine.number engine.store.tables engine.store.held
  pub adds : AllByRecursion (λ item. IfSome (table_with_id engine.store.tables (changed_table item.change)) (λ table. AddsToEscrow (schema_of table) item.change)) (past_in engine)
  pub keeps : SumsKeepAll IsSoundRecord engine.number engine.store.tables engine.store.held
  pub touched : AllByRecursion TouchesRecord (past_in engine)
  pub unique : HasUniqueKeys (first_records engine) (past_in engine) (state_of engine)

-- What is asked of an engine, which all can be seen in its newest records, held changes and sessions.
pub record IsShowable (engine : EngineState) : Type 0 where
  pub tables : HasSoundTables engine
  pub records : HasSoundRecords engine
  pub placed : ArePlaced engine.number engine.greatest_table engine.sessions engine.store
  pub labels : EachTwo LabelsRise (state_of engine).sessions
  pub numbered : engine.newest_put ≤ engine.number
