-- A session's own state beside the database state, and after an answer.
use Rattle.std.specs.Prelude.{◌≡◌, ℕ, true, map, List, IfSome}
use Rattle.index_derive.specs.Steps.{entries_of_step}
use Rattle.database_state.specs.Table.{schema_of, table_with_id}
use Rattle.database_state.specs.State.{DatabaseState}
use Rattle.database_state.specs.View.{view}
use Rattle.database_state.specs.Step.{state_after_all}
use Rattle.laws_versions.specs.Records.{records_of}
use Rattle.laws_versions.specs.StoredRecords.{IsStored}
use Rattle.session_local.specs.Agreement.{Agrees}
use Rattle.session_local.specs.Local.{LocalState}
use Rattle.session_local.specs.Outcome.{CallInputs, Outcome}
use Rattle.session_local.specs.SessionSide.{are_distinct, label_of}
use Rattle.laws_engine.specs.EntryTypes.{HasRisingUpdates}

-- A session is in step with the database where its own state agrees with it, no two of its cursors have one label, and the columns
-- of each record that it has prepared rise.
pub record IsInStep (state : DatabaseState) (session : ℕ) (local : LocalState) : Type 0 where
  pub agrees : Agrees state session local
  pub labels : are_distinct (map label_of local.cursors) ≡ true
  pub updates : HasRisingUpdates local

-- the records that a session sees fit their row and their columns
abbrev pub SeesStored : DatabaseState → ℕ → Type 0
SeesStored state session = (id : ℕ) → IfSome (table_with_id state.tables id) (λ table. (bookmark : List ℕ) → IfSome (records_of (view state session) id bookmark) (IsStored state.number (schema_of table) bookmark))

-- It is so after an answer: its own state as the answer leaves it, beside the state after the entries that the answer made.
abbrev pub StaysInStep : CallInputs → Outcome → Type 0
StaysInStep asked outcome = IsInStep (state_after_all asked.state (entries_of_step outcome.step)) asked.session outcome.local
