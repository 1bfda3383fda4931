-- The sums of a record as a session sees them, told by the row that it is shown.
use Rattle.std.specs.Prelude.{◌≡◌, ℕ, Bool, true, not, ◌||◌, List, Option, None, bytes_eq, MatchOption}
use Rattle.std.specs.Int.{w32, cast_unsigned, to_le_bytes}
use Rattle.std.specs.List.{AllByRecursion, list_all}
use Rattle.column_set.specs.declared.columns.Column.{Column}
use Rattle.column_set.specs.RecordValues.{RecordFields}
use Rattle.database_state.specs.Changes.{escrow_bytes}
use Rattle.database_state.specs.Lawful.{keeps_escrow}
use Rattle.database_state.specs.State.{DatabaseState}
use Rattle.database_state.specs.Table.{row_at}
use Rattle.index_derive.specs.declared.rules.Schema.{Schema}
use Rattle.laws_versions.specs.EscrowNumbers.{holds_number}
use Rattle.laws_versions.specs.EscrowSums.{escrow_value, seen_value}
use Rattle.laws_engine.specs.EngineState.{EngineState}
use Rattle.laws_engine.specs.HoldsState.{HoldsState}
use Rattle.engine_parts.specs.Reading.{shown_for, unseen_amounts}
use Rattle.record_decisions.specs.Updating.{IsSchemaOf}
use Rattle.soft_recovery.specs.LawfulEntries.{rows_in}

-- the escrow columns hold numbers
abbrev pub HoldsSums : List Column → RecordFields → Type 0
HoldsSums columns row = AllByRecursion (λ column. column.escrow ≡ true → holds_number row column.id.0 ≡ true) columns

-- the bytes of the number that the session sees in a column of the row that it is shown
abbrev pub shown_sum : EngineState → ℕ → ℕ → List ℕ → RecordFields → ℕ → List ℕ
shown_sum engine session table bookmark row column =
    to_le_bytes w32 (cast_unsigned w32 (seen_value (escrow_value row column) (unseen_amounts engine session table bookmark column)))

-- whether a column, where it is an escrow column, has the bytes of the number that the session sees
abbrev pub keeps_column : EngineState → ℕ → ℕ → List ℕ → RecordFields → RecordFields → Column → Bool
keeps_column engine session table bookmark row values column = not column.escrow || bytes_eq (escrow_bytes values column.id.0) (shown_sum engine session table bookmark row column.id.0)

-- whether each escrow column has
abbrev pub keeps_shown : EngineState → ℕ → ℕ → List ℕ → RecordFields → List Column → RecordFields → Bool
keeps_shown engine session table bookmark row columns values = list_all (keeps_column engine session table bookmark row values) columns

-- the sums of a row that is shown are those of the view, which has no record where none is shown
abbrev pub ShowsSums : Type 0
ShowsSums =
    (engine : EngineState) (state : DatabaseState) → HoldsState engine state → (session table : ℕ) (schema : Schema) → IsSchemaOf engine table schema → (bookmark : List ℕ)
    → MatchOption (shown_for engine session table bookmark) (row_at (rows_in state session table) bookmark ≡ None)
    (λ row. HoldsSums schema.columns row × ((values : RecordFields) → keeps_shown engine session table bookmark row schema.columns values ≡ keeps_escrow schema.columns (row_at (rows_in state session table) bookmark) values))
