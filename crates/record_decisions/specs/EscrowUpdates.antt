-- Why the engine refuses an EscrowUpdate, by what it holds.
use Rattle.std.specs.Prelude.{ℕ, ℤ, not, ◌∷◌, ◌++◌}
use Rattle.jet_base.specs.declared.ids.ColumnId.{ColumnId}
use Rattle.jet_base.specs.declared.replies.Jet.TheVariants as jet
use Rattle.column_set.specs.declared.changes.Change.{Change}
use Rattle.column_set.specs.declared.changes.Change.TheVariants.{Add}
use Rattle.column_set.specs.declared.columns.Column.{Column}
use Rattle.column_set.specs.Refusals.{Refusals}
use Rattle.session_local.specs.Local.{LocalState, OpenCursor}
use Rattle.session_local.specs.RecordCalls.{bookmark_at}
use Rattle.laws_engine.specs.EngineState.{EngineState}
use Rattle.record_decisions.specs.Changing.{change_in, current_in, outside_in, own_in}

-- the sum in a column of the record at the cursor
abbrev pub sum_at : OpenCursor → ColumnId → ℤ → Change
sum_at c column amount = Add (record { 0 = c.cursor.table }) (bookmark_at c) column amount

-- what is asked before the column
abbrev pub place_in : EngineState → ℕ → OpenCursor → Refusals
place_in engine session c = outside_in engine session ++ current_in engine session c

-- what is asked of the column, and of the sum in it
abbrev pub sum_in : EngineState → ℕ → LocalState → OpenCursor → Column → Change → Refusals
sum_in engine session local c column made = (not column.escrow, jet.InvalidColumnType) ∷ own_in local c ++ change_in engine session made
