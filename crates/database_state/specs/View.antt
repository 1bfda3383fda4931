-- What a session sees, and what the newest state is.
use Rattle.std.specs.Prelude.{ℕ, List, Option, Some, None}
use Rattle.database_state.specs.Table.{Table}
use Rattle.database_state.specs.Changes.{tables_after_all}
use Rattle.database_state.specs.State.{DatabaseState, Transaction, transaction_of, open_changes_of, open_changes}

-- The committed tables with every open change applied, in the order of their numbers.
unfoldable pub newest : DatabaseState → List Table
newest state = tables_after_all state.tables (open_changes state.past)

abbrev pub view_in : DatabaseState → ℕ → Option Transaction → List Table
view_in state session None = state.tables
view_in state session (Some transaction) = tables_after_all transaction.snapshot (open_changes_of session state.past)

-- A session's view: the snapshot of its transaction with its own open changes, or the committed tables outside one.
unfoldable pub view : DatabaseState → ℕ → List Table
view state session = view_in state session (transaction_of state session)
