-- A state with undone changes, one before the oldest needed change and one behind it.
use Rattle.std.specs.Prelude.{ℕ, [], ◌∷◌, Some, None}
use Rattle.column_set.specs.declared.changes.Change.TheVariants.{Put}
use Rattle.database_state.specs.State.{DatabaseState, PastChange, Status, uncommitted, undone}

abbrev insert_by : ℕ → ℕ → Status → PastChange
insert_by session number status = record {
  number = number;
  session = session;
  level = 1;
  change = Put (record { 0 = 1 }) (number ∷ []) None [];
  before = None;
  after = Some [];
  status = status;
}

abbrev pub sample : DatabaseState
sample = record {
  number = 4;
  greatest_table = 1;
  tables = [];
  sessions = record { label = 1; open_tables = []; transaction = Some (record { levels = 1; begin = 1; snapshot = [] }) } ∷ [];
  past = insert_by 2 2 undone ∷ insert_by 1 3 uncommitted ∷ insert_by 2 4 undone ∷ [];
}
