-- Items with their rows as held changes.
use Rattle.std.specs.Prelude.{ℕ, ◌-◌, ◌==◌, Bool, true, false, List, [], ◌∷◌, Option, Some, None, if◌then◌else◌}
use Rattle.database_state.specs.State.{Status as State, uncommitted, committed, undone}
use Rattle.version_store.specs.declared.item.Item.{Item}
use Rattle.version_store.specs.declared.item.Status.{Status}
use Rattle.version_store.specs.declared.item.Status.TheVariants as status
use Rattle.version_store.specs.HeldChanges.{HeldChange, is_open_at, is_open_of}
use Rattle.version_store.specs.Hashes.{hash_of}

abbrev pub state_of : Status → State
state_of status.Uncommitted = uncommitted
state_of (status.Committed number) = committed number
state_of status.Undone = undone

abbrev pub row_of : Bool → List ℕ → Option (List ℕ)
row_of true row = Some row
row_of false row = None

abbrev pub held_change : Item → List ℕ → HeldChange
held_change item row = record {
  number = item.number;
  session = item.session.0;
  level = item.level;
  kind = item.kind;
  table = item.table.0;
  bookmark = item.bookmark;
  before = row_of item.had_row row;
  status = state_of item.status;
}

-- each item with its row
abbrev pub held_changes : List Item → List (List ℕ) → List HeldChange
held_changes [] rows = []
held_changes (item ∷ items) [] = []
held_changes (item ∷ items) (row ∷ rows) = held_change item row ∷ held_changes items rows

abbrev pub item_hash : Item → ℕ
item_hash item = hash_of item.table.0 item.bookmark

-- the highest level so far, after the changes of a level have gone to the one below
abbrev pub lowered : ℕ → ℕ → ℕ
lowered level highest = if highest == level then level - 1 else highest

-- ---- what the end of a level or of a transaction does to an item

abbrev pub released_item : ℕ → ℕ → Item → Item
released_item session level item = if is_open_at session level (held_change item []) then record item { level = level - 1; highest = lowered level item.highest } else item

abbrev pub committed_item : ℕ → ℕ → Item → Item
committed_item session number item = if is_open_of session (held_change item []) then record item { status = status.Committed number } else item
