-- What the version store must keep, and what it costs.
use Rattle.std.specs.Prelude.{ℕ, ◌+◌, ◌*◌, ◌/◌, Bool, true, false, List, [], ◌∷◌, Option, Some, None, if◌then◌else◌, sum_by}
use Rattle.std.specs.List.{list_any}
use Rattle.column_set.specs.declared.changes.Change.{Change}
use Rattle.column_set.specs.declared.changes.Change.TheVariants.{Put, Drop, Hold, Add}
use Rattle.column_set.specs.RecordValues.{RecordFields, record_size}
use Rattle.database_state.specs.State.{DatabaseState, LiveSession, PastChange, Status, uncommitted, committed, undone}
use Rattle.database_state.specs.Conflicts.{is_after_begin}

-- A change is needed while it is open, or while some open transaction began before its commit.
abbrev pub is_needed_status : List LiveSession → Status → Bool
is_needed_status sessions uncommitted = true
is_needed_status sessions (committed number) = list_any (λ s. is_after_begin s.transaction number) sessions
is_needed_status sessions undone = false

abbrev pub is_needed : List LiveSession → PastChange → Bool
is_needed sessions item = is_needed_status sessions item.status

-- the changes from the oldest needed one to the newest, none where none is needed
abbrev pub from_oldest_needed : List LiveSession → List PastChange → List PastChange
from_oldest_needed sessions [] = []
from_oldest_needed sessions (item ∷ past) = if is_needed sessions item then item ∷ past else from_oldest_needed sessions past

-- the in-page size of the record before, 0 for none, rounded up to a multiple of 8
abbrev pub rounded_size : Option RecordFields → ℕ
rounded_size None = 0
rounded_size (Some values) = (record_size values + 7) / 8 * 8

-- A put or a drop costs 64 bytes and the record before it, a sum or a lock 64.
abbrev pub cost_of : Change → Option RecordFields → ℕ
cost_of (Put table bookmark copied values) before = 64 + rounded_size before
cost_of (Drop table bookmark) before = 64 + rounded_size before
cost_of (Hold table bookmark) before = 64
cost_of (Add table bookmark column amount) before = 64

-- The span of the version store: the costs from the oldest needed change to the newest, also of those between that are
-- undone or no longer needed.
unfoldable pub version_span : DatabaseState → ℕ
version_span state = sum_by (λ item. cost_of item.change item.before) (from_oldest_needed state.sessions state.past)
