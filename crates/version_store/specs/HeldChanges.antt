-- The changes of the past that are held, and what the calls on them mean.
use Rattle.std.specs.Prelude.{ℕ, zero, suc, ◌+◌, ◌-◌, ◌*◌, ◌/◌, ◌==◌, Bool, true, false, not, ◌&&◌, nat_lt, List, [], ◌∷◌, length, Option, Some, None, find, if◌then◌else◌, sum_by, bytes_eq}
use Rattle.std.specs.List.{list_any}
use Rattle.column_set.specs.declared.changes.Change.{Change}
use Rattle.column_set.specs.declared.changes.Change.TheVariants as change
use Rattle.database_state.specs.Changes.{is_sum}
use Rattle.column_set.specs.ChangedRecords.{changed_table, changed_bookmark}
use Rattle.database_state.specs.State.{Status, uncommitted, committed, undone, is_open, is_undone}
use Rattle.version_store.specs.declared.calls.By.{By}
use Rattle.version_store.specs.declared.calls.ChangeKind.{ChangeKind}
use Rattle.version_store.specs.declared.calls.ChangeKind.TheVariants as kind
use Rattle.version_store.specs.declared.calls.Reader.{Reader}
use Rattle.version_store.specs.declared.calls.Variant.{Variant}
use Rattle.version_store.specs.declared.calls.Variant.TheVariants as variant

-- A held change: the number of its entry, who made it and at which level, what it is, its record, the bytes of the row before
-- it, and its state.
pub record HeldChange : Type 0 where
  pub number : ℕ
  pub session : ℕ
  pub level : ℕ
  pub kind : ChangeKind
  pub table : ℕ
  pub bookmark : List ℕ
  pub before : Option (List ℕ)
  pub status : Status

abbrev pub kind_of : Change → ChangeKind
kind_of (change.Put table bookmark copied values) = kind.Put
kind_of (change.Drop table bookmark) = kind.Drop
kind_of (change.Hold table bookmark) = kind.Hold
kind_of (change.Add table bookmark column amount) = kind.Add column amount

abbrev pub is_add : ChangeKind → Bool
is_add kind.Put = false
is_add kind.Drop = false
is_add kind.Hold = false
is_add (kind.Add column amount) = true

-- whether it sets or removes the row
abbrev pub is_rewrite : ChangeKind → Bool
is_rewrite kind.Put = true
is_rewrite kind.Drop = true
is_rewrite kind.Hold = false
is_rewrite (kind.Add column amount) = false

-- the change as it is when it is made
abbrev pub new_change : By → Change → Option (List ℕ) → HeldChange
new_change by made before = record {
  number = by.number;
  session = by.session.0;
  level = by.level;
  kind = kind_of made;
  table = changed_table made;
  bookmark = changed_bookmark made;
  before = before;
  status = uncommitted;
}

-- ---- what a reader does not see

-- whether a commit came after a transaction's begin; outside a transaction none did
abbrev pub is_after : Option ℕ → ℕ → Bool
is_after None number = false
is_after (Some begin) number = nat_lt begin number

abbrev pub is_unseen_status : Reader → ℕ → Status → Bool
is_unseen_status reader session uncommitted = not (session == reader.session.0)
is_unseen_status reader session (committed number) = is_after reader.begin number
is_unseen_status reader session undone = false

-- It is open in another session, or was committed after the reader's begin.
abbrev pub is_unseen : Reader → HeldChange → Bool
is_unseen reader held = is_unseen_status reader held.session held.status

abbrev pub is_record : ℕ → List ℕ → HeldChange → Bool
is_record table bookmark held = (held.table == table) && bytes_eq held.bookmark bookmark

abbrev pub collides : Change → HeldChange → Bool
collides made held = is_record (changed_table made) (changed_bookmark made) held && not (is_add held.kind && is_sum made)

-- a change of another session that is open, or was committed after the reader's begin
abbrev pub is_concurrent : Reader → HeldChange → Bool
is_concurrent reader held = not (held.session == reader.session.0) && is_unseen reader held

-- A write conflict: a concurrent change of another session touches the same record, unless both are sums.
abbrev pub conflicts : Reader → Change → HeldChange → Bool
conflicts reader made held = is_concurrent reader held && collides made held

abbrev pub has_conflict : Reader → Change → List HeldChange → Bool
has_conflict reader made changes = list_any (conflicts reader made) changes

-- a put or a drop of the record that the reader does not see
abbrev pub hides : ℕ → List ℕ → Reader → HeldChange → Bool
hides table bookmark reader held = is_record table bookmark held && is_rewrite held.kind && is_unseen reader held

-- a put or a drop that is not undone
abbrev pub is_standing : HeldChange → Bool
is_standing held = is_rewrite held.kind && not (is_undone held.status)

-- A put or a drop of the record that is not undone: the row before it is one that some reader may see, or that an undo may
-- bring back.
abbrev pub is_standing_rewrite : ℕ → List ℕ → HeldChange → Bool
is_standing_rewrite table bookmark held = is_record table bookmark held && is_rewrite held.kind && not (is_undone held.status)

-- ---- what a reader sees of a record

-- the row that the record has now, this row, or none
pub data SeenRow : Type 0 where
  current : SeenRow
  row_before : List ℕ → SeenRow
  absent : SeenRow

abbrev pub seen_before : Option (List ℕ) → SeenRow
seen_before None = absent
seen_before (Some row) = row_before row

abbrev pub seen_at : Option HeldChange → SeenRow
seen_at None = current
seen_at (Some held) = seen_before held.before

-- The row before the oldest put or drop of the record that the reader does not see, or the current one where there is none.
abbrev pub seen_row : ℕ → List ℕ → Reader → List HeldChange → SeenRow
seen_row table bookmark reader changes = seen_at (find (hides table bookmark reader) changes)

abbrev pub shown : Variant → SeenRow
shown variant.Current = current
shown (variant.Before row) = row_before row.now
shown variant.Absent = absent

-- ---- the span

abbrev pub is_kept_status : Option ℕ → Status → Bool
is_kept_status oldest uncommitted = true
is_kept_status oldest (committed number) = is_after oldest number
is_kept_status oldest undone = false

-- It is open, or was committed after the oldest open transaction began.
abbrev pub is_kept : Option ℕ → HeldChange → Bool
is_kept oldest held = is_kept_status oldest held.status

abbrev pub from_oldest_kept : Option ℕ → List HeldChange → List HeldChange
from_oldest_kept oldest [] = []
from_oldest_kept oldest (held ∷ changes) = if is_kept oldest held then held ∷ changes else from_oldest_kept oldest changes

-- the size of a row, rounded up to a multiple of 8
abbrev pub rounded_size : Option (List ℕ) → ℕ
rounded_size None = 0
rounded_size (Some row) = (length row + 7) / 8 * 8

-- A put or a drop costs 64 bytes and the row before it, a sum or a lock 64.
abbrev pub cost : ChangeKind → Option (List ℕ) → ℕ
cost what row = if is_rewrite what then 64 + rounded_size row else 64

abbrev pub cost_of : HeldChange → ℕ
cost_of held = cost held.kind held.before

-- the costs from the oldest kept change to the newest
abbrev pub span : Option ℕ → List HeldChange → ℕ
span oldest changes = sum_by cost_of (from_oldest_kept oldest changes)

-- whether the span stays within the limit with one change more
abbrev pub has_room : By → Change → Option (List ℕ) → List HeldChange → Bool
has_room by made before changes = not (nat_lt by.limit (span by.oldest changes + cost (kind_of made) before))

-- ---- levels and ends of transactions

abbrev pub is_open_of : ℕ → HeldChange → Bool
is_open_of session held = (held.session == session) && is_open held.status

abbrev pub is_open_at : ℕ → ℕ → HeldChange → Bool
is_open_at session level held = is_open_of session held && (held.level == level)

abbrev pub with_status : Status → HeldChange → HeldChange
with_status status held = record held { status = status }

abbrev pub later_place : Bool → Option ℕ → Option ℕ
later_place is_here (Some place) = Some (suc place)
later_place is_here None = if is_here then Some 0 else None

-- the place of the last one that passes
abbrev pub last_place : (HeldChange → Bool) → List HeldChange → Option ℕ
last_place test [] = None
last_place test (held ∷ changes) = later_place (test held) (last_place test changes)

-- the change at the place becomes undone
abbrev pub undone_at : Option ℕ → List HeldChange → List HeldChange
undone_at place [] = []
undone_at None (held ∷ changes) = held ∷ changes
undone_at (Some zero) (held ∷ changes) = with_status undone held ∷ changes
undone_at (Some (suc place)) (held ∷ changes) = held ∷ undone_at (Some place) changes

-- the newest open change of the level becomes undone
abbrev pub newest_undone : ℕ → ℕ → List HeldChange → List HeldChange
newest_undone session level changes = undone_at (last_place (is_open_at session level) changes) changes

-- the open changes of the level go to the level below
abbrev pub released_change : ℕ → ℕ → HeldChange → HeldChange
released_change session level held = if is_open_at session level held then record held { level = level - 1 } else held

-- the open changes of the session are committed at the number
abbrev pub committed_change : ℕ → ℕ → HeldChange → HeldChange
committed_change session number held = if is_open_of session held then with_status (committed number) held else held
