-- The changes of the past that are held, each with the record before it, and what they say.
use Rattle.std.specs.Prelude.{ℕ, neg_ℤ, ◌-◌, ◌==◌, Bool, false, not, ◌&&◌, ◌||◌, List, [], ◌∷◌, find, sum_by, Option, Some, None, bytes_eq, if◌then◌else◌}
use Rattle.std.specs.List.{list_any}
use Rattle.jet_base.specs.Ids.{table_id}
use Rattle.column_set.specs.declared.changes.Change.{Change}
use Rattle.column_set.specs.declared.changes.Change.TheVariants.{Put, Drop, Hold, Add}
use Rattle.column_set.specs.RecordValues.{RecordFields}
use Rattle.index_derive.specs.declared.rules.IndexRule.{IndexRule}
use Rattle.index_derive.specs.declared.rules.Schema.{Schema}
use Rattle.database_state.specs.Changes.{is_sum}
use Rattle.column_set.specs.ChangedRecords.{changed_table, changed_bookmark}
use Rattle.database_state.specs.Conflicts.{yields_key}
use Rattle.database_state.specs.State.{Status, uncommitted, committed, undone, is_open, is_undone}
use Rattle.database_state.specs.VersionStore.{cost_of}
use Rattle.version_store.specs.declared.calls.By.{By}
use Rattle.version_store.specs.declared.calls.ChangeKind.{ChangeKind}
use Rattle.version_store.specs.declared.calls.ChangeKind.TheVariants as kind
use Rattle.version_store.specs.declared.calls.Reader.{Reader}
use Rattle.version_store.specs.HeldChanges.{kind_of, is_add, is_kept_status, is_rewrite, is_unseen_status}

-- A held change: the number of its entry, who made it and at which level, what it does, its record, the record before a put
-- or a drop, its cost in the version store in bytes, and its state.
pub record HeldRecord : Type 0 where
  pub number : ℕ
  pub session : ℕ
  pub level : ℕ
  pub kind : ChangeKind
  pub table : ℕ
  pub bookmark : List ℕ
  pub before : Option RecordFields
  pub cost : ℕ
  pub status : Status

-- a put or a drop holds the record before it; a lock and a sum hold none
abbrev pub held_before : ChangeKind → Option RecordFields → Option RecordFields
held_before kind before = if is_rewrite kind then before else None

-- the change as it is when it is made
abbrev pub new_change : By → Change → Option RecordFields → HeldRecord
new_change by made before = record {
  number = by.number;
  session = by.session.0;
  level = by.level;
  kind = kind_of made;
  table = changed_table made;
  bookmark = changed_bookmark made;
  before = held_before (kind_of made) before;
  cost = cost_of made before;
  status = uncommitted;
}

-- ---- what a reader does not see

-- It is open in another session, or was committed after the reader's begin.
abbrev pub is_unseen : Reader → HeldRecord → Bool
is_unseen reader held = is_unseen_status reader held.session held.status

abbrev pub is_change_at : ℕ → List ℕ → HeldRecord → Bool
is_change_at table bookmark held = (held.table == table) && bytes_eq held.bookmark bookmark

-- a put or a drop of the record that the reader does not see
abbrev pub hides : ℕ → List ℕ → Reader → HeldRecord → Bool
hides table bookmark reader held = is_change_at table bookmark held && is_rewrite held.kind && is_unseen reader held

-- the record before a change, or the newest one where there is no such change
abbrev pub before_or : Option RecordFields → Option HeldRecord → Option RecordFields
before_or newest None = newest
before_or newest (Some held) = held.before

-- The record before the oldest put or drop that the reader does not see, or the newest one where it sees all.
abbrev pub seen_record : ℕ → List ℕ → Reader → Option RecordFields → List HeldRecord → Option RecordFields
seen_record table bookmark reader newest changes = before_or newest (find (hides table bookmark reader) changes)

-- a change of another session that is open, or was committed after the reader's begin
abbrev pub is_concurrent : Reader → HeldRecord → Bool
is_concurrent reader held = not (held.session == reader.session.0) && is_unseen reader held

-- A write conflict: a concurrent change of another session touches the same record, unless both are sums.
abbrev pub conflicts : Reader → Change → HeldRecord → Bool
conflicts reader made held =
    is_concurrent reader held
    && (is_change_at (changed_table made) (changed_bookmark made) held && not (is_add held.kind && is_sum made))

abbrev pub has_conflict : Reader → Change → List HeldRecord → Bool
has_conflict reader made changes = list_any (conflicts reader made) changes

-- ---- levels and ends of transactions

abbrev pub is_open_of : ℕ → HeldRecord → Bool
is_open_of session held = is_open held.status && (held.session == session)

abbrev pub is_open_at : ℕ → ℕ → HeldRecord → Bool
is_open_at session level held = is_open_of session held && (held.level == level)

-- the open changes of the session at the level go to the level below
abbrev pub released_change : ℕ → ℕ → HeldRecord → HeldRecord
released_change session level held = if is_open_at session level held then record held { level = held.level - 1 } else held

-- the open changes of the session are committed at the number
abbrev pub committed_change : ℕ → ℕ → HeldRecord → HeldRecord
committed_change session number held = if is_open_of session held then record held { status = committed number } else held

-- an undone change, which holds no record any more
abbrev pub as_undone : HeldRecord → HeldRecord
as_undone held = record held { status = undone; before = None }

-- the changes that pass become undone
abbrev pub undone_change : (HeldRecord → Bool) → HeldRecord → HeldRecord
undone_change test held = if test held then as_undone held else held

-- The change that takes a held one back: it puts the record before it back, or the amount of a sum out again.
abbrev pub inverse_of : ChangeKind → ℕ → List ℕ → Option RecordFields → Change
inverse_of kind.Put table bookmark None = Drop (table_id table) bookmark
inverse_of kind.Put table bookmark (Some values) = Put (table_id table) bookmark None values
inverse_of kind.Drop table bookmark None = Drop (table_id table) bookmark
inverse_of kind.Drop table bookmark (Some values) = Put (table_id table) bookmark None values
inverse_of kind.Hold table bookmark before = Hold (table_id table) bookmark
inverse_of (kind.Add column amount) table bookmark before = Add (table_id table) bookmark column (neg_ℤ amount)

abbrev pub inverse : HeldRecord → Change
inverse held = inverse_of held.kind held.table held.bookmark held.before

-- ---- the span

-- the oldest change that must be kept, given where the oldest open transaction began, and all behind it
abbrev pub from_oldest_kept : Option ℕ → List HeldRecord → List HeldRecord
from_oldest_kept oldest [] = []
from_oldest_kept oldest (held ∷ changes) = if is_kept_status oldest held.status then held ∷ changes else from_oldest_kept oldest changes

-- the costs from the oldest kept change to the newest
abbrev pub span : Option ℕ → List HeldRecord → ℕ
span oldest changes = sum_by (λ held. held.cost) (from_oldest_kept oldest changes)

-- ---- key conflicts

-- a put or a drop of the record that is not undone
abbrev pub is_standing_rewrite : ℕ → List ℕ → HeldRecord → Bool
is_standing_rewrite table bookmark held = is_change_at table bookmark held && is_rewrite held.kind && not (is_undone held.status)

-- the record before the next put or drop of it, or the newest one
abbrev pub next_variant : (ℕ → List ℕ → Option RecordFields) → ℕ → List ℕ → List HeldRecord → Option RecordFields
next_variant newest table bookmark changes = before_or (newest table bookmark) (find (is_standing_rewrite table bookmark) changes)

-- A key conflict: some concurrent change of the table has the key in its record before it, or in the one after it.
abbrev pub has_key_conflict : Reader → (ℕ → List ℕ → Option RecordFields) → ℕ → IndexRule → Schema → List ℕ → List HeldRecord → Bool
has_key_conflict reader newest table rule schema key [] = false
has_key_conflict reader newest table rule schema key (held ∷ changes) =
    (is_concurrent reader held && ((held.table == table)
    && (yields_key rule schema key (next_variant newest held.table held.bookmark (held ∷ changes))
    || yields_key rule schema key (next_variant newest held.table held.bookmark changes))))
    || has_key_conflict reader newest table rule schema key changes
