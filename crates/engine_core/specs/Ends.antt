-- The bytes of the entries that end what is begun.
use Rattle.std.specs.Prelude.{◌≡◌, ℕ, ◌+◌, ◌-◌, ◌*◌, ◌==◌, Bool, true, false, List, length, Option, Some, None, if◌then◌else◌, get_or}
use Rattle.std.specs.List.{sum_by}
use Rattle.index_derive.specs.declared.log.EntryKind.{EntryKind}
use Rattle.index_derive.specs.declared.log.EntryKind.TheVariants as entry
use Rattle.version_cleanup.specs.LiveSessions.{LiveState, levels_of, session_in}
use Rattle.loggable_steps.specs.Loggable.{is_label}
use Rattle.engine_core.specs.Closing.{HaveLabels}

-- a session ends by 9 bytes, each of its open tables by 13 and each of its levels by 9
abbrev pub end_bytes_of : LiveState → ℕ
end_bytes_of session = 9 + 13 * length session.open_tables + 9 * levels_of session.transaction

abbrev pub end_bytes : List LiveState → ℕ
end_bytes sessions = sum_by end_bytes_of sessions

-- ---- one session

abbrev pub bytes_in : Option LiveState → ℕ
bytes_in None = 0
bytes_in (Some session) = end_bytes_of session

abbrev pub open_in : Option LiveState → ℕ
open_in None = 0
open_in (Some session) = length session.open_tables

-- the bytes of what a session is to end, and how many cursors it has open; none where it is not live
abbrev pub session_bytes : ℕ → List LiveState → ℕ
session_bytes label sessions = bytes_in (session_in label sessions)

abbrev pub open_count : ℕ → List LiveState → ℕ
open_count label sessions = open_in (session_in label sessions)

-- how many it has open after an entry of its own
abbrev pub open_after : EntryKind → ℕ → ℕ
open_after (entry.Open table) count = count + 1
open_after (entry.Shut table) count = count - 1
open_after entry.Leave count = 0
open_after _ count = count

-- ---- all sessions

-- The bytes of all that is to end, and how many cursors each session has open, by its label.
pub record EndsState : Type 0 where
  pub bytes : ℕ
  pub cursors : List ℕ

abbrev pub count_of : EndsState → ℕ → ℕ
count_of ends label = get_or ends.cursors label 0

-- they are those of these sessions
pub record CountsEnds (sessions : List LiveState) (ends : EndsState) : Type 0 where
  pub bytes : ends.bytes ≡ end_bytes sessions
  pub cursors : (label : ℕ) → count_of ends label ≡ open_count label sessions

abbrev pub with_count : ℕ → ℕ → (ℕ → ℕ) → ℕ → ℕ
with_count label count counts other = if other == label then count else counts other

-- A session has so many cursors, and all ends have so many bytes.
pub record IsCountedAnew (label cursors bytes : ℕ) (old new : EndsState) : Type 0 where
  pub bytes_are : new.bytes ≡ bytes
  pub cursors_are : (other : ℕ) → count_of new other ≡ with_count label cursors (count_of old) other

-- An entry of the session leaves the cursors of the others, and the bytes of all differ by those of the session.
pub record Follows (label : ℕ) (kind : EntryKind) (old new : List LiveState) : Type 0 where
  pub sum : end_bytes new + session_bytes label old ≡ end_bytes old + session_bytes label new
  pub own : open_count label new ≡ open_after kind (open_count label old)
  pub others : (other : ℕ) → (other == label) ≡ false → open_count other new ≡ open_count other old
  pub labels : HaveLabels old → is_label label ≡ true → HaveLabels new

-- ---- entries

-- the bytes by which what an entry begins is to end
abbrev pub begun_bytes : EntryKind → ℕ
begun_bytes entry.Enter = 9
begun_bytes (entry.Open table) = 13
begun_bytes entry.Begin = 9
begun_bytes entry.Save = 9
begun_bytes _ = 0

-- the bytes of an entry that ends something
abbrev pub ended_bytes : EntryKind → ℕ
ended_bytes entry.Leave = 9
ended_bytes (entry.Shut table) = 13
ended_bytes entry.Release = 9
ended_bytes entry.Undo = 9
ended_bytes entry.UndoAll = 9
ended_bytes entry.Commit = 9
ended_bytes _ = 0

abbrev pub ends_something : EntryKind → Bool
ends_something entry.Leave = true
ends_something (entry.Shut table) = true
ends_something entry.Release = true
ends_something entry.Undo = true
ends_something entry.UndoAll = true
ends_something entry.Commit = true
ends_something _ = false
