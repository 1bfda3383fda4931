-- The bytes of the live part of an image: the sessions and the changes of the past that are held, each number lowest byte first.
use Rattle.std.specs.Prelude.{ℕ, ◌^◌, Bool, true, not, ◌&&◌, nat_le, nat_lt, List, [], ◌∷◌, ◌++◌, length, filter, Option, Some, None}
use Rattle.std.specs.Int.{w16, w32, w64, to_le_bytes}
use Rattle.std.specs.List.{flat_map, list_all}
use Rattle.jet_base.specs.Ids.{session_id, table_id}
use Rattle.column_set.specs.declared.changes.Change.{Change}
use Rattle.column_set.specs.declared.changes.Change.TheVariants as change
use Rattle.column_set.specs.Rows.{largest_row}
use Rattle.database_state.specs.State.{Status, uncommitted, committed, undone, is_undone}
use Rattle.index_derive.specs.declared.log.Entry.{Entry}
use Rattle.index_derive.specs.declared.log.EntryKind.TheVariants as entry
use Rattle.log_grammar.specs.EntryBytes.{entry_bytes, has_spelling}
use Rattle.version_cleanup.specs.LiveSessions.{LiveState}
use Rattle.version_cleanup.specs.declared.live.Transaction.{Transaction}
use Rattle.version_store.specs.HeldChanges.{HeldChange}
use Rattle.version_store.specs.declared.calls.ChangeKind.{ChangeKind}
use Rattle.version_store.specs.declared.calls.ChangeKind.TheVariants as kind

-- The sessions by rising label, and the held changes, oldest first.
pub record LivePart : Type 0 where
  pub sessions : List LiveState
  pub held : List HeldChange

-- the changes that are open or committed
abbrev pub standing : List HeldChange → List HeldChange
standing held = filter (λ h. not (is_undone h.status)) held

-- An image that is written has no undone change: nothing but the span of the version store counts them.
abbrev pub without_undone : LivePart → LivePart
without_undone live = record { sessions = live.sessions; held = standing live.held }

-- ---- sessions

-- no level, or how many and where the transaction began
abbrev pub transaction_bytes : Option Transaction → List ℕ
transaction_bytes None = 0 ∷ []
transaction_bytes (Some t) = t.levels ∷ to_le_bytes w64 t.begin

-- its label, a count and its open tables, and its transaction
abbrev pub session_bytes : LiveState → List ℕ
session_bytes s = to_le_bytes w32 s.label ++ ((to_le_bytes w32 (length s.open_tables) ++ flat_map (to_le_bytes w32) s.open_tables) ++ transaction_bytes s.transaction)

-- ---- held changes

-- 0 where it is open, 1 where it is committed and 2 where it is undone, and the number of its commit or 0
abbrev pub status_bytes : Status → List ℕ
status_bytes uncommitted = 0 ∷ to_le_bytes w64 0
status_bytes (committed number) = 1 ∷ to_le_bytes w64 number
status_bytes undone = 2 ∷ to_le_bytes w64 0

-- the change without the record of a put, which the later changes and the newest row tell
abbrev pub bare_change : ChangeKind → ℕ → List ℕ → Change
bare_change kind.Put table bookmark = change.Put (table_id table) bookmark None []
bare_change kind.Drop table bookmark = change.Drop (table_id table) bookmark
bare_change kind.Hold table bookmark = change.Hold (table_id table) bookmark
bare_change (kind.Add column amount) table bookmark = change.Add (table_id table) bookmark column amount

-- the change as an entry of the log
abbrev pub entry_of : HeldChange → Entry
entry_of held = record { session = session_id held.session; kind = entry.Change (bare_change held.kind held.table held.bookmark) }

-- the entry behind the count of its bytes
abbrev pub sized_entry_bytes : Entry → List ℕ
sized_entry_bytes made = to_le_bytes w32 (length (entry_bytes made)) ++ entry_bytes made

-- 0, or 1 and the row before behind its length
abbrev pub row_bytes : Option (List ℕ) → List ℕ
row_bytes None = 0 ∷ []
row_bytes (Some row) = 1 ∷ (to_le_bytes w16 (length row) ++ row)

-- its number, its level, its state, the change and the row before
abbrev pub held_bytes : HeldChange → List ℕ
held_bytes held = to_le_bytes w64 held.number ++ ((held.level ∷ []) ++ (status_bytes held.status ++ (sized_entry_bytes (entry_of held) ++ row_bytes held.before)))

-- ---- the whole

-- a count and the sessions, a count and the held changes
abbrev pub live_bytes : LivePart → List ℕ
live_bytes live = (to_le_bytes w32 (length live.sessions) ++ flat_map session_bytes live.sessions) ++ (to_le_bytes w32 (length live.held) ++ flat_map held_bytes live.held)

-- ---- which parts have a spelling

-- each key is above the one before, and the first above `low`
abbrev pub rises : {A : Type 0} → (A → ℕ) → ℕ → List A → Bool
rises key low [] = true
rises key low (x ∷ xs) = nat_lt low (key x) && rises key (key x) xs

abbrev pub label_of : LiveState → ℕ
label_of s = s.label

abbrev pub number_of : HeldChange → ℕ
number_of held = held.number

-- a transaction has 1 to 7 levels
abbrev pub transaction_fits : Option Transaction → Bool
transaction_fits None = true
transaction_fits (Some t) = nat_le 1 t.levels && (nat_le t.levels 7 && nat_lt t.begin (2 ^ 64))

abbrev pub session_fits : LiveState → Bool
session_fits s = nat_le s.label 99 && ((nat_lt (length s.open_tables) (2 ^ 32) && list_all (λ table. nat_lt table (2 ^ 32)) s.open_tables) && transaction_fits s.transaction)

abbrev pub status_fits : Status → Bool
status_fits uncommitted = true
status_fits (committed number) = nat_le 1 number && nat_lt number (2 ^ 64)
status_fits undone = true

abbrev pub row_fits : Option (List ℕ) → Bool
row_fits None = true
row_fits (Some row) = nat_le (length row) largest_row

-- a change is made at a level from 1 to 7
abbrev pub held_fits : HeldChange → Bool
held_fits held = nat_lt held.number (2 ^ 64) && ((nat_le 1 held.level && nat_le held.level 7) && (status_fits held.status && (has_spelling (entry_of held) && row_fits held.before)))

-- At most 64 sessions stand, with rising labels from 1 to 99, and the numbers of the changes rise from 1.
abbrev pub live_fits : LivePart → Bool
live_fits live =
    (nat_le (length live.sessions) 64 && (rises label_of 0 live.sessions && list_all session_fits live.sessions))
    && (nat_lt (length live.held) (2 ^ 32) && (rises number_of 0 live.held && list_all held_fits live.held))
