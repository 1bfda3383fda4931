-- Reading the live part of an image from left to right.
use Rattle.std.specs.Prelude.{ℕ, zero, suc, ◌+◌, ◌==◌, Bool, true, ◌&&◌, nat_le, nat_lt, cond, List, [], ◌∷◌, length, filter, Option, Some, None, option_map}
use Rattle.std.specs.Int.{w16, w32, w64}
use Rattle.column_set.specs.NumberReading.{◌>>=◌, number_at}
use Rattle.column_set.specs.declared.changes.Change.{Change}
use Rattle.column_set.specs.declared.changes.Change.TheVariants as change
use Rattle.column_set.specs.RecordValues.{RecordFields}
use Rattle.column_set.specs.Rows.{largest_row}
use Rattle.database_state.specs.State.{Status, uncommitted, committed, undone, is_undone}
use Rattle.index_derive.specs.declared.log.Entry.{Entry}
use Rattle.index_derive.specs.declared.log.EntryKind.{EntryKind}
use Rattle.index_derive.specs.declared.log.EntryKind.TheVariants as entry
use Rattle.log_grammar.specs.EntryReading.{both, byte_at, bytes_at, changed, flag_at, many_at, rest_at, tested}
use Rattle.version_cleanup.specs.LiveSessions.{LiveState}
use Rattle.version_cleanup.specs.declared.live.Transaction.{Transaction}
use Rattle.version_store.specs.HeldChanges.{HeldChange}
use Rattle.version_store.specs.declared.calls.ChangeKind.{ChangeKind}
use Rattle.version_store.specs.declared.calls.ChangeKind.TheVariants as kind
use Rattle.live_part.specs.LiveBytes.{LivePart, label_of, number_of, standing, without_undone}

-- so many, of which each key is above the one before, and the first above `low`
abbrev pub rising_at : {A : Type 0} → (A → ℕ) → (List ℕ → Option (A × List ℕ)) → ℕ → ℕ → List ℕ → Option (List A × List ℕ)
rising_at key read low zero bytes = Some ([], bytes)
rising_at key read low (suc n) bytes = tested (λ x. nat_lt low (key x)) read bytes >>= λ x. rising_at key read (key x.0) n x.1 >>= λ xs. Some (x.0 ∷ xs.0, xs.1)

-- ---- sessions

-- a count, and so many tables
unfoldable pub tables_at : List ℕ → Option (List ℕ × List ℕ)
tables_at bytes = changed (λ x. x.1) (both (number_at w32) (many_at (number_at w32))) bytes

-- no transaction where there is no level, or one that began at the number that follows
abbrev pub transaction_after : ℕ → List ℕ → Option (Option Transaction × List ℕ)
transaction_after levels bytes = cond (levels == 0) (Some (None, bytes)) (number_at w64 bytes >>= λ begin. Some (Some (record { levels = levels; begin = begin.0 }), begin.1))

unfoldable pub transaction_at : List ℕ → Option (Option Transaction × List ℕ)
transaction_at bytes = changed (λ x. x.1) (both (tested (λ levels. nat_le levels 7) byte_at) transaction_after) bytes

abbrev pub session_read : ℕ × (List ℕ × Option Transaction) → LiveState
session_read x = record { label = x.0; open_tables = x.1.0; transaction = x.1.1 }

unfoldable pub session_at : List ℕ → Option (LiveState × List ℕ)
session_at bytes = changed session_read (both (tested (λ label. nat_le label 99) (number_at w32)) (λ label. both tables_at (λ tables. transaction_at))) bytes

-- a count of at most 64, and so many sessions by rising label
unfoldable pub sessions_at : List ℕ → Option (List LiveState × List ℕ)
sessions_at bytes = changed (λ x. x.1) (both (tested (λ count. nat_le count 64) (number_at w32)) (rising_at label_of session_at 0)) bytes

-- ---- held changes

-- an open or undone change has no commit, and a committed one has
abbrev pub status_of : ℕ → ℕ → Option Status
status_of zero commit = cond (commit == 0) (Some uncommitted) None
status_of (suc zero) commit = cond (commit == 0) None (Some (committed commit))
status_of (suc (suc zero)) commit = cond (commit == 0) (Some undone) None
status_of (suc (suc (suc n))) commit = None

unfoldable pub status_at : List ℕ → Option (Status × List ℕ)
status_at bytes = both byte_at (λ state. number_at w64) bytes >>= λ x. status_of x.0.0 x.0.1 >>= λ status. Some (status, x.1)

-- an entry of the log that has so many bytes, the length of the rest before it
unfoldable pub entry_at : ℕ → List ℕ → Option (Entry × List ℕ)
entry_at size bytes = number_at w32 bytes >>= λ rest. cond (rest.0 + 4 == size) (bytes_at rest.0 rest.1 >>= λ own. rest_at own.0 >>= λ made. Some (made, own.1)) None

unfoldable pub sized_entry_at : List ℕ → Option (Entry × List ℕ)
sized_entry_at bytes = changed (λ x. x.1) (both (number_at w32) entry_at) bytes

-- a row of at most 1,700 bytes behind its length
unfoldable pub short_row_at : List ℕ → Option (List ℕ × List ℕ)
short_row_at bytes = changed (λ x. x.1) (both (tested (λ size. nat_le size largest_row) (number_at w16)) bytes_at) bytes

unfoldable pub row_at : List ℕ → Option (Option (List ℕ) × List ℕ)
row_at bytes = flag_at bytes >>= λ flag. cond flag.0 (changed Some short_row_at flag.1) (Some (None, flag.1))

-- a put that names no copied record and no value, or another change
abbrev pub put_kind : Option (List ℕ) → RecordFields → Option ChangeKind
put_kind None [] = Some kind.Put
put_kind None (field ∷ fields) = None
put_kind (Some bookmark) values = None

abbrev pub kind_of_change : Change → Option (ChangeKind × (ℕ × List ℕ))
kind_of_change (change.Put table bookmark copied values) = put_kind copied values >>= λ what. Some (what, (table.0, bookmark))
kind_of_change (change.Drop table bookmark) = Some (kind.Drop, (table.0, bookmark))
kind_of_change (change.Hold table bookmark) = Some (kind.Hold, (table.0, bookmark))
kind_of_change (change.Add table bookmark column amount) = Some (kind.Add column amount, (table.0, bookmark))

abbrev pub change_in : EntryKind → Option (ChangeKind × (ℕ × List ℕ))
change_in (entry.Change made) = kind_of_change made
change_in _ = None

-- the number, the level, the state, the entry and the row before of a held change
abbrev pub HeldFields : Type 0
HeldFields = ℕ × (ℕ × (Status × (Entry × Option (List ℕ))))

abbrev pub held_read : HeldFields → Option HeldChange
held_read x = change_in x.1.1.1.0.kind >>= λ made. Some (record {
  number = x.0;
  session = x.1.1.1.0.session.0;
  level = x.1.0;
  kind = made.0;
  table = made.1.0;
  bookmark = made.1.1;
  before = x.1.1.1.1;
  status = x.1.1.0;
})

abbrev pub is_level : ℕ → Bool
is_level level = nat_le 1 level && nat_le level 7

unfoldable pub held_fields_at : List ℕ → Option (HeldFields × List ℕ)
held_fields_at bytes = both (number_at w64) (λ number. both (tested is_level byte_at) (λ level. both status_at (λ status. both sized_entry_at (λ made. row_at)))) bytes

unfoldable pub held_at : List ℕ → Option (HeldChange × List ℕ)
held_at bytes = held_fields_at bytes >>= λ x. held_read x.0 >>= λ held. Some (held, x.1)

-- a count, and so many changes by rising number
unfoldable pub changes_at : List ℕ → Option (List HeldChange × List ℕ)
changes_at bytes = changed (λ x. x.1) (both (number_at w32) (rising_at number_of held_at 0)) bytes

-- ---- the whole

abbrev pub undone_of : List HeldChange → List HeldChange
undone_of held = filter (λ h. is_undone h.status) held

-- the changes that stand, and those that are undone
abbrev pub parted : List HeldChange → List HeldChange × List HeldChange
parted held = (standing held, undone_of held)

abbrev pub live_read : List LiveState × List HeldChange → LivePart
live_read x = record { sessions = x.0; held = x.1 }

-- the live part that the bytes are, all of them, with its undone changes
unfoldable pub whole_in : List ℕ → Option LivePart
whole_in bytes = both sessions_at (λ sessions. changes_at) bytes >>= λ x. cond (length x.1 == 0) (Some (live_read x.0)) None

-- the live part that is opened from the bytes: undone changes are left out
abbrev pub live_in : List ℕ → Option LivePart
live_in bytes = option_map without_undone (whole_in bytes)

-- the undone changes of the bytes, of which the form alone is checked
abbrev pub undone_in : List ℕ → Option (List HeldChange)
undone_in bytes = option_map (λ whole. undone_of whole.held) (whole_in bytes)
