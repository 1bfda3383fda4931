-- What is read of a live part, as contracts see it.
use Rattle.std.specs.Prelude.{ℕ, ◌==◌, cond, List, length, Option, Some, None, option_copied}
use Rattle.column_set.specs.NumberReading.{◌>>=◌}
use Rattle.log_grammar.specs.EntryReading.{changed}
use Rattle.version_cleanup.specs.LiveSessions.{LiveState}
use Rattle.version_store.specs.HeldChanges.{HeldChange, new_change, with_status}
use Rattle.version_store.specs.Items.{state_of}
use Rattle.live_part.specs.declared.reading.LoadedPart.{LoadedPart}
use Rattle.live_part.specs.declared.reading_changes.ReadChange.{ReadChange}
use Rattle.live_part.specs.LiveBytes.{LivePart, standing}
use Rattle.live_part.specs.LiveReading.{changes_at, parted, undone_of}

-- the held change that was read
abbrev pub read_change : ReadChange → HeldChange
read_change read = with_status (state_of read.status) (new_change read.by read.change (option_copied read.before))

-- the live part that is opened
abbrev pub opened_part : LoadedPart → LivePart
opened_part part = record { sessions = part.sessions; held = part.versions }

-- the sessions, the changes that stand, and those that are undone
abbrev pub loaded : LoadedPart → List LiveState × (List HeldChange × List HeldChange)
loaded part = (part.sessions, (part.versions, part.undone))

abbrev pub parted_live : LivePart → List LiveState × (List HeldChange × List HeldChange)
parted_live live = (live.sessions, (standing live.held, undone_of live.held))

-- the live part of these sessions, and of the changes that the bytes are, all of them
abbrev pub with_changes : List LiveState → List ℕ → Option (List LiveState × (List HeldChange × List HeldChange))
with_changes sessions bytes = changed parted changes_at bytes >>= λ x. cond (length x.1 == 0) (Some (sessions, x.0)) None
