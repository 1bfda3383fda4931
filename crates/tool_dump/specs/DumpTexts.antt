-- The texts of a database's header, of its checkpoint and of its log. Each line ends in byte 0A, and numbers are decimal.
use Rattle.std.specs.Prelude.{◌≡◌, ℕ, suc, Bool, ◌||◌, if◌then◌else◌, List, [], ◌∷◌, ◌++◌, codes}
use Rattle.std.specs.Fmt.{decimal}
use Rattle.column_set.specs.declared.changes.Change.{Change}
use Rattle.column_set.specs.declared.changes.Change.TheVariants as change
use Rattle.index_derive.specs.declared.log.Entry.{Entry}
use Rattle.index_derive.specs.declared.log.EntryKind.{EntryKind}
use Rattle.index_derive.specs.declared.log.EntryKind.TheVariants as kind
use Rattle.jet_volume.specs.declared.files.LogStart.{LogStart}
use Rattle.log_grammar.specs.EntryStreams.{Holds}
use Rattle.tool_dump.specs.declared.database.DatabaseHeader.{DatabaseHeader}

abbrev pub line : List ℕ → List ℕ
line text = text ++ 10 ∷ []

-- a word and a number behind it
abbrev pub number_line : List ℕ → ℕ → List ℕ
number_line word number = line (word ++ codes " " ++ decimal number)

-- ---- the header

-- A database was closed well where its checkpoint has no session and its log no whole entry behind that.
abbrev pub state_line : Bool → List ℕ
state_line is_dirty = line (if is_dirty then codes "state dirty" else codes "state clean")

-- the state, the version of the format, and the number and the tables of the database that is recovered
abbrev pub header_text : DatabaseHeader → List ℕ
header_text header =
    state_line (header.has_session || header.has_entry)
    ++ number_line (codes "format") header.format ++ number_line (codes "number") header.number ++ number_line (codes "tables") header.tables

-- ---- the checkpoint

-- its own number, where the log goes on behind it, and how many pages it has, free ones among them
abbrev pub checkpoint_text : ℕ → LogStart → ℕ → List ℕ
checkpoint_text number start pages =
    number_line (codes "checkpoint") number
    ++ number_line (codes "generation") start.generation ++ number_line (codes "offset") start.offset ++ number_line (codes "position") start.position
    ++ number_line (codes "pages") pages

-- ---- the log

abbrev pub change_name : Change → List ℕ
change_name (change.Put table bookmark copied values) = codes "Put"
change_name (change.Drop table bookmark) = codes "Drop"
change_name (change.Add table bookmark column amount) = codes "Add"
change_name (change.Hold table bookmark) = codes "Hold"

-- the name of an entry's tag
abbrev pub tag_name : EntryKind → List ℕ
tag_name kind.Enter = codes "Enter"
tag_name kind.Leave = codes "Leave"
tag_name (kind.Open table) = codes "Open"
tag_name (kind.Shut table) = codes "Shut"
tag_name kind.Begin = codes "Begin"
tag_name kind.Save = codes "Save"
tag_name (kind.Change made) = change_name made
tag_name kind.Release = codes "Release"
tag_name kind.Undo = codes "Undo"
tag_name kind.UndoAll = codes "UndoAll"
tag_name kind.Commit = codes "Commit"
tag_name (kind.Schema step) = codes "Schema"

-- its number, the name of its tag, and its session
abbrev pub entry_line : ℕ → Entry → List ℕ
entry_line number entry = line (decimal number ++ codes " " ++ tag_name entry.kind ++ codes " " ++ decimal entry.session.0)

-- The entries behind a number. The next one has a number that is one above it.
abbrev pub log_text : ℕ → List Entry → List ℕ
log_text number [] = []
log_text number (entry ∷ entries) = entry_line (suc number) entry ++ log_text (suc number) entries

-- The text of all whole entries that bytes begin with, one after another: behind them stands a rest that begins with none, as one that
-- is cut from an entry, or has no byte.
pub record IsLogText (number : ℕ) (bytes text : List ℕ) : Type 0 where
  pub entries : List Entry
  pub rest : List ℕ
  pub holds : Holds bytes entries rest
  pub is : text ≡ log_text number entries
