-- What the calls that write the text of a log put behind what was written before.
use Rattle.std.specs.Prelude.{◌≡◌, ◌+◌, ◌≤◌, ℕ, true, List, ◌++◌, length, take, Option, Some, None}
use Rattle.index_derive.specs.declared.log.Entry.{Entry}
use Rattle.log_grammar.specs.EntryBytes.{BeginsWith, BeginsWithNone, entry_bytes}
use Rattle.log_grammar.specs.EntryStreams.{stream_bytes, stream_fits}
use Rattle.tool_dump.specs.DumpTexts.{IsLogText, entry_line, log_text}

-- The line of the entry that bytes begin with, and how many bytes it has.
pub record AppendsEntry (number : ℕ) (bytes old new : List ℕ) (size : ℕ) : Type 0 where
  pub entry : Entry
  pub begins : BeginsWith bytes entry
  pub size_is : size ≡ length (entry_bytes entry)
  pub is : new ≡ old ++ entry_line number entry

-- that line, of nine bytes at least, or nothing where they begin with no whole entry
abbrev pub AppendsFront : ℕ → List ℕ → List ℕ → List ℕ → Option ℕ → Type 0
AppendsFront number bytes old new (Some size) = (9 ≤ size) × (size ≤ length bytes) × AppendsEntry number bytes old new size
AppendsFront number bytes old new None = BeginsWithNone bytes × (new ≡ old)

-- The lines of the entries up to a position, the last of which has this number.
pub record HasAppended (number : ℕ) (bytes old new : List ℕ) (at last : ℕ) : Type 0 where
  pub done : List Entry
  pub fits : stream_fits done ≡ true
  pub bytes_are : stream_bytes done ≡ take at bytes
  pub last_is : last ≡ number + length done
  pub is : new ≡ old ++ log_text number done

-- the text of all whole entries
abbrev pub AppendsLog : ℕ → List ℕ → List ℕ → List ℕ → Type 0
AppendsLog number bytes old new = (text : List ℕ) × IsLogText number bytes text × (new ≡ old ++ text)
