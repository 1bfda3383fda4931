-- What the call that reads entries answers.
use Rattle.std.specs.Prelude.{◌≡◌, ℕ, List, length, Result, Ok, Err}
use Rattle.log_record.specs.declared.parsing.Parsed.{Parsed}
use Rattle.log_record.specs.declared.parsing.Parsed.TheVariants.{Whole, Cut}
use Rattle.log_record.specs.declared.fault.EntryFault.{EntryFault}
use Rattle.log_record.specs.declared.fault.EntryFault.TheVariants.{BadEntry, OutOfMemory}
use Rattle.log_grammar.specs.EntryBytes.{BeginsWith, BeginsWithNone, IsCut, entry_bytes}

-- the bytes begin with a whole entry of so many bytes, or with none
abbrev pub Holds : List ℕ → Parsed → Type 0
Holds bytes (Whole entry size) = BeginsWith bytes entry × (size ≡ length (entry_bytes entry))
Holds bytes Cut = IsCut bytes × BeginsWithNone bytes

-- why the bytes were not read: they neither begin with an entry nor are less than the whole of one
abbrev pub Refused : List ℕ → EntryFault → Type 0
Refused bytes BadEntry = BeginsWithNone bytes × (IsCut bytes → ⊥)
Refused bytes OutOfMemory = Unit {0}

abbrev pub Parses : List ℕ → Result Parsed EntryFault → Type 0
Parses bytes (Ok parsed) = Holds bytes parsed
Parses bytes (Err fault) = Refused bytes fault
