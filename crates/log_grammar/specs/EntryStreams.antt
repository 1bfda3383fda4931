-- Log entries one after the other, as a log holds them.
use Rattle.std.specs.Prelude.{◌≡◌, ℕ, Bool, List, ◌++◌, IsTrue}
use Rattle.std.specs.List.{flat_map, list_all}
use Rattle.index_derive.specs.declared.log.Entry.{Entry}
use Rattle.log_grammar.specs.EntryBytes.{BeginsWithNone, IsCut, entry_bytes, has_spelling}

abbrev pub stream_bytes : List Entry → List ℕ
stream_bytes entries = flat_map entry_bytes entries

-- whether each of the entries can be written
abbrev pub stream_fits : List Entry → Bool
stream_fits entries = list_all has_spelling entries

-- the bytes are those of the entries, and a rest that begins with none
abbrev pub Holds : List ℕ → List Entry → List ℕ → Type 0
Holds bytes entries rest = IsTrue (stream_fits entries) × (bytes ≡ stream_bytes entries ++ rest) × BeginsWithNone rest

-- the bytes are those of the first of the entries, and a rest that is cut from the next one or has no byte
abbrev pub HoldsFirst : List ℕ → List Entry → Type 0
HoldsFirst bytes entries = (first others : List Entry) × (rest : List ℕ) × (entries ≡ first ++ others) × (bytes ≡ stream_bytes first ++ rest) × IsCut rest
