-- What is told of a value that a row keeps apart, as it is read.
use Rattle.std.specs.Prelude.{ℕ, Bool, false, List, Option, Some, None, bytes_eq}
use Rattle.image_contents.specs.declared.values.references.Reference.{Reference}
use Rattle.long_rows.specs.RowReferences.{identifier}

-- the number of the entry that made it, its place there, and its length
abbrev pub Told : Type 0
Told = ℕ × ℕ × ℕ

abbrev pub told_apart : Reference → Told
told_apart found = (found.id.entry, found.id.place, found.length)

-- whether it is the value with the identifier
abbrev pub is_to : List ℕ → Option Told → Bool
is_to id None = false
is_to id (Some told) = bytes_eq id (identifier told.0 told.1)
