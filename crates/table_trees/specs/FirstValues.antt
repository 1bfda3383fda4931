-- What becomes of the long values of a table as the first of some values of a row is taken or given up.
use Rattle.std.specs.Prelude.{◌≡◌, false, List, Option, Some, None, IsSome, if◌then◌else◌, bytes_eq, ℕ}
use Rattle.std.specs.List.{list_any}
use Rattle.long_value.specs.Values.{Values, value_of, without_reference}
use Rattle.long_rows.specs.ReferenceCounts.{with_taken}
use Rattle.long_rows.specs.KeptRows.{MayTake}

-- one reference less to the value that is named, unless it is among those that are named later
abbrev pub without_first : Option (List ℕ) → List (List ℕ) → Values → Values
without_first None later values = values
without_first (Some id) later values = if list_any (bytes_eq id) later then values else without_reference id values

-- what is named, unless it is among those that are kept
abbrev pub unless_among : List (List ℕ) → Option (List ℕ) → Option (List ℕ)
unless_among kept None = None
unless_among kept (Some id) = if list_any (bytes_eq id) kept then None else Some id

-- one reference more to it, or the value with these bytes, unless it is among those that are named later
abbrev pub with_first : Option (List ℕ) → List (List ℕ) → List ℕ → Values → Values
with_first None later bytes values = values
with_first (Some id) later bytes values = if list_any (bytes_eq id) later then values else with_taken values (id, bytes)

-- The value can be given up: it is there, unless it is among those that are named later.
abbrev pub CanGiveUp : Option (List ℕ) → List (List ℕ) → Values → Type 0
CanGiveUp None later values = Unit {0}
CanGiveUp (Some id) later values = list_any (bytes_eq id) later ≡ false → IsSome (value_of id values)

-- It can be taken: it is there with these bytes and takes one reference more, or it is not there and they are as many as a long value has, unless it is among those that are named later.
abbrev pub CanTake : Option (List ℕ) → List (List ℕ) → List ℕ → Values → Type 0
CanTake None later bytes values = Unit {0}
CanTake (Some id) later bytes values = list_any (bytes_eq id) later ≡ false → MayTake values (id, bytes)
