-- Which long values a row refers to.
use Rattle.std.specs.Prelude.{ℕ, not, List, [], ◌∷◌, ◌++◌, Option, Some, None, count_by, filter, if◌then◌else◌, bytes_eq}
use Rattle.std.specs.List.{list_any}
use Rattle.byteorder.specs.Endian.{big_bytes}
use Rattle.column_set.specs.declared.rows.RowValue.{RowValue}
use Rattle.column_set.specs.declared.rows.RowValue.TheVariants.{Here, Apart}
use Rattle.column_set.specs.Rows.{RowFields, values_in_order}

-- the twelve bytes of an identifier: the number of the entry that made the value and its place in it, the highest first
abbrev pub identifier : ℕ → ℕ → List ℕ
identifier entry place = big_bytes 8 entry ++ big_bytes 4 place

-- some identifiers with one more, unless it is among them
abbrev pub with_identifier : List ℕ → List (List ℕ) → List (List ℕ)
with_identifier id ids = if list_any (bytes_eq id) ids then ids else id ∷ ids

-- some identifiers with that of a value that is kept apart
abbrev pub with_named : RowValue → List (List ℕ) → List (List ℕ)
with_named (Here bytes) ids = ids
with_named (Apart entry place size) ids = with_identifier (identifier entry place) ids

-- the identifiers that some values name, each once
abbrev pub named_by : List (ℕ × RowValue) → List (List ℕ)
named_by [] = []
named_by (value ∷ values) = with_named value.1 (named_by values)

-- the identifiers that a row names, none where there is no row
abbrev pub identifiers : Option RowFields → List (List ℕ)
identifiers None = []
identifiers (Some row) = named_by (values_in_order row)

-- how often an identifier is among some
abbrev pub times_among : List ℕ → List (List ℕ) → ℕ
times_among id ids = count_by (bytes_eq id) ids

-- how many references to a value a row is: one where it names the value, however often
abbrev pub references : List ℕ → Option RowFields → ℕ
references id row = times_among id (identifiers row)

-- those of some identifiers that are not among others
abbrev pub not_among : List (List ℕ) → List (List ℕ) → List (List ℕ)
not_among others ids = filter (λ id. not (list_any (bytes_eq id) others)) ids

-- the identifiers that a row names and the row that it becomes does not
abbrev pub removed_identifiers : Option RowFields → Option RowFields → List (List ℕ)
removed_identifiers was is = not_among (identifiers is) (identifiers was)
