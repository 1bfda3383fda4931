-- The values that a record brings into an index, one combination or part after the other.
use Rattle.std.specs.Prelude.{ℕ, suc, zero, ◌+◌, ◌-◌, true, false, cond, not, List, [], ◌∷◌, ◌++◌, map, filter, length, take, drop, max, Option, Some, is_none, slice_get, slice_index_or, option_map}
use Rattle.std.specs.List.{list_any}
use Rattle.column_set.specs.RecordValues.{RecordFields, values_of}
use Rattle.key_normal.specs.KeyBytes.{KeyColumn, key_bytes, cut_key, is_cut}
use Rattle.index_derive.specs.Entries.{KeyValues, is_ignored, type_of_column, is_multi_column}
use Rattle.index_derive.specs.declared.plan.KeyPart.{KeyPart}
use Rattle.index_derive.specs.declared.walk.Candidate.{Candidate}
use Rattle.index_derive.specs.declared.walk.Walk.{Walk}
use Rattle.index_derive.specs.declared.rules.Segment.{Segment}
use Rattle.index_derive.specs.declared.rules.IndexFlags.{IndexFlags}
use Rattle.index_derive.specs.declared.rules.IndexRule.{IndexRule}
use Rattle.index_derive.specs.declared.rules.Schema.{Schema}

-- ---- the columns of a key

abbrev pub planned_column : Schema → Segment → KeyPart
planned_column schema segment = record { column = segment.column; kind = type_of_column schema segment.column.0; multi = is_multi_column schema segment.column.0; descending = segment.descending }

abbrev pub plan_of : IndexRule → Schema → List KeyPart
plan_of rule schema = map (planned_column schema) rule.segments

abbrev pub key_column : KeyPart → KeyColumn
key_column part = record { kind = part.kind; descending = part.descending }

-- ---- combinations

-- the first 255 bytes of a value of the column, or NULL where there is none
abbrev pub value_at : RecordFields → ℕ → ℕ → Option (List ℕ)
value_at fields column place = option_map (take 255) (slice_get (values_of fields column) place)

-- the values of one combination: the first multi-valued column's at one place, the next one's at the other, and the first of each other column
abbrev pub combination_of : List KeyPart → RecordFields → ℕ → ℕ → KeyValues
combination_of [] fields place next = []
combination_of (part ∷ parts) fields place next = elim part.multi [
  | true ↦ value_at fields part.column.0 place ∷ combination_of parts fields next 0
  | false ↦ value_at fields part.column.0 0 ∷ combination_of parts fields place next
]

-- how many values the first multi-valued column brings, and NULL counts as one
abbrev pub multi_count : List KeyPart → RecordFields → ℕ
multi_count [] fields = 1
multi_count (part ∷ parts) fields = cond part.multi (max 1 (length (values_of fields part.column.0))) (multi_count parts fields)

-- the columns behind the first multi-valued one
abbrev pub behind_first_multi : List KeyPart → List KeyPart
behind_first_multi [] = []
behind_first_multi (part ∷ parts) = cond part.multi parts (behind_first_multi parts)

-- ---- parts of texts

-- what an index of parts sees of a value
abbrev pub text_at : RecordFields → ℕ → ℕ → List ℕ
text_at fields column place = take 1024 (slice_index_or (values_of fields column) place [])

-- ---- both, as rows

abbrev pub text_count : List KeyPart → RecordFields → ℕ
text_count [] fields = 0
text_count (part ∷ parts) fields = length (values_of fields part.column.0)

-- how many rows there are: the values of the first multi-valued column, or the texts
abbrev pub row_count : IndexFlags → List KeyPart → RecordFields → ℕ
row_count flags parts fields = cond flags.tuples (text_count parts fields) (multi_count parts fields)

abbrev pub part_count : List KeyPart → RecordFields → ℕ → ℕ
part_count [] fields row = 0
part_count (part ∷ parts) fields row = length (text_at fields part.column.0 row) - 2

-- how many combinations or parts stand in a row
abbrev pub row_length : IndexFlags → List KeyPart → RecordFields → ℕ → ℕ
row_length flags parts fields row = cond flags.tuples (part_count parts fields row) (cond flags.crossproduct (multi_count (behind_first_multi parts) fields) 1)

abbrev pub text_part : List KeyPart → RecordFields → ℕ → ℕ → KeyValues
text_part [] fields row at = []
text_part (part ∷ parts) fields row at = Some (take 10 (drop at (text_at fields part.column.0 row))) ∷ []

-- the values at a place of a row
abbrev pub values_in : IndexFlags → List KeyPart → RecordFields → ℕ → ℕ → KeyValues
values_in flags parts fields row at = cond flags.tuples (text_part parts fields row at) (combination_of parts fields row at)

-- ---- walks over rows

-- f of so many numbers, from the first on
abbrev pub from_on : {X : Type 0} → (ℕ → X) → ℕ → ℕ → List X
from_on f first zero = []
from_on f first (suc n) = f first ∷ from_on f (first + 1) n

-- so many rows, from the first on
abbrev pub rows_from : {X : Type 0} → (ℕ → ℕ → X) → (ℕ → ℕ) → ℕ → ℕ → List X
rows_from f len row zero = []
rows_from f len row (suc n) = from_on (f row) 0 (len row) ++ rows_from f len (row + 1) n

-- what is left of all rows at a place of a row, of which so many are left
abbrev pub rest_of_rows : {X : Type 0} → (ℕ → ℕ → X) → (ℕ → ℕ) → ℕ → ℕ → ℕ → List X
rest_of_rows f len row at zero = []
rest_of_rows f len row at (suc n) = from_on (f row) at (len row - at) ++ rows_from f len (row + 1) n

-- what an entry is made of
abbrev pub candidate_of : IndexRule → List KeyPart → KeyValues → Candidate
candidate_of rule parts values =
    let bytes = key_bytes (map key_column parts) rule.flags.sortnullshigh values in
    record { key = cut_key rule.key_most bytes; cut = is_cut rule.key_most bytes; has_null = list_any is_none values }

-- those that no flag leaves out
abbrev pub candidates_of : IndexRule → List KeyPart → List KeyValues → List Candidate
candidates_of rule parts all_values = map (candidate_of rule parts) (filter (λ values. not (is_ignored rule.flags values)) all_values)

-- the values that a walk has still before it
abbrev pub values_left : IndexRule → List KeyPart → RecordFields → Walk → List KeyValues
values_left rule parts fields walk =
    rest_of_rows (values_in rule.flags parts fields) (row_length rule.flags parts fields) walk.row walk.at (row_count rule.flags parts fields - walk.row)

unfoldable pub candidates_left : IndexRule → List KeyPart → RecordFields → Walk → List Candidate
candidates_left rule parts fields walk = candidates_of rule parts (values_left rule parts fields walk)
