-- Indexes and ranges of the worked examples.
use Rattle.std.specs.Prelude.{ℕ, ◌==◌, true, false, List, [], ◌∷◌, cond, Option, Some}
use Rattle.jet_base.specs.Ids.{table_id, index_id}
use Rattle.cursor_nav.specs.Places.{Pair}
use Rattle.index_intersect.specs.declared.ranges.IndexRange.{IndexRange}
use Rattle.index_intersect.specs.declared.ranges.Limit.{Limit}
use Rattle.index_intersect.specs.Intersection.{Indexes}

abbrev pub letter : ℕ → List ℕ
letter byte = byte ∷ []

-- the bookmark of the record whose primary key is this number, below 256, as a Long
abbrev pub bookmark : ℕ → List ℕ
bookmark number = 127 ∷ 128 ∷ 0 ∷ 0 ∷ number ∷ []

abbrev pub entry : ℕ → ℕ → Pair
entry byte number = (letter byte, bookmark number)

-- One record has x, and p and q; the second x and q; the third y and q. Index 1 has x and y, index 2 has p and q, and index 3 has the numbers
-- turned round.
abbrev pub indexes : Indexes
indexes table index =
    cond (index == 1) (entry 120 1 ∷ entry 120 2 ∷ entry 121 3 ∷ [])
    (cond (index == 2) (entry 112 1 ∷ entry 113 1 ∷ entry 113 2 ∷ entry 113 3 ∷ [])
    (cond (index == 3) (entry 1 3 ∷ entry 2 2 ∷ entry 3 1 ∷ []) []))

-- the range of an index that begins with an entry
abbrev pub range_from : ℕ → Pair → Option Limit → IndexRange
range_from index from upper = record { table = table_id 1; index = index_id index; from = record { key = from.0; bookmark = from.1 }; upper = upper }

abbrev pub up_to : ℕ → Option Limit
up_to byte = Some (record { key = letter byte; inclusive = true })

abbrev pub below : ℕ → Option Limit
below byte = Some (record { key = letter byte; inclusive = false })
