-- The long values that rows name and that have no head with the length that the row tells.
use Rattle.std.specs.Prelude.{ℕ, ◌==◌, Bool, false, ◌&&◌, List, [], ◌∷◌, Option, Some, None, drop, fold, length, if◌then◌else◌}
use Rattle.std.specs.List.{flat_map}
use Rattle.std.specs.Ordering.{is_lt}
use Rattle.btree_inplace.specs.Order.{get_in}
use Rattle.byteorder.specs.Endian.{little_number}
use Rattle.column_set.specs.declared.rows.RowValue.{RowValue}
use Rattle.column_set.specs.declared.rows.RowValue.TheVariants.{Here, Apart}
use Rattle.image_contents.specs.ReferringRows.{Referring}
use Rattle.long_rows.specs.RowReferences.{identifier}
use Rattle.long_value.specs.Values.{chunk_key, order}
use Rattle.page_image.specs.Page.{Node}

-- whether the bytes are those of a head that tells the length
abbrev pub tells_length : ℕ → Option (List ℕ) → Bool
tells_length size None = false
tells_length size (Some head) = (length head == 8) && (little_number 4 (drop 4 head) == size)

abbrev pub has_head : List Node → List ℕ → ℕ → Bool
has_head nodes id size = tells_length size (get_in nodes (chunk_key id 0))

-- the identifier of a value without such a head
abbrev pub headless : List Node → RowValue → List (List ℕ)
headless nodes (Here bytes) = []
headless nodes (Apart entry place size) = if has_head nodes (identifier entry place) size then [] else identifier entry place ∷ []

abbrev pub headless_in : List Node → List (ℕ × RowValue) → List (List ℕ)
headless_in nodes values = flat_map (λ value. headless nodes value.1) values

abbrev pub headless_of : List Node → List Referring → List (List ℕ)
headless_of nodes rows = flat_map (λ row. headless_in nodes row.0) rows

-- ---- the least identifier

-- the least so far with one more
abbrev pub with_lesser : Option (List ℕ) → List ℕ → Option (List ℕ)
with_lesser None id = Some id
with_lesser (Some least) id = if is_lt (order id least) then Some id else Some least

abbrev pub least_of : Option (List ℕ) → List (List ℕ) → Option (List ℕ)
least_of least ids = fold with_lesser least ids

-- the lesser of two
abbrev pub lesser : Option (List ℕ) → Option (List ℕ) → Option (List ℕ)
lesser least None = least
lesser least (Some id) = with_lesser least id

-- the least so far with what a value names, if it is kept apart and without a head
abbrev pub with_headless : List Node → Option (List ℕ) → Option (ℕ × ℕ × ℕ) → Option (List ℕ)
with_headless nodes least None = least
with_headless nodes least (Some told) = if has_head nodes (identifier told.0 told.1) told.2 then least else with_lesser least (identifier told.0 told.1)
