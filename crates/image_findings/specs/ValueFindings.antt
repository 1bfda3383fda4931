-- Long values that are not whole, and those that a row names and that are not there, or have another length.
use Rattle.std.specs.Prelude.{ℕ, Bool, false, not, ◌&&◌, nat_le, List, [], ◌∷◌, ◌++◌, map, filter, take, drop, flat_map, Option, Some, None, bytes_eq, if◌then◌else◌}
use Rattle.byteorder.specs.Endian.{big_number, little_number}
use Rattle.column_set.specs.declared.rows.RowValue.{RowValue}
use Rattle.column_set.specs.declared.rows.RowValue.TheVariants.{Here, Apart}
use Rattle.column_set.specs.Rows.{RowFields, values_in_order}
use Rattle.long_rows.specs.ReferenceCounts.{RowBefore}
use Rattle.long_rows.specs.RowReferences.{identifier}
use Rattle.long_rows.specs.WholeRows.{is_there}
use Rattle.long_value.specs.Shown.{id_of, value_at}
use Rattle.long_value.specs.Values.{Values, with_value}
use Rattle.page_image.specs.Page.{Node}
use Rattle.stored_variants.specs.CountedValues.{newest_rows, rows_before}
use Rattle.version_store.specs.HeldChanges.{HeldChange}
use Rattle.image_findings.specs.CatalogFindings.{are_same_nodes}
use Rattle.image_findings.specs.Images.{Finding, at_least_key}
use Rattle.image_findings.specs.Images.Finding.{Long}
use Rattle.image_findings.specs.TableContents.{TableContents, long_values, wanted_count}

-- ---- identifiers

abbrev pub entry_in : List ℕ → ℕ
entry_in id = big_number 8 (take 8 id)

abbrev pub place_in : List ℕ → ℕ
place_in id = big_number 4 (take 4 (drop 8 id))

-- what is found of a value: its count, and how many rows refer to it
abbrev pub found_value : List HeldChange → TableContents → ℕ → List ℕ → Finding
found_value held t have id = Long (entry_in id) (place_in id) have (wanted_count held t id)

-- ---- values that are not whole

-- the nodes of a value are those whose keys begin with its identifier
abbrev pub nodes_of_value : List ℕ → List Node → List Node
nodes_of_value id nodes = filter (λ (n : Node). bytes_eq (id_of n) id) nodes

-- whether a head tells a length that a long value has
abbrev pub has_long_length : Node → Bool
has_long_length head = nat_le 256 (little_number 4 (drop 4 head.data)) && nat_le (little_number 4 (drop 4 head.data)) 1048576

-- A value is whole where it is of an entry that was made, and its nodes are a head, which tells its length, and the chunks of so many
-- bytes.
abbrev pub is_whole_value : ℕ → List ℕ → List Node → Bool
is_whole_value number id [] = false
is_whole_value number id (head ∷ chunks) =
    (nat_le 1 (entry_in id) && nat_le (entry_in id) number) && (has_long_length head && are_same_nodes (with_value id (value_at (head ∷ chunks) head) []) (head ∷ chunks))

abbrev pub broken_values : ℕ → TableContents → List (List ℕ)
broken_values number t = filter (λ id. not (is_whole_value number id (nodes_of_value id t.value_nodes))) (map id_of t.value_nodes)

-- ---- values that a row names

-- the identifier of a value that is not there with its length
abbrev pub missing_value : Values → RowValue → List (List ℕ)
missing_value values (Here bytes) = []
missing_value values (Apart entry place size) = if is_there values (Apart entry place size) then [] else identifier entry place ∷ []

abbrev pub missing_of_row : Values → RowFields → List (List ℕ)
missing_of_row values row = flat_map (λ value. missing_value values value.1) (values_in_order row)

abbrev pub missing_before : Values → RowBefore → List (List ℕ)
missing_before values change = elim change.row [ Some row ↦ missing_of_row values row | None ↦ [] ]

-- those that the newest rows, and the rows before held changes, name
abbrev pub missing_values : List HeldChange → TableContents → List (List ℕ)
missing_values held t = flat_map (λ row. missing_of_row (long_values t) row.1) (newest_rows t.nodes) ++ flat_map (missing_before (long_values t)) (rows_before t.table.id held)

-- the least of both
abbrev pub value_finding : ℕ → List HeldChange → TableContents → Option Finding
value_finding number held t = at_least_key (found_value held t 0) (broken_values number t ++ missing_values held t)
