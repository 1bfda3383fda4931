-- The order that keys have as byte strings, where they are not cut: that of the values which they stand for.
use Rattle.std.specs.Prelude.{ℕ, Bool, true, false, cond, ◌&&◌, List, [], ◌∷◌, length, nat_lt, Option, Some, None}
use Rattle.std.specs.List.{list_all}
use Rattle.std.specs.declared.cmp.Ordering.{Ordering}
use Rattle.std.specs.declared.cmp.Ordering.TheVariants.{Less, Equal, Greater}
use Rattle.std.specs.Ordering.{nat_cmp, int_cmp, ordering_then, ordering_reverse}
use Rattle.std.specs.Cmp.Lexicographic.{slice_cmp}
use Rattle.jet_base.specs.declared.words.ColType.{ColType}
use Rattle.jet_base.specs.declared.words.ColType.TheVariants.{Guid, Binary, Text, LongBinary, LongText}
use Rattle.jet_base.specs.ColumnType.{number_of}
use Rattle.jet_base.specs.Given.{width_fits}
use Rattle.key_normal.specs.KeyBytes.{KeyColumn, folded}

-- two values of a type: numbers by their size, texts by their letters without case, and others by their bytes
abbrev pub value_order : ColType → List ℕ → List ℕ → Ordering
value_order Guid x y = slice_cmp nat_cmp x y
value_order Binary x y = slice_cmp nat_cmp x y
value_order LongBinary x y = slice_cmp nat_cmp x y
value_order Text x y = slice_cmp nat_cmp (folded x) (folded y)
value_order LongText x y = slice_cmp nat_cmp (folded x) (folded y)
value_order kind x y = int_cmp (number_of kind x) (number_of kind y)

-- NULL before all values, or after them where NULLs are high
abbrev pub ascending_order : ColType → Bool → Option (List ℕ) → Option (List ℕ) → Ordering
ascending_order kind nulls_high None None = Equal
ascending_order kind nulls_high None (Some y) = cond nulls_high Greater Less
ascending_order kind nulls_high (Some x) None = cond nulls_high Less Greater
ascending_order kind nulls_high (Some x) (Some y) = value_order kind x y

-- turned round in a descending column
abbrev pub segment_order : KeyColumn → Bool → Option (List ℕ) → Option (List ℕ) → Ordering
segment_order column nulls_high x y = cond column.descending (ordering_reverse (ascending_order column.kind nulls_high x y)) (ascending_order column.kind nulls_high x y)

-- the first column in which the two differ decides
abbrev pub key_order : List KeyColumn → Bool → List (Option (List ℕ)) → List (Option (List ℕ)) → Ordering
key_order (column ∷ columns) nulls_high (x ∷ xs) (y ∷ ys) = ordering_then (segment_order column nulls_high x y) (key_order columns nulls_high xs ys)
key_order _ nulls_high _ _ = Equal

-- whether it is a string of bytes, of the width that its type asks for
abbrev pub is_value : ColType → List ℕ → Bool
is_value kind value = width_fits kind (length value) && list_all (λ byte. nat_lt byte 256) value

-- whether there is a value or NULL for each column
abbrev pub are_values : List KeyColumn → List (Option (List ℕ)) → Bool
are_values [] [] = true
are_values (column ∷ columns) (None ∷ values) = are_values columns values
are_values (column ∷ columns) (Some value ∷ values) = is_value column.kind value && are_values columns values
are_values _ _ = false
