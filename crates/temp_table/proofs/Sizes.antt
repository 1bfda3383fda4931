-- Rows as bytes: how many there are, and that they are read back.
use Rattle.std.proofs.Common.{◌≡◌, ℕ, zero, suc, ◌+◌, ◌<◌, ◌≤◌, Bool, true, false, cond, not, ◌==◌, ◌&&◌, ◌||◌, leb, ltb, get_or, Option, Some, None, List, [], ◌∷◌, ◌++◌, length, map, take, drop, bytes_eq, refl, sym, ap, ◌∙◌, arith}
use Rattle.std.specs.Prelude.{slice_index_or, sum_by}
use Rattle.std.specs.List.{list_all}
use Rattle.std.proofs.lemmas.Bool.{and_from, le-leb, le-ltb, leb-true, lt-ltb}
use Rattle.std.proofs.lemmas.List.{length-append}
use Rattle.std.proofs.lemmas.List.Sums.{sum_by-cons}
use Rattle.common_lemmas.proofs.Booleans.{and_left, and_right, impossible}
use Rattle.common_lemmas.proofs.Numbers.{same_bytes}
use Rattle.jet_base.specs.declared.words.ColType.{ColType}
use Rattle.jet_base.specs.declared.words.ColType.TheVariants.{Bit, UnsignedByte, Short, UnsignedShort, Long, UnsignedLong, LongLong, Currency, Guid, Binary, Text, LongBinary, LongText}
use Rattle.jet_base.specs.TypeKinds.{is_long_type}
use Rattle.column_set.specs.RecordValues.{value_fits, size_of_value}
use Rattle.temp_table.specs.declared.columns.TempColumn.{TempColumn}
use Rattle.temp_table.specs.TempColumns.{RowValues, are_short, are_temp_columns, key_columns_first, row_fits}
use Rattle.temp_table.specs.TempRows.{value_room}
use Rattle.temp_table.specs.RowBytes.{behind_values, is_short, next_value, row_bytes, values_in}

-- ---- what is written is read

whole_front : (xs ys : List ℕ) → take (length xs) (xs ++ ys) ≡ xs
whole_front [] ys = refl
whole_front (x ∷ xs) ys = ap (λ l. x ∷ l) (whole_front xs ys)

whole_rest : (xs ys : List ℕ) → drop (length xs) (xs ++ ys) ≡ ys
whole_rest [] ys = refl
whole_rest (x ∷ xs) ys = whole_rest xs ys

pub read_back : (row : RowValues) → values_in (length row) (row_bytes row) ≡ row
read_back [] = refl
read_back (None ∷ row) = ap (λ r. None ∷ r) (read_back row)
read_back (Some value ∷ row) =
    let behind : List ℕ = row_bytes row in
    ap (λ (v : List ℕ). Some v ∷ values_in (length row) (drop (length value) (value ++ behind))) (whole_front value behind)
    ∙ ap (λ (b : List ℕ). Some value ∷ values_in (length row) b) (whole_rest value behind)
    ∙ ap (λ r. Some value ∷ r) (read_back row)

-- a row has a value for each column
pub fits_length : (columns : List TempColumn) (row : RowValues) → row_fits columns row ≡ true → length row ≡ length columns
fits_length [] [] h = refl
fits_length [] (value ∷ row) h = impossible h
fits_length (column ∷ columns) [] h = impossible h
fits_length (column ∷ columns) (None ∷ row) h = ap suc (fits_length columns row h)
fits_length (column ∷ columns) (Some value ∷ row) h = ap suc (fits_length columns row (and_right (value_fits column.kind value) (row_fits columns row) h))

pub read_row : (columns : List TempColumn) (row : RowValues) → row_fits columns row ≡ true → values_in (length columns) (row_bytes row) ≡ row
read_row columns row h = ap (λ n. values_in n (row_bytes row)) (sym (fits_length columns row h)) ∙ read_back row

-- ---- one value

behind_first : (count : ℕ) (bytes : List ℕ) → behind_values count (next_value bytes).1 ≡ (next_value (behind_values count bytes)).1
behind_first zero bytes = refl
behind_first (suc count) bytes = ap (λ (b : List ℕ). (next_value b).1) (behind_first count bytes)

pub value_at : (column count : ℕ) (bytes : List ℕ) → column < count → (next_value (behind_values column bytes)).0 ≡ slice_index_or (values_in count bytes) column None
value_at column zero bytes lt = absurd (omega (arith, lt))
value_at zero (suc count) bytes lt = refl
value_at (suc column) (suc count) bytes lt =
    ap (λ (b : List ℕ). (next_value b).0) (sym (behind_first column bytes)) ∙ value_at column count (next_value bytes).1 (omega (arith, lt))

-- ---- bytes

pub below_256 : (xs : List ℕ) → ((i : ℕ) → get_or xs i 0 < 256) → list_all (λ byte. ltb byte 256) xs ≡ true
below_256 [] h = refl
below_256 (x ∷ xs) h = and_from (ltb x 256) (list_all (λ byte. ltb byte 256) xs) (lt-ltb x 256 (h 0)) (below_256 xs (λ i. h (suc i)))

pub short_at : {V : Type 0} (g : V → Option (List ℕ)) (values : List V) (i : ℕ) (d : V) → list_all is_short (map g values) ≡ true → i < length values → is_short (g (get_or values i d)) ≡ true
short_at g [] i d h lt = absurd (omega (arith, lt))
short_at g (value ∷ values) zero d h lt = and_left (is_short (g value)) (list_all is_short (map g values)) h
short_at g (value ∷ values) (suc i) d h lt = short_at g values i d (and_right (is_short (g value)) (list_all is_short (map g values)) h) (omega (arith, lt))

-- ---- sizes

or_of : (a b : Bool) (A : Type 0) → (a || b) ≡ true → (a ≡ true → A) → (b ≡ true → A) → A
or_of true b A h f g = f refl
or_of false b A h f g = g h

eq_numbers : (m n : ℕ) → (m == n) ≡ true → m ≡ n
eq_numbers m n e = grind (arith)

-- a value of a type that is not long has at most 255 bytes
fixed : (size width : ℕ) → (size == width) ≡ true → width ≤ 255 → leb size 255 ≡ true
fixed size width e le = le-leb size 255 (omega (arith, eq_numbers size width e, le))

short_value : (kind : ColType) (value : List ℕ) → not (is_long_type kind) ≡ true → value_fits kind value ≡ true → leb (length value) 255 ≡ true
short_value Bit value s h = or_of (bytes_eq value (0 ∷ [])) (bytes_eq value (1 ∷ [])) (leb (length value) 255 ≡ true) h
    (λ e. ap (λ (v : List ℕ). leb (length v) 255) (same_bytes value (0 ∷ []) e))
    (λ e. ap (λ (v : List ℕ). leb (length v) 255) (same_bytes value (1 ∷ []) e))
short_value UnsignedByte value s h = fixed (length value) 1 h (omega arith)
short_value Short value s h = fixed (length value) 2 h (omega arith)
short_value UnsignedShort value s h = fixed (length value) 2 h (omega arith)
short_value Long value s h = fixed (length value) 4 h (omega arith)
short_value UnsignedLong value s h = fixed (length value) 4 h (omega arith)
short_value LongLong value s h = fixed (length value) 8 h (omega arith)
short_value Currency value s h = fixed (length value) 8 h (omega arith)
short_value Guid value s h = fixed (length value) 16 h (omega arith)
short_value Binary value s h = h
short_value Text value s h = h
short_value LongBinary value s h = impossible s
short_value LongText value s h = impossible s

pub short_row : (columns : List TempColumn) (row : RowValues) → are_short columns ≡ true → row_fits columns row ≡ true → list_all is_short row ≡ true
short_row [] [] s h = refl
short_row [] (value ∷ row) s h = impossible h
short_row (column ∷ columns) [] s h = impossible h
short_row (column ∷ columns) (None ∷ row) s h = short_row columns row (and_right (not (is_long_type column.kind)) (are_short columns) s) h
short_row (column ∷ columns) (Some value ∷ row) s h =
    and_from (leb (length value) 255) (list_all is_short row)
    (short_value column.kind value (and_left (not (is_long_type column.kind)) (are_short columns) s) (and_left (value_fits column.kind value) (row_fits columns row) h))
    (short_row columns row (and_right (not (is_long_type column.kind)) (are_short columns) s) (and_right (value_fits column.kind value) (row_fits columns row) h))

own_room : (value : List ℕ) → leb (length value) 255 ≡ true → size_of_value value ≡ length value
own_room value h = ap (λ (b : Bool). cond b 16 (length value)) (le-ltb 255 (length value) (leb-true (length value) 255 h))

-- NULL takes a byte that its size does not count
pub bytes_of_row : (row : RowValues) → list_all is_short row ≡ true → length (row_bytes row) ≤ sum_by value_room row + length row
bytes_of_row [] h = omega arith
bytes_of_row (None ∷ row) h = omega (arith, sum_by-cons value_room None row, bytes_of_row row h)
bytes_of_row (Some value ∷ row) h =
    let short : leb (length value) 255 ≡ true = and_left (leb (length value) 255) (list_all is_short row) h in
    omega (arith, sum_by-cons value_room (Some value) row, own_room value short, length-append value (row_bytes row), bytes_of_row row (and_right (leb (length value) 255) (list_all is_short row) h))

-- ---- columns

pub are_few : (columns : List TempColumn) → are_temp_columns columns ≡ true → length columns ≤ 12
are_few [] h = omega arith
are_few (first ∷ columns) h =
    let few : Bool = leb (length (first ∷ columns)) 12 in
    let keys : Bool = key_columns_first (first ∷ columns) in
    leb-true (length (first ∷ columns)) 12
    (and_right first.is_key few (and_left (first.is_key && few) keys (and_left ((first.is_key && few) && keys) (are_short (first ∷ columns)) h)))

pub no_long : (columns : List TempColumn) → are_temp_columns columns ≡ true → are_short columns ≡ true
no_long [] h = impossible h
no_long (first ∷ columns) h = and_right ((first.is_key && leb (length (first ∷ columns)) 12) && key_columns_first (first ∷ columns)) (are_short (first ∷ columns)) h
