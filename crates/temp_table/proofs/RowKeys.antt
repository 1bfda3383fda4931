-- Keys of rows, none of which begins another.
use Rattle.std.proofs.Common.{◌≡◌, ℕ, zero, suc, ◌+◌, ◌≤◌, inl, inr, Bool, true, false, cond, ltb, ◌||◌, Option, Some, None, List, [], ◌∷◌, ◌++◌, length, take, drop, bytes_eq, refl, sym, ap, ◌∙◌, arith, append_assoc}
use Rattle.std.specs.List.{list_all}
use Rattle.std.proofs.lemmas.Bool.{and_from, cases_lt, le-ltb}
use Rattle.std.proofs.lemmas.List.{length-append, take-append-drop, length-take-le}
use Rattle.common_lemmas.proofs.Booleans.{and_left, and_right, by_test, impossible}
use Rattle.common_lemmas.proofs.Numbers.{same_bytes}
use Rattle.jet_base.specs.declared.words.ColType.{ColType}
use Rattle.jet_base.specs.declared.words.ColType.TheVariants.{Bit, UnsignedByte, Short, UnsignedShort, Long, UnsignedLong, LongLong, Currency, Guid, Binary, Text, LongBinary, LongText}
use Rattle.jet_base.specs.Given.{width_fits}
use Rattle.key_normal.specs.KeyBytes.{KeyColumn, key_bytes, cut_key, is_cut, segment_bytes}
use Rattle.key_normal.specs.KeyOrder.{are_values, is_value}
use Rattle.column_set.specs.RecordValues.{value_fits}
use Rattle.temp_table.specs.declared.columns.TempColumn.{TempColumn}
use Rattle.temp_table.specs.TempColumns.{RowValues, row_fits}
use Rattle.temp_table.specs.TempRows.{key_segments, row_key}
use Rattle.temp_table.specs.Held.{IsRow, are_bytes}
use Rattle.temp_table.proofs.Orders.{IsApart}

-- what is known of whole keys
abbrev pub NoPrefix : Type 0
NoPrefix = (columns : List KeyColumn) (nulls_high : Bool) (most : ℕ) (xs ys : List (Option (List ℕ))) (rest : List ℕ)
    → are_values columns xs ≡ true → are_values columns ys ≡ true
    → is_cut most (key_bytes columns nulls_high xs) ≡ false → is_cut most (key_bytes columns nulls_high ys) ≡ false
    → cut_key most (key_bytes columns nulls_high ys) ≡ cut_key most (key_bytes columns nulls_high xs) ++ rest → rest ≡ []

-- ---- key columns and their values

key_columns : List TempColumn → List KeyColumn
key_columns [] = []
key_columns (column ∷ columns) = cond column.is_key (record { kind = column.kind; descending = column.descending } ∷ key_columns columns) (key_columns columns)

key_values : List TempColumn → RowValues → RowValues
key_values [] row = []
key_values (column ∷ columns) [] = []
key_values (column ∷ columns) (value ∷ row) = cond column.is_key (value ∷ key_values columns row) (key_values columns row)

first_segment : (column : TempColumn) (columns : List TempColumn) (value : Option (List ℕ)) (row : RowValues)
    → key_segments columns row ≡ key_bytes (key_columns columns) false (key_values columns row)
    → key_segments (column ∷ columns) (value ∷ row) ≡ key_bytes (key_columns (column ∷ columns)) false (key_values (column ∷ columns) (value ∷ row))
unfolding key_columns key_values
first_segment column columns value row rest =
    let segment = segment_bytes column.kind value column.descending false in
    let keys : Bool → List KeyColumn = λ b. cond b (record { kind = column.kind; descending = column.descending } ∷ key_columns columns) (key_columns columns) in
    let values : Bool → RowValues = λ b. cond b (value ∷ key_values columns row) (key_values columns row) in
    by_test column.is_key
    (λ t. ap (λ (b : Bool). cond b segment [] ++ key_segments columns row) t ∙ ap (λ l. segment ++ l) rest ∙ sym (ap (λ (b : Bool). key_bytes (keys b) false (values b)) t))
    (λ t. ap (λ (b : Bool). cond b segment [] ++ key_segments columns row) t ∙ rest ∙ sym (ap (λ (b : Bool). key_bytes (keys b) false (values b)) t))

segments_of_keys : (columns : List TempColumn) (row : RowValues) → row_fits columns row ≡ true → key_segments columns row ≡ key_bytes (key_columns columns) false (key_values columns row)
unfolding key_columns key_values
segments_of_keys [] [] h = refl
segments_of_keys [] (value ∷ row) h = impossible h
segments_of_keys (column ∷ columns) [] h = impossible h
segments_of_keys (column ∷ columns) (None ∷ row) h = first_segment column columns None row (segments_of_keys columns row h)
segments_of_keys (column ∷ columns) (Some value ∷ row) h = first_segment column columns (Some value) row (segments_of_keys columns row (and_right (value_fits column.kind value) (row_fits columns row) h))

or_of : (a b : Bool) (A : Type 0) → (a || b) ≡ true → (a ≡ true → A) → (b ≡ true → A) → A
or_of true b A h f g = f refl
or_of false b A h f g = g h

-- a value of a type has its width
width : (kind : ColType) (value : List ℕ) → value_fits kind value ≡ true → width_fits kind (length value) ≡ true
width Bit value h = or_of (bytes_eq value (0 ∷ [])) (bytes_eq value (1 ∷ [])) (width_fits Bit (length value) ≡ true) h
    (λ e. ap (λ (v : List ℕ). width_fits Bit (length v)) (same_bytes value (0 ∷ []) e))
    (λ e. ap (λ (v : List ℕ). width_fits Bit (length v)) (same_bytes value (1 ∷ []) e))
width UnsignedByte value h = h
width Short value h = h
width UnsignedShort value h = h
width Long value h = h
width UnsignedLong value h = h
width LongLong value h = h
width Currency value h = h
width Guid value h = h
width Binary value h = refl
width Text value h = refl
width LongBinary value h = refl
width LongText value h = refl

first_value : (column : TempColumn) (columns : List TempColumn) (value : Option (List ℕ)) (row : RowValues)
    → (are_values (key_columns columns) (key_values columns row) ≡ true → are_values (record { kind = column.kind; descending = column.descending } ∷ key_columns columns) (value ∷ key_values columns row) ≡ true)
    → are_values (key_columns columns) (key_values columns row) ≡ true → are_values (key_columns (column ∷ columns)) (key_values (column ∷ columns) (value ∷ row)) ≡ true
unfolding key_columns key_values
first_value column columns value row first rest =
    let keys : Bool → List KeyColumn = λ b. cond b (record { kind = column.kind; descending = column.descending } ∷ key_columns columns) (key_columns columns) in
    let values : Bool → RowValues = λ b. cond b (value ∷ key_values columns row) (key_values columns row) in
    by_test column.is_key
    (λ t. ap (λ (b : Bool). are_values (keys b) (values b)) t ∙ first rest)
    (λ t. ap (λ (b : Bool). are_values (keys b) (values b)) t ∙ rest)

values_of_keys : (columns : List TempColumn) (row : RowValues) → row_fits columns row ≡ true → are_bytes row ≡ true → are_values (key_columns columns) (key_values columns row) ≡ true
unfolding key_columns key_values
values_of_keys [] [] h k = refl
values_of_keys [] (value ∷ row) h k = impossible h
values_of_keys (column ∷ columns) [] h k = impossible h
values_of_keys (column ∷ columns) (None ∷ row) h k = first_value column columns None row (λ e. e) (values_of_keys columns row h k)
values_of_keys (column ∷ columns) (Some value ∷ row) h k =
    let bytes : Bool = list_all (λ byte. ltb byte 256) value in
    first_value column columns (Some value) row
    (λ e. and_from (is_value column.kind value) (are_values (key_columns columns) (key_values columns row))
    (and_from (width_fits column.kind (length value)) bytes
    (width column.kind value (and_left (value_fits column.kind value) (row_fits columns row) h))
    (and_left bytes (are_bytes row) k)) e)
    (values_of_keys columns row (and_right (value_fits column.kind value) (row_fits columns row) h) (and_right bytes (are_bytes row) k))

-- ---- cut keys

take_whole : (n : ℕ) (xs : List ℕ) → length xs ≤ n → take n xs ≡ xs
take_whole zero [] le = refl
take_whole (suc n) [] le = refl
take_whole zero (x ∷ xs) le = absurd (omega (arith, le))
take_whole (suc n) (x ∷ xs) le = ap (λ l. x ∷ l) (take_whole n xs (omega (arith, le)))

no_rest : (xs : List ℕ) → length xs ≤ 0 → xs ≡ []
no_rest [] le = refl
no_rest (x ∷ xs) le = absurd (omega (arith, le))

left_none : (xs ys : List ℕ) → xs ++ ys ≡ [] → xs ≡ []
left_none [] ys e = refl
left_none (x ∷ xs) ys e = cc

short : (n : ℕ) (xs : List ℕ) → length (take n xs) ≤ n
short zero xs = omega arith
short (suc n) [] = omega arith
short (suc n) (x ∷ xs) = omega (arith, short n xs)

cut_apart : NoPrefix → (columns : List KeyColumn) (xs ys : List (Option (List ℕ))) (rest : List ℕ) → are_values columns xs ≡ true → are_values columns ys ≡ true
    → take 255 (key_bytes columns false ys) ≡ take 255 (key_bytes columns false xs) ++ rest → rest ≡ []
cut_apart law columns xs ys rest is other e =
    let key : List ℕ = key_bytes columns false xs in
    let more : List ℕ = key_bytes columns false ys in
    let most : ℕ = length key + length more in
    elim (cases_lt 255 (length key)) [
      | inl long ↦ no_rest rest (omega (arith, ap (λ (l : List ℕ). length l) e, length-append (take 255 key) rest, length-take-le 255 key (omega (arith, long)), short 255 more))
      | inr whole ↦
          let tail : List ℕ = drop 255 more in
          let all : more ≡ key ++ (rest ++ tail) =
          sym (take-append-drop 255 more) ∙ ap (λ l. l ++ tail) (e ∙ ap (λ l. l ++ rest) (take_whole 255 key whole)) ∙ append_assoc key rest tail in
          left_none rest tail (law columns false most xs ys (rest ++ tail) is other
          (le-ltb most (length key) (omega arith)) (le-ltb most (length more) (omega arith))
          (take_whole most more (omega arith) ∙ all ∙ ap (λ l. l ++ (rest ++ tail)) (sym (take_whole most key (omega arith)))))
    ]

pub keys_apart : NoPrefix → (columns : List TempColumn) (row other : RowValues) → IsRow columns row → IsRow columns other → IsApart (row_key columns row) (row_key columns other)
keys_apart law columns row other is is_other =
    let keys = key_columns columns in
    let xs = key_values columns row in
    let ys = key_values columns other in
    let one : row_key columns row ≡ take 255 (key_bytes keys false xs) = ap (take 255) (segments_of_keys columns row is.fits) in
    let two : row_key columns other ≡ take 255 (key_bytes keys false ys) = ap (take 255) (segments_of_keys columns other is_other.fits) in
    let values = values_of_keys columns row is.fits is.bytes in
    let others = values_of_keys columns other is_other.fits is_other.bytes in
    record {
      begins_not = λ rest e. cut_apart law keys xs ys rest values others (sym two ∙ e ∙ ap (λ l. l ++ rest) one);
      begun_not = λ rest e. cut_apart law keys ys xs rest others values (sym one ∙ e ∙ ap (λ l. l ++ rest) two);
    }
