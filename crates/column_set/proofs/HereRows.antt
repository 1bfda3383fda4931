-- Rows that keep every value of a record.
use Rattle.std.proofs.Common.{◌≡◌, ℕ, ◌+◌, ◌-◌, ◌^◌, min, ◌<◌, ◌≤◌, Bool, true, ltb, leb, eqb, ◌&&◌, List, [], ◌∷◌, ◌++◌, length, take, map, get_or, refl, sym, ap, subst, ◌∙◌, append_assoc, arith, All}
use Rattle.std.specs.Prelude.{bytes_eq, sum_by}
use Rattle.std.specs.List.{flat_map, list_all, AllByRecursion}
use Rattle.std.specs.Int.{w16, to_le_bytes}
use Rattle.std.specs.Ordering.{nat_cmp, is_lt}
use Rattle.std.specs.FinMap.Entries.{is_sorted, below_all}
use Rattle.std.proofs.lemmas.Bool.{and_parts, and_from, leb-true, eq-eqb, lt-ltb}
use Rattle.std.proofs.lemmas.List.{length-append, length-map, append-nil, take_all, take_more, map-append}
use Rattle.std.proofs.lemmas.List.Folds.{list_all_more}
use Rattle.std.proofs.lemmas.List.Concat.{flat_map-append}
use Rattle.std.proofs.lemmas.List.Sums.{sum_by-cons, sum_by-take-le, sum_by_push}
use Rattle.std.proofs.lemmas.List.Elements.{All-from_recursion}
use Rattle.std.proofs.lemmas.Slice.Eq.{bytes_eq-Decides}
use Rattle.column_set.specs.declared.rows.RowValue.{RowValue}
use Rattle.column_set.specs.declared.rows.RowValue.TheVariants.{Here}
use Rattle.column_set.specs.Record.{is_record}
use Rattle.column_set.specs.RecordValues.{RecordFields, record_size}
use Rattle.column_set.specs.Rows.{all_here, are_short, bytes_here, field_fits_row, here_fields, is_all_here, is_row, is_row_of, record_values_in_order, row_bytes, row_size, stands_for, value_bytes, value_fits_row, values_in_order, values_stand_for}
use Rattle.column_set.proofs.Sizes.{few_from_size, is_row-from, size-length}
use Rattle.column_set.specs.RowSizes.{row_size-record_size}

-- ---- the values of the row

abbrev pub values_here : RecordFields → List (ℕ × RowValue)
values_here fields = values_in_order (all_here fields)

-- those of one column
abbrev pub column_here : ℕ → List (List ℕ) → List (ℕ × RowValue)
column_here column values = map (λ value. (column, Here value)) values

column_is : (column : ℕ) (values : List (List ℕ)) → map (λ value. (column, value)) (map (λ value. Here value) values) ≡ column_here column values
column_is column [] = refl
column_is column (value ∷ values) = ap (λ (r : List (ℕ × RowValue)). (column, Here value) ∷ r) (column_is column values)

values_here-push : (fields : RecordFields) (field : ℕ × List (List ℕ)) → values_here (fields ++ field ∷ []) ≡ values_here fields ++ column_here field.0 field.1
values_here-push [] field = append-nil (map (λ value. (field.0, value)) (map (λ value. Here value) field.1)) ∙ column_is field.0 field.1
values_here-push (first ∷ fields) field =
    let firsts = map (λ value. (first.0, value)) (map (λ value. Here value) first.1) in
    ap (λ (r : List (ℕ × RowValue)). firsts ++ r) (values_here-push fields field) ∙ sym (append_assoc firsts (values_here fields) (column_here field.0 field.1))

-- one more field
pub field_more : (fields : RecordFields) (i : ℕ) (field : ℕ × List (List ℕ)) → i < length fields → field ≡ get_or fields i field
    → flat_map value_bytes (values_here (take (i + 1) fields)) ≡ flat_map value_bytes (values_here (take i fields)) ++ flat_map value_bytes (column_here field.0 field.1)
field_more fields i field lt is =
    ap (λ (fs : RecordFields). flat_map value_bytes (values_here fs)) (take_more fields i field lt ∙ ap (λ (f : ℕ × List (List ℕ)). take i fields ++ f ∷ []) (sym is))
    ∙ ap (flat_map value_bytes) (values_here-push (take i fields) field)
    ∙ flat_map-append value_bytes (values_here (take i fields)) (column_here field.0 field.1)

-- one more value of a column
pub value_more : (column : ℕ) (values : List (List ℕ)) (i : ℕ) (value : List ℕ) → i < length values → value ≡ get_or values i value
    → flat_map value_bytes (column_here column (take (i + 1) values)) ≡ flat_map value_bytes (column_here column (take i values)) ++ value_bytes (column, Here value)
value_more column values i value lt is =
    ap (λ (vs : List (List ℕ)). flat_map value_bytes (column_here column vs)) (take_more values i value lt ∙ ap (λ (v : List ℕ). take i values ++ v ∷ []) (sym is))
    ∙ ap (flat_map value_bytes) (map-append (λ v. (column, Here v)) (take i values) (value ∷ []))
    ∙ flat_map-append value_bytes (column_here column (take i values)) ((column, Here value) ∷ [])
    ∙ ap (λ (r : List ℕ). flat_map value_bytes (column_here column (take i values)) ++ r) (append-nil (value_bytes (column, Here value)))

-- ---- their number

pub count_here : (fields : RecordFields) → length (values_here fields) ≡ sum_by (λ field. length field.1) fields
count_here [] = refl
count_here (field ∷ fields) =
    let here : List RowValue = map (λ value. Here value) field.1 in
    let under : RowValue → ℕ × RowValue = λ value. (field.0, value) in
    omega (arith, length-append (map under here) (values_here fields), length-map here under, length-map field.1 (λ (value : List ℕ). Here value), count_here fields, sum_by-cons (λ (f : ℕ × List (List ℕ)). length f.1) field fields)

-- one more field's
pub count_more : (fields : RecordFields) (i : ℕ) (field : ℕ × List (List ℕ)) → i < length fields → field ≡ get_or fields i field
    → sum_by (λ field. length field.1) (take (i + 1) fields) ≡ sum_by (λ field. length field.1) (take i fields) + length field.1
count_more fields i field lt is =
    ap (sum_by (λ (f : ℕ × List (List ℕ)). length f.1)) (take_more fields i field lt ∙ ap (λ (f : ℕ × List (List ℕ)). take i fields ++ f ∷ []) (sym is))
    ∙ sum_by_push (λ (f : ℕ × List (List ℕ)). length f.1) (take i fields) field

pub count_within : (fields : RecordFields) (i : ℕ) → sum_by (λ field. length field.1) (take i fields) ≤ sum_by (λ field. length field.1) fields
count_within fields i = sum_by-take-le (λ (f : ℕ × List (List ℕ)). length f.1) fields i

-- ---- each value is short

short_by_recursion : (values : List (List ℕ)) → are_short values ≡ true → AllByRecursion (λ value. length value ≤ 255) values
short_by_recursion [] h = tt
short_by_recursion (value ∷ values) h =
    let parts = and_parts (leb (length value) 255) (are_short values) h in
    (leb-true _ _ parts.0, short_by_recursion values parts.1)

pub each_short : (values : List (List ℕ)) → are_short values ≡ true → All (λ value. length value ≤ 255) values
each_short values h = All-from_recursion (λ value. length value ≤ 255) values (short_by_recursion values h)

fields_by_recursion : (fields : RecordFields) → is_all_here fields ≡ true → AllByRecursion (λ field. are_short field.1 ≡ true) fields
fields_by_recursion [] h = tt
fields_by_recursion (field ∷ fields) h =
    let parts = and_parts (are_short field.1) (is_all_here fields) h in
    (parts.0, fields_by_recursion fields parts.1)

pub each_field_short : (fields : RecordFields) → is_all_here fields ≡ true → All (λ field. are_short field.1 ≡ true) fields
each_field_short fields h = All-from_recursion (λ field. are_short field.1 ≡ true) fields (fields_by_recursion fields h)

-- ---- the row stands for the record

shown_values : (values : List (List ℕ)) → map bytes_here (map (λ value. Here value) values) ≡ values
shown_values [] = refl
shown_values (value ∷ values) = ap (λ (r : List (List ℕ)). value ∷ r) (shown_values values)

pub shown : (fields : RecordFields) → here_fields (all_here fields) ≡ fields
shown [] = refl
shown (field ∷ fields) = λ i. (field.0, shown_values field.1 i) ∷ shown fields i

column_stands : (column : ℕ) (values : List (List ℕ)) (xs : List (ℕ × RowValue)) (rest : List (ℕ × List ℕ)) → are_short values ≡ true → values_stand_for xs rest ≡ true
    → values_stand_for (map (λ value. (column, value)) (map (λ value. Here value) values) ++ xs) (map (λ value. (column, value)) values ++ rest) ≡ true
column_stands column [] xs rest short h = h
column_stands column (value ∷ values) xs rest short h =
    let parts = and_parts (leb (length value) 255) (are_short values) short in
    let same : bytes_eq value value ≡ true = (bytes_eq-Decides value value).1 refl in
    and_from _ _ (and_from (eqb column column) (stands_for (Here value) value) (eq-eqb column column refl) (and_from (bytes_eq value value) (leb (length value) 255) same parts.0))
    (column_stands column values xs rest parts.1 h)

pub form : (fields : RecordFields) → is_all_here fields ≡ true → is_row_of (all_here fields) fields ≡ true
form [] h = refl
form (field ∷ fields) h =
    let parts = and_parts (are_short field.1) (is_all_here fields) h in
    column_stands field.0 field.1 (values_here fields) (record_values_in_order fields) parts.0 (form fields parts.1)

pub size : (fields : RecordFields) → is_all_here fields ≡ true → row_size (all_here fields) ≡ record_size fields
size fields h = row_size-record_size (all_here fields) fields (form fields h)

-- five bytes and more for each value
pub count_small : (fields : RecordFields) → is_all_here fields ≡ true → record_size fields ≤ 1700 → sum_by (λ field. length field.1) fields ≤ 340
count_small fields h small = omega (arith, size-length (values_here fields), count_here fields, size fields h)

-- ---- it is a row

below_here : (column : ℕ) (fields : RecordFields) → below_all nat_cmp column (all_here fields) ≡ below_all nat_cmp column fields
below_here column [] = refl
below_here column (field ∷ fields) = ap (λ (b : Bool). is_lt (nat_cmp column field.0) && b) (below_here column fields)

sorted_here : (fields : RecordFields) → is_sorted nat_cmp (all_here fields) ≡ is_sorted nat_cmp fields
sorted_here [] = refl
sorted_here (field ∷ fields) = λ i. below_here field.0 fields i && sorted_here fields i

values_fit : (values : List (List ℕ)) → list_all value_fits_row (map (λ value. Here value) values) ≡ are_short values
values_fit [] = refl
values_fit (value ∷ values) = ap (λ (b : Bool). leb (length value) 255 && b) (values_fit values)

-- the columns have numbers of two bytes
abbrev pub are_columns : RecordFields → Bool
are_columns fields = list_all (λ field. ltb field.0 (2 ^ 16)) fields

fields_fit : (fields : RecordFields) → are_columns fields ≡ true → list_all (λ field. ltb 0 (length field.1)) fields ≡ true → is_all_here fields ≡ true → list_all field_fits_row (all_here fields) ≡ true
fields_fit [] columns some short = refl
fields_fit (field ∷ fields) columns some short =
    let a = and_parts (ltb field.0 (2 ^ 16)) (are_columns fields) columns in
    let b = and_parts (ltb 0 (length field.1)) (list_all (λ field. ltb 0 (length field.1)) fields) some in
    let c = and_parts (are_short field.1) (is_all_here fields) short in
    let count : ltb 0 (length (map (λ value. Here value) field.1)) ≡ true = ap (ltb 0) (length-map field.1 (λ value. Here value)) ∙ b.0 in
    and_from (field_fits_row (field.0, map (λ value. Here value) field.1)) (list_all field_fits_row (all_here fields))
    (and_from (ltb field.0 (2 ^ 16) && ltb 0 (length (map (λ value. Here value) field.1))) (list_all value_fits_row (map (λ value. Here value) field.1))
    (and_from (ltb field.0 (2 ^ 16)) (ltb 0 (length (map (λ value. Here value) field.1))) a.0 count) (values_fit field.1 ∙ c.0))
    (fields_fit fields a.1 b.1 c.1)

pub row : (fields : RecordFields) → is_record fields ≡ true → is_all_here fields ≡ true → are_columns fields ≡ true → record_size fields ≤ 1700 → is_row (all_here fields) ≡ true
row fields formed short columns small =
    let parts = and_parts (is_sorted nat_cmp fields) (list_all (λ field. ltb 0 (length field.1)) fields) formed in
    is_row-from (all_here fields) (and_from (is_sorted nat_cmp (all_here fields)) (list_all field_fits_row (all_here fields)) (sorted_here fields ∙ parts.0) (fields_fit fields columns parts.1 short))
    (few_from_size (all_here fields) (subst (λ n. n ≤ 1700) (sym (size fields short)) small))

-- ---- what a loop over the fields has written

small_from : (total size : ℕ) → size ≡ min total (2 ^ 64 - 1) → size ≤ 1700 → total ≤ 1700
small_from total size is small = omega arith

pub row_small : (fields : RecordFields) (given : ℕ) → is_all_here fields ≡ true → given ≡ min (record_size fields) (2 ^ 64 - 1) → given ≤ 1700 → row_size (all_here fields) ≤ 1700
row_small fields given short given_is small = subst (λ n. n ≤ 1700) (sym (size fields short)) (small_from (record_size fields) given given_is small)

pub count_fits : (seen fields : RecordFields) (size : ℕ) → seen ≡ fields → is_all_here fields ≡ true → size ≡ min (record_size fields) (2 ^ 64 - 1) → size ≤ 1700
    → sum_by (λ field. length field.1) seen ≤ 340
count_fits seen fields size is short size_is small =
    subst (λ (fs : RecordFields). sum_by (λ field. length field.1) fs ≤ 340) (sym is) (count_small fields short (small_from (record_size fields) size size_is small))

pub field_written : (seen : RecordFields) (i : ℕ) (field : ℕ × List (List ℕ)) (column : ℕ) (values : List (List ℕ)) (head before after : List ℕ)
    → i < length seen → field ≡ get_or seen i field → column ≡ field.0 → values ≡ field.1
    → before ≡ head ++ flat_map value_bytes (values_here (take i seen)) → after ≡ before ++ flat_map value_bytes (column_here column values)
    → after ≡ head ++ flat_map value_bytes (values_here (take (i + 1) seen))
field_written seen i field column values head before after lt is column_is values_are so_far written =
    let done = flat_map value_bytes (values_here (take i seen)) in
    written
    ∙ (λ k. so_far k ++ flat_map value_bytes (column_here (column_is k) (values_are k)))
    ∙ append_assoc head done (flat_map value_bytes (column_here field.0 field.1))
    ∙ ap (λ (r : List ℕ). head ++ r) (sym (field_more seen i field lt is))

pub columns_more : (seen : RecordFields) (i : ℕ) (field : ℕ × List (List ℕ)) (column : ℕ) → i < length seen → field ≡ get_or seen i field → column ≡ field.0 → column < 2 ^ 16
    → are_columns (take i seen) ≡ true → are_columns (take (i + 1) seen) ≡ true
columns_more seen i field column lt is column_is small so_far =
    let fits : (get_or seen i field).0 < 2 ^ 16 = subst (λ (n : ℕ). n < 2 ^ 16) (column_is ∙ ap (λ (f : ℕ × List (List ℕ)). f.0) is) small in
    list_all_more (λ (f : ℕ × List (List ℕ)). ltb f.0 (2 ^ 16)) seen i field lt ∙ and_from (are_columns (take i seen)) (ltb (get_or seen i field).0 (2 ^ 16)) so_far (lt-ltb _ _ fits)

pub row_done : (seen fields : RecordFields) (i size : ℕ) → seen ≡ fields → is_record fields ≡ true → is_all_here fields ≡ true → size ≡ min (record_size fields) (2 ^ 64 - 1) → size ≤ 1700
    → length seen ≤ i → are_columns (take i seen) ≡ true → is_row (all_here fields) ≡ true
row_done seen fields i size is formed short size_is small past columns =
    row fields formed short (ap are_columns (sym (take_all i seen past ∙ is)) ∙ columns) (small_from (record_size fields) size size_is small)

pub bytes_done : (seen fields : RecordFields) (i : ℕ) (bytes : List ℕ) → seen ≡ fields → length seen ≤ i
    → bytes ≡ to_le_bytes w16 (length (values_here seen)) ++ flat_map value_bytes (values_here (take i seen)) → bytes ≡ row_bytes (all_here fields)
bytes_done seen fields i bytes is past written =
    written ∙ ap (λ (fs : RecordFields). to_le_bytes w16 (length (values_here seen)) ++ flat_map value_bytes (values_here fs)) (take_all i seen past)
    ∙ ap (λ (fs : RecordFields). row_bytes (all_here fs)) is
