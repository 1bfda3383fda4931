-- A record that is stored has few values, which are short: in a log entry they have at most 49,933 bytes for each byte of their row.
use Rattle.std.proofs.Common.{◌≡◌, ℕ, suc, ◌+◌, ◌*◌, ◌^◌, ◌≤◌, Bool, true, false, ◌&&◌, ◌||◌, cond, List, [], ◌∷◌, ◌++◌, length, Option, Some, None, refl, sym, ap, subst, ◌∙◌, arith}
use Rattle.std.specs.Prelude.{◌==◌, map, nat_le, nat_lt, sum_by, find, bytes_eq}
use Rattle.std.specs.List.{flat_map, list_all}
use Rattle.std.proofs.lemmas.Bool.{and_parts, and_from, leb-true, eqb-true}
use Rattle.std.proofs.lemmas.Bool.Decides.{nat_tests}
use Rattle.std.proofs.lemmas.List.{length-append}
use Rattle.std.proofs.lemmas.List.Concat.{flat_map-append, flat_map-cons}
use Rattle.std.proofs.lemmas.List.Sums.{sum_by-cons}
use Rattle.jet_base.specs.declared.words.ColType.{ColType}
use Rattle.jet_base.specs.declared.words.ColType.TheVariants as kind
use Rattle.column_set.specs.declared.columns.Column.{Column}
use Rattle.column_set.specs.RecordValues.{RecordFields, column_of_id, record_size, size_of_length, size_of_values, stands_in, value_fits, values_fit}
use Rattle.column_set.specs.Rows.{record_values_in_order}
use Rattle.log_grammar.specs.EntryBytes.{value_bytes, value_fits as value_fits_entry}
use Rattle.log_grammar.proofs.Values.{of_column}
use Rattle.common_lemmas.proofs.Found.{found_passes}
use Rattle.common_lemmas.proofs.Booleans.{impossible}
use Rattle.database_state.specs.Table.{GreatestColumns}
use Rattle.laws_engine.specs.ColumnNumbers.{are_in_range, is_given_number}

-- ---- a value of a column

-- the most bytes of a value of any type
abbrev pub is_within : List ℕ → Bool
is_within value = nat_le (length value) 1048576

fixed_within : (width n : ℕ) → nat_le width 1048576 ≡ true → (n == width) ≡ true → nat_le n 1048576 ≡ true
fixed_within width n small same = grind (arith, nat_tests)

short_within : (n : ℕ) → nat_le n 255 ≡ true → nat_le n 1048576 ≡ true
short_within n h = grind (arith, nat_tests)

neither : (a b : Bool) → ((a && false) || (b && false)) ≡ false
neither true true = refl
neither true false = refl
neither false true = refl
neither false false = refl

bit_within : (value : List ℕ) → (bytes_eq value (0 ∷ []) || bytes_eq value (1 ∷ [])) ≡ true → is_within value ≡ true
bit_within [] h = cc
bit_within (x ∷ []) h = refl
bit_within (x ∷ y ∷ value) h = let no = neither (x == 0) (x == 1) in cc

pub value_within : (type : ColType) (value : List ℕ) → value_fits type value ≡ true → is_within value ≡ true
value_within kind.Bit value h = bit_within value h
value_within kind.UnsignedByte value h = fixed_within 1 (length value) refl h
value_within kind.Short value h = fixed_within 2 (length value) refl h
value_within kind.UnsignedShort value h = fixed_within 2 (length value) refl h
value_within kind.Long value h = fixed_within 4 (length value) refl h
value_within kind.UnsignedLong value h = fixed_within 4 (length value) refl h
value_within kind.LongLong value h = fixed_within 8 (length value) refl h
value_within kind.Currency value h = fixed_within 8 (length value) refl h
value_within kind.Guid value h = fixed_within 16 (length value) refl h
value_within kind.Binary value h = short_within (length value) h
value_within kind.Text value h = short_within (length value) h
value_within kind.LongBinary value h = h
value_within kind.LongText value h = h

pub values_within : (type : ColType) (values : List (List ℕ)) → list_all (value_fits type) values ≡ true → list_all is_within values ≡ true
values_within type [] h = refl
values_within type (value ∷ values) h =
    let both = and_parts (value_fits type value) (list_all (value_fits type) values) h in
    and_from (is_within value) (list_all is_within values) (value_within type value both.0) (values_within type values both.1)

-- ---- the columns of a record

-- the columns of a table have the numbers that were given
pub record AreNumbered (greatest : GreatestColumns) (columns : List Column) : Type 0 where
  pub range : are_in_range greatest ≡ true
  pub given : list_all (is_given_number greatest) columns ≡ true

low_number : (id most : ℕ) → nat_le id most ≡ true → most ≤ 511 → nat_lt id (2 ^ 16) ≡ true
low_number id most h few = grind (arith, nat_tests)

given_by : (id tagged : ℕ) (fixed variable low middle : Bool) → nat_le id 127 ≡ low → nat_le id 255 ≡ middle → tagged ≤ 511 → cond low fixed (cond middle variable (nat_le id tagged)) ≡ true → nat_lt id (2 ^ 16) ≡ true
given_by id tagged fixed variable true middle el em few h = low_number id 127 el (omega arith)
given_by id tagged fixed variable false true el em few h = low_number id 255 em (omega arith)
given_by id tagged fixed variable false false el em few h = low_number id tagged h few

given_low : (greatest : GreatestColumns) (column : Column) → are_in_range greatest ≡ true → is_given_number greatest column ≡ true → nat_lt column.id.0 (2 ^ 16) ≡ true
given_low greatest column range given =
    given_by column.id.0 greatest.tagged (nat_le column.id.0 greatest.fixed) (nat_le column.id.0 greatest.variable) (nat_le column.id.0 127) (nat_le column.id.0 255) refl refl
    (leb-true greatest.tagged 511 (and_parts (nat_le greatest.fixed 127 && nat_le 127 greatest.variable && nat_le greatest.variable 255 && nat_le 255 greatest.tagged) (nat_le greatest.tagged 511) range).1) given

pub found_all : {X : Type 0} (test p : X → Bool) (xs : List X) (x : X) → list_all p xs ≡ true → find test xs ≡ Some x → p x ≡ true
found_all test p [] x h e = absurd (none x e)
  where
    none : {X : Type 0} (x : X) → None ≡ Some x → ⊥
    none x e = cc
found_all {X = X} test p (y ∷ xs) x h e = elim (test y) as (λ b. cond b (Some y) (find test xs) ≡ Some x → p x ≡ true) [
  | true ↦ λ f. subst (λ (z : X). p z ≡ true) (same y x f) (and_parts (p y) (list_all p xs) h).0
  | false ↦ λ f. found_all test p xs x (and_parts (p y) (list_all p xs) h).1 f
] e
  where
    same : (a b : X) → Some a ≡ Some b → a ≡ b
    same a b e = cc

-- a column that is there has a number of 16 bits
pub column_low : (greatest : GreatestColumns) (columns : List Column) (id : ℕ) (column : Column) → AreNumbered greatest columns → column_of_id columns id ≡ Some column → nat_lt id (2 ^ 16) ≡ true
column_low greatest columns id column are found =
    let at : Column → Bool = λ c. c.id.0 == id in
    subst (λ (n : ℕ). nat_lt n (2 ^ 16) ≡ true) (eqb-true column.id.0 id (found_passes at columns column found)) (given_low greatest column are.range (found_all at (is_given_number greatest) columns column are.given found))

-- ---- a field

-- whether a field has a number of 16 bits, and values of 2^20 bytes at most
abbrev pub field_within : ℕ × List (List ℕ) → Bool
field_within field = nat_lt field.0 (2 ^ 16) && list_all is_within field.1

field_found : (greatest : GreatestColumns) (columns : List Column) (field : ℕ × List (List ℕ)) (found : Option Column) → AreNumbered greatest columns → column_of_id columns field.0 ≡ found
    → elim found [ Some column ↦ values_fit column field.1 | None ↦ false ] ≡ true → field_within field ≡ true
field_found greatest columns field None are is fits = impossible fits
field_found greatest columns field (Some column) are is fits =
    and_from (nat_lt field.0 (2 ^ 16)) (list_all is_within field.1) (column_low greatest columns field.0 column are is)
    (values_within column.kind field.1 (and_parts (column.multi || nat_le (length field.1) 1) (list_all (value_fits column.kind) field.1) fits).1)

pub each_within : (greatest : GreatestColumns) (columns : List Column) (fields : RecordFields) → AreNumbered greatest columns → list_all (stands_in columns) fields ≡ true → list_all field_within fields ≡ true
each_within greatest columns [] are fits = refl
each_within greatest columns (field ∷ fields) are fits =
    let both = and_parts (stands_in columns field) (list_all (stands_in columns) fields) fits in
    and_from (field_within field) (list_all field_within fields) (field_found greatest columns field (column_of_id columns field.0) are refl both.0) (each_within greatest columns fields are both.1)

-- ---- how many bytes

weighs : (n : ℕ) → nat_le n 1048576 ≡ true → 6 + n ≤ 49933 * (5 + size_of_length n)
weighs n h = elim (nat_lt 255 n) as (λ b. nat_lt 255 n ≡ b → 6 + n ≤ 49933 * (5 + cond b 16 n)) [
  | true ↦ λ e. long n (leb-true n 1048576 h)
  | false ↦ λ e. short n
] refl
  where
    long : (n : ℕ) → n ≤ 1048576 → 6 + n ≤ 49933 * (5 + 16)
    long n h = omega (arith, h)

    short : (n : ℕ) → 6 + n ≤ 49933 * (5 + n)
    short n = omega arith

length-value : (value : ℕ × List ℕ) → length (value_bytes value) ≡ 6 + length value.1
length-value value = omega arith

-- what is asked of the values of a column: bytes, and how many they are
record AreFew (bytes count size : ℕ) : Type 0 where
  few_bytes : bytes ≤ 49933 * size
  few : count ≤ size

both_few : (a b c d e f : ℕ) → AreFew a b c → AreFew d e f → AreFew (a + d) (b + e) (c + f)
both_few a b c d e f h g = record { few_bytes = omega (arith, h.few_bytes, g.few_bytes); few = omega (arith, h.few, g.few) }

abbrev pub bytes_of : List (ℕ × List ℕ) → ℕ
bytes_of values = length (flat_map value_bytes values)

one_few : (column : ℕ) (value : List ℕ) → is_within value ≡ true → AreFew (length (value_bytes (column, value))) 1 (5 + size_of_length (length value))
one_few column value h = record {
  few_bytes = subst (λ (n : ℕ). n ≤ 49933 * (5 + size_of_length (length value))) (sym (length-value (column, value))) (weighs (length value) h);
  few = some (size_of_length (length value));
}
  where
    some : (n : ℕ) → 1 ≤ 5 + n
    some n = omega arith

column_few : (column : ℕ) (values : List (List ℕ)) → list_all is_within values ≡ true → AreFew (bytes_of (of_column column values)) (length (of_column column values)) (size_of_values values)
column_few column [] h = record { few_bytes = omega arith; few = omega arith }
column_few column (value ∷ values) h =
    let both = and_parts (is_within value) (list_all is_within values) h in
    let rest : List (ℕ × List ℕ) = of_column column values in
    let sized : bytes_of ((column, value) ∷ rest) ≡ length (value_bytes (column, value)) + bytes_of rest =
    ap length (flat_map-cons value_bytes (column, value) rest) ∙ length-append (value_bytes (column, value)) (flat_map value_bytes rest) in
    let summed : size_of_values (value ∷ values) ≡ (5 + size_of_length (length value)) + size_of_values values = sum_by-cons (λ (v : List ℕ). 5 + size_of_length (length v)) value values in
    let all = both_few (length (value_bytes (column, value))) 1 (5 + size_of_length (length value)) (bytes_of rest) (length rest) (size_of_values values) (one_few column value both.0) (column_few column values both.1) in
    by (bytes_of ((column, value) ∷ rest)) (length (value_bytes (column, value)) + bytes_of rest) (length rest) (size_of_values (value ∷ values)) ((5 + size_of_length (length value)) + size_of_values values) sized summed all
  where
    by : (b c n s t : ℕ) → b ≡ c → s ≡ t → AreFew c (1 + n) t → AreFew b (suc n) s
    by b c n s t e f h = record { few_bytes = omega (arith, e, f, h.few_bytes); few = omega (arith, f, h.few) }

abbrev sizes : RecordFields → ℕ
sizes fields = sum_by (λ field. size_of_values field.1) fields

fields_few : (fields : RecordFields) → list_all field_within fields ≡ true → AreFew (bytes_of (record_values_in_order fields)) (length (record_values_in_order fields)) (sizes fields)
fields_few [] h = record { few_bytes = omega arith; few = omega arith }
fields_few (field ∷ fields) h =
    let both = and_parts (field_within field) (list_all field_within fields) h in
    let here : List (ℕ × List ℕ) = of_column field.0 field.1 in
    let rest : List (ℕ × List ℕ) = record_values_in_order fields in
    let split : record_values_in_order (field ∷ fields) ≡ here ++ rest = flat_map-cons (λ (f : ℕ × List (List ℕ)). map (λ value. (f.0, value)) f.1) field fields in
    let sized : bytes_of (record_values_in_order (field ∷ fields)) ≡ bytes_of here + bytes_of rest =
    ap bytes_of split ∙ ap length (flat_map-append value_bytes here rest) ∙ length-append (flat_map value_bytes here) (flat_map value_bytes rest) in
    let counted : length (record_values_in_order (field ∷ fields)) ≡ length here + length rest = ap length split ∙ length-append here rest in
    let summed : sizes (field ∷ fields) ≡ size_of_values field.1 + sizes fields = sum_by-cons (λ (f : ℕ × List (List ℕ)). size_of_values f.1) field fields in
    by (bytes_of (record_values_in_order (field ∷ fields))) (bytes_of here + bytes_of rest) (length (record_values_in_order (field ∷ fields))) (length here + length rest) (sizes (field ∷ fields)) (size_of_values field.1 + sizes fields) sized counted summed
    (both_few (bytes_of here) (length here) (size_of_values field.1) (bytes_of rest) (length rest) (sizes fields) (column_few field.0 field.1 (and_parts (nat_lt field.0 (2 ^ 16)) (list_all is_within field.1) both.0).1) (fields_few fields both.1))
  where
    by : (b c n m s t : ℕ) → b ≡ c → n ≡ m → s ≡ t → AreFew c m t → AreFew b n s
    by b c n m s t e f g h = record { few_bytes = omega (arith, e, g, h.few_bytes); few = omega (arith, f, g, h.few) }

-- ---- each value has a spelling

value_spelled : (column : ℕ) (values : List (List ℕ)) → nat_lt column (2 ^ 16) ≡ true → list_all is_within values ≡ true → list_all value_fits_entry (map (λ value. (column, value)) values) ≡ true
value_spelled column [] low h = refl
value_spelled column (value ∷ values) low h =
    let both = and_parts (is_within value) (list_all is_within values) h in
    and_from (nat_lt column (2 ^ 16) && nat_lt (length value) (2 ^ 32)) (list_all value_fits_entry (map (λ v. (column, v)) values)) (and_from (nat_lt column (2 ^ 16)) (nat_lt (length value) (2 ^ 32)) low (four_bytes (length value) both.0)) (value_spelled column values low both.1)
  where
    four_bytes : (n : ℕ) → nat_le n 1048576 ≡ true → nat_lt n (2 ^ 32) ≡ true
    four_bytes n h = grind (arith, nat_tests)

all_append : {X : Type 0} (p : X → Bool) (xs ys : List X) → list_all p xs ≡ true → list_all p ys ≡ true → list_all p (xs ++ ys) ≡ true
all_append p [] ys h g = g
all_append p (x ∷ xs) ys h g = let both = and_parts (p x) (list_all p xs) h in and_from (p x) (list_all p (xs ++ ys)) both.0 (all_append p xs ys both.1 g)

values_spelled : (fields : RecordFields) → list_all field_within fields ≡ true → list_all value_fits_entry (record_values_in_order fields) ≡ true
values_spelled [] h = refl
values_spelled (field ∷ fields) h =
    let both = and_parts (field_within field) (list_all field_within fields) h in
    let here = and_parts (nat_lt field.0 (2 ^ 16)) (list_all is_within field.1) both.0 in
    let split : record_values_in_order (field ∷ fields) ≡ map (λ value. (field.0, value)) field.1 ++ record_values_in_order fields = flat_map-cons (λ (f : ℕ × List (List ℕ)). map (λ value. (f.0, value)) f.1) field fields in
    subst (λ (xs : List (ℕ × List ℕ)). list_all value_fits_entry xs ≡ true) (sym split)
    (all_append value_fits_entry (map (λ value. (field.0, value)) field.1) (record_values_in_order fields) (value_spelled field.0 field.1 here.0 here.1) (values_spelled fields both.1))

-- ---- all of it

pub record AreSmall (fields : RecordFields) : Type 0 where
  pub few : length (record_values_in_order fields) ≤ 1700
  pub spelled : list_all value_fits_entry (record_values_in_order fields) ≡ true
  pub few_bytes : bytes_of (record_values_in_order fields) ≤ 84886100

pub small_record : (fields : RecordFields) → list_all field_within fields ≡ true → record_size fields ≤ 1700 → AreSmall fields
small_record fields h small =
    let few = fields_few fields h in
    record {
      few = count (length (record_values_in_order fields)) (sizes fields) few.few small;
      spelled = values_spelled fields h;
      few_bytes = bytes (bytes_of (record_values_in_order fields)) (sizes fields) few.few_bytes small;
    }
  where
    count : (n s : ℕ) → n ≤ s → 2 + s ≤ 1700 → n ≤ 1700
    count n s h g = omega (arith, h, g)

    bytes : (b s : ℕ) → b ≤ 49933 * s → 2 + s ≤ 1700 → b ≤ 84886100
    bytes b s h g = omega (arith, h, g)
