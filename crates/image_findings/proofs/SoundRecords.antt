-- The record of a sound row: it is stored, holds numbers in its escrow columns, and stands under its bookmark.
use Rattle.std.proofs.Common.{◌≡◌, ◌≤◌, ℕ, suc, ◌+◌, Bool, true, false, ◌&&◌, ◌||◌, cond, List, [], ◌∷◌, ◌++◌, length, Option, Some, None, refl, sym, ap, subst, ◌∙◌, arith}
use Rattle.std.specs.Prelude.{not, ◌==◌, map, nat_le, nat_lt, sum_by, is_none, option_map, unwrap_or, IfSome, T, bytes_eq, ◌<◌, ◌^◌}
use Rattle.std.specs.List.{AllByRecursion, flat_map, list_all}
use Rattle.std.specs.Ordering.{eq_by_cmp, is_lt, nat_cmp}
use Rattle.std.specs.Cmp.{unsigned_tied}
use Rattle.std.specs.FinMap.Entries.{below_all, is_sorted}
use Rattle.std.specs.Int.{w16, to_le_bytes}
use Rattle.std.proofs.lemmas.Bool.{and_from, eqb-true}
use Rattle.std.proofs.lemmas.Bool.Decides.{nat_tests}
use Rattle.std.proofs.lemmas.List.Concat.{flat_map-cons}
use Rattle.std.proofs.lemmas.List.Sums.{sum_by-append, sum_by-cons}
use Rattle.column_set.specs.NumberReading.{IsBytes}
use Rattle.column_set.specs.RecordValues.{RecordFields, column_of_id, has_value, is_kept_column, lookup_by_number, record_fits, record_size, size_of_length, size_of_value, size_of_values, stands_in, value_fits, values_fit}
use Rattle.column_set.specs.Refusals.{Refusals, first_refusal}
use Rattle.column_set.specs.RowReading.{row_in}
use Rattle.column_set.specs.Rows.{RowFields, bytes_here, field_fits_row, is_row, is_well_formed, room_in_row, row_bytes, row_size, value_bytes, value_fits_row, values_in_order}
use Rattle.column_set.specs.declared.columns.Column.{Column}
use Rattle.column_set.specs.declared.rows.RowValue.{RowValue}
use Rattle.column_set.specs.declared.rows.RowValue.TheVariants.{Here, Apart}
use Rattle.common_lemmas.proofs.Booleans.{and_left, and_right, impossible}
use Rattle.common_lemmas.proofs.Found.{all_found, found_passes, of_found}
use Rattle.common_lemmas.proofs.Lists.{all_parted}
use Rattle.common_lemmas.proofs.Numbers.{same_bytes}
use Rattle.database_state.specs.Conflicts.{yields_key}
use Rattle.database_state.specs.Lawful.{is_indexable, is_name}
use Rattle.database_state.specs.Puts.{is_cut_refusal, is_null_refusal, null_refusals}
use Rattle.database_state.specs.SchemaChanges.{has_column, is_long_column, is_type_long, rule_columns}
use Rattle.database_state.specs.Table.{Table, schema_of}
use Rattle.index_derive.specs.Entries.{entries, is_legal, primary_key}
use Rattle.index_derive.specs.Schemas.{primary_rule}
use Rattle.index_derive.specs.declared.rules.IndexRule.{IndexRule}
use Rattle.jet_base.specs.declared.words.ColType.{ColType}
use Rattle.jet_base.specs.declared.words.ColType.TheVariants as kind
use Rattle.laws_images.specs.ShowableEngines.{IsSoundRecord}
use Rattle.laws_images.specs.SoundStates.{is_number_of_kind, is_sound_column, is_sound_index}
use Rattle.laws_versions.proofs.KeyLemmas.IndexNumbers.{all_primary_first}
use Rattle.laws_versions.proofs.KeyLemmas.OneEntry.{one_entry}
use Rattle.laws_versions.proofs.RecordLemmas.PrimaryKeys.{each_null, primary_listed}
use Rattle.laws_versions.specs.Bookmarks.{is_bookmark, is_entry_number}
use Rattle.laws_versions.specs.EscrowNumbers.{holds_number, is_number, is_one_number}
use Rattle.long_rows.specs.RowReferences.{identifier}
use Rattle.long_rows.specs.WholeRows.{bytes_of_value, has_length, is_there, is_whole, record_in, whole_value}
use Rattle.long_value.specs.Values.{LongValue, Values, value_of}
use Rattle.stored_variants.specs.RecordRows.{record_of}
use Rattle.image_findings.specs.CatalogFindings.{has_sound_columns, has_sound_indexes, is_sound_table}
use Rattle.image_findings.specs.RowFindings.{is_hidden_key}
use Rattle.image_findings.specs.SoundRows.{HasSoundRow}
use Rattle.image_findings.specs.TableContents.{TableContents, long_values}
use Rattle.image_findings.proofs.Tables.{all_sound_columns}

-- ---- sizes

short_size : (n : ℕ) → nat_le n 255 ≡ true → size_of_length n ≡ n
short_size n h = by (nat_lt 255 n) refl
  where
    apart : (n : ℕ) → nat_le n 255 ≡ true → nat_lt 255 n ≡ true → false ≡ true
    apart n h e = grind (arith, nat_tests)

    by : (b : Bool) → nat_lt 255 n ≡ b → cond b 16 n ≡ n
    by true e = impossible (apart n h e)
    by false e = refl

long_size : (n : ℕ) → nat_le 256 n ≡ true → size_of_length n ≡ 16
long_size n h = ap (λ b. cond b 16 n) (is n h)
  where
    is : (n : ℕ) → nat_le 256 n ≡ true → nat_lt 255 n ≡ true
    is n h = grind (arith, nat_tests)

apart_size : (size : ℕ) (o : Option LongValue) → has_length size o ≡ true → nat_le 256 size ≡ true → size_of_length (length (bytes_of_value o)) ≡ 16
apart_size size None is long = impossible is
apart_size size (Some value) is long = long_size (length value.bytes) (ap (nat_le 256) (sym (eqb-true size (length value.bytes) is)) ∙ long)

long_of : (entry place size : ℕ) → value_fits_row (Apart entry place size) ≡ true → nat_le 256 size ≡ true
long_of entry place size fits = and_right (nat_lt entry (2 ^ 64) && nat_lt place (2 ^ 32)) (nat_le 256 size) (and_left (nat_lt entry (2 ^ 64) && nat_lt place (2 ^ 32) && nat_le 256 size) (nat_le size 1048576) fits)

room : (values : Values) (v : RowValue) → is_there values v ≡ true → value_fits_row v ≡ true → size_of_value (whole_value values v) ≡ room_in_row v
room values (Here bytes) is fits = short_size (length bytes) fits
room values (Apart entry place size) is fits = apart_size size (value_of (identifier entry place) values) is (long_of entry place size fits)

abbrev own_room : ℕ × RowValue → ℕ
own_room v = 5 + room_in_row v.1

abbrev own_size : List ℕ → ℕ
own_size value = 5 + size_of_value value

field_size : (values : Values) (column : ℕ) (vs : List RowValue) → list_all (is_there values) vs ≡ true → list_all value_fits_row vs ≡ true → size_of_values (map (whole_value values) vs) ≡ sum_by own_room (map (λ (value : RowValue). (column, value)) vs)
field_size values column [] is fits = refl
field_size values column (v ∷ vs) is fits =
    sum_by-cons own_size (whole_value values v) (map (whole_value values) vs)
    ∙ ap (λ n. 5 + n + sum_by own_size (map (whole_value values) vs)) (room values v (and_left (is_there values v) (list_all (is_there values) vs) is) (and_left (value_fits_row v) (list_all value_fits_row vs) fits))
    ∙ ap (λ n. 5 + room_in_row v + n) (field_size values column vs (and_right (is_there values v) (list_all (is_there values) vs) is) (and_right (value_fits_row v) (list_all value_fits_row vs) fits))
    ∙ sym (sum_by-cons own_room (column, v) (map (λ (value : RowValue). (column, value)) vs))

abbrev field_room : ℕ × List (List ℕ) → ℕ
field_room field = size_of_values field.1

fields_size : (values : Values) (row : RowFields) → is_whole values row ≡ true → list_all field_fits_row row ≡ true → sum_by field_room (record_in values row) ≡ sum_by own_room (values_in_order row)
fields_size values [] is fits = refl
fields_size values (field ∷ row) is fits =
    let here = map (λ (value : RowValue). (field.0, value)) field.1 in
    sum_by-cons field_room (field.0, map (whole_value values) field.1) (record_in values row)
    ∙ ap (λ n. n + sum_by field_room (record_in values row))
    (field_size values field.0 field.1 (and_left (list_all (is_there values) field.1) (is_whole values row) is)
    (and_right (nat_lt field.0 (2 ^ 16) && nat_lt 0 (length field.1)) (list_all value_fits_row field.1) (and_left (field_fits_row field) (list_all field_fits_row row) fits)))
    ∙ ap (λ n. sum_by own_room here + n) (fields_size values row (and_right (list_all (is_there values) field.1) (is_whole values row) is) (and_right (field_fits_row field) (list_all field_fits_row row) fits))
    ∙ sym (sum_by-append own_room here (values_in_order row))
    ∙ ap (sum_by own_room) (sym (flat_map-cons (λ (f : ℕ × List RowValue). map (λ (value : RowValue). (f.0, value)) f.1) field row))

long_append : {X : Type 0} (xs ys : List X) → length (xs ++ ys) ≡ length xs + length ys
long_append [] ys = omega arith
long_append (x ∷ xs) ys = let rest = long_append xs ys in omega (arith, rest)

value_length : (v : ℕ × RowValue) → length (value_bytes v) ≡ own_room v
value_length (column, Here bytes) = omega arith
value_length (column, Apart entry place size) = refl

values_length : (vs : List (ℕ × RowValue)) → length (flat_map value_bytes vs) ≡ sum_by own_room vs
values_length [] = refl
values_length (v ∷ vs) =
    ap length (flat_map-cons value_bytes v vs) ∙ long_append (value_bytes v) (flat_map value_bytes vs)
    ∙ ap (λ n. n + length (flat_map value_bytes vs)) (value_length v) ∙ ap (λ n. own_room v + n) (values_length vs) ∙ sym (sum_by-cons own_room v vs)

row_length : (row : RowFields) → length (row_bytes row) ≡ row_size row
row_length row =
    let vs = values_in_order row in
    let two : length (to_le_bytes w16 (length vs)) ≡ 2 = refl in
    long_append (to_le_bytes w16 (length vs)) (flat_map value_bytes vs) ∙ ap (λ n. n + length (flat_map value_bytes vs)) two ∙ ap (λ n. 2 + n) (values_length vs)

fields_of_row : (row : RowFields) → is_row row ≡ true → list_all field_fits_row row ≡ true
fields_of_row row formed = and_right (is_sorted nat_cmp row) (list_all field_fits_row row) (and_left (is_well_formed row) (nat_lt (length (values_in_order row)) (2 ^ 16)) formed)

pub size_is : (number : ℕ) (t : TableContents) (bookmark bytes : List ℕ) → HasSoundRow number t bookmark bytes → record_size (record_of (long_values t) bytes) ≡ length bytes
size_is number t bookmark bytes h =
    ap (λ n. 2 + n) (fields_size (long_values t) (row_in bytes) h.row.whole (fields_of_row (row_in bytes) h.row.formed)) ∙ sym (row_length (row_in bytes)) ∙ ap length (sym h.row.spelled)

-- ---- bytes

abbrev pub are_bytes : List ℕ → Bool
are_bytes bytes = list_all (λ b. nat_lt b 256) bytes

small : (n : ℕ) → n < 256 → nat_lt n 256 ≡ true
small n h = grind (arith, nat_tests)

pub bytes_are : (bytes : List ℕ) → IsBytes bytes → are_bytes bytes ≡ true
bytes_are [] h = refl
bytes_are (b ∷ bytes) h = and_from (nat_lt b 256) (are_bytes bytes) (small b (h 0)) (bytes_are bytes (λ i. h (suc i)))

pub bytes_behind : (xs ys : List ℕ) → are_bytes (xs ++ ys) ≡ true → are_bytes ys ≡ true
bytes_behind [] ys h = h
bytes_behind (x ∷ xs) ys h = bytes_behind xs ys (and_right (nat_lt x 256) (are_bytes (xs ++ ys)) h)

bytes_before : (xs ys : List ℕ) → are_bytes (xs ++ ys) ≡ true → are_bytes xs ≡ true
bytes_before [] ys h = refl
bytes_before (x ∷ xs) ys h = and_from (nat_lt x 256) (are_bytes xs) (and_left (nat_lt x 256) (are_bytes (xs ++ ys)) h) (bytes_before xs ys (and_right (nat_lt x 256) (are_bytes (xs ++ ys)) h))

abbrev HasBytes : RowValue → Type 0
HasBytes v = are_bytes (bytes_here v) ≡ true

value_has : (v : ℕ × RowValue) → are_bytes (value_bytes v) ≡ true → HasBytes v.1
value_has (column, Here bytes) h = bytes_behind (0 ∷ to_le_bytes w16 (length bytes)) bytes (bytes_behind (to_le_bytes w16 column) ((0 ∷ to_le_bytes w16 (length bytes)) ++ bytes) h)
value_has (column, Apart entry place size) h = refl

values_have : (vs : List (ℕ × RowValue)) → are_bytes (flat_map value_bytes vs) ≡ true → AllByRecursion (λ (v : ℕ × RowValue). HasBytes v.1) vs
values_have [] h = tt
values_have (v ∷ vs) h =
    let split = ap are_bytes (sym (flat_map-cons value_bytes v vs)) ∙ h in
    (value_has v (bytes_before (value_bytes v) (flat_map value_bytes vs) split), values_have vs (bytes_behind (value_bytes v) (flat_map value_bytes vs) split))

field_has : (column : ℕ) (vs : List RowValue) → AllByRecursion (λ (v : ℕ × RowValue). HasBytes v.1) (map (λ (value : RowValue). (column, value)) vs) → AllByRecursion HasBytes vs
field_has column [] h = tt
field_has column (v ∷ vs) h = (h.0, field_has column vs h.1)

fields_have : (row : RowFields) → AllByRecursion (λ (v : ℕ × RowValue). HasBytes v.1) (values_in_order row) → AllByRecursion (λ (f : ℕ × List RowValue). AllByRecursion HasBytes f.1) row
fields_have [] h = tt
fields_have (field ∷ row) h =
    let split = subst (AllByRecursion (λ (v : ℕ × RowValue). HasBytes v.1)) (flat_map-cons (λ (f : ℕ × List RowValue). map (λ (value : RowValue). (f.0, value)) f.1) field row) h in
    let parts = all_parted (λ (v : ℕ × RowValue). HasBytes v.1) (map (λ (value : RowValue). (field.0, value)) field.1) (values_in_order row) split in
    (field_has field.0 field.1 parts.0, fields_have row parts.1)

row_has : (row : RowFields) → are_bytes (row_bytes row) ≡ true → AllByRecursion (λ (f : ℕ × List RowValue). AllByRecursion HasBytes f.1) row
row_has row h = fields_have row (values_have (values_in_order row) (bytes_behind (to_le_bytes w16 (length (values_in_order row))) (flat_map value_bytes (values_in_order row)) h))

-- ---- numbers in escrow columns

-- what is known of a field of the row
record IsSoundField (values : Values) (columns : List Column) (field : ℕ × List RowValue) : Type 0 where
  stands : stands_in columns (field.0, map (whole_value values) field.1) ≡ true
  there : list_all (is_there values) field.1 ≡ true
  some : nat_lt 0 (length field.1) ≡ true
  fits : list_all value_fits_row field.1 ≡ true
  bytes : AllByRecursion HasBytes field.1

sound_fields : (values : Values) (columns : List Column) (row : RowFields) → list_all (stands_in columns) (record_in values row) ≡ true → is_whole values row ≡ true → list_all field_fits_row row ≡ true
    → AllByRecursion (λ (f : ℕ × List RowValue). AllByRecursion HasBytes f.1) row → AllByRecursion (IsSoundField values columns) row
sound_fields values columns [] stands is fits bytes = tt
sound_fields values columns (field ∷ row) stands is fits bytes =
    let own = and_left (field_fits_row field) (list_all field_fits_row row) fits in (
      record {
        stands = and_left (stands_in columns (field.0, map (whole_value values) field.1)) (list_all (stands_in columns) (record_in values row)) stands;
        there = and_left (list_all (is_there values) field.1) (is_whole values row) is;
        some = and_right (nat_lt field.0 (2 ^ 16)) (nat_lt 0 (length field.1)) (and_left (nat_lt field.0 (2 ^ 16) && nat_lt 0 (length field.1)) (list_all value_fits_row field.1) own);
        fits = and_right (nat_lt field.0 (2 ^ 16) && nat_lt 0 (length field.1)) (list_all value_fits_row field.1) own;
        bytes = bytes.0;
      },
      sound_fields values columns row (and_right (stands_in columns (field.0, map (whole_value values) field.1)) (list_all (stands_in columns) (record_in values row)) stands)
          (and_right (list_all (is_there values) field.1) (is_whole values row) is) (and_right (field_fits_row field) (list_all field_fits_row row) fits) bytes.1,
    )

looked_up : (values : Values) (columns : List Column) (row : RowFields) → AllByRecursion (IsSoundField values columns) row → (id : ℕ) → IfSome (lookup_by_number id row) (λ vs. IsSoundField values columns (id, vs))
looked_up values columns [] all id = tt
looked_up values columns (field ∷ row) all id = by (eq_by_cmp nat_cmp id field.0) refl (looked_up values columns row all.1 id)
  where
    by : (b : Bool) → eq_by_cmp nat_cmp id field.0 ≡ b → IfSome (lookup_by_number id row) (λ vs. IsSoundField values columns (id, vs)) → IfSome (cond b (Some field.1) (lookup_by_number id row)) (λ vs. IsSoundField values columns (id, vs))
    by true e rest = subst (λ (n : ℕ). IsSoundField values columns (n, field.1)) (sym (eqb-true id field.0 (sym (unsigned_tied id field.0) ∙ e))) all.0
    by false e rest = rest

same_look_up : (values : Values) (row : RowFields) (id : ℕ) → lookup_by_number id (record_in values row) ≡ option_map (map (whole_value values)) (lookup_by_number id row)
same_look_up values [] id = refl
same_look_up values (field ∷ row) id = by (eq_by_cmp nat_cmp id field.0) (same_look_up values row id)
  where
    by : (b : Bool) → lookup_by_number id (record_in values row) ≡ option_map (map (whole_value values)) (lookup_by_number id row)
        → cond b (Some (map (whole_value values) field.1)) (lookup_by_number id (record_in values row)) ≡ option_map (map (whole_value values)) (cond b (Some field.1) (lookup_by_number id row))
    by true e = refl
    by false e = e

long_fits : (type : ColType) (bytes : List ℕ) → is_type_long type ≡ true → value_fits type bytes ≡ true → (length bytes == 4) ≡ true
long_fits kind.Long bytes l h = h
long_fits kind.Bit bytes l h = impossible l
long_fits kind.UnsignedByte bytes l h = impossible l
long_fits kind.Short bytes l h = impossible l
long_fits kind.UnsignedShort bytes l h = impossible l
long_fits kind.UnsignedLong bytes l h = impossible l
long_fits kind.LongLong bytes l h = impossible l
long_fits kind.Currency bytes l h = impossible l
long_fits kind.Guid bytes l h = impossible l
long_fits kind.Binary bytes l h = impossible l
long_fits kind.Text bytes l h = impossible l
long_fits kind.LongBinary bytes l h = impossible l
long_fits kind.LongText bytes l h = impossible l

not_four : (size : ℕ) (o : Option LongValue) → has_length size o ≡ true → nat_le 256 size ≡ true → (length (bytes_of_value o) == 4) ≡ true → false ≡ true
not_four size None is long four = is
not_four size (Some value) is long four = apart (length value.bytes) (ap (nat_le 256) (sym (eqb-true size (length value.bytes) is)) ∙ long) four
  where
    apart : (n : ℕ) → nat_le 256 n ≡ true → (n == 4) ≡ true → false ≡ true
    apart n h e = grind (arith, nat_tests)

four_bytes : (values : Values) (v : RowValue) → is_there values v ≡ true → value_fits_row v ≡ true → HasBytes v → (length (whole_value values v) == 4) ≡ true → is_number (whole_value values v) ≡ true
four_bytes values (Here bytes) is fits has four = and_from (length bytes == 4) (are_bytes bytes) four has
four_bytes values (Apart entry place size) is fits has four = impossible (not_four size (value_of (identifier entry place) values) is (long_of entry place size fits) four)

sum_of : (escrow type tagged multi : Bool) → escrow ≡ true → (not escrow || (type && (not tagged && not multi))) ≡ true → (type ≡ true) × (multi ≡ false)
sum_of false type tagged multi e h = impossible e
sum_of true false tagged multi e h = impossible h
sum_of true true true multi e h = impossible h
sum_of true true false true e h = impossible h
sum_of true true false false e h = (refl, refl)

-- two are more than one
pub many : (n : ℕ) → nat_le (suc (suc n)) 1 ≡ true → false ≡ true
many n h = grind (arith, nat_tests)

one_value : (values : Values) (c : Column) (vs : List RowValue) → is_sound_column c ≡ true → c.escrow ≡ true → values_fit c (map (whole_value values) vs) ≡ true → list_all (is_there values) vs ≡ true → nat_lt 0 (length vs) ≡ true → list_all value_fits_row vs ≡ true
    → AllByRecursion HasBytes vs → is_one_number (map (whole_value values) vs) ≡ true
one_value values c vs sound escrow fit is some fits bytes = by vs fit is some fits bytes
  where
    sum : (is_type_long c.kind ≡ true) × (c.multi ≡ false)
    sum =
        sum_of c.escrow (is_type_long c.kind) c.tagged c.multi escrow
        (and_right (is_name c.name && is_number_of_kind c.kind c.tagged c.id.0 && (c.tagged || not (is_long_column c)) && (not c.multi || c.tagged)) (not c.escrow || (is_type_long c.kind && (not c.tagged && not c.multi))) sound)

    by : (vs : List RowValue) → values_fit c (map (whole_value values) vs) ≡ true → list_all (is_there values) vs ≡ true → nat_lt 0 (length vs) ≡ true → list_all value_fits_row vs ≡ true → AllByRecursion HasBytes vs → is_one_number (map (whole_value values) vs) ≡ true
    by [] fit is some fits bytes = impossible some
    by (v ∷ []) fit is some fits bytes =
        four_bytes values v (and_left (is_there values v) true is) (and_left (value_fits_row v) true fits) bytes.0
        (long_fits c.kind (whole_value values v) sum.0 (and_left (value_fits c.kind (whole_value values v)) true (and_right (c.multi || true) (value_fits c.kind (whole_value values v) && true) fit)))
    by (v ∷ w ∷ vs) fit is some fits bytes =
        let few = nat_le (length (map (whole_value values) (v ∷ w ∷ vs))) 1 in
        impossible (many (length (map (whole_value values) vs)) (sym (ap (λ b. b || few) sum.1) ∙ and_left (c.multi || few) (list_all (value_fits c.kind) (map (whole_value values) (v ∷ w ∷ vs))) fit))

has_one : (values : Values) (columns : List Column) (id : ℕ) (c : Column) (o : Option (List RowValue)) → column_of_id columns id ≡ Some c → is_sound_column c ≡ true → c.escrow ≡ true → IfSome o (λ vs. IsSoundField values columns (id, vs))
    → nat_lt 0 (length (unwrap_or (option_map (map (whole_value values)) o) [])) ≡ true → is_one_number (unwrap_or (option_map (map (whole_value values)) o) []) ≡ true
has_one values columns id c None e sound escrow field has = impossible has
has_one values columns id c (Some vs) e sound escrow field has =
    one_value values c vs sound escrow (sym (ap (λ (o : Option Column). elim o [ Some column ↦ values_fit column (map (whole_value values) vs) | None ↦ false ]) e) ∙ field.stands) field.there field.some field.fits field.bytes

kept_has : (c : Column) (b : Bool) → c.escrow ≡ true → (not (is_kept_column c) || b) ≡ true → b ≡ true
kept_has c b escrow h = sym (ap (λ e. not (e || c.version || c.auto) || b) escrow) ∙ h

numbers : (values : Values) (columns : List Column) (row : RowFields) → list_all is_sound_column columns ≡ true → record_fits columns (record_in values row) ≡ true → AllByRecursion (IsSoundField values columns) row → (id : ℕ)
    → (o : Option Column) → column_of_id columns id ≡ o → elim o [ Some column ↦ column.escrow | None ↦ false ] ≡ true → holds_number (record_in values row) id ≡ true
numbers values columns row sound fit fields id None e escrow = impossible escrow
numbers values columns row sound fit fields id (Some c) e escrow =
    let kept = all_found (λ column. not (is_kept_column column) || has_value (record_in values row) column.id.0) (λ column. column.id.0 == id) columns c
    (and_right (list_all (stands_in columns) (record_in values row)) (list_all (λ column. not (is_kept_column column) || has_value (record_in values row) column.id.0) columns) fit) e in
    let named : c.id.0 ≡ id = eqb-true c.id.0 id (found_passes (λ (column : Column). column.id.0 == id) columns c e) in
    let has : has_value (record_in values row) id ≡ true = ap (has_value (record_in values row)) (sym named) ∙ kept_has c (has_value (record_in values row) c.id.0) escrow kept in
    ap (λ o. is_one_number (unwrap_or o [])) (same_look_up values row id)
    ∙ has_one values columns id c (lookup_by_number id row) e (all_found is_sound_column (λ (column : Column). column.id.0 == id) columns c sound e) escrow (looked_up values columns row fields id)
    (ap (λ o. nat_lt 0 (length (unwrap_or o []))) (sym (same_look_up values row id)) ∙ has)

-- ---- rising columns

same_below : (values : Values) (id : ℕ) (row : RowFields) → below_all nat_cmp id (record_in values row) ≡ below_all nat_cmp id row
same_below values id [] = refl
same_below values id (field ∷ row) = ap (λ b. is_lt (nat_cmp id field.0) && b) (same_below values id row)

same_order : (values : Values) (row : RowFields) → is_sorted nat_cmp (record_in values row) ≡ is_sorted nat_cmp row
same_order values [] = refl
same_order values (field ∷ row) = ap (λ b. b && is_sorted nat_cmp (record_in values row)) (same_below values field.0 row) ∙ ap (λ b. below_all nat_cmp field.0 row && b) (same_order values row)

-- ---- bookmarks

-- a hidden key is the number of an entry
hidden : (number : ℕ) (bookmark : List ℕ) → is_hidden_key number bookmark ≡ true → is_entry_number number bookmark ≡ true
hidden number bookmark h = h

unrefused : (refusals : Refusals) → is_none (first_refusal refusals) ≡ true → AllByRecursion (λ refusal. refusal.0 ≡ false) refusals
unrefused [] h = tt
unrefused (refusal ∷ refusals) h = by refusal.0 h (unrefused refusals)
  where
    by : (b : Bool) → is_none (cond b (Some refusal.1) (first_refusal refusals)) ≡ true → (is_none (first_refusal refusals) ≡ true → AllByRecursion (λ other. other.0 ≡ false) refusals) → (b ≡ false) × AllByRecursion (λ other. other.0 ≡ false) refusals
    by true h rest = impossible h
    by false h rest = (refl, rest h)

legal_rules : (t : Table) → is_sound_table t ≡ true → AllByRecursion (λ rule. is_legal rule (schema_of t) ≡ true) t.indexes
legal_rules t h = each t.indexes (and_left (list_all (is_sound_index t) t.indexes) _ (and_right (has_sound_columns t) (has_sound_indexes t) (and_right _ (has_sound_columns t && has_sound_indexes t) h)))
  where
    each : (rules : List IndexRule) → list_all (is_sound_index t) rules ≡ true → AllByRecursion (λ rule. is_legal rule (schema_of t) ≡ true) rules
    each [] all = tt
    each (rule ∷ rules) all = (
      and_right (is_name rule.name && nat_le 1 rule.id.0 && list_all (has_column t) (rule_columns rule)) (is_legal rule (schema_of t)) (and_left (is_sound_index t rule) (list_all (is_sound_index t) rules) all),
      each rules (and_right (is_sound_index t rule) (list_all (is_sound_index t) rules) all),
    )

pub legal_primary : (t : Table) → is_sound_table t ≡ true → (rule : IndexRule) → primary_rule (schema_of t) ≡ Some rule → is_legal rule (schema_of t) ≡ true
legal_primary t h rule e =
    of_found (λ r. is_legal r (schema_of t) ≡ true) (λ r. r.flags.primary) (schema_of t).indexes rule e (all_primary_first (λ r. is_legal r (schema_of t) ≡ true) t.indexes (legal_rules t h))

stands : (number : ℕ) (t : Table) → is_sound_table t ≡ true → (fields : RecordFields) → is_indexable (schema_of t) fields ≡ true → (bookmark : List ℕ) → (o : Option IndexRule) → primary_rule (schema_of t) ≡ o
    → elim o [ Some rule ↦ bytes_eq bookmark (primary_key rule (schema_of t) fields) | None ↦ is_hidden_key number bookmark ] ≡ true → is_bookmark number (schema_of t) o bookmark fields ≡ true
stands number t sound fields indexable bookmark None e own = hidden number bookmark own
stands number t sound fields indexable bookmark (Some rule) e own =
    let whole = of_found (λ r. (is_null_refusal (entries r (schema_of t) fields) ≡ false) × (is_cut_refusal (entries r (schema_of t) fields) ≡ false)) (λ r. r.flags.primary) (schema_of t).indexes rule e
    (each_null (schema_of t) fields (schema_of t).indexes (unrefused (null_refusals (schema_of t) fields) indexable)) in
    ap (λ (key : List ℕ). yields_key rule (schema_of t) key (Some fields)) (same_bytes bookmark (primary_key rule (schema_of t) fields) own)
    ∙ primary_listed one_entry rule (schema_of t) fields (legal_primary t sound rule e) (found_passes (λ r. r.flags.primary) (schema_of t).indexes rule e) whole.0 whole.1

-- ---- the whole

pub sound_record : (number : ℕ) (t : TableContents) (bookmark bytes : List ℕ) → is_sound_table t.table ≡ true → are_bytes bytes ≡ true → HasSoundRow number t bookmark bytes → IsSoundRecord number (schema_of t.table) bookmark (record_of (long_values t) bytes)
sound_record number t bookmark bytes sound are h =
    let row = row_in bytes in
    let formed = fields_of_row row h.row.formed in
    let fields = sound_fields (long_values t) t.table.columns row (and_left (list_all (stands_in t.table.columns) (record_of (long_values t) bytes)) _ h.columns) h.row.whole formed
    (row_has row (ap are_bytes (sym h.row.spelled) ∙ are)) in
    let order = and_left (is_sorted nat_cmp row) (list_all field_fits_row row) (and_left (is_well_formed row) (nat_lt (length (values_in_order row)) (2 ^ 16)) h.row.formed) in (
      (subst (λ n. n ≤ 1700) (sym (size_is number t bookmark bytes h)) h.row.small, h.columns),
      (
        subst T (sym (same_order (long_values t) row ∙ order)) tt,
        λ id escrow. numbers (long_values t) t.table.columns row (all_sound_columns t.table sound) h.columns fields id (column_of_id t.table.columns id) refl escrow,
      ),
      stands number t.table sound (record_of (long_values t) bytes) h.indexable bookmark (primary_rule (schema_of t.table)) refl h.own,
    )
