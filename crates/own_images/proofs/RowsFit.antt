-- A row fits the columns of its table where the record that it stands for does.
use Rattle.std.proofs.Common.{◌≡◌, ℕ, Bool, true, false, ◌&&◌, ◌||◌, List, [], ◌∷◌, length, Option, Some, None, refl, sym, ap, subst, ◌∙◌, arith}
use Rattle.std.specs.Prelude.{◌==◌, ◌^◌, not, cond, nat_le, nat_lt, bytes_eq, map, option_map, unwrap_or}
use Rattle.std.specs.List.{list_all}
use Rattle.std.specs.Ordering.{eq_by_cmp, nat_cmp}
use Rattle.std.specs.FinMap.Entries.{is_sorted}
use Rattle.std.proofs.lemmas.Bool.{and_from, eqb-true}
use Rattle.std.proofs.lemmas.Bool.Decides.{nat_tests}
use Rattle.jet_base.specs.TypeKinds.{is_long_type}
use Rattle.jet_base.specs.declared.words.ColType.{ColType}
use Rattle.jet_base.specs.declared.words.ColType.TheVariants as kind
use Rattle.column_set.specs.declared.columns.Column.{Column}
use Rattle.column_set.specs.declared.rows.RowValue.{RowValue}
use Rattle.column_set.specs.declared.rows.RowValue.TheVariants.{Here, Apart}
use Rattle.column_set.specs.RecordValues.{column_of_id, has_value, is_kept_column, lookup_by_number, record_fits, stands_in, value_fits, values_fit}
use Rattle.column_set.specs.Rows.{RowFields, field_fits_row, is_row, is_well_formed, row_values_of, value_fits_row, values_in_order}
use Rattle.common_lemmas.proofs.Booleans.{and_left, and_right, by_test, impossible}
use Rattle.common_lemmas.proofs.Numbers.{same_bytes}
use Rattle.long_rows.specs.RowReferences.{identifier}
use Rattle.long_rows.specs.WholeRows.{bytes_of_value, has_length, is_there, is_whole, record_in, whole_value}
use Rattle.long_value.specs.Values.{LongValue, Values, value_of}
use Rattle.image_findings.specs.TableContents.{field_fits, row_fits, row_value_fits}

-- ---- a value of more than 255 bytes is of a long type

no_width : {A : Type 0} (size width : ℕ) → nat_le width 255 ≡ true → nat_le 256 size ≡ true → (size == width) ≡ true → A
no_width size width small long same = absurd (at size width small long same)
  where
    at : (size width : ℕ) → nat_le width 255 ≡ true → nat_le 256 size ≡ true → (size == width) ≡ true → ⊥
    at size width small long same = grind (arith, nat_tests, small, long, same)

no_more : {A : Type 0} (size : ℕ) → nat_le 256 size ≡ true → nat_le size 255 ≡ true → A
no_more size long short = absurd (at size long short)
  where
    at : (size : ℕ) → nat_le 256 size ≡ true → nat_le size 255 ≡ true → ⊥
    at size long short = grind (arith, nat_tests, long, short)

no_bit : {A : Type 0} (value : List ℕ) → nat_le 256 (length value) ≡ true → (bytes_eq value (0 ∷ []) || bytes_eq value (1 ∷ [])) ≡ true → A
no_bit value long fits =
    by_test (bytes_eq value (0 ∷ []))
    (λ e. impossible (ap (λ (v : List ℕ). nat_le 256 (length v)) (sym (same_bytes value (0 ∷ []) e)) ∙ long))
    (λ e. impossible (ap (λ (v : List ℕ). nat_le 256 (length v)) (sym (same_bytes value (1 ∷ []) (ap (λ (b : Bool). b || bytes_eq value (1 ∷ [])) (sym e) ∙ fits))) ∙ long))

long_type : (type : ColType) (value : List ℕ) → nat_le 256 (length value) ≡ true → value_fits type value ≡ true → is_long_type type ≡ true
long_type kind.Bit value long fits = no_bit value long fits
long_type kind.UnsignedByte value long fits = no_width (length value) 1 refl long fits
long_type kind.Short value long fits = no_width (length value) 2 refl long fits
long_type kind.UnsignedShort value long fits = no_width (length value) 2 refl long fits
long_type kind.Long value long fits = no_width (length value) 4 refl long fits
long_type kind.UnsignedLong value long fits = no_width (length value) 4 refl long fits
long_type kind.LongLong value long fits = no_width (length value) 8 refl long fits
long_type kind.Currency value long fits = no_width (length value) 8 refl long fits
long_type kind.Guid value long fits = no_width (length value) 16 refl long fits
long_type kind.Binary value long fits = no_more (length value) long fits
long_type kind.Text value long fits = no_more (length value) long fits
long_type kind.LongBinary value long fits = refl
long_type kind.LongText value long fits = refl

-- ---- the values of a row

apart_value : (type : ColType) (size : ℕ) (found : Option LongValue) → nat_le 256 size ≡ true → has_length size found ≡ true → value_fits type (bytes_of_value found) ≡ true → is_long_type type ≡ true
apart_value type size None long there fits = impossible there
apart_value type size (Some value) long there fits = long_type type value.bytes (subst (λ (n : ℕ). nat_le 256 n ≡ true) (eqb-true size (length value.bytes) there) long) fits

one_value : (values : Values) (type : ColType) (value : RowValue) → value_fits_row value ≡ true → is_there values value ≡ true → value_fits type (whole_value values value) ≡ true → row_value_fits type value ≡ true
one_value values type (Here bytes) formed there fits = fits
one_value values type (Apart entry place size) formed there fits =
    apart_value type size (value_of (identifier entry place) values)
    (and_right (nat_lt entry (2 ^ 64) && nat_lt place (2 ^ 32)) (nat_le 256 size) (and_left ((nat_lt entry (2 ^ 64) && nat_lt place (2 ^ 32)) && nat_le 256 size) (nat_le size 1048576) formed)) there fits

each_value : (values : Values) (type : ColType) (list : List RowValue) → list_all value_fits_row list ≡ true → list_all (is_there values) list ≡ true → list_all (value_fits type) (map (whole_value values) list) ≡ true → list_all (row_value_fits type) list ≡ true
each_value values type [] formed there fits = refl
each_value values type (value ∷ list) formed there fits =
    let others = list_all (value_fits type) (map (whole_value values) list) in
    and_from (row_value_fits type value) (list_all (row_value_fits type) list)
    (one_value values type value (and_left (value_fits_row value) (list_all value_fits_row list) formed) (and_left (is_there values value) (list_all (is_there values) list) there) (and_left (value_fits type (whole_value values value)) others fits))
    (each_value values type list (and_right (value_fits_row value) (list_all value_fits_row list) formed) (and_right (is_there values value) (list_all (is_there values) list) there) (and_right (value_fits type (whole_value values value)) others fits))

as_many : (values : Values) (list : List RowValue) → length list ≡ length (map (whole_value values) list)
as_many values [] = refl
as_many values (value ∷ list) = omega (arith, as_many values list)

one_field : (values : Values) (columns : List Column) (field : ℕ × List RowValue) → list_all value_fits_row field.1 ≡ true → list_all (is_there values) field.1 ≡ true → stands_in columns (field.0, map (whole_value values) field.1) ≡ true → field_fits columns field ≡ true
one_field values columns field formed there stands = by (column_of_id columns field.0) stands
  where
    by : (o : Option Column) → elim o [ Some column ↦ values_fit column (map (whole_value values) field.1) | None ↦ false ] ≡ true
        → elim o [ Some column ↦ (column.multi || nat_le (length field.1) 1) && list_all (row_value_fits column.kind) field.1 | None ↦ false ] ≡ true
    by None h = h
    by (Some column) h =
        let many = column.multi || nat_le (length (map (whole_value values) field.1)) 1 in
        let each = list_all (value_fits column.kind) (map (whole_value values) field.1) in
        and_from (column.multi || nat_le (length field.1) 1) (list_all (row_value_fits column.kind) field.1)
        (ap (λ (n : ℕ). column.multi || nat_le n 1) (as_many values field.1) ∙ and_left many each h) (each_value values column.kind field.1 formed there (and_right many each h))

each_field : (values : Values) (columns : List Column) (row : RowFields) → list_all field_fits_row row ≡ true → is_whole values row ≡ true → list_all (stands_in columns) (record_in values row) ≡ true → list_all (field_fits columns) row ≡ true
each_field values columns [] formed there stands = refl
each_field values columns (field ∷ row) formed there stands =
    let own = stands_in columns (field.0, map (whole_value values) field.1) in
    let others = list_all (stands_in columns) (record_in values row) in
    and_from (field_fits columns field) (list_all (field_fits columns) row)
    (one_field values columns field (and_right (nat_lt field.0 (2 ^ 16) && nat_lt 0 (length field.1)) (list_all value_fits_row field.1) (and_left (field_fits_row field) (list_all field_fits_row row) formed))
    (and_left (list_all (is_there values) field.1) (is_whole values row) there) (and_left own others stands))
    (each_field values columns row (and_right (field_fits_row field) (list_all field_fits_row row) formed) (and_right (list_all (is_there values) field.1) (is_whole values row) there) (and_right own others stands))

-- ---- the columns that the engine keeps

looked_up : (values : Values) (row : RowFields) (id : ℕ) → lookup_by_number id (record_in values row) ≡ option_map (map (whole_value values)) (lookup_by_number id row)
looked_up values [] id = refl
looked_up values (field ∷ row) id = by (eq_by_cmp nat_cmp id field.0) (looked_up values row id)
  where
    by : (b : Bool) → lookup_by_number id (record_in values row) ≡ option_map (map (whole_value values)) (lookup_by_number id row)
        → cond b (Some (map (whole_value values) field.1)) (lookup_by_number id (record_in values row)) ≡ option_map (map (whole_value values)) (cond b (Some field.1) (lookup_by_number id row))
    by true e = refl
    by false e = e

same_count : (values : Values) (o : Option (List RowValue)) → length (unwrap_or o []) ≡ length (unwrap_or (option_map (map (whole_value values)) o) [])
same_count values None = refl
same_count values (Some list) = as_many values list

has_as_many : (values : Values) (row : RowFields) (id : ℕ) → nat_lt 0 (length (row_values_of row id)) ≡ has_value (record_in values row) id
has_as_many values row id = ap (λ (n : ℕ). nat_lt 0 n) (same_count values (lookup_by_number id row)) ∙ sym (ap (λ (o : Option (List (List ℕ))). nat_lt 0 (length (unwrap_or o []))) (looked_up values row id))

kept_columns : (values : Values) (row : RowFields) (columns : List Column) → list_all (λ column. not (is_kept_column column) || has_value (record_in values row) column.id.0) columns ≡ true
    → list_all (λ column. not (is_kept_column column) || nat_lt 0 (length (row_values_of row column.id.0))) columns ≡ true
kept_columns values row [] h = refl
kept_columns values row (c ∷ columns) h =
    let own = not (is_kept_column c) || has_value (record_in values row) c.id.0 in
    let others = list_all (λ column. not (is_kept_column column) || has_value (record_in values row) column.id.0) columns in
    and_from (not (is_kept_column c) || nat_lt 0 (length (row_values_of row c.id.0))) (list_all (λ column. not (is_kept_column column) || nat_lt 0 (length (row_values_of row column.id.0))) columns)
    (ap (λ (b : Bool). not (is_kept_column c) || b) (has_as_many values row c.id.0) ∙ and_left own others h) (kept_columns values row columns (and_right own others h))

-- ---- rows

pub row_fits_columns : (values : Values) (columns : List Column) (row : RowFields) → is_row row ≡ true → is_whole values row ≡ true → record_fits columns (record_in values row) ≡ true → row_fits columns row ≡ true
row_fits_columns values columns row formed there fits =
    let fields = list_all (stands_in columns) (record_in values row) in
    let kept = list_all (λ column. not (is_kept_column column) || has_value (record_in values row) column.id.0) columns in
    let well = and_left (is_well_formed row) (nat_lt (length (values_in_order row)) (2 ^ 16)) formed in
    and_from (list_all (field_fits columns) row) (list_all (λ column. not (is_kept_column column) || nat_lt 0 (length (row_values_of row column.id.0))) columns)
    (each_field values columns row (and_right (is_sorted nat_cmp row) (list_all field_fits_row row) well) there (and_left fields kept fits)) (kept_columns values row columns (and_right fields kept fits))
