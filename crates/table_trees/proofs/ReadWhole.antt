-- The values of a row that is read with its long values.
use Rattle.std.proofs.Common.{◌≡◌, ℕ, zero, suc, ◌<◌, ◌≤◌, ◌^◌, min, Bool, true, cond, ◌&&◌, if◌then◌else◌, Option, Some, None, List, [], ◌∷◌, length, map, take, inl, inr, refl, sym, ap, subst, ◌∙◌, arith, true≢false}
use Rattle.std.specs.Prelude.{IfSome, IsSome, IsSomeAnd, MatchOption, nat_lt, slice_get, slice_index_or, unwrap_or}
use Rattle.std.specs.List.{list_all}
use Rattle.std.specs.Ordering.{eq_by_cmp, nat_cmp}
use Rattle.std.specs.FinMap.Entries.{is_sorted}
use Rattle.std.proofs.lemmas.Bool.{cases_lt, eqb-true, leb-true, ltb-false, ltb-true}
use Rattle.std.proofs.lemmas.List.{length-take, length-take-le, take_all}
use Rattle.common_lemmas.proofs.Booleans.{and_left, and_right, by_test}
use Rattle.column_set.specs.declared.rows.RowValue.{RowValue}
use Rattle.column_set.specs.declared.rows.RowValue.TheVariants.{Here, Apart}
use Rattle.column_set.specs.Reading.{IsFront}
use Rattle.column_set.specs.RecordValues.{RecordFields, lookup_by_number, values_of}
use Rattle.column_set.specs.Rows.{RowFields, apart_at, bytes_here, field_fits_row, here_fields, is_row, is_well_formed, place_apart, row_values_of, value_fits_row, values_in_order}
use Rattle.long_value.specs.Stores.{read_upto}
use Rattle.long_value.specs.Values.{LongValue, Values, value_of}
use Rattle.long_rows.specs.RowReferences.{identifier}
use Rattle.long_rows.specs.WholeRows.{bytes_of_value, has_length, is_there, is_whole, record_in, whole_value}

never : {X : Type 0} (x : X) → None ≡ Some x → ⊥
never x e = cc

-- ---- the values of a column

abbrev map_columns : {X Y : Type 0} (g : X → Y) → List (ℕ × List X) → List (ℕ × List Y)
map_columns g row = map (λ field. (field.0, map g field.1)) row

abbrev of_column : {X : Type 0} (column : ℕ) (row : List (ℕ × List X)) → List X
of_column column row = unwrap_or (lookup_by_number column row) []

look_map : {X Y : Type 0} (g : X → Y) (column : ℕ) (row : List (ℕ × List X)) → of_column column (map_columns g row) ≡ map g (of_column column row)
look_map g column [] = refl
look_map g column (field ∷ row) =
    by_test (eq_by_cmp nat_cmp column field.0)
    (λ t. ap (λ (b : Bool). unwrap_or (cond b (Some (map g field.1)) (lookup_by_number column (map_columns g row))) []) t ∙ sym (ap (λ (b : Bool). map g (unwrap_or (cond b (Some field.1) (lookup_by_number column row)) [])) t))
    (λ f.
    ap (λ (b : Bool). unwrap_or (cond b (Some (map g field.1)) (lookup_by_number column (map_columns g row))) []) f
    ∙ look_map g column row
    ∙ sym (ap (λ (b : Bool). map g (unwrap_or (cond b (Some field.1) (lookup_by_number column row)) [])) f))

same_length : {X Y Z : Type 0} (g : X → Y) (h : X → Z) (vs : List X) → length (map g vs) ≡ length (map h vs)
same_length g h [] = refl
same_length g h (v ∷ vs) = ap suc (same_length g h vs)

pub count_whole : (values : Values) (row : RowFields) (column : ℕ) → length (values_of (here_fields row) column) ≡ length (values_of (record_in values row) column)
count_whole values row column =
    ap length (look_map bytes_here column row) ∙ same_length bytes_here (whole_value values) (row_values_of row column) ∙ sym (ap length (look_map (whole_value values) column row))

-- ---- a value that stands in the row

abbrev place_at : List RowValue → ℕ → Option (ℕ × ℕ × ℕ)
place_at vs at = elim (slice_get vs at) [ Some value ↦ place_apart value | None ↦ None ]

same_place : (values : Values) (vs : List RowValue) (at : ℕ) → place_at vs at ≡ None → slice_index_or (map bytes_here vs) at [] ≡ slice_index_or (map (whole_value values) vs) at []
same_place values [] at e = refl
same_place values (Here own ∷ vs) zero e = refl
same_place values (Apart entry place size ∷ vs) zero e = absurd (never (entry, place, size) (sym e))
same_place values (v ∷ vs) (suc at) e = same_place values vs at e

pub value_whole : (values : Values) (row : RowFields) (column at : ℕ) → apart_at row column at ≡ None → slice_index_or (values_of (here_fields row) column) at [] ≡ slice_index_or (values_of (record_in values row) column) at []
value_whole values row column at none =
    ap (λ (l : List (List ℕ)). slice_index_or l at []) (look_map bytes_here column row)
    ∙ same_place values (row_values_of row column) at none
    ∙ sym (ap (λ (l : List (List ℕ)). slice_index_or l at []) (look_map (whole_value values) column row))

pub as_whole : (P : ℕ → List ℕ → Type 0) (values : Values) (row : RowFields) (column at : ℕ) → apart_at row column at ≡ None
    → P (length (values_of (here_fields row) column)) (slice_index_or (values_of (here_fields row) column) at []) → P (length (values_of (record_in values row) column)) (slice_index_or (values_of (record_in values row) column) at [])
as_whole P values row column at none p =
    subst (λ (n : ℕ). P n (slice_index_or (values_of (record_in values row) column) at [])) (count_whole values row column)
    (subst (λ (x : List ℕ). P (length (values_of (here_fields row) column)) x) (value_whole values row column at none) p)

-- ---- a value that is kept apart

whole_column : (values : Values) (row : RowFields) (column : ℕ) → is_whole values row ≡ true → list_all (is_there values) (row_values_of row column) ≡ true
whole_column values [] column whole = refl
whole_column values (field ∷ row) column whole =
    by_test (eq_by_cmp nat_cmp column field.0)
    (λ t. ap (λ (b : Bool). list_all (is_there values) (unwrap_or (cond b (Some field.1) (lookup_by_number column row)) [])) t ∙ and_left (list_all (is_there values) field.1) (is_whole values row) whole)
    (λ f.
    ap (λ (b : Bool). list_all (is_there values) (unwrap_or (cond b (Some field.1) (lookup_by_number column row)) [])) f
    ∙ whole_column values row column (and_right (list_all (is_there values) field.1) (is_whole values row) whole))

-- the value under the place and the entry is the one that is read
pub record IsApart (values : Values) (there : ℕ × ℕ × ℕ) (all : List (List ℕ)) (at : ℕ) : Type 0 where
  pub within : at < length all
  pub long : has_length there.2 (value_of (identifier there.0 there.1) values) ≡ true
  pub bytes : slice_index_or all at [] ≡ bytes_of_value (value_of (identifier there.0 there.1) values)

same_some : (x y : ℕ × ℕ × ℕ) → Some x ≡ Some y → x ≡ y
same_some x y e = ap (λ (o : Option (ℕ × ℕ × ℕ)). unwrap_or o x) e

apart_there : (values : Values) (vs : List RowValue) (at : ℕ) (there : ℕ × ℕ × ℕ) → list_all (is_there values) vs ≡ true → place_at vs at ≡ Some there → IsApart values there (map (whole_value values) vs) at
apart_there values [] at there whole e = absurd (never there e)
apart_there values (Here own ∷ vs) zero there whole e = absurd (never there e)
apart_there values (Apart entry place size ∷ vs) zero there whole e =
    subst (λ (t : ℕ × ℕ × ℕ). IsApart values t (map (whole_value values) (Apart entry place size ∷ vs)) zero) (same_some (entry, place, size) there e)
    (record { within = omega arith; long = and_left (has_length size (value_of (identifier entry place) values)) (list_all (is_there values) vs) whole; bytes = refl })
apart_there values (v ∷ vs) (suc at) there whole e =
    let rest = apart_there values vs at there (and_right (is_there values v) (list_all (is_there values) vs) whole) e in
    let within = rest.within in
    record { within = omega (arith, within); long = rest.long; bytes = rest.bytes }

pub apart_whole : (values : Values) (row : RowFields) (column at : ℕ) (there : ℕ × ℕ × ℕ) → is_whole values row ≡ true → apart_at row column at ≡ Some there → IsApart values there (values_of (record_in values row) column) at
apart_whole values row column at there whole e =
    subst (λ (l : List (List ℕ)). IsApart values there l at) (sym (look_map (whole_value values) column row)) (apart_there values (row_values_of row column) at there (whole_column values row column whole) e)

-- ---- what is read of it

pub there_some : (size : ℕ) (o : Option LongValue) → has_length size o ≡ true → IsSome o
there_some size None e = absurd (true≢false (sym e))
there_some size (Some value) e = refl

front : (bytes x : List ℕ) → bytes ≡ take 1024 x → IsFront bytes x
front bytes x e =
    elim (cases_lt 1024 (length x)) [
      | inl lt ↦
          let long : length bytes ≡ 1024 = ap length e ∙ length-take-le 1024 x (omega (arith, lt)) in
          inr (omega (arith, long), e ∙ ap (λ (n : ℕ). take n x) (sym long))
      | inr le ↦ inl (e ∙ take_all 1024 x le)
    ]

pub first_front : (size : ℕ) (o : Option LongValue) (bytes x : List ℕ) → has_length size o ≡ true → x ≡ bytes_of_value o → IsSomeAnd o (λ value. bytes ≡ take 1024 value.bytes) → IsFront bytes x
first_front size None bytes x e is read = absurd (true≢false (sym e))
first_front size (Some value) bytes x e is read = subst (IsFront bytes) (sym is) (front bytes value.bytes read)

pub first_bytes : (size : ℕ) (o : Option LongValue) (bytes x : List ℕ) → has_length size o ≡ true → x ≡ bytes_of_value o → IsSomeAnd o (λ value. bytes ≡ take 1024 value.bytes) → bytes ≡ take 1024 x
first_bytes size None bytes x e is read = absurd (true≢false (sym e))
first_bytes size (Some value) bytes x e is read = read ∙ ap (take 1024) (sym is)

-- ---- the record that is seen

pub count_seen : (values : Values) (row : RowFields) (seen : RecordFields) (column count : ℕ) → seen ≡ record_in values row → count ≡ length (values_of (here_fields row) column) → count ≡ length (values_of seen column)
count_seen values row seen column count is e = e ∙ count_whole values row column ∙ sym (ap (λ (f : RecordFields). length (values_of f column)) is)

pub apart_seen : (values : Values) (row : RowFields) (seen : RecordFields) (column at : ℕ) (there : ℕ × ℕ × ℕ) → seen ≡ record_in values row → is_whole values row ≡ true → Some there ≡ apart_at row column at → IsApart values there (values_of seen column) at
apart_seen values row seen column at there is whole e = subst (λ (f : RecordFields). IsApart values there (values_of f column) at) (sym is) (apart_whole values row column at there whole (sym e))

pub as_seen : (P : ℕ → List ℕ → Type 0) (values : Values) (row : RowFields) (seen : RecordFields) (column at : ℕ) → seen ≡ record_in values row → None ≡ apart_at row column at
    → P (length (values_of (here_fields row) column)) (slice_index_or (values_of (here_fields row) column) at []) → P (length (values_of seen column)) (slice_index_or (values_of seen column) at [])
as_seen P values row seen column at is none p =
    subst (λ (f : RecordFields). P (length (values_of f column)) (slice_index_or (values_of f column) at [])) (sym is) (as_whole P values row column at (sym none) p)

-- ---- how much is read

pub read_count : (size : ℕ) (o : Option LongValue) (x : List ℕ) (n room : ℕ) → has_length size o ≡ true → x ≡ bytes_of_value o → IsSomeAnd o (λ value. n ≡ (if nat_lt room (length value.bytes) then room else length value.bytes)) → (size ≡ length x) × (n ≡ min room size)
read_count size None x n room e is read = absurd (true≢false (sym e))
read_count size (Some value) x n room e is read =
    let own : size ≡ length value.bytes = eqb-true size (length value.bytes) e in (
      own ∙ ap length (sym is),
      by_test (nat_lt room (length value.bytes))
          (λ t. let all : n ≡ room = read ∙ ap (λ (b : Bool). if b then room else length value.bytes) t in let less = ltb-true room (length value.bytes) t in omega (arith, all, own, less))
          (λ f. let all : n ≡ length value.bytes = read ∙ ap (λ (b : Bool). if b then room else length value.bytes) f in let less = ltb-false room (length value.bytes) f in omega (arith, all, own, less)),
    )

pub read_bytes : (size : ℕ) (o : Option LongValue) (x : List ℕ) (n : ℕ) (old new : List ℕ) → has_length size o ≡ true → x ≡ bytes_of_value o → IsSomeAnd o (λ value. new ≡ read_upto n value.bytes old) → new ≡ read_upto n x old
read_bytes size None x n old new e is read = absurd (true≢false (sym e))
read_bytes size (Some value) x n old new e is read = read ∙ ap (λ (b : List ℕ). read_upto n b old) (sym is)

-- ---- a value that stands in the row is read whole

fits_column : (row : RowFields) (column : ℕ) → list_all field_fits_row row ≡ true → list_all value_fits_row (row_values_of row column) ≡ true
fits_column [] column fits = refl
fits_column (field ∷ row) column fits =
    by_test (eq_by_cmp nat_cmp column field.0)
    (λ t.
    ap (λ (b : Bool). list_all value_fits_row (unwrap_or (cond b (Some field.1) (lookup_by_number column row)) [])) t
    ∙ and_right (nat_lt field.0 (2 ^ 16) && nat_lt 0 (length field.1)) (list_all value_fits_row field.1) (and_left (field_fits_row field) (list_all field_fits_row row) fits))
    (λ f.
    ap (λ (b : Bool). list_all value_fits_row (unwrap_or (cond b (Some field.1) (lookup_by_number column row)) [])) f
    ∙ fits_column row column (and_right (field_fits_row field) (list_all field_fits_row row) fits))

short_place : (vs : List RowValue) (at : ℕ) → list_all value_fits_row vs ≡ true → place_at vs at ≡ None → length (slice_index_or (map bytes_here vs) at []) ≤ 255
short_place [] at fits e = omega arith
short_place (Here own ∷ vs) zero fits e = leb-true (length own) 255 (and_left (value_fits_row (Here own)) (list_all value_fits_row vs) fits)
short_place (Apart entry place size ∷ vs) zero fits e = absurd (never (entry, place, size) (sym e))
short_place (v ∷ vs) (suc at) fits e = short_place vs at (and_right (value_fits_row v) (list_all value_fits_row vs) fits) e

whole_front : (bytes x : List ℕ) → length x ≤ 255 → IsFront bytes x → bytes ≡ x
whole_front bytes x short (inl e) = e
whole_front bytes x short (inr both) =
    let long = both.0 in
    let same : length bytes ≡ min (length bytes) (length x) = ap length both.1 ∙ length-take (length bytes) x in
    absurd (omega (arith, long, same, short))

short_here : (row : RowFields) (column at : ℕ) → is_row row ≡ true → None ≡ apart_at row column at → length (slice_index_or (values_of (here_fields row) column) at []) ≤ 255
short_here row column at formed none =
    let fits = fits_column row column (and_right (is_sorted nat_cmp row) (list_all field_fits_row row) (and_left (is_well_formed row) (nat_lt (length (values_in_order row)) (2 ^ 16)) formed)) in
    subst (λ (l : List (List ℕ)). length (slice_index_or l at []) ≤ 255) (sym (look_map bytes_here column row)) (short_place (row_values_of row column) at fits (sym none))

-- the value under the sequence is this one
abbrev pub IsValueAt : List (List ℕ) → ℕ → List ℕ → Type 0
IsValueAt all at bytes = (at < length all) × (bytes ≡ slice_index_or all at [])

pub here_seen : (values : Values) (row : RowFields) (seen : RecordFields) (column at : ℕ) (bytes : List ℕ) → seen ≡ record_in values row → is_row row ≡ true → None ≡ apart_at row column at
    → (at < length (values_of (here_fields row) column)) × IsFront bytes (slice_index_or (values_of (here_fields row) column) at []) → IsValueAt (values_of seen column) at bytes
here_seen values row seen column at bytes is formed none found =
    let short = short_here row column at formed none in
    as_seen (λ (n : ℕ) (x : List ℕ). (at < n) × (bytes ≡ x)) values row seen column at is none (found.0, whole_front bytes (slice_index_or (values_of (here_fields row) column) at []) short found.1)

-- so it is its own first bytes
pub here_front : (values : Values) (row : RowFields) (seen : RecordFields) (column at : ℕ) (bytes : List ℕ) → seen ≡ record_in values row → is_row row ≡ true → None ≡ apart_at row column at
    → (at < length (values_of (here_fields row) column)) × IsFront bytes (slice_index_or (values_of (here_fields row) column) at []) → bytes ≡ take 1024 (slice_index_or (values_of seen column) at [])
here_front values row seen column at bytes is formed none found =
    let short = short_here row column at formed none in
    let long : length bytes ≡ length (slice_index_or (values_of (here_fields row) column) at []) = ap length (whole_front bytes (slice_index_or (values_of (here_fields row) column) at []) short found.1) in
    sym (take_all 1024 bytes (omega (arith, short, long))) ∙ ap (take 1024) (here_seen values row seen column at bytes is formed none found).1

pub front_of_some : {X : Type 0} (A : Type 0) (P Q : X → Type 0) → ((x : X) → P x → Q x) → (o : Option X) → MatchOption o A P → IfSome o Q
front_of_some A P Q f None m = tt
front_of_some A P Q f (Some x) m = f x m
