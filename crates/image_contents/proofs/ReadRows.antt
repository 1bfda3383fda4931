-- The values of a row that is read with its long values.
use Rattle.std.proofs.Common.{◌≡◌, ℕ, zero, suc, ◌<◌, ◌≤◌, ◌^◌, Bool, true, cond, ◌&&◌, Option, Some, None, List, [], ◌∷◌, length, map, take, inl, inr, refl, sym, ap, subst, ◌∙◌, arith, true≢false}
use Rattle.std.specs.Prelude.{IfSome, IsSome, IsSomeAnd, slice_get, slice_index_or, unwrap_or}
use Rattle.std.specs.List.{list_all}
use Rattle.std.specs.Ordering.{eq_by_cmp, nat_cmp}
use Rattle.std.proofs.lemmas.Bool.{cases_lt}
use Rattle.std.proofs.lemmas.List.{length-take-le, take_all}
use Rattle.common_lemmas.proofs.Booleans.{and_left, and_right, by_test}
use Rattle.column_set.specs.declared.rows.RowValue.{RowValue}
use Rattle.column_set.specs.declared.rows.RowValue.TheVariants.{Here, Apart}
use Rattle.column_set.specs.Reading.{IsFront}
use Rattle.column_set.specs.RecordValues.{RecordFields, lookup_by_number, values_of}
use Rattle.column_set.specs.Rows.{RowFields, apart_at, bytes_here, here_fields, place_apart, row_values_of}
use Rattle.long_value.specs.Values.{LongValue, Values, chunk_key, value_of}
use Rattle.page_image.specs.Page.{Node}
use Rattle.btree_inplace.specs.Order.{get_in}
use Rattle.image_contents.specs.FirstParts.{HasFirstPart}
use Rattle.common_lemmas.proofs.Options.{none_some, same_some}
use Rattle.long_rows.specs.RowReferences.{identifier}
use Rattle.long_rows.specs.WholeRows.{bytes_of_value, has_length, is_there, is_whole, record_in, whole_value}

never : {X : Type 0} (x : X) → None ≡ Some x → ⊥
never x e = cc

-- ---- the values of a column

abbrev map_columns : {X Y : Type 0} (g : X → Y) → List (ℕ × List X) → List (ℕ × List Y)
map_columns g row = map (λ field. (field.0, map g field.1)) row

abbrev of_column : {X : Type 0} (column : ℕ) (row : List (ℕ × List X)) → List X
of_column column row = unwrap_or (lookup_by_number column row) []

look_map : {X Y : Type 0} (g : X → Y) (column : ℕ) (row : List (ℕ × List X)) → of_column column (map_columns g row) ≡ map g (of_column column row)
look_map g column [] = refl
look_map g column (field ∷ row) =
    by_test (eq_by_cmp nat_cmp column field.0)
    (λ t. ap (λ (b : Bool). unwrap_or (cond b (Some (map g field.1)) (lookup_by_number column (map_columns g row))) []) t ∙ sym (ap (λ (b : Bool). map g (unwrap_or (cond b (Some field.1) (lookup_by_number column row)) [])) t))
    (λ f.
    ap (λ (b : Bool). unwrap_or (cond b (Some (map g field.1)) (lookup_by_number column (map_columns g row))) []) f
    ∙ look_map g column row
    ∙ sym (ap (λ (b : Bool). map g (unwrap_or (cond b (Some field.1) (lookup_by_number column row)) [])) f))

as_many : {X Y : Type 0} (g : X → Y) (vs : List X) → length (map g vs) ≡ length vs
as_many g [] = refl
as_many g (v ∷ vs) = ap suc (as_many g vs)

same_length : {X Y Z : Type 0} (g : X → Y) (h : X → Z) (vs : List X) → length (map g vs) ≡ length (map h vs)
same_length g h [] = refl
same_length g h (v ∷ vs) = ap suc (same_length g h vs)

pub count_here : (row : RowFields) (column : ℕ) → length (values_of (here_fields row) column) ≡ length (row_values_of row column)
count_here row column = ap length (look_map bytes_here column row) ∙ as_many bytes_here (row_values_of row column)

pub count_whole : (values : Values) (row : RowFields) (column : ℕ) → length (values_of (here_fields row) column) ≡ length (values_of (record_in values row) column)
count_whole values row column =
    ap length (look_map bytes_here column row) ∙ same_length bytes_here (whole_value values) (row_values_of row column) ∙ sym (ap length (look_map (whole_value values) column row))

-- ---- a value that stands in the row

abbrev place_at : List RowValue → ℕ → Option (ℕ × ℕ × ℕ)
place_at vs at = elim (slice_get vs at) [ Some value ↦ place_apart value | None ↦ None ]

same_place : (values : Values) (vs : List RowValue) (at : ℕ) → place_at vs at ≡ None → slice_index_or (map bytes_here vs) at [] ≡ slice_index_or (map (whole_value values) vs) at []
same_place values [] at e = refl
same_place values (Here own ∷ vs) zero e = refl
same_place values (Apart entry place size ∷ vs) zero e = absurd (never (entry, place, size) (sym e))
same_place values (v ∷ vs) (suc at) e = same_place values vs at e

pub value_whole : (values : Values) (row : RowFields) (column at : ℕ) → apart_at row column at ≡ None → slice_index_or (values_of (here_fields row) column) at [] ≡ slice_index_or (values_of (record_in values row) column) at []
value_whole values row column at none =
    ap (λ (l : List (List ℕ)). slice_index_or l at []) (look_map bytes_here column row)
    ∙ same_place values (row_values_of row column) at none
    ∙ sym (ap (λ (l : List (List ℕ)). slice_index_or l at []) (look_map (whole_value values) column row))

pub as_whole : (P : ℕ → List ℕ → Type 0) (values : Values) (row : RowFields) (column at : ℕ) → apart_at row column at ≡ None
    → P (length (values_of (here_fields row) column)) (slice_index_or (values_of (here_fields row) column) at []) → P (length (values_of (record_in values row) column)) (slice_index_or (values_of (record_in values row) column) at [])
as_whole P values row column at none p =
    subst (λ (n : ℕ). P n (slice_index_or (values_of (record_in values row) column) at [])) (count_whole values row column)
    (subst (λ (x : List ℕ). P (length (values_of (here_fields row) column)) x) (value_whole values row column at none) p)

-- ---- a value that is kept apart

whole_column : (values : Values) (row : RowFields) (column : ℕ) → is_whole values row ≡ true → list_all (is_there values) (row_values_of row column) ≡ true
whole_column values [] column whole = refl
whole_column values (field ∷ row) column whole =
    by_test (eq_by_cmp nat_cmp column field.0)
    (λ t. ap (λ (b : Bool). list_all (is_there values) (unwrap_or (cond b (Some field.1) (lookup_by_number column row)) [])) t ∙ and_left (list_all (is_there values) field.1) (is_whole values row) whole)
    (λ f.
    ap (λ (b : Bool). list_all (is_there values) (unwrap_or (cond b (Some field.1) (lookup_by_number column row)) [])) f
    ∙ whole_column values row column (and_right (list_all (is_there values) field.1) (is_whole values row) whole))

-- the value under the place and the entry is the one that is read
pub record IsApart (values : Values) (there : ℕ × ℕ × ℕ) (all : List (List ℕ)) (at : ℕ) : Type 0 where
  pub within : at < length all
  pub long : has_length there.2 (value_of (identifier there.0 there.1) values) ≡ true
  pub bytes : slice_index_or all at [] ≡ bytes_of_value (value_of (identifier there.0 there.1) values)

apart_there : (values : Values) (vs : List RowValue) (at : ℕ) (there : ℕ × ℕ × ℕ) → list_all (is_there values) vs ≡ true → place_at vs at ≡ Some there → IsApart values there (map (whole_value values) vs) at
apart_there values [] at there whole e = absurd (never there e)
apart_there values (Here own ∷ vs) zero there whole e = absurd (never there e)
apart_there values (Apart entry place size ∷ vs) zero there whole e =
    subst (λ (t : ℕ × ℕ × ℕ). IsApart values t (map (whole_value values) (Apart entry place size ∷ vs)) zero) (same_some (entry, place, size) there e)
    (record { within = omega arith; long = and_left (has_length size (value_of (identifier entry place) values)) (list_all (is_there values) vs) whole; bytes = refl })
apart_there values (v ∷ vs) (suc at) there whole e =
    let rest = apart_there values vs at there (and_right (is_there values v) (list_all (is_there values) vs) whole) e in
    let within = rest.within in
    record { within = omega (arith, within); long = rest.long; bytes = rest.bytes }

pub apart_whole : (values : Values) (row : RowFields) (column at : ℕ) (there : ℕ × ℕ × ℕ) → is_whole values row ≡ true → apart_at row column at ≡ Some there → IsApart values there (values_of (record_in values row) column) at
apart_whole values row column at there whole e =
    subst (λ (l : List (List ℕ)). IsApart values there l at) (sym (look_map (whole_value values) column row)) (apart_there values (row_values_of row column) at there (whole_column values row column whole) e)

-- ---- what is read of it

pub there_some : (size : ℕ) (o : Option LongValue) → has_length size o ≡ true → IsSome o
there_some size None e = absurd (true≢false (sym e))
there_some size (Some value) e = refl

front : (bytes x : List ℕ) → bytes ≡ take 1024 x → IsFront bytes x
front bytes x e =
    elim (cases_lt 1024 (length x)) [
      | inl lt ↦
          let long : length bytes ≡ 1024 = ap length e ∙ length-take-le 1024 x (omega (arith, lt)) in
          inr (omega (arith, long), e ∙ ap (λ (n : ℕ). take n x) (sym long))
      | inr le ↦ inl (e ∙ take_all 1024 x le)
    ]

pub first_front : (size : ℕ) (o : Option LongValue) (bytes x : List ℕ) → has_length size o ≡ true → x ≡ bytes_of_value o → IsSomeAnd o (λ value. bytes ≡ take 1024 value.bytes) → IsFront bytes x
first_front size None bytes x e is read = absurd (true≢false (sym e))
first_front size (Some value) bytes x e is read = subst (IsFront bytes) (sym is) (front bytes value.bytes read)

-- ---- the record that is seen

pub count_seen : (values : Values) (row : RowFields) (seen : RecordFields) (column count : ℕ) → seen ≡ record_in values row → count ≡ length (values_of (here_fields row) column) → count ≡ length (values_of seen column)
count_seen values row seen column count is e = e ∙ count_whole values row column ∙ sym (ap (λ (f : RecordFields). length (values_of f column)) is)

pub apart_seen : (values : Values) (row : RowFields) (seen : RecordFields) (column at : ℕ) (there : ℕ × ℕ × ℕ) → seen ≡ record_in values row → is_whole values row ≡ true → Some there ≡ apart_at row column at → IsApart values there (values_of seen column) at
apart_seen values row seen column at there is whole e = subst (λ (f : RecordFields). IsApart values there (values_of f column) at) (sym is) (apart_whole values row column at there whole (sym e))

pub as_seen : (P : ℕ → List ℕ → Type 0) (values : Values) (row : RowFields) (seen : RecordFields) (column at : ℕ) → seen ≡ record_in values row → None ≡ apart_at row column at
    → P (length (values_of (here_fields row) column)) (slice_index_or (values_of (here_fields row) column) at []) → P (length (values_of seen column)) (slice_index_or (values_of seen column) at [])
as_seen P values row seen column at is none p =
    subst (λ (f : RecordFields). P (length (values_of f column)) (slice_index_or (values_of f column) at [])) (sym is) (as_whole P values row column at (sym none) p)

-- ---- the first bytes of a long value

pub part_is : (nodes : List Node) (id bytes : List ℕ) (o : Option LongValue) → IsSome o → IfSome o (HasFirstPart nodes id) → Some bytes ≡ get_in nodes (chunk_key id 1) → IsSomeAnd o (λ value. bytes ≡ take 1024 value.bytes)
part_is nodes id bytes None there has read = absurd (true≢false (sym there))
part_is nodes id bytes (Some value) there has read = same_some bytes (take 1024 value.bytes) (read ∙ has)

pub part_none : (nodes : List Node) (id : List ℕ) (o : Option LongValue) → IsSome o → IfSome o (HasFirstPart nodes id) → None ≡ get_in nodes (chunk_key id 1) → IsSomeAnd o (λ value. [] ≡ take 1024 value.bytes)
part_none nodes id None there has read = absurd (true≢false (sym there))
part_none nodes id (Some value) there has read = none_some (take 1024 value.bytes) (read ∙ has)
