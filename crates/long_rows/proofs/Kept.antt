-- How each value of a record stands in the row that a put makes of it.
use Rattle.std.proofs.Common.{◌≡◌, ◌⊎◌, inl, inr, ℕ, zero, suc, ◌<◌, ◌==◌, ◌^◌, Bool, true, false, ◌&&◌, if◌then◌else◌, Option, Some, None, List, [], ◌∷◌, ◌++◌, length, map, refl, sym, ap, subst, ◌∙◌, arith, true≢false}
use Rattle.std.specs.Prelude.{bytes_eq, nat_le, nat_lt, slice_get, unwrap_or}
use Rattle.std.specs.List.{list_all}
use Rattle.std.specs.Ordering.{eq_by_cmp, nat_cmp}
use Rattle.std.specs.FinMap.Entries.{is_sorted}
use Rattle.std.proofs.lemmas.Bool.{and_from, eq-eqb, ltb-true}
use Rattle.std.proofs.lemmas.Bool.Decides.{nat_tests}
use Rattle.common_lemmas.proofs.Booleans.{and_left, and_right, by_test}
use Rattle.common_lemmas.proofs.Numbers.{same_bytes}
use Rattle.column_set.specs.declared.rows.RowValue.{RowValue}
use Rattle.column_set.specs.declared.rows.RowValue.TheVariants.{Here, Apart}
use Rattle.column_set.specs.RecordValues.{RecordFields, lookup_by_number}
use Rattle.column_set.specs.Rows.{RowFields, apart_at, field_fits_row, is_row, is_well_formed, place_apart, record_values_in_order, row_values_of, stands_for, value_fits_row, values_in_order, values_stand_for}
use Rattle.long_value.specs.Values.{LongValue, Values, value_of}
use Rattle.long_rows.specs.RowReferences.{identifier}
use Rattle.long_rows.proofs.Totals.{itself}
use Rattle.long_rows.specs.KeptRows.{Found, is_long, kept_fields, kept_value, kept_values, may_share, most_references, next_place, or_else, place_after, place_behind, shared, shared_in, shared_one, value_apart}
use Rattle.common_lemmas.proofs.Options.{none_some}

-- ---- one value

-- a value that is shared with one of the rows that were found
pub record IsShared (values : Values) (rows : List RowFields) (entry place : ℕ) (bytes : List ℕ) : Type 0 where
  pub value : LongValue
  pub there : value_of (identifier entry place) values ≡ Some value
  pub equal : value.bytes ≡ bytes
  pub few : value.count < most_references
  pub range : list_all is_row rows ≡ true → (entry < 2 ^ 64) × (place < 2 ^ 32)

-- a new value
pub record IsNew (found : Found) (at behind entry place : ℕ) : Type 0 where
  pub number : entry ≡ found.number
  pub first : place ≡ at
  pub one_more : behind ≡ suc at

-- How a value is kept where the next new one would get a place, and the place of the next one behind it.
abbrev pub IsKept : Found → ℕ → RowValue → List ℕ → ℕ → Type 0
IsKept found at (Here own) bytes next = (own ≡ bytes) × (nat_le (length bytes) 255 ≡ true) × (next ≡ at)
IsKept found at (Apart entry place size) bytes next = (is_long bytes ≡ true) × (size ≡ length bytes) × ((IsShared found.values found.rows entry place bytes × (next ≡ at)) ⊎ IsNew found at next entry place)

-- The values of a row keep those of a record, one for one.
abbrev pub AreKept : Found → ℕ → List (ℕ × RowValue) → List (ℕ × List ℕ) → Type 0
AreKept found at [] [] = Unit {0}
AreKept found at (x ∷ xs) (v ∷ vs) = (next : ℕ) × ((x.0 ≡ v.0) × IsKept found at x.1 v.1 next × AreKept found next xs vs)
AreKept found at [] (v ∷ vs) = ⊥
AreKept found at (x ∷ xs) [] = ⊥

-- ---- a value that is shared

pub and_four : (a b c d : Bool) → (a && b && c && d) ≡ true → (a ≡ true) × (b ≡ true) × (c ≡ true) × (d ≡ true)
and_four true true true true e = (refl, refl, refl, refl)
and_four true true true false e = absurd (true≢false (sym e))
and_four true true false d e = absurd (true≢false (sym e))
and_four true false c d e = absurd (true≢false (sym e))
and_four false b c d e = absurd (true≢false (sym e))

and_three : (a b c : Bool) → (a && b && c) ≡ true → (a ≡ true) × (b ≡ true) × (c ≡ true)
and_three true true true e = (refl, refl, refl)
and_three true true false e = absurd (true≢false (sym e))
and_three true false c e = absurd (true≢false (sym e))
and_three false b c e = absurd (true≢false (sym e))

pub three_and : (a b c : Bool) → a ≡ true → b ≡ true → c ≡ true → (a && b && c) ≡ true
three_and true true true e f g = refl
three_and true true false e f g = absurd (true≢false (sym g))
three_and true false c e f g = absurd (true≢false (sym f))
three_and false b c e f g = absurd (true≢false (sym e))

place_in_range : (x : RowValue) (there : ℕ × ℕ × ℕ) → value_fits_row x ≡ true → place_apart x ≡ Some there → (there.0 < 2 ^ 64) × (there.1 < 2 ^ 32)
place_in_range (Here bytes) there fits e = absurd cc
place_in_range (Apart entry place size) there fits e =
    let same : (entry, place, size) ≡ there = ap (λ (o : Option (ℕ × ℕ × ℕ)). unwrap_or o (entry, place, size)) e in
    let all = and_four (nat_lt entry (2 ^ 64)) (nat_lt place (2 ^ 32)) (nat_le 256 size) (nat_le size 1048576) fits in
    let lt : entry < 2 ^ 64 = ltb-true entry (2 ^ 64) all.0 in
    let place_lt : place < 2 ^ 32 = ltb-true place (2 ^ 32) all.1 in
    (subst (λ (t : ℕ × ℕ × ℕ). t.0 < 2 ^ 64) same lt, subst (λ (t : ℕ × ℕ × ℕ). t.1 < 2 ^ 32) same place_lt)

value_in_range : (vs : List RowValue) (at : ℕ) (there : ℕ × ℕ × ℕ) → list_all value_fits_row vs ≡ true → elim (slice_get vs at) as (λ _. Option (ℕ × ℕ × ℕ)) [ Some value ↦ place_apart value | None ↦ None ] ≡ Some there → (there.0 < 2 ^ 64) × (there.1 < 2 ^ 32)
value_in_range [] at there fits e = absurd cc
value_in_range (v ∷ vs) zero there fits e = place_in_range v there (and_left (value_fits_row v) (list_all value_fits_row vs) fits) e
value_in_range (v ∷ vs) (suc at) there fits e = value_in_range vs at there (and_right (value_fits_row v) (list_all value_fits_row vs) fits) e

column_fits : (row : RowFields) (column : ℕ) → list_all field_fits_row row ≡ true → list_all value_fits_row (row_values_of row column) ≡ true
column_fits [] column fits = refl
column_fits (field ∷ row) column fits =
    by_test (eq_by_cmp nat_cmp column field.0)
    (λ t. ap (λ (o : Option (List RowValue)). list_all value_fits_row (unwrap_or o [])) (first t) ∙ (and_three (nat_lt field.0 (2 ^ 16)) (nat_lt 0 (length field.1)) (list_all value_fits_row field.1) (and_left (field_fits_row field) (list_all field_fits_row row) fits)).2)
    (λ f. ap (λ (o : Option (List RowValue)). list_all value_fits_row (unwrap_or o [])) (later f) ∙ column_fits row column (and_right (field_fits_row field) (list_all field_fits_row row) fits))
  where
    first : eq_by_cmp nat_cmp column field.0 ≡ true → lookup_by_number column (field ∷ row) ≡ Some field.1
    first t = rw t refl

    later : eq_by_cmp nat_cmp column field.0 ≡ false → lookup_by_number column (field ∷ row) ≡ lookup_by_number column row
    later f = rw f refl

apart_in_range : (row : RowFields) (column at : ℕ) (there : ℕ × ℕ × ℕ) → is_row row ≡ true → apart_at row column at ≡ Some there → (there.0 < 2 ^ 64) × (there.1 < 2 ^ 32)
apart_in_range row column at there is e = value_in_range (row_values_of row column) at there (column_fits row column (and_right (is_sorted nat_cmp row) (list_all field_fits_row row) (and_left (is_well_formed row) (nat_lt (length (values_in_order row)) (2 ^ 16)) is))) e

may_share_is : (bytes : List ℕ) (o : Option LongValue) → may_share bytes o ≡ true → (value : LongValue) × (o ≡ Some value) × (value.bytes ≡ bytes) × (value.count < most_references)
may_share_is bytes None e = absurd (true≢false (sym e))
may_share_is bytes (Some value) e = (
  value,
  refl,
  same_bytes value.bytes bytes (and_left (bytes_eq value.bytes bytes) (nat_lt value.count most_references) e),
  ltb-true value.count most_references (and_right (bytes_eq value.bytes bytes) (nat_lt value.count most_references) e),
)

shared_one_is : (values : Values) (bytes : List ℕ) (o : Option (ℕ × ℕ × ℕ)) (id : ℕ × ℕ) → shared_one values bytes o ≡ Some id → (size : ℕ) × (o ≡ Some (id.0, id.1, size)) × (may_share bytes (value_of (identifier id.0 id.1) values) ≡ true)
shared_one_is values bytes None id e = absurd cc
shared_one_is values bytes (Some there) id e =
    by_test (may_share bytes (value_of (identifier there.0 there.1) values))
    (λ t.
    let same : (there.0, there.1) ≡ id = ap (λ (o : Option (ℕ × ℕ)). unwrap_or o (there.0, there.1)) (sym (yes t) ∙ e) in
    (there.2, ap (λ (i : ℕ × ℕ). Some (i.0, i.1, there.2)) same, subst (λ (i : ℕ × ℕ). may_share bytes (value_of (identifier i.0 i.1) values) ≡ true) same t))
    (λ f. none_some id (sym (no f) ∙ e))
  where
    yes : may_share bytes (value_of (identifier there.0 there.1) values) ≡ true → shared_one values bytes (Some there) ≡ Some (there.0, there.1)
    yes t = rw t refl

    no : may_share bytes (value_of (identifier there.0 there.1) values) ≡ false → shared_one values bytes (Some there) ≡ None
    no f = rw f refl

in_first : (values : Values) (row : RowFields) (rows : List RowFields) (column at : ℕ) (bytes : List ℕ) (id : ℕ × ℕ) → shared_one values bytes (apart_at row column at) ≡ Some id → IsShared values (row ∷ rows) id.0 id.1 bytes
in_first values row rows column at bytes id one =
    let from = shared_one_is values bytes (apart_at row column at) id one in
    let it = may_share_is bytes (value_of (identifier id.0 id.1) values) from.2 in
    record { value = it.0; there = it.1; equal = it.2; few = it.3; range = λ all. apart_in_range row column at (id.0, id.1, from.0) (and_left (is_row row) (list_all is_row rows) all) from.1 }

in_later : (values : Values) (row : RowFields) (rows : List RowFields) (bytes : List ℕ) (id : ℕ × ℕ) → IsShared values rows id.0 id.1 bytes → IsShared values (row ∷ rows) id.0 id.1 bytes
in_later values row rows bytes id it =
    record { value = it.value; there = it.there; equal = it.equal; few = it.few; range = λ all. it.range (and_right (is_row row) (list_all is_row rows) all) }

in_either : (P : ℕ × ℕ → Type 0) (first second : Option (ℕ × ℕ)) (id : ℕ × ℕ) → or_else first second ≡ Some id → (first ≡ Some id → P id) → (second ≡ Some id → P id) → P id
in_either P None second id e one other = other e
in_either P (Some x) second id e one other = one e

shared_in_is : (values : Values) (rows : List RowFields) (column at : ℕ) (bytes : List ℕ) (id : ℕ × ℕ) → shared_in values rows column at bytes ≡ Some id → IsShared values rows id.0 id.1 bytes
shared_in_is values [] column at bytes id e = none_some id e
shared_in_is values (row ∷ rows) column at bytes id e =
    in_either (λ i. IsShared values (row ∷ rows) i.0 i.1 bytes) (shared_one values bytes (apart_at row column at)) (shared_in values rows column at bytes) id e
    (λ one. in_first values row rows column at bytes id one)
    (λ later. in_later values row rows bytes id (shared_in_is values rows column at bytes id later))

-- ---- one value of the record

is_kept_apart : (found : Found) (column at place : ℕ) (bytes : List ℕ) (o : Option (ℕ × ℕ)) → shared found column at bytes ≡ o → is_long bytes ≡ true → IsKept found place (value_apart o found.number place (length bytes)) bytes (place_behind o place)
is_kept_apart found column at place bytes None e long = (long, refl, inr (record { number = refl; first = refl; one_more = refl }))
is_kept_apart found column at place bytes (Some id) e long = (long, refl, inl (shared_in_is found.values found.rows column at bytes id e, refl))

short_is : (v : List ℕ) → is_long v ≡ false → nat_le (length v) 255 ≡ true
short_is v e = grind (arith, nat_tests)

pub is_kept : (found : Found) (column at place : ℕ) (bytes : List ℕ) → IsKept found place (kept_value found column at place bytes) bytes (next_place found column at place bytes)
is_kept found column at place bytes =
    by_test (is_long bytes)
    (λ t.
    subst (λ (b : Bool). IsKept found place (if b then value_apart (shared found column at bytes) found.number place (length bytes) else Here bytes) bytes (if b then place_behind (shared found column at bytes) place else place)) (sym t)
    (is_kept_apart found column at place bytes (shared found column at bytes) refl t))
    (λ f.
    subst (λ (b : Bool). IsKept found place (if b then value_apart (shared found column at bytes) found.number place (length bytes) else Here bytes) bytes (if b then place_behind (shared found column at bytes) place else place)) (sym f)
    (refl, short_is bytes f, refl))

-- ---- all of them

pub values_kept : (found : Found) (column at place : ℕ) (vs : List (List ℕ)) (ys : List (ℕ × RowValue)) (ws : List (ℕ × List ℕ)) → AreKept found (place_after found column at place vs) ys ws
    → AreKept found place (map (λ v. (column, v)) (kept_values found column at place vs) ++ ys) (map (λ v. (column, v)) vs ++ ws)
values_kept found column at place [] ys ws rest = rest
values_kept found column at place (v ∷ vs) ys ws rest = (
  next_place found column at place v,
  (refl, is_kept found column at place v, values_kept found column (suc at) (next_place found column at place v) vs ys ws rest),
)

pub fields_kept : (found : Found) (place : ℕ) (fields : RecordFields) → AreKept found place (values_in_order (kept_fields found place fields)) (record_values_in_order fields)
fields_kept found place [] = tt
fields_kept found place ((column, vs) ∷ fields) =
    values_kept found column 0 place vs (values_in_order (kept_fields found (place_after found column 0 place vs) fields)) (record_values_in_order fields) (fields_kept found (place_after found column 0 place vs) fields)

-- ---- the in-page form of the record

one_stands : (found : Found) (at : ℕ) (x : RowValue) (v : List ℕ) (next : ℕ) → IsKept found at x v next → stands_for x v ≡ true
one_stands found at (Here own) v next is = and_from (bytes_eq own v) (nat_le (length v) 255) (ap (λ (b : List ℕ). bytes_eq own b) (sym is.0) ∙ itself own) is.1
one_stands found at (Apart entry place size) v next is = and_from (is_long v) (size == length v) is.0 (eq-eqb size (length v) is.1)

pub all_stand : (found : Found) (at : ℕ) (xs : List (ℕ × RowValue)) (vs : List (ℕ × List ℕ)) → AreKept found at xs vs → values_stand_for xs vs ≡ true
all_stand found at [] [] kept = refl
all_stand found at (x ∷ xs) (v ∷ vs) kept =
    let rest = all_stand found kept.0 xs vs kept.1.2 in
    three_and (x.0 == v.0) (stands_for x.1 v.1) (values_stand_for xs vs) (eq-eqb x.0 v.0 kept.1.0) (one_stands found at x.1 v.1 kept.0 kept.1.1) rest
all_stand found at [] (v ∷ vs) kept = absurd kept
all_stand found at (x ∷ xs) [] kept = absurd kept
