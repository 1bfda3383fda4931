-- What an edit of the fields at a column's place makes of the values of a record.
use Rattle.std.proofs.Common.{◌≡◌, ℕ, suc, zero, ◌+◌, ◌<◌, ◌≤◌, ◌≢◌, ◌⊎◌, List, [], ◌∷◌, ◌++◌, length, get_or, set, Bool, true, false, cond, not, ◌==◌, Some, None, refl, sym, ap, subst, ◌∙◌, inl, inr, length-append, if◌then◌else◌, add-zero, add_assoc, arith}
use Rattle.std.specs.Bool.{passes}
use Rattle.std.proofs.lemmas.Bool.{and_from, cases_lt}
use Rattle.std.proofs.lemmas.List.{get_or_default, set-get_or}
use Rattle.std.specs.Prelude.{IsTrue, ltb, sum_by}
use Rattle.std.specs.List.{list_all, insert, remove}
use Rattle.std.specs.Ordering.{nat_cmp, is_eq}
use Rattle.std.specs.declared.cmp.Ordering.TheVariants.{Less, Equal, Greater}
use Rattle.std.specs.Cmp.{nat_cmp_is}
use Rattle.std.proofs.lemmas.Cmp.{nat_cmp_total}
use Rattle.std.proofs.lemmas.List.Sums.{sum_by-set, sum_by-remove, sum_by-insert}
use Rattle.std.proofs.lemmas.Bool.Decides.{nat_tests}
use Rattle.std.specs.FinMap.Entries.{is_sorted, is_sorted-put, is_sorted-where_key, by_order}
use Rattle.common_lemmas.proofs.Booleans.{is_true}
use Rattle.column_set.specs.Record.{is_record}
use Rattle.column_set.specs.RecordValues.{RecordFields, values_of, with_values, lookup_by_number, put_by_number, remove_by_number, record_size, size_of_values}
use Rattle.column_set.specs.RecordPlaces.{column_at, IsPlaceOf, IsGapFor}
use Rattle.column_set.proofs.Places.{both, rises, Rises}

less : (m n : ℕ) → m < n → nat_cmp m n ≡ Less
less m n h = sym (nat_cmp_is m n Less h)

equal : (m n : ℕ) → m ≡ n → nat_cmp m n ≡ Equal
equal m n h = sym (nat_cmp_is m n Equal h)

greater : (m n : ℕ) → n < m → nat_cmp m n ≡ Greater
greater m n h = sym (nat_cmp_is m n Greater h)

-- ---- a place, and a gap, in the tail

place_in_tail : (field : ℕ × List (List ℕ)) (fields : RecordFields) (column place : ℕ) → IsPlaceOf (field ∷ fields) column (suc place) → IsPlaceOf fields column place
place_in_tail field fields column place is = record {
  in_range = omega (arith, is.in_range);
  has_column = is.has_column;
  smaller_before = λ j lt. is.smaller_before (suc j) (omega arith);
  greater_after = λ j lt within. is.greater_after (suc j) (omega arith) (omega arith);
}

gap_in_tail : (field : ℕ × List (List ℕ)) (fields : RecordFields) (column place : ℕ) → IsGapFor (field ∷ fields) column (suc place) → IsGapFor fields column place
gap_in_tail field fields column place is = record {
  in_range = omega (arith, is.in_range);
  smaller_before = λ j lt. is.smaller_before (suc j) (omega arith);
  greater_after = λ j le within. is.greater_after (suc j) (omega arith) (omega arith);
}

gap_after_first : (field : ℕ × List (List ℕ)) (fields : RecordFields) (column : ℕ) → IsPlaceOf (field ∷ fields) column 0 → IsGapFor fields column 0
gap_after_first field fields column is = record {
  in_range = omega arith;
  smaller_before = λ j lt. absurd (omega arith);
  greater_after = λ j le within. is.greater_after (suc j) (omega arith) (omega arith);
}

gap_after_gap : (field : ℕ × List (List ℕ)) (fields : RecordFields) (column : ℕ) → IsGapFor (field ∷ fields) column 0 → IsGapFor fields column 0
gap_after_gap field fields column is = record {
  in_range = omega arith;
  smaller_before = λ j lt. absurd (omega arith);
  greater_after = λ j le within. is.greater_after (suc j) (omega arith) (omega arith);
}

-- ---- reading

lookup_at : (fields : RecordFields) (column place : ℕ) → IsPlaceOf fields column place → lookup_by_number column fields ≡ Some (get_or fields place (0, [])).1
lookup_at [] column place is = absurd (omega (arith, is.in_range))
lookup_at (field ∷ fields) column zero is = ap (λ r. cond (is_eq r) (Some field.1) (lookup_by_number column fields)) (equal column field.0 (sym is.has_column))
lookup_at (field ∷ fields) column (suc place) is =
    let before : field.0 < column = is.smaller_before 0 (omega arith) in
    ap (λ r. cond (is_eq r) (Some field.1) (lookup_by_number column fields)) (greater column field.0 before) ∙ lookup_at fields column place (place_in_tail field fields column place is)

pub values_at : (fields : RecordFields) (column place : ℕ) → IsPlaceOf fields column place → values_of fields column ≡ (get_or fields place (0, [])).1
values_at fields column place is = rw (lookup_at fields column place is)

lookup_in_gap : (fields : RecordFields) (column place : ℕ) → IsGapFor fields column place → lookup_by_number column fields ≡ None
lookup_in_gap [] column place is = refl
lookup_in_gap (field ∷ fields) column zero is =
    ap (λ r. cond (is_eq r) (Some field.1) (lookup_by_number column fields)) (less column field.0 (is.greater_after 0 (omega arith) (omega arith))) ∙ lookup_in_gap fields column zero (gap_after_gap field fields column is)
lookup_in_gap (field ∷ fields) column (suc place) is =
    ap (λ r. cond (is_eq r) (Some field.1) (lookup_by_number column fields)) (greater column field.0 (is.smaller_before 0 (omega arith))) ∙ lookup_in_gap fields column place (gap_in_tail field fields column place is)

pub values_in_gap : (fields : RecordFields) (column place : ℕ) → IsGapFor fields column place → values_of fields column ≡ []
values_in_gap fields column place is = rw (lookup_in_gap fields column place is)

-- ---- writing

put_at : (fields : RecordFields) (column place : ℕ) (values : List (List ℕ)) → IsPlaceOf fields column place → put_by_number column values fields ≡ set fields place (column, values)
put_at [] column place values is = absurd (omega (arith, is.in_range))
put_at (field ∷ fields) column zero values is = rw (equal column field.0 (sym is.has_column)) (ap (λ (n : ℕ). (n, values) ∷ fields) is.has_column)
put_at (field ∷ fields) column (suc place) values is = rw (greater column field.0 (is.smaller_before 0 (omega arith))) (ap (λ l. field ∷ l) (put_at fields column place values (place_in_tail field fields column place is)))

put_in_gap : (fields : RecordFields) (column place : ℕ) (values : List (List ℕ)) → IsGapFor fields column place → put_by_number column values fields ≡ insert fields place (column, values)
put_in_gap [] column zero values is = refl
put_in_gap [] column (suc place) values is = absurd (omega (arith, is.in_range))
put_in_gap (field ∷ fields) column zero values is = rw (less column field.0 (is.greater_after 0 (omega arith) (omega arith))) refl
put_in_gap (field ∷ fields) column (suc place) values is = rw (greater column field.0 (is.smaller_before 0 (omega arith))) (ap (λ l. field ∷ l) (put_in_gap fields column place values (gap_in_tail field fields column place is)))

other : (m n : ℕ) → (m ≢ n) → not (m == n) ≡ true
other m n h = grind (arith, nat_tests)

same : (m n : ℕ) → m ≡ n → not (m == n) ≡ false
same m n h = grind (arith, nat_tests)

without_in_gap : (fields : RecordFields) (column place : ℕ) → IsGapFor fields column place → remove_by_number column fields ≡ fields
without_in_gap [] column place is = refl
without_in_gap (field ∷ fields) column zero is =
    let above : column < field.0 = is.greater_after 0 (omega arith) (omega arith) in
    rw (other field.0 column (λ e. omega arith)) (ap (λ l. field ∷ l) (without_in_gap fields column zero (gap_after_gap field fields column is)))
without_in_gap (field ∷ fields) column (suc place) is =
    let below : field.0 < column = is.smaller_before 0 (omega arith) in
    rw (other field.0 column (λ e. omega arith)) (ap (λ l. field ∷ l) (without_in_gap fields column place (gap_in_tail field fields column place is)))

without_at : (fields : RecordFields) (column place : ℕ) → IsPlaceOf fields column place → remove_by_number column fields ≡ remove fields place
without_at [] column place is = absurd (omega (arith, is.in_range))
without_at (field ∷ fields) column zero is = rw (same field.0 column is.has_column) (without_in_gap fields column zero (gap_after_first field fields column is))
without_at (field ∷ fields) column (suc place) is =
    let below : field.0 < column = is.smaller_before 0 (omega arith) in
    rw (other field.0 column (λ e. omega arith)) (ap (λ l. field ∷ l) (without_at fields column place (place_in_tail field fields column place is)))

-- ---- the record with other values in a column

some_values : (fields : RecordFields) (column : ℕ) (values : List (List ℕ)) → 0 < length values → with_values fields column values ≡ put_by_number column values fields
some_values fields column [] h = absurd (omega arith)
some_values fields column (value ∷ values) h = refl

-- with values in the place of those that the column has
pub with_values_at : (fields : RecordFields) (column place : ℕ) (values : List (List ℕ)) → IsPlaceOf fields column place → 0 < length values → with_values fields column values ≡ set fields place (column, values)
with_values_at fields column place values is h = some_values fields column values h ∙ put_at fields column place values is

-- with values where the column has none
pub with_values_in_gap : (fields : RecordFields) (column place : ℕ) (values : List (List ℕ)) → IsGapFor fields column place → 0 < length values → with_values fields column values ≡ insert fields place (column, values)
with_values_in_gap fields column place values is h = some_values fields column values h ∙ put_in_gap fields column place values is

-- without those that it has
pub no_values_at : (fields : RecordFields) (column place : ℕ) → IsPlaceOf fields column place → with_values fields column [] ≡ remove fields place
no_values_at fields column place is = without_at fields column place is

pub no_values_in_gap : (fields : RecordFields) (column place : ℕ) → IsGapFor fields column place → with_values fields column [] ≡ fields
no_values_in_gap fields column place is = without_in_gap fields column place is

-- ---- the record with them is one

abbrev has_values : ℕ × List (List ℕ) → Bool
has_values field = ltb 0 (length field.1)

all_put : (fields : RecordFields) (column : ℕ) (values : List (List ℕ)) → ltb 0 (length values) ≡ true → list_all has_values fields ≡ true → list_all has_values (put_by_number column values fields) ≡ true
all_put [] column values some all = and_from _ true some refl
all_put (field ∷ fields) column values some all =
    let here = both (has_values field) (list_all has_values fields) all in
    elim (nat_cmp column field.0) as (λ r. list_all has_values (by_order r ((column, values) ∷ field ∷ fields) ((field.0, values) ∷ fields) (field ∷ put_by_number column values fields)) ≡ true) [
      | Less ↦ and_from (ltb 0 (length values)) (list_all has_values (field ∷ fields)) some all
      | Equal ↦ and_from (ltb 0 (length values)) (list_all has_values fields) some here.1
      | Greater ↦ and_from (has_values field) (list_all has_values (put_by_number column values fields)) here.0 (all_put fields column values some here.1)
    ]

all_without : (fields : RecordFields) (column : ℕ) → list_all has_values fields ≡ true → list_all has_values (remove_by_number column fields) ≡ true
all_without [] column all = refl
all_without (field ∷ fields) column all =
    let here = both (has_values field) (list_all has_values fields) all in
    let rest = all_without fields column here.1 in
    elim (not (field.0 == column)) as (λ b. list_all has_values (cond b (field ∷ remove_by_number column fields) (remove_by_number column fields)) ≡ true) [
      | true ↦ and_from (has_values field) (list_all has_values (remove_by_number column fields)) here.0 rest
      | false ↦ rest
    ]

pub is_record-with_values : (fields : RecordFields) (column : ℕ) (values : List (List ℕ)) → IsTrue (is_record fields) → IsTrue (is_record (with_values fields column values))
is_record-with_values fields column [] h =
    let parts = both (is_sorted nat_cmp fields) (list_all has_values fields) h in
    and_from (is_sorted nat_cmp (remove_by_number column fields)) (list_all has_values (remove_by_number column fields))
    (is_true _ (is_sorted-where_key nat_cmp (λ number. not (number == column)) fields (passes _ parts.0)))
    (all_without fields column parts.1)
is_record-with_values fields column (value ∷ values) h =
    let parts = both (is_sorted nat_cmp fields) (list_all has_values fields) h in
    let put = put_by_number column (value ∷ values) fields in
    and_from (is_sorted nat_cmp put) (list_all has_values put)
    (is_true _ (is_sorted-put nat_cmp nat_cmp_total column (value ∷ values) fields (passes _ parts.0)))
    (all_put fields column (value ∷ values) (grind (arith, nat_tests)) parts.1)

-- ---- a place or a gap for each column

abbrev PlaceOrGap : RecordFields → ℕ → Type 0
PlaceOrGap fields column = ((place : ℕ) × IsPlaceOf fields column place) ⊎ ((place : ℕ) × IsGapFor fields column place)

rises_in_tail : (field : ℕ × List (List ℕ)) (fields : RecordFields) → Rises (field ∷ fields) → Rises fields
rises_in_tail field fields rising i j lt in_range = rising (suc i) (suc j) (omega arith) (omega arith)

place_later : (field : ℕ × List (List ℕ)) (fields : RecordFields) (column place : ℕ) → field.0 < column → IsPlaceOf fields column place → IsPlaceOf (field ∷ fields) column (suc place)
place_later field fields column place lt is = record {
  in_range = omega (arith, is.in_range);
  has_column = is.has_column;
  smaller_before = before;
  greater_after = after;
}
  where
    before : (j : ℕ) → j < suc place → column_at (field ∷ fields) j < column
    before zero h = lt
    before (suc j) h = is.smaller_before j (omega arith)

    after : (j : ℕ) → suc place < j → j < length (field ∷ fields) → column < column_at (field ∷ fields) j
    after zero h within = absurd (omega arith)
    after (suc j) h within = is.greater_after j (omega arith) (omega arith)

gap_later : (field : ℕ × List (List ℕ)) (fields : RecordFields) (column place : ℕ) → field.0 < column → IsGapFor fields column place → IsGapFor (field ∷ fields) column (suc place)
gap_later field fields column place lt is = record {
  in_range = omega (arith, is.in_range);
  smaller_before = before;
  greater_after = after;
}
  where
    before : (j : ℕ) → j < suc place → column_at (field ∷ fields) j < column
    before zero h = lt
    before (suc j) h = is.smaller_before j (omega arith)

    after : (j : ℕ) → suc place ≤ j → j < length (field ∷ fields) → column < column_at (field ∷ fields) j
    after zero h within = absurd (omega arith)
    after (suc j) h within = is.greater_after j (omega arith) (omega arith)

place_first : (field : ℕ × List (List ℕ)) (fields : RecordFields) (column : ℕ) → Rises (field ∷ fields) → field.0 ≡ column → IsPlaceOf (field ∷ fields) column 0
place_first field fields column rising is = record {
  in_range = omega arith;
  has_column = is;
  smaller_before = λ j lt. absurd (omega arith);
  greater_after = λ j lt within. omega (arith, rising 0 j lt within);
}

gap_first : (field : ℕ × List (List ℕ)) (fields : RecordFields) (column : ℕ) → Rises (field ∷ fields) → column < field.0 → IsGapFor (field ∷ fields) column 0
gap_first field fields column rising below = record {
  in_range = omega arith;
  smaller_before = λ j lt. absurd (omega arith);
  greater_after = after;
}
  where
    after : (j : ℕ) → 0 ≤ j → j < length (field ∷ fields) → column < column_at (field ∷ fields) j
    after zero h within = below
    after (suc j) h within = omega (arith, rising 0 (suc j) (omega arith) within)

compared : (m n : ℕ) → (m < n) ⊎ ((m ≡ n) ⊎ (n < m))
compared m n = elim (cases_lt m n) [ inl h ↦ inl h | inr h ↦ elim (cases_lt n m) [ inl g ↦ inr (inr g) | inr g ↦ inr (inl (omega arith)) ] ]

place_or_gap : (fields : RecordFields) (column : ℕ) → Rises fields → PlaceOrGap fields column
place_or_gap [] column rising = inr (0, record { in_range = omega arith; smaller_before = λ j lt. absurd (omega arith); greater_after = λ j le within. absurd (omega arith) })
place_or_gap (field ∷ fields) column rising = elim (compared field.0 column) [
  | inl lt ↦ elim (place_or_gap fields column (rises_in_tail field fields rising)) [
    | inl there ↦ inl (suc there.0, place_later field fields column there.0 lt there.1)
    | inr there ↦ inr (suc there.0, gap_later field fields column there.0 lt there.1)
  ]
  | inr rest ↦ elim rest [
    | inl is ↦ inl (0, place_first field fields column rising is)
    | inr below ↦ inr (0, gap_first field fields column rising below)
  ]
]

-- ---- the record with the values that a column has

some_at : (fields : RecordFields) (place : ℕ) → place < length fields → list_all has_values fields ≡ true → 0 < length (get_or fields place (0, [])).1
some_at [] place lt all = absurd (omega arith)
some_at (field ∷ fields) zero lt all = let h = (both (has_values field) (list_all has_values fields) all).0 in grind (arith, nat_tests)
some_at (field ∷ fields) (suc place) lt all = some_at fields place (omega arith) (both (has_values field) (list_all has_values fields) all).1

same_at : (fields : RecordFields) (column place : ℕ) → IsTrue (is_record fields) → IsPlaceOf fields column place → with_values fields column (values_of fields column) ≡ fields
same_at fields column place h is =
    let field = get_or fields place (0, []) in
    let whole : (column, field.1) ≡ field = λ i. (sym is.has_column i, field.1) in
    let some = some_at fields place is.in_range (both (is_sorted nat_cmp fields) (list_all has_values fields) h).1 in
    ap (with_values fields column) (values_at fields column place is)
    ∙ with_values_at fields column place field.1 is some
    ∙ ap (set fields place) whole
    ∙ set-get_or fields place (0, [])

pub with_values-values_of : (fields : RecordFields) (column : ℕ) → IsTrue (is_record fields) → with_values fields column (values_of fields column) ≡ fields
with_values-values_of fields column h = elim (place_or_gap fields column (rises fields h)) [
  | inl there ↦ same_at fields column there.0 h there.1
  | inr there ↦ ap (with_values fields column) (values_in_gap fields column there.0 there.1) ∙ no_values_in_gap fields column there.0 there.1
]

-- ---- the size of a record

abbrev pub room_of : ℕ × List (List ℕ) → ℕ
room_of field = size_of_values field.1

room_at : (fields : RecordFields) (column place : ℕ) (values : List (List ℕ)) → IsPlaceOf fields column place → sum_by room_of (put_by_number column values fields) ≡ sum_by room_of (remove_by_number column fields) + size_of_values values
room_at fields column place values is =
    let changed = sum_by-set room_of fields place (column, values) (0, []) is.in_range in
    let left = sum_by-remove room_of fields place (0, []) is.in_range in
    rw (put_at fields column place values is, without_at fields column place is) (omega (arith, changed, left))

room_in_gap : (fields : RecordFields) (column place : ℕ) (values : List (List ℕ)) → IsGapFor fields column place → sum_by room_of (put_by_number column values fields) ≡ sum_by room_of (remove_by_number column fields) + size_of_values values
room_in_gap fields column place values is =
    rw (put_in_gap fields column place values is, without_in_gap fields column place is) (sum_by-insert room_of fields place (column, values))

room_put : (fields : RecordFields) (column : ℕ) (values : List (List ℕ)) → IsTrue (is_record fields) → sum_by room_of (put_by_number column values fields) ≡ sum_by room_of (remove_by_number column fields) + size_of_values values
room_put fields column values h = elim (place_or_gap fields column (rises fields h)) [
  | inl there ↦ room_at fields column there.0 values there.1
  | inr there ↦ room_in_gap fields column there.0 values there.1
]

-- the values of a column have their room on top of what the others take
pub record_size-with_values : (fields : RecordFields) (column : ℕ) (values : List (List ℕ)) → IsTrue (is_record fields) → record_size (with_values fields column values) ≡ record_size (with_values fields column []) + size_of_values values
record_size-with_values fields column [] h = sym (add-zero _)
record_size-with_values fields column (value ∷ values) h =
    let room = room_put fields column (value ∷ values) h in
    rw room (sym (add_assoc 2 (sum_by room_of (remove_by_number column fields)) (size_of_values (value ∷ values))))

-- ---- what the code reads and writes, where a list of fields stands for the record

abbrev pub IsField : ℕ × List (List ℕ) → RecordFields → ℕ → Type 0
IsField field fields place = field ≡ get_or fields place field

module _ (list fields : RecordFields) (view_is : list ≡ fields) (column place : ℕ) where
  -- the field at the column's place
  pub field_at : (field : ℕ × List (List ℕ)) → IsField field list place → IsPlaceOf fields column place → field ≡ (column, values_of fields column)
  field_at field read is =
      let read_there : field ≡ get_or fields place (0, []) = read ∙ ap (λ l. get_or l place field) view_is ∙ get_or_default fields place field (0, []) is.in_range in
      let number : field.0 ≡ column = ap (λ (f : ℕ × List (List ℕ)). f.0) read_there ∙ is.has_column in
      let values : field.1 ≡ values_of fields column = ap (λ (f : ℕ × List (List ℕ)). f.1) read_there ∙ sym (values_at fields column place is) in
      λ i. (number i, values i)

  -- other values written at the place
  pub written : (field new : ℕ × List (List ℕ)) (change : List (List ℕ) → List (List ℕ)) → IsField field list place → IsPlaceOf fields column place → new ≡ (field.0, change field.1) → 0 < length (change (values_of fields column)) → set list place new ≡ with_values fields column (change (values_of fields column))
  written field new change read is e some =
      ap (λ l. set l place new) view_is
      ∙ ap (set fields place) (e ∙ ap (λ (f : ℕ × List (List ℕ)). (f.0, change f.1)) (field_at field read is))
      ∙ sym (with_values_at fields column place (change (values_of fields column)) is some)

  -- one value more, where there was memory
  pub pushed : (ok : Bool) (value : List ℕ) (field new : ℕ × List (List ℕ)) → IsField field list place → IsPlaceOf fields column place → new ≡ (field.0, if ok then field.1 ++ value ∷ [] else field.1) → set list place new ≡ (if ok then with_values fields column (values_of fields column ++ value ∷ []) else fields)
  pushed true value field new read is e = written field new (λ values. values ++ value ∷ []) read is e (omega (arith, length-append (values_of fields column) (value ∷ [])))
  pushed false value field new read is e = ap (set list place) (e ∙ read) ∙ set-get_or list place field ∙ view_is

  -- the field taken out
  pub removed : IsPlaceOf fields column place → remove list place ≡ with_values fields column []
  removed is = ap (λ l. remove l place) view_is ∙ sym (no_values_at fields column place is)

  -- a field put into the gap
  pub inserted : (field : ℕ × List (List ℕ)) (value : List ℕ) → IsGapFor fields column place → field ≡ (column, value ∷ []) → insert list place field ≡ with_values fields column (value ∷ [])
  inserted field value is e = ap (λ l. insert l place field) view_is ∙ ap (insert fields place) e ∙ sym (with_values_in_gap fields column place (value ∷ []) is (omega arith))

  module _ (invariant : IsTrue (is_record list)) where
    record_kept : IsTrue (is_record fields)
    record_kept = subst (λ l. IsTrue (is_record l)) view_is invariant

    pub is_record-changed : (new : RecordFields) (values : List (List ℕ)) → new ≡ with_values fields column values → IsTrue (is_record new)
    is_record-changed new values e = subst (λ l. IsTrue (is_record l)) (sym e) (is_record-with_values fields column values record_kept)

    pub is_record-pushed : (ok : Bool) (new : RecordFields) (values : List (List ℕ)) → new ≡ (if ok then with_values fields column values else fields) → IsTrue (is_record new)
    is_record-pushed true new values e = is_record-changed new values e
    is_record-pushed false new values e = subst (λ l. IsTrue (is_record l)) (sym e) record_kept

-- the only value taken out
pub none_left : (values : List (List ℕ)) (at : ℕ) → at < length values → length values ≤ 1 → remove values at ≡ []
none_left [] at lt few = absurd (omega arith)
none_left (value ∷ []) zero lt few = refl
none_left (value ∷ []) (suc at) lt few = absurd (omega arith)
none_left (value ∷ other ∷ values) at lt few = absurd (omega arith)
