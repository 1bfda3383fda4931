-- The size that is kept beside the fields of a record, and edits of them.
use Rattle.std.proofs.Common.{◌≡◌, ℕ, ◌+◌, ◌-◌, ◌<◌, ◌≤◌, ◌^◌, min, Bool, true, false, List, [], ◌∷◌, ◌++◌, refl, sym, ap, subst, ◌∙◌, arith, if◌then◌else◌}
use Rattle.std.specs.Prelude.{IsTrue}
use Rattle.std.proofs.lemmas.List.Sums.{sum_by_push}
use Rattle.column_set.specs.Record.{is_record, IsMeasured}
use Rattle.column_set.specs.RecordValues.{RecordFields, values_of, with_values, record_size, size_of_value, size_of_values}
use Rattle.column_set.specs.RecordPlaces.{IsGapFor}
use Rattle.column_set.proofs.Edits.{record_size-with_values, with_values-values_of, no_values_in_gap}

-- ---- sums that end at the largest number

sum_of_ends : (a b m : ℕ) → min (min a m + min b m) m ≡ min (a + b) m
sum_of_ends a b m = omega arith

sum_with_end : (a b m : ℕ) → min (min a m + b) m ≡ min (a + b) m
sum_with_end a b m = omega arith

left_of : (total a b size room m : ℕ) → total ≡ a + b → size ≡ min total m → size < m → room ≡ min b m → size - room ≡ min a m
left_of total a b size room m sums is small of = omega (arith, sums, is, small, of)

-- ---- the size of a record

module _ (fields : RecordFields) (column : ℕ) (h : IsTrue (is_record fields)) where
  -- what the values of a column add to the others
  total : record_size fields ≡ record_size (with_values fields column []) + size_of_values (values_of fields column)
  total = ap record_size (sym (with_values-values_of fields column h)) ∙ record_size-with_values fields column (values_of fields column) h

  -- the others, where the size is no end
  pub size_but : (size room : ℕ) → size ≡ min (record_size fields) (2 ^ 64 - 1) → size < 2 ^ 64 - 1 → room ≡ min (size_of_values (values_of fields column)) (2 ^ 64 - 1) → size - room ≡ min (record_size (with_values fields column [])) (2 ^ 64 - 1)
  size_but size room is small of = left_of (record_size fields) (record_size (with_values fields column [])) (size_of_values (values_of fields column)) size room (2 ^ 64 - 1) total is small of

  -- other values in the column
  pub size_with : (values : List (List ℕ)) (others room size : ℕ) → others ≡ min (record_size (with_values fields column [])) (2 ^ 64 - 1) → room ≡ min (size_of_values values) (2 ^ 64 - 1) → size ≡ min (others + room) (2 ^ 64 - 1) → size ≡ min (record_size (with_values fields column values)) (2 ^ 64 - 1)
  size_with values others room size o r e =
      e ∙ (ap (λ (n : ℕ). min (n + room) (2 ^ 64 - 1)) o ∙ (ap (λ (n : ℕ). min (min (record_size (with_values fields column [])) (2 ^ 64 - 1) + n) (2 ^ 64 - 1)) r
      ∙ (sum_of_ends (record_size (with_values fields column [])) (size_of_values values) (2 ^ 64 - 1) ∙ ap (λ (n : ℕ). min n (2 ^ 64 - 1)) (sym (record_size-with_values fields column values h)))))

  -- one value in the column
  pub size_with_one : (value : List ℕ) (others room size : ℕ) → others ≡ min (record_size (with_values fields column [])) (2 ^ 64 - 1) → room ≡ size_of_values (value ∷ []) → size ≡ min (others + room) (2 ^ 64 - 1) → size ≡ min (record_size (with_values fields column (value ∷ []))) (2 ^ 64 - 1)
  size_with_one value others room size o r e =
      e ∙ (ap (λ (n : ℕ). min (n + room) (2 ^ 64 - 1)) o ∙ (ap (λ (n : ℕ). min (min (record_size (with_values fields column [])) (2 ^ 64 - 1) + n) (2 ^ 64 - 1)) r
      ∙ (sum_with_end (record_size (with_values fields column [])) (size_of_values (value ∷ [])) (2 ^ 64 - 1) ∙ ap (λ (n : ℕ). min n (2 ^ 64 - 1)) (sym (record_size-with_values fields column (value ∷ []) h)))))

  -- one value more
  more : (values : List (List ℕ)) (value : List ℕ) → size_of_values (values ++ value ∷ []) ≡ size_of_values values + size_of_values (value ∷ [])
  more values value = omega (arith, sum_by_push (λ (v : List ℕ). 5 + size_of_value v) values value)

  pub size_pushed : (value : List ℕ) (old room size : ℕ) → old ≡ min (record_size fields) (2 ^ 64 - 1) → room ≡ size_of_values (value ∷ []) → size ≡ min (old + room) (2 ^ 64 - 1) → size ≡ min (record_size (with_values fields column (values_of fields column ++ value ∷ []))) (2 ^ 64 - 1)
  size_pushed value old room size o r e =
      let values = values_of fields column in
      let sums : record_size fields + size_of_values (value ∷ []) ≡ record_size (with_values fields column (values ++ value ∷ [])) = omega (arith, total, more values value, record_size-with_values fields column (values ++ value ∷ []) h) in
      e ∙ (ap (λ (n : ℕ). min (n + room) (2 ^ 64 - 1)) o ∙ (ap (λ (n : ℕ). min (min (record_size fields) (2 ^ 64 - 1) + n) (2 ^ 64 - 1)) r
      ∙ (sum_with_end (record_size fields) (size_of_values (value ∷ [])) (2 ^ 64 - 1) ∙ ap (λ (n : ℕ). min n (2 ^ 64 - 1)) sums)))

  -- a value in a gap
  pub size_in_gap : (place : ℕ) → IsGapFor fields column place → (value : List ℕ) (old room size : ℕ) → old ≡ min (record_size fields) (2 ^ 64 - 1) → room ≡ size_of_values (value ∷ []) → size ≡ min (old + room) (2 ^ 64 - 1) → size ≡ min (record_size (with_values fields column (value ∷ []))) (2 ^ 64 - 1)
  size_in_gap place gap value old room size o r e =
      size_with_one value old room size (o ∙ ap (λ (f : RecordFields). min (record_size f) (2 ^ 64 - 1)) (sym (no_values_in_gap fields column place gap))) r e

-- ---- where a list of fields stands for the record

abbrev pub ends : RecordFields → ℕ
ends fields = min (record_size fields) (2 ^ 64 - 1)

module _ (list fields : RecordFields) (view_is : list ≡ fields) where
  -- a list that was written back as it was
  pub measured-same : (size : ℕ) → size ≡ ends list → {new : RecordFields} → new ≡ fields → size ≡ ends new
  measured-same size is e = is ∙ ap ends (view_is ∙ sym e)

  module _ (column : ℕ) (invariant : IsTrue (is_record list)) where
    kept : IsTrue (is_record fields)
    kept = subst (λ (l : RecordFields). IsTrue (is_record l)) view_is invariant

    pub measured-changed : (new : RecordFields) (values : List (List ℕ)) (others room size : ℕ) → new ≡ with_values fields column values → others ≡ ends (with_values fields column []) → room ≡ min (size_of_values values) (2 ^ 64 - 1) → size ≡ min (others + room) (2 ^ 64 - 1) → size ≡ ends new
    measured-changed new values others room size e o r s = size_with fields column kept values others room size o r s ∙ ap ends (sym e)

    pub measured-one : (new : RecordFields) (value : List ℕ) (others room size : ℕ) → new ≡ with_values fields column (value ∷ []) → others ≡ ends (with_values fields column []) → room ≡ size_of_values (value ∷ []) → size ≡ min (others + room) (2 ^ 64 - 1) → size ≡ ends new
    measured-one new value others room size e o r s = size_with_one fields column kept value others room size o r s ∙ ap ends (sym e)

    pub measured-pushed : (new : RecordFields) (value : List ℕ) (old room size : ℕ) → new ≡ with_values fields column (values_of fields column ++ value ∷ []) → old ≡ ends list → room ≡ size_of_values (value ∷ []) → size ≡ min (old + room) (2 ^ 64 - 1) → size ≡ ends new
    measured-pushed new value old room size e o r s = size_pushed fields column kept value old room size (o ∙ ap ends view_is) r s ∙ ap ends (sym e)

    pub measured-inserted : (place : ℕ) → IsGapFor fields column place → (new : RecordFields) (value : List ℕ) (old room size : ℕ) → new ≡ with_values fields column (value ∷ []) → old ≡ ends list → room ≡ size_of_values (value ∷ []) → size ≡ min (old + room) (2 ^ 64 - 1) → size ≡ ends new
    measured-inserted place gap new value old room size e o r s = size_in_gap fields column kept place gap value old room size (o ∙ ap ends view_is) r s ∙ ap ends (sym e)

    -- what the values of a column take is within the size
    pub room_within : (size room : ℕ) → size ≡ ends list → room ≡ min (size_of_values (values_of fields column)) (2 ^ 64 - 1) → room ≤ size
    room_within size room is of =
        let measured : size ≡ min (record_size fields) (2 ^ 64 - 1) = is ∙ ap ends view_is in
        omega (arith, measured, of, total fields column kept)

    pub left : (size room : ℕ) → size ≡ ends list → size < 2 ^ 64 - 1 → room ≡ min (size_of_values (values_of fields column)) (2 ^ 64 - 1) → size - room ≡ ends (with_values fields column [])
    left size room is small of = size_but fields column kept size room (is ∙ ap ends view_is) small of
