-- Walking over the values of a row.
use Rattle.std.proofs.Common.{◌≡◌, ℕ, ◌+◌, ◌<◌, ◌≤◌, true, List, [], ◌∷◌, ◌++◌, length, Option, Some, None, refl, sym, ap, subst, ◌∙◌, append_assoc, arith}
use Rattle.std.specs.Prelude.{slice_get}
use Rattle.std.specs.List.{flat_map}
use Rattle.std.proofs.lemmas.List.{append-nil, length-append}
use Rattle.std.proofs.lemmas.List.Concat.{flat_map-cons}
use Rattle.std.proofs.lemmas.Option.{slice_get_past}
use Rattle.column_set.specs.declared.rows.RowValue.{RowValue}
use Rattle.column_set.specs.Rows.{value_bytes}
use Rattle.column_set.specs.RowReading.{value_at, are_in_order, of_column}
use Rattle.column_set.proofs.Grouping.{in_order_parts, in_order-lower}
use Rattle.column_set.proofs.RowFieldValues.{value_again}
use Rattle.column_set.proofs.OneColumn.{of_column-same, of_column-other, of_column-above}

-- the walk has passed the front of the column's values and has the bytes of the values that are left
pub record HasPassed (column : ℕ) (values : List (ℕ × RowValue)) (rest : List ℕ) (passed : ℕ) : Type 0 where
  pub front : List RowValue
  pub left : List (ℕ × RowValue)
  pub order : are_in_order 0 left ≡ true
  pub spelled : rest ≡ flat_map value_bytes left
  pub split : of_column column values ≡ front ++ of_column column left
  pub count : length front ≡ passed

-- whatever values the bytes spell
abbrev pub Walk : ℕ → List ℕ → List ℕ → ℕ → Type 0
Walk column bytes rest passed = (values : List (ℕ × RowValue)) → are_in_order 0 values ≡ true → bytes ≡ flat_map value_bytes values → HasPassed column values rest passed

pub starts : (column : ℕ) (bytes : List ℕ) → Walk column bytes bytes 0
starts column bytes values order e = record { front = []; left = values; order = order; spelled = e; split = refl; count = refl }

abbrev next : (ℕ × RowValue) × List ℕ → Option ((ℕ × RowValue) × List ℕ)
next x = Some x

next_is : (x y : (ℕ × RowValue) × List ℕ) → next x ≡ next y → x ≡ y
next_is x y e = cc

nothing_at_end : value_at [] ≡ None
unfolding value_at
nothing_at_end = refl

-- the first value that is left is the one that is read
record IsFirst (value : ℕ × RowValue) (after : List ℕ) (left : List (ℕ × RowValue)) : Type 0 where
  others : List (ℕ × RowValue)
  is : left ≡ value ∷ others
  spelled : after ≡ flat_map value_bytes others
  above : are_in_order value.0 others ≡ true

first_of_left : (rest : List ℕ) (value : ℕ × RowValue) (after : List ℕ) (left : List (ℕ × RowValue)) → are_in_order 0 left ≡ true → rest ≡ flat_map value_bytes left → value_at rest ≡ Some (value, after) → IsFirst value after left
first_of_left rest value after [] order e read = let both : None ≡ next (value, after) = sym nothing_at_end ∙ sym (ap value_at e) ∙ read in absurd cc
first_of_left rest value after (first ∷ others) order e read =
    let parts = in_order_parts 0 first others order in
    let again : value_at rest ≡ Some (first, flat_map value_bytes others) = ap value_at (e ∙ flat_map-cons value_bytes first others) ∙ value_again first (flat_map value_bytes others) parts.column parts.fits in
    let same = next_is (first, flat_map value_bytes others) (value, after) (sym again ∙ read) in
    let made : IsFirst first (flat_map value_bytes others) (first ∷ others) = record { others = others; is = refl; spelled = refl; above = parts.rest } in
    subst (λ (y : (ℕ × RowValue) × List ℕ). IsFirst y.0 y.1 (first ∷ others)) same made

none_left : (rest : List ℕ) (left : List (ℕ × RowValue)) → are_in_order 0 left ≡ true → rest ≡ flat_map value_bytes left → value_at rest ≡ None → left ≡ []
none_left rest [] order e read = refl
none_left rest (first ∷ others) order e read =
    let parts = in_order_parts 0 first others order in
    let again : value_at rest ≡ Some (first, flat_map value_bytes others) = ap value_at (e ∙ flat_map-cons value_bytes first others) ∙ value_again first (flat_map value_bytes others) parts.column parts.fits in
    let both : next (first, flat_map value_bytes others) ≡ None = sym again ∙ read in absurd cc

pub passes : (column : ℕ) (bytes rest : List ℕ) (passed : ℕ) (value : ℕ × RowValue) (after : List ℕ) → value.0 ≡ column → value_at rest ≡ Some (value, after) → Walk column bytes rest passed → Walk column bytes after (passed + 1)
passes column bytes rest passed value after same read walk values order e =
    let h = walk values order e in
    let f = first_of_left rest value after h.left h.order h.spelled read in
    record {
      front = h.front ++ value.1 ∷ [];
      left = f.others;
      order = in_order-lower 0 value.0 f.others (omega arith) f.above;
      spelled = f.spelled;
      split = h.split ∙ ap (λ (xs : List (ℕ × RowValue)). h.front ++ of_column column xs) f.is ∙ ap (λ (xs : List RowValue). h.front ++ xs) (of_column-same column value f.others same) ∙ sym (append_assoc h.front (value.1 ∷ []) (of_column column f.others));
      count = omega (arith, length-append h.front (value.1 ∷ []), h.count);
    }

pub skips : (column : ℕ) (bytes rest : List ℕ) (passed : ℕ) (value : ℕ × RowValue) (after : List ℕ) → (value.0 ≡ column → ⊥) → value_at rest ≡ Some (value, after) → Walk column bytes rest passed → Walk column bytes after passed
skips column bytes rest passed value after ne read walk values order e =
    let h = walk values order e in
    let f = first_of_left rest value after h.left h.order h.spelled read in
    record {
      front = h.front;
      left = f.others;
      order = in_order-lower 0 value.0 f.others (omega arith) f.above;
      spelled = f.spelled;
      split = h.split ∙ ap (λ (xs : List (ℕ × RowValue)). h.front ++ of_column column xs) f.is ∙ ap (λ (xs : List RowValue). h.front ++ xs) (of_column-other column value f.others ne);
      count = h.count;
    }

-- all values of the column were passed
pub record AllPassed (column : ℕ) (values : List (ℕ × RowValue)) (passed : ℕ) : Type 0 where
  pub front : List RowValue
  pub is : of_column column values ≡ front
  pub count : length front ≡ passed

pub ends_above : (column : ℕ) (bytes rest : List ℕ) (passed : ℕ) (value : ℕ × RowValue) (after : List ℕ) → column < value.0 → value_at rest ≡ Some (value, after) → Walk column bytes rest passed
    → (values : List (ℕ × RowValue)) → are_in_order 0 values ≡ true → bytes ≡ flat_map value_bytes values → AllPassed column values passed
ends_above column bytes rest passed value after lt read walk values order e =
    let h = walk values order e in
    let f = first_of_left rest value after h.left h.order h.spelled read in
    let none : of_column column h.left ≡ [] = ap (of_column column) f.is ∙ of_column-other column value f.others (λ s. omega (arith, s)) ∙ of_column-above column value.0 f.others lt f.above in
    record { front = h.front; is = h.split ∙ ap (λ (xs : List RowValue). h.front ++ xs) none ∙ append-nil h.front; count = h.count }

pub ends_behind : (column : ℕ) (bytes rest : List ℕ) (passed : ℕ) → value_at rest ≡ None → Walk column bytes rest passed
    → (values : List (ℕ × RowValue)) → are_in_order 0 values ≡ true → bytes ≡ flat_map value_bytes values → AllPassed column values passed
ends_behind column bytes rest passed read walk values order e =
    let h = walk values order e in
    let none : of_column column h.left ≡ [] = ap (of_column column) (none_left rest h.left h.order h.spelled read) in
    record { front = h.front; is = h.split ∙ ap (λ (xs : List RowValue). h.front ++ xs) none ∙ append-nil h.front; count = h.count }

pub passed_count : (column : ℕ) (values : List (ℕ × RowValue)) (passed : ℕ) → AllPassed column values passed → passed ≡ length (of_column column values)
passed_count column values passed h = sym (ap length h.is ∙ h.count)

pub passed_none : (column : ℕ) (values : List (ℕ × RowValue)) (passed at : ℕ) → passed ≤ at → AllPassed column values passed → slice_get (of_column column values) at ≡ None
passed_none column values passed at le h = slice_get_past (of_column column values) at (omega (arith, passed_count column values passed h))

at_front : (front : List RowValue) (value : RowValue) (others : List RowValue) → slice_get (front ++ value ∷ others) (length front) ≡ Some value
at_front [] value others = refl
at_front (x ∷ front) value others = at_front front value others

pub finds : (column : ℕ) (bytes rest : List ℕ) (passed : ℕ) (value : ℕ × RowValue) (after : List ℕ) → value.0 ≡ column → value_at rest ≡ Some (value, after) → Walk column bytes rest passed
    → (values : List (ℕ × RowValue)) → are_in_order 0 values ≡ true → bytes ≡ flat_map value_bytes values → slice_get (of_column column values) passed ≡ Some value.1
finds column bytes rest passed value after same read walk values order e =
    let h = walk values order e in
    let f = first_of_left rest value after h.left h.order h.spelled read in
    let split : of_column column values ≡ h.front ++ value.1 ∷ of_column column f.others = h.split ∙ ap (λ (xs : List (ℕ × RowValue)). h.front ++ of_column column xs) f.is ∙ ap (λ (xs : List RowValue). h.front ++ xs) (of_column-same column value f.others same) in
    ap (λ (n : ℕ). slice_get (of_column column values) n) (sym h.count) ∙ ap (λ (xs : List RowValue). slice_get xs (length h.front)) split ∙ at_front h.front value.1 (of_column column f.others)
