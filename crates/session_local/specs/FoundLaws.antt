-- Laws of what is found in lists: cursors by label, columns by number, and the values of a column.
use Rattle.std.proofs.Common.{◌≡◌, ℕ, ◌+◌, ◌≤◌, ◌==◌, Bool, true, false, cond, not, ◌&&◌, ◌||◌, List, [], ◌∷◌, length, map, find, Option, Some, None, refl, sym, ap, ◌∙◌, unwrap_or, arith}
use Rattle.std.specs.List.{list_all, list_any}
use Rattle.std.specs.Ordering.{nat_cmp, is_eq}
use Rattle.std.specs.declared.cmp.Ordering.{Ordering}
use Rattle.std.specs.declared.cmp.Ordering.TheVariants.{Less, Equal, Greater}
use Rattle.std.specs.FinMap.{nat_cmp-IsAntisymmetric}
use Rattle.std.specs.FinMap.Entries.{find as find_entry}
use Rattle.std.proofs.lemmas.List.Sums.{sum_by-cons}
use Rattle.std.proofs.lemmas.Bool.{and_parts, eqb-true, not-true}
use Rattle.common_lemmas.proofs.Numbers.{self_equal}
use Rattle.column_set.specs.declared.columns.Column.{Column}
use Rattle.column_set.specs.RecordValues.{RecordFields, values_of, column_of_id, values_fit, size_of_value, size_of_values, record_size, stands_in}
use Rattle.session_local.specs.Local.{OpenCursor}
use Rattle.session_local.specs.SessionSide.{are_distinct}
use Rattle.session_local.specs.WellFormed.{number_of_column}

-- a cursor that is found by a label has it
pub labelled : (label : ℕ) (cursors : List OpenCursor) (c : OpenCursor) → find (λ c. c.label == label) cursors ≡ Some c → c.label ≡ label
labelled label [] c found = cc
labelled label (x ∷ xs) c found =
    elim (x.label == label) as (λ b. (x.label == label) ≡ b → cond b (Some x) (find (λ c. c.label == label) xs) ≡ Some c → c.label ≡ label) [
      | true ↦ λ e h. let same : x ≡ c = cc in let n = eqb-true x.label label e in cc
      | false ↦ λ e h. labelled label xs c h
    ] refl found

-- ---- columns by number

any_found : (test : Column → Bool) (columns : List Column) (column : Column) (number : ℕ) → find test columns ≡ Some column → (column.id.0 == number) ≡ true → list_any (λ other. other == number) (map number_of_column columns) ≡ true
any_found test [] column number found same = cc
any_found test (x ∷ xs) column number found same =
    elim (test x) as (λ b. cond b (Some x) (find test xs) ≡ Some column → ((x.id.0 == number) || list_any (λ other. other == number) (map number_of_column xs)) ≡ true) [
      | true ↦ λ h. let is : x ≡ column = cc in rw (is, same) refl
      | false ↦ λ h. elim (x.id.0 == number) as (λ b. (b || list_any (λ other. other == number) (map number_of_column xs)) ≡ true) [
        | true ↦ refl
        | false ↦ any_found test xs column number h same
      ]
    ] found

-- a column that is found is the one with its number
pub by_number : (test : Column → Bool) (columns : List Column) (column : Column) → are_distinct (map number_of_column columns) ≡ true → find test columns ≡ Some column → column_of_id columns column.id.0 ≡ Some column
by_number test [] column distinct found = cc
by_number test (x ∷ xs) column distinct found =
    let parts : (not (list_any (λ other. other == x.id.0) (map number_of_column xs)) ≡ true) × (are_distinct (map number_of_column xs) ≡ true) = and_parts _ _ distinct in
    elim (test x) as (λ b. cond b (Some x) (find test xs) ≡ Some column → cond (x.id.0 == column.id.0) (Some x) (column_of_id xs column.id.0) ≡ Some column) [
      | true ↦ λ h. let is : x ≡ column = cc in rw (is, self_equal column.id.0) refl
      | false ↦ λ h. elim (x.id.0 == column.id.0) as (λ b. (x.id.0 == column.id.0) ≡ b → cond b (Some x) (column_of_id xs column.id.0) ≡ Some column) [
        | true ↦ λ e.
            let same : x.id.0 ≡ column.id.0 = eqb-true x.id.0 column.id.0 e in
            let again : (column.id.0 == x.id.0) ≡ true = rw same (self_equal column.id.0) in
            let twice : list_any (λ other. other == x.id.0) (map number_of_column xs) ≡ true = any_found test xs column x.id.0 h again in
            let once : list_any (λ other. other == x.id.0) (map number_of_column xs) ≡ false = not-true _ parts.0 in
            cc
        | false ↦ λ e. by_number test xs column parts.1 h
      ] refl
    ] found

-- ---- the values of a column

tied : (m n : ℕ) → is_eq (nat_cmp m n) ≡ true → m ≡ n
tied m n h = nat_cmp-IsAntisymmetric m n (equal (nat_cmp m n) h)
  where
    equal : (o : Ordering) → is_eq o ≡ true → o ≡ Equal
    equal Less e = cc
    equal Equal e = refl
    equal Greater e = cc

no_values_fit : (column : Column) → values_fit column [] ≡ true
no_values_fit column = elim column.multi as (λ b. ((b || true) && true) ≡ true) [ true ↦ refl | false ↦ refl ]

-- what a field is held against
pub taken : (columns : List Column) (field : ℕ × List (List ℕ)) (found : Option Column) → column_of_id columns field.0 ≡ found → stands_in columns field ≡ elim found [ Some column ↦ values_fit column field.1 | None ↦ false ]
taken columns field found is = ap (λ (o : Option Column). elim o [ Some column ↦ values_fit column field.1 | None ↦ false ]) is

-- the values of a column fit it
pub values_of-fit : (columns : List Column) (fields : RecordFields) (id : ℕ) (column : Column) → list_all (stands_in columns) fields ≡ true → column_of_id columns id ≡ Some column → values_fit column (values_of fields id) ≡ true
values_of-fit columns [] id column all found = no_values_fit column
values_of-fit columns (field ∷ fields) id column all found =
    let parts : (stands_in columns field ≡ true) × (list_all (stands_in columns) fields ≡ true) = and_parts _ _ all in
    elim (is_eq (nat_cmp id field.0)) as (λ b. is_eq (nat_cmp id field.0) ≡ b → values_fit column (unwrap_or (cond b (Some field.1) (find_entry nat_cmp id fields)) []) ≡ true) [
      | true ↦ λ e. let same : id ≡ field.0 = tied id field.0 e in
          let its : column_of_id columns field.0 ≡ Some column = rw (← same) found in
          sym (taken columns field (Some column) its) ∙ parts.0
      | false ↦ λ e. values_of-fit columns fields id column parts.1 found
    ] refl

counted : (values : List (List ℕ)) → length values ≤ size_of_values values
counted [] = omega arith
counted (value ∷ values) = let more = sum_by-cons (λ v. 5 + size_of_value v) value values in let rest = counted values in omega (arith, more, rest)

pub values_of-counted : (fields : RecordFields) (id : ℕ) → length (values_of fields id) ≤ record_size fields
values_of-counted [] id = omega arith
values_of-counted (field ∷ fields) id =
    let whole = sum_by-cons (λ (f : ℕ × List (List ℕ)). size_of_values f.1) field fields in
    elim (is_eq (nat_cmp id field.0)) as (λ b. length (unwrap_or (cond b (Some field.1) (find_entry nat_cmp id fields)) []) ≤ record_size (field ∷ fields)) [
      | true ↦ let here = counted field.1 in omega (arith, whole, here)
      | false ↦ let rest = values_of-counted fields id in omega (arith, whole, rest)
    ]
