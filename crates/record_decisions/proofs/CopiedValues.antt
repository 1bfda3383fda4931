-- A record whose values are copied column by column.
use Rattle.std.proofs.Common.{◌≡◌, ℕ, zero, suc, ◌+◌, ◌<◌, ◌≤◌, Bool, true, false, cond, not, ◌||◌, List, [], ◌∷◌, ◌++◌, length, map, take, get_or, Option, Some, None, unwrap_or, refl, sym, ap, ◌∙◌, append_assoc, arith}
use Rattle.std.specs.Prelude.{◌==◌, ltb, is_some}
use Rattle.std.specs.List.{list_all, list_any}
use Rattle.std.specs.Ordering.{nat_cmp, eq_by_cmp}
use Rattle.std.specs.Cmp.{nat_cmp_total, unsigned_tied}
use Rattle.std.specs.Bool.{passes}
use Rattle.std.specs.FinMap.{nat_cmp-IsAntisymmetric}
use Rattle.std.specs.FinMap.Entries.{find-put, same_entries}
use Rattle.std.proofs.lemmas.Bool.Decides.{nat_tests}
use Rattle.std.proofs.lemmas.List.{take_all, take_more}
use Rattle.std.proofs.lemmas.List.Folds.{list_any_more}
use Rattle.std.proofs.lemmas.Bool.{eqb-true, not-true}
use Rattle.common_lemmas.proofs.Booleans.{and_left, and_right, impossible}
use Rattle.common_lemmas.proofs.Numbers.{self_equal}
use Rattle.column_set.specs.declared.columns.Column.{Column}
use Rattle.column_set.specs.Record.{is_record}
use Rattle.column_set.specs.RecordValues.{RecordFields, column_of_id, lookup_by_number, put_by_number, values_of, with_values}
use Rattle.session_local.specs.SessionSide.{are_distinct}
use Rattle.session_local.specs.WellFormed.{number_of_column}
use Rattle.record_decisions.specs.Preparing.{IsCopied, values_with}

-- ---- a value more

put_is : (fields : RecordFields) (column : ℕ) (values : List (List ℕ)) (value : List ℕ) → with_values fields column (values ++ value ∷ []) ≡ put_by_number column (values ++ value ∷ []) fields
put_is fields column [] value = refl
put_is fields column (first ∷ values) value = refl

unwrapped : (b : Bool) (values : List (List ℕ)) (found : Option (List (List ℕ))) → unwrap_or (cond b (Some values) found) [] ≡ cond b values (unwrap_or found [])
unwrapped true values found = refl
unwrapped false values found = refl

-- what each column has after a value was put behind those of one
values_of-pushed : (fields : RecordFields) (column number : ℕ) (values : List (List ℕ)) (value : List ℕ) → values_of (with_values fields column (values ++ value ∷ [])) number ≡ cond (number == column) (values ++ value ∷ []) (values_of fields number)
values_of-pushed fields column number values value =
    ap (λ (f : RecordFields). values_of f number) (put_is fields column values value)
    ∙ ap (λ (o : Option (List (List ℕ))). unwrap_or o []) (find-put nat_cmp nat_cmp_total number column (values ++ value ∷ []) fields)
    ∙ unwrapped (eq_by_cmp nat_cmp number column) (values ++ value ∷ []) (lookup_by_number number fields)
    ∙ ap (λ b. cond b (values ++ value ∷ []) (values_of fields number)) (unsigned_tied number column)

-- The first values of the column stand behind those that it had, and one more after the next was put there.
pub one-more : (first made new fields : RecordFields) (column at : ℕ) (value : List ℕ) → at < length (values_of fields column) → value ≡ get_or (values_of fields column) at []
    → ((number : ℕ) → values_of made number ≡ cond (number == column) (values_of first number ++ take at (values_of fields number)) (values_of first number))
    → new ≡ with_values made column (values_of made column ++ value ∷ [])
    → (number : ℕ) → values_of new number ≡ cond (number == column) (values_of first number ++ take (at + 1) (values_of fields number)) (values_of first number)
one-more first made new fields column at value low same had is number =
    ap (λ (f : RecordFields). values_of f number) is
    ∙ values_of-pushed made column number (values_of made column) value
    ∙ by (number == column) refl
  where
    behind : values_of made column ++ value ∷ [] ≡ values_of first column ++ take (at + 1) (values_of fields column)
    behind =
        ap (λ (values : List (List ℕ)). values ++ value ∷ []) (had column ∙ ap (λ b. cond b (values_of first column ++ take at (values_of fields column)) (values_of first column)) (self_equal column))
        ∙ append_assoc (values_of first column) (take at (values_of fields column)) (value ∷ [])
        ∙ ap (λ (v : List ℕ). values_of first column ++ (take at (values_of fields column) ++ v ∷ [])) same
        ∙ ap (λ (values : List (List ℕ)). values_of first column ++ values) (sym (take_more (values_of fields column) at [] low))

    by : (b : Bool) → (number == column) ≡ b
        → cond b (values_of made column ++ value ∷ []) (values_of made number) ≡ cond b (values_of first number ++ take (at + 1) (values_of fields number)) (values_of first number)
    by true e = behind ∙ ap (λ n. values_of first n ++ take (at + 1) (values_of fields n)) (sym (eqb-true number column e))
    by false e = had number ∙ ap (λ b. cond b (values_of first number ++ take at (values_of fields number)) (values_of first number)) e

-- ---- a column more

-- whether a column has the number
abbrev pub is_number_of : List Column → ℕ → Bool
is_number_of columns number = list_any (λ column. number_of_column column == number) columns

number_at : (columns : List Column) (i : ℕ) (column : Column) → i < length columns → column ≡ get_or columns i column → list_any (λ other. other == number_of_column column) (map number_of_column columns) ≡ true
number_at [] i column low is = absurd (omega (arith, low))
number_at (first ∷ columns) zero column low is =
    ap (λ (c : Column). (number_of_column first == number_of_column c) || list_any (λ other. other == number_of_column c) (map number_of_column columns)) is
    ∙ ap (λ b. b || list_any (λ other. other == number_of_column first) (map number_of_column columns)) (self_equal (number_of_column first))
number_at (first ∷ columns) (suc i) column low is =
    either (number_of_column first == number_of_column column) _ (number_at columns i column (omega (arith, low)) is)
  where
    either : (a b : Bool) → b ≡ true → (a || b) ≡ true
    either true b e = refl
    either false b e = e

-- a number of one column is none of a column before it
number_is-new : (columns : List Column) (i : ℕ) (column : Column) → are_distinct (map number_of_column columns) ≡ true → i < length columns → column ≡ get_or columns i column → is_number_of (take i columns) (number_of_column column) ≡ false
number_is-new [] i column distinct low is = absurd (omega (arith, low))
number_is-new (first ∷ columns) zero column distinct low is = refl
number_is-new (first ∷ columns) (suc i) column distinct low is =
    neither (number_of_column first == number_of_column column) _ (other (number_of_column first == number_of_column column) refl)
    (number_is-new columns i column (and_right (not (list_any (λ other. other == number_of_column first) (map number_of_column columns))) (are_distinct (map number_of_column columns)) distinct) (omega (arith, low)) is)
  where
    neither : (a b : Bool) → a ≡ false → b ≡ false → (a || b) ≡ false
    neither true b e h = e
    neither false b e h = h

    once : list_any (λ other. other == number_of_column first) (map number_of_column columns) ≡ false
    once = not-true _ (and_left (not (list_any (λ other. other == number_of_column first) (map number_of_column columns))) (are_distinct (map number_of_column columns)) distinct)

    other : (b : Bool) → (number_of_column first == number_of_column column) ≡ b → b ≡ false
    other false e = refl
    other true e =
        sym (ap (λ n. list_any (λ other. other == n) (map number_of_column columns)) (eqb-true (number_of_column first) (number_of_column column) e) ∙ number_at columns i column (omega (arith, low)) is)
        ∙ once

-- The columns so far have their values, and one more has once these were put there.
pub column-more : (columns : List Column) (i : ℕ) (column : Column) (made new fields : RecordFields) → are_distinct (map number_of_column columns) ≡ true → i < length columns → column ≡ get_or columns i column
    → ((number : ℕ) → values_of made number ≡ cond (is_number_of (take i columns) number) (values_of fields number) [])
    → ((number : ℕ) → values_of new number ≡ values_with made fields (number_of_column column) number)
    → (number : ℕ) → values_of new number ≡ cond (is_number_of (take (i + 1) columns) number) (values_of fields number) []
column-more columns i column made new fields distinct low is had put number =
    put number
    ∙ by (number == number_of_column column) refl
    ∙ ap (λ b. cond b (values_of fields number) []) (sym (list_any_more (λ c. number_of_column c == number) columns i column low ∙ ap (λ (c : Column). is_number_of (take i columns) number || (number_of_column c == number)) (sym is)))
  where
    last : (a b : Bool) → b ≡ true → (a || b) ≡ true
    last true b e = refl
    last false b e = e

    none : (a b : Bool) → b ≡ false → (a || b) ≡ a
    none true b e = refl
    none false b e = e

    apart : (m n : ℕ) → (m == n) ≡ false → (n == m) ≡ false
    apart m n e = grind (arith, nat_tests)

    by : (b : Bool) → (number == number_of_column column) ≡ b
        → cond b (values_of made number ++ values_of fields number) (values_of made number) ≡ cond (is_number_of (take i columns) number || (number_of_column column == number)) (values_of fields number) []
    by true e =
        let same : number ≡ number_of_column column = eqb-true number (number_of_column column) e in
        let fresh : is_number_of (take i columns) number ≡ false = ap (is_number_of (take i columns)) same ∙ number_is-new columns i column distinct low is in
        let its : (number_of_column column == number) ≡ true = ap (λ n. number_of_column column == n) same ∙ self_equal (number_of_column column) in
        ap (λ (values : List (List ℕ)). values ++ values_of fields number) (had number ∙ ap (λ b. cond b (values_of fields number) []) fresh)
        ∙ sym (ap (λ b. cond b (values_of fields number) []) (last (is_number_of (take i columns) number) (number_of_column column == number) its))
    by false e =
        had number
        ∙ sym (ap (λ b. cond b (values_of fields number) []) (none (is_number_of (take i columns) number) (number_of_column column == number) (apart number (number_of_column column) e)))

-- ---- all columns

number_is-some : (columns : List Column) (number : ℕ) → is_some (column_of_id columns number) ≡ is_number_of columns number
number_is-some [] number = refl
number_is-some (column ∷ columns) number =
    elim (column.id.0 == number) as (λ b. is_some (cond b (Some column) (column_of_id columns number)) ≡ (b || is_number_of columns number)) [ true ↦ refl | false ↦ number_is-some columns number ]

-- a record has no values under a number of no column
unnamed : (columns : List Column) (fields : RecordFields) (number : ℕ) → list_all (λ field. is_some (column_of_id columns field.0)) fields ≡ true → is_number_of columns number ≡ false → values_of fields number ≡ []
unnamed columns [] number named none = refl
unnamed columns (field ∷ fields) number named none =
    ap (λ b. unwrap_or (cond b (Some field.1) (lookup_by_number number fields)) []) (unsigned_tied number field.0 ∙ other (number == field.0) refl)
    ∙ unnamed columns fields number (and_right (is_some (column_of_id columns field.0)) (list_all (λ field. is_some (column_of_id columns field.0)) fields) named) none
  where
    other : (b : Bool) → (number == field.0) ≡ b → b ≡ false
    other false e = refl
    other true e =
        sym (and_left (is_some (column_of_id columns field.0)) (list_all (λ field. is_some (column_of_id columns field.0)) fields) named)
        ∙ ap (λ n. is_some (column_of_id columns n)) (sym (eqb-true number field.0 e))
        ∙ number_is-some columns number ∙ none

-- what is found has values
abbrev has_some : Option (List (List ℕ)) → Bool
has_some None = true
has_some (Some values) = ltb 0 (length values)

found_some : (fields : RecordFields) (number : ℕ) → list_all (λ field. ltb 0 (length field.1)) fields ≡ true → has_some (lookup_by_number number fields) ≡ true
found_some [] number all = refl
found_some (field ∷ fields) number all =
    by (eq_by_cmp nat_cmp number field.0) (lookup_by_number number fields) (and_left (ltb 0 (length field.1)) (list_all (λ field. ltb 0 (length field.1)) fields) all)
    (found_some fields number (and_right (ltb 0 (length field.1)) (list_all (λ field. ltb 0 (length field.1)) fields) all))
  where
    by : (b : Bool) (rest : Option (List (List ℕ))) → ltb 0 (length field.1) ≡ true → has_some rest ≡ true → has_some (cond b (Some field.1) rest) ≡ true
    by true rest here behind = here
    by false rest here behind = behind

none_or_some : (one other : Option (List (List ℕ))) → has_some one ≡ true → has_some other ≡ true → unwrap_or one [] ≡ unwrap_or other [] → one ≡ other
none_or_some None None h g same = refl
none_or_some None (Some values) h g same = impossible (ap (λ (values : List (List ℕ)). ltb 0 (length values)) same ∙ g)
none_or_some (Some values) None h g same = impossible (ap (λ (values : List (List ℕ)). ltb 0 (length values)) (sym same) ∙ h)
none_or_some (Some values) (Some others) h g same = ap (λ (values : List (List ℕ)). Some values) same

-- records that have the same values in each column are the same
pub same_record : (one other : RecordFields) → is_record one ≡ true → is_record other ≡ true → ((number : ℕ) → values_of one number ≡ values_of other number) → one ≡ other
same_record one other formed well same =
    same_entries nat_cmp nat_cmp_total nat_cmp-IsAntisymmetric one other (passes _ (and_left _ _ formed)) (passes _ (and_left _ _ well))
    (λ number. none_or_some (lookup_by_number number one) (lookup_by_number number other) (found_some one number (and_right _ _ formed)) (found_some other number (and_right _ _ well)) (same number))

-- the record once the values of all columns were put
pub all-copied : (columns : List Column) (i : ℕ) (made fields : RecordFields) → IsCopied columns fields → length columns ≤ i → is_record made ≡ true
    → ((number : ℕ) → values_of made number ≡ cond (is_number_of (take i columns) number) (values_of fields number) []) → made ≡ fields
all-copied columns i made fields copied past formed had =
    same_record made fields formed copied.formed
    (λ number. had number ∙ ap (λ (cs : List Column). cond (is_number_of cs number) (values_of fields number) []) (take_all i columns past) ∙ by number (is_number_of columns number) refl)
  where
    by : (number : ℕ) (b : Bool) → is_number_of columns number ≡ b → cond b (values_of fields number) [] ≡ values_of fields number
    by number true e = refl
    by number false e = sym (unnamed columns fields number copied.named e)
