-- A table's columns keep numbers of their own when it gets one more, of the next number of its kind.
use Rattle.std.proofs.Common.{◌≡◌, ℕ, ◌+◌, Bool, true, false, not, ◌&&◌, ◌||◌, cond, List, [], ◌∷◌, map, refl, sym, ap, subst, ◌∙◌, arith}
use Rattle.std.specs.Prelude.{◌==◌, nat_le, max}
use Rattle.std.specs.List.{list_all, list_any}
use Rattle.std.proofs.lemmas.Bool.Decides.{nat_tests}
use Rattle.std.proofs.lemmas.Bool.{and_from, not-true, or_from}
use Rattle.common_lemmas.proofs.Numbers.{unequal_turned}
use Rattle.common_lemmas.proofs.Booleans.{and_left, and_right}
use Rattle.common_lemmas.proofs.Lists.{all_stronger}
use Rattle.column_set.specs.declared.columns.Column.{Column}
use Rattle.database_state.specs.Table.{GreatestColumns, Table}
use Rattle.database_state.specs.SchemaChanges.{with_column_id, columns_with, with_column, next_column_id, has_column_id}
use Rattle.jet_base.specs.TypeKinds.{is_long_type, is_variable_type}
use Rattle.database_state.proofs.Columns.{are_behind, list_all-columns_with}
use Rattle.session_local.specs.SessionSide.{are_distinct}
use Rattle.session_local.specs.WellFormed.{number_of_column}
use Rattle.laws_engine.specs.ColumnNumbers.{is_given_number, are_in_range, has_own_numbers}

-- ---- numbers that were given

-- whether the number was given, by the greatest of each kind
abbrev given : ℕ → ℕ → ℕ → ℕ → Bool
given fixed variable tagged n = cond (nat_le n 127) (nat_le n fixed) (cond (nat_le n 255) (nat_le n variable) (nat_le n tagged))

abbrev in_range : ℕ → ℕ → ℕ → Bool
in_range fixed variable tagged = nat_le fixed 127 && nat_le 127 variable && nat_le variable 255 && nat_le 255 tagged && nat_le tagged 511

record Ranges (fixed variable tagged : ℕ) : Type 0 where
  fixed_most : nat_le fixed 127 ≡ true
  variable_least : nat_le 127 variable ≡ true
  variable_most : nat_le variable 255 ≡ true
  tagged_least : nat_le 255 tagged ≡ true
  tagged_most : nat_le tagged 511 ≡ true

ranges : (fixed variable tagged : ℕ) → in_range fixed variable tagged ≡ true → Ranges fixed variable tagged
ranges fixed variable tagged h =
    let a = nat_le fixed 127 in
    let b = nat_le 127 variable in
    let c = nat_le variable 255 in
    let d = nat_le 255 tagged in
    let e = nat_le tagged 511 in
    let four = and_left (a && b && c && d) e h in
    let three = and_left (a && b && c) d four in
    let two = and_left (a && b) c three in
    record {
      fixed_most = and_left a b two;
      variable_least = and_right a b two;
      variable_most = and_right (a && b) c three;
      tagged_least = and_right (a && b && c) d four;
      tagged_most = and_right (a && b && c && d) e h;
    }

from_ranges : (fixed variable tagged : ℕ) → Ranges fixed variable tagged → in_range fixed variable tagged ≡ true
from_ranges fixed variable tagged r = rw (r.fixed_most, r.variable_least, r.variable_most, r.tagged_least, r.tagged_most) refl

le_next : (n f : ℕ) → nat_le n f ≡ true → nat_le n (f + 1) ≡ true
le_next n f h = grind (arith, nat_tests)

le_next_self : (f : ℕ) → nat_le (f + 1) (f + 1) ≡ true
le_next_self f = grind (arith, nat_tests)

not_next : (n f : ℕ) → nat_le n f ≡ true → (n == (f + 1)) ≡ false
not_next n f h = grind (arith, nat_tests)

-- a number of another range is not the next one
above_bound : (n m bound : ℕ) → nat_le n bound ≡ false → nat_le m bound ≡ true → (n == m) ≡ false
above_bound n m bound h g = grind (arith, nat_tests)

below_bound : (n m bound : ℕ) → nat_le n bound ≡ true → nat_le m bound ≡ false → (n == m) ≡ false
below_bound n m bound h g = grind (arith, nat_tests)

next_above : (bound v : ℕ) → nat_le bound v ≡ true → nat_le (v + 1) bound ≡ false
next_above bound v h = grind (arith, nat_tests)

le_through : (a b c : ℕ) → nat_le a b ≡ true → nat_le b c ≡ true → nat_le a c ≡ true
le_through a b c h g = grind (arith, nat_tests)

-- what a next number of some greatest ones leaves: the numbers stay in range, those that were given stay so, and it is a new one that is now given
record IsNext (fixed variable tagged n fixed' variable' tagged' : ℕ) : Type 0 where
  range : Ranges fixed' variable' tagged'
  more : (m : ℕ) → given fixed variable tagged m ≡ true → given fixed' variable' tagged' m ≡ true
  new : given fixed' variable' tagged' n ≡ true
  fresh : (m : ℕ) → given fixed variable tagged m ≡ true → (m == n) ≡ false

next_fixed : (f v t : ℕ) → Ranges f v t → nat_le (f + 1) 127 ≡ true → IsNext f v t (f + 1) (f + 1) v t
next_fixed f v t r h = record {
  range = record { fixed_most = h; variable_least = r.variable_least; variable_most = r.variable_most; tagged_least = r.tagged_least; tagged_most = r.tagged_most };
  more = λ m. elim (nat_le m 127) as (λ b. cond b (nat_le m f) (cond (nat_le m 255) (nat_le m v) (nat_le m t)) ≡ true → cond b (nat_le m (f + 1)) (cond (nat_le m 255) (nat_le m v) (nat_le m t)) ≡ true) [
    | true ↦ λ g. le_next m f g
    | false ↦ λ g. g
  ];
  new = ap (λ b. cond b (nat_le (f + 1) (f + 1)) (cond (nat_le (f + 1) 255) (nat_le (f + 1) v) (nat_le (f + 1) t))) h ∙ le_next_self f;
  fresh = λ m. elim (nat_le m 127) as (λ b. nat_le m 127 ≡ b → cond b (nat_le m f) (cond (nat_le m 255) (nat_le m v) (nat_le m t)) ≡ true → (m == (f + 1)) ≡ false) [
    | true ↦ λ e g. not_next m f g
    | false ↦ λ e g. above_bound m (f + 1) 127 e h
  ] refl;
}

next_variable : (f v t : ℕ) → Ranges f v t → nat_le (v + 1) 255 ≡ true → IsNext f v t (v + 1) f (v + 1) t
next_variable f v t r h =
    let off : nat_le (v + 1) 127 ≡ false = next_above 127 v r.variable_least in
    record {
      range = record { fixed_most = r.fixed_most; variable_least = le_next 127 v r.variable_least; variable_most = h; tagged_least = r.tagged_least; tagged_most = r.tagged_most };
      more = λ m. elim (nat_le m 127) as (λ b. cond b (nat_le m f) (cond (nat_le m 255) (nat_le m v) (nat_le m t)) ≡ true → cond b (nat_le m f) (cond (nat_le m 255) (nat_le m (v + 1)) (nat_le m t)) ≡ true) [
        | true ↦ λ g. g
        | false ↦ elim (nat_le m 255) as (λ b. cond b (nat_le m v) (nat_le m t) ≡ true → cond b (nat_le m (v + 1)) (nat_le m t) ≡ true) [ true ↦ λ g. le_next m v g | false ↦ λ g. g ]
      ];
      new =
          ap (λ b. cond b (nat_le (v + 1) f) (cond (nat_le (v + 1) 255) (nat_le (v + 1) (v + 1)) (nat_le (v + 1) t))) off
          ∙ ap (λ b. cond b (nat_le (v + 1) (v + 1)) (nat_le (v + 1) t)) h
          ∙ le_next_self v;
      fresh = λ m. elim (nat_le m 127) as (λ b. nat_le m 127 ≡ b → cond b (nat_le m f) (cond (nat_le m 255) (nat_le m v) (nat_le m t)) ≡ true → (m == (v + 1)) ≡ false) [
        | true ↦ λ e g. below_bound m (v + 1) 127 e off
        | false ↦ λ e. elim (nat_le m 255) as (λ b. nat_le m 255 ≡ b → cond b (nat_le m v) (nat_le m t) ≡ true → (m == (v + 1)) ≡ false) [
          | true ↦ λ k g. not_next m v g
          | false ↦ λ k g. above_bound m (v + 1) 255 k h
        ] refl
      ] refl;
    }

next_tagged : (f v t : ℕ) → Ranges f v t → nat_le (t + 1) 511 ≡ true → IsNext f v t (t + 1) f v (t + 1)
next_tagged f v t r h =
    let high : nat_le (t + 1) 255 ≡ false = next_above 255 t r.tagged_least in
    let off : nat_le (t + 1) 127 ≡ false = next_above 127 t (le_through 127 v t r.variable_least (le_through v 255 t r.variable_most r.tagged_least)) in
    record {
      range = record { fixed_most = r.fixed_most; variable_least = r.variable_least; variable_most = r.variable_most; tagged_least = le_next 255 t r.tagged_least; tagged_most = h };
      more = λ m. elim (nat_le m 127) as (λ b. cond b (nat_le m f) (cond (nat_le m 255) (nat_le m v) (nat_le m t)) ≡ true → cond b (nat_le m f) (cond (nat_le m 255) (nat_le m v) (nat_le m (t + 1))) ≡ true) [
        | true ↦ λ g. g
        | false ↦ elim (nat_le m 255) as (λ b. cond b (nat_le m v) (nat_le m t) ≡ true → cond b (nat_le m v) (nat_le m (t + 1)) ≡ true) [ true ↦ λ g. g | false ↦ λ g. le_next m t g ]
      ];
      new =
          ap (λ b. cond b (nat_le (t + 1) f) (cond (nat_le (t + 1) 255) (nat_le (t + 1) v) (nat_le (t + 1) (t + 1)))) off
          ∙ ap (λ b. cond b (nat_le (t + 1) v) (nat_le (t + 1) (t + 1))) high
          ∙ le_next_self t;
      fresh = λ m. elim (nat_le m 127) as (λ b. nat_le m 127 ≡ b → cond b (nat_le m f) (cond (nat_le m 255) (nat_le m v) (nat_le m t)) ≡ true → (m == (t + 1)) ≡ false) [
        | true ↦ λ e g. below_bound m (t + 1) 127 e off
        | false ↦ λ e. elim (nat_le m 255) as (λ b. nat_le m 255 ≡ b → cond b (nat_le m v) (nat_le m t) ≡ true → (m == (t + 1)) ≡ false) [
          | true ↦ λ k g. below_bound m (t + 1) 255 k high
          | false ↦ λ k g. not_next m t g
        ] refl
      ] refl;
    }

-- ---- columns

abbrev own : GreatestColumns → List Column → Bool
own greatest columns = are_in_range greatest && list_all (is_given_number greatest) columns && are_distinct (map number_of_column columns)

abbrev IsNextOf : GreatestColumns → ℕ → GreatestColumns → Type 0
IsNextOf g n g' = IsNext g.fixed g.variable g.tagged n g'.fixed g'.variable g'.tagged

none_with : (number : ℕ) (column : Column) (columns : List Column) → list_any (λ l. l == number) (map number_of_column columns) ≡ false → (column.id.0 == number) ≡ false
    → list_any (λ l. l == number) (map number_of_column (columns_with column columns)) ≡ false
none_with number column [] none apart = or_from (column.id.0 == number) false apart refl
none_with number column (c ∷ columns) none apart =
    elim (are_behind column (c ∷ columns)) as (λ b. list_any (λ l. l == number) (map number_of_column (cond b (column ∷ c ∷ columns) (c ∷ columns_with column columns))) ≡ false) [
      | true ↦ or_from (column.id.0 == number) (list_any (λ l. l == number) (map number_of_column (c ∷ columns))) apart none
      | false ↦ or_from (c.id.0 == number) (list_any (λ l. l == number) (map number_of_column (columns_with column columns))) (first (c.id.0 == number) none)
          (none_with number column columns (later (c.id.0 == number) none) apart)
    ]
  where
    first : (b : Bool) → (b || list_any (λ l. l == number) (map number_of_column columns)) ≡ false → b ≡ false
    first true h = h
    first false h = refl

    later : (b : Bool) → (b || list_any (λ l. l == number) (map number_of_column columns)) ≡ false → list_any (λ l. l == number) (map number_of_column columns) ≡ false
    later true h = cc
    later false h = h

-- none has a number that all are apart from
none_apart : (number : ℕ) (numbers : List ℕ) → list_all (λ n. not (n == number)) numbers ≡ true → list_any (λ n. n == number) numbers ≡ false
none_apart number [] apart = refl
none_apart number (n ∷ numbers) apart =
    or_from (n == number) (list_any (λ n. n == number) numbers) (not-true (n == number) (and_left (not (n == number)) (list_all (λ n. not (n == number)) numbers) apart))
    (none_apart number numbers (and_right (not (n == number)) (list_all (λ n. not (n == number)) numbers) apart))

distinct_with : (column : Column) (columns : List Column) → are_distinct (map number_of_column columns) ≡ true → list_all (λ n. not (n == column.id.0)) (map number_of_column columns) ≡ true
    → are_distinct (map number_of_column (columns_with column columns)) ≡ true
distinct_with column [] distinct apart = refl
distinct_with column (c ∷ columns) distinct apart =
    let any = list_any (λ other. other == c.id.0) (map number_of_column columns) in
    let off : (column.id.0 == c.id.0) ≡ false = unequal_turned c.id.0 column.id.0 (not-true (c.id.0 == column.id.0) (and_left (not (c.id.0 == column.id.0)) (list_all (λ n. not (n == column.id.0)) (map number_of_column columns)) apart)) in
    elim (are_behind column (c ∷ columns)) as (λ b. are_distinct (map number_of_column (cond b (column ∷ c ∷ columns) (c ∷ columns_with column columns))) ≡ true) [
      | true ↦ and_from (not (list_any (λ other. other == column.id.0) (map number_of_column (c ∷ columns)))) (are_distinct (map number_of_column (c ∷ columns)))
          (ap not (none_apart column.id.0 (map number_of_column (c ∷ columns)) apart)) distinct
      | false ↦ and_from (not (list_any (λ other. other == c.id.0) (map number_of_column (columns_with column columns)))) (are_distinct (map number_of_column (columns_with column columns)))
          (ap not (none_with c.id.0 column columns (not-true any (and_left (not any) (are_distinct (map number_of_column columns)) distinct)) off))
          (distinct_with column columns (and_right (not any) (are_distinct (map number_of_column columns)) distinct) (and_right (not (c.id.0 == column.id.0)) (list_all (λ n. not (n == column.id.0)) (map number_of_column columns)) apart))
    ]

all_apart : (p : Column → Bool) (number : ℕ) → ((c : Column) → p c ≡ true → (c.id.0 == number) ≡ false) → (columns : List Column) → list_all p columns ≡ true → list_all (λ n. not (n == number)) (map number_of_column columns) ≡ true
all_apart p number apart [] h = refl
all_apart p number apart (c ∷ columns) h =
    and_from (not (c.id.0 == number)) (list_all (λ n. not (n == number)) (map number_of_column columns)) (ap not (apart c (and_left (p c) (list_all p columns) h)))
    (all_apart p number apart columns (and_right (p c) (list_all p columns) h))

own-more : (g g' : GreatestColumns) (columns : List Column) (column : Column) → IsNextOf g column.id.0 g' → own g columns ≡ true → own g' (columns_with column columns) ≡ true
own-more g g' columns column next h =
    let first = and_left (are_in_range g && list_all (is_given_number g) columns) (are_distinct (map number_of_column columns)) h in
    let distinct = and_right (are_in_range g && list_all (is_given_number g) columns) (are_distinct (map number_of_column columns)) h in
    let all = and_right (are_in_range g) (list_all (is_given_number g) columns) first in
    and_from (are_in_range g' && list_all (is_given_number g') (columns_with column columns)) (are_distinct (map number_of_column (columns_with column columns)))
    (and_from (are_in_range g') (list_all (is_given_number g') (columns_with column columns)) (from_ranges g'.fixed g'.variable g'.tagged next.range)
    (list_all-columns_with (is_given_number g') column columns (all_stronger (is_given_number g) (is_given_number g') (λ c. next.more c.id.0) columns all) next.new))
    (distinct_with column columns distinct (all_apart (is_given_number g) column.id.0 (λ c. next.fresh c.id.0) columns all))

-- ---- the next number

max-next : (f : ℕ) → max f (f + 1) ≡ f + 1
max-next f = omega arith

with_fixed : (g : GreatestColumns) → nat_le (g.fixed + 1) 127 ≡ true → record g { fixed = g.fixed + 1 } ≡ with_column_id g (g.fixed + 1)
with_fixed g h =
    ap (λ n. record g { fixed = n }) (sym (max-next g.fixed))
    ∙ ap (λ b. cond b (record g { fixed = max g.fixed (g.fixed + 1) }) (cond (nat_le (g.fixed + 1) 255) (record g { variable = max g.variable (g.fixed + 1) }) (record g { tagged = max g.tagged (g.fixed + 1) }))) (sym h)

with_variable : (g : GreatestColumns) → nat_le (g.variable + 1) 127 ≡ false → nat_le (g.variable + 1) 255 ≡ true → record g { variable = g.variable + 1 } ≡ with_column_id g (g.variable + 1)
with_variable g low h =
    ap (λ n. record g { variable = n }) (sym (max-next g.variable))
    ∙ ap (λ b. cond b (record g { variable = max g.variable (g.variable + 1) }) (record g { tagged = max g.tagged (g.variable + 1) })) (sym h)
    ∙ ap (λ b. cond b (record g { fixed = max g.fixed (g.variable + 1) }) (cond (nat_le (g.variable + 1) 255) (record g { variable = max g.variable (g.variable + 1) }) (record g { tagged = max g.tagged (g.variable + 1) }))) (sym low)

with_tagged : (g : GreatestColumns) → nat_le (g.tagged + 1) 127 ≡ false → nat_le (g.tagged + 1) 255 ≡ false → record g { tagged = g.tagged + 1 } ≡ with_column_id g (g.tagged + 1)
with_tagged g low high =
    ap (λ n. record g { tagged = n }) (sym (max-next g.tagged))
    ∙ ap (λ b. cond b (record g { variable = max g.variable (g.tagged + 1) }) (record g { tagged = max g.tagged (g.tagged + 1) })) (sym high)
    ∙ ap (λ b. cond b (record g { fixed = max g.fixed (g.tagged + 1) }) (cond (nat_le (g.tagged + 1) 255) (record g { variable = max g.variable (g.tagged + 1) }) (record g { tagged = max g.tagged (g.tagged + 1) }))) (sym low)

to_next : (g g' : GreatestColumns) (n : ℕ) → g' ≡ with_column_id g n → IsNextOf g n g' → IsNextOf g n (with_column_id g n)
to_next g g' n same next = subst (λ k. IsNextOf g n k) same next

-- the next number by whether the kind is tagged, and whether it is variable
abbrev next_by : GreatestColumns → Bool → Bool → ℕ
next_by g tagged variable = cond tagged (g.tagged + 1) (cond variable (g.variable + 1) (g.fixed + 1))

abbrev has_by : Bool → Bool → ℕ → Bool
has_by tagged variable n = cond tagged (nat_le n 511) (cond variable (nat_le n 255) (nat_le n 127))

next-by : (g : GreatestColumns) (tagged variable : Bool) → Ranges g.fixed g.variable g.tagged → has_by tagged variable (next_by g tagged variable) ≡ true
    → IsNextOf g (next_by g tagged variable) (with_column_id g (next_by g tagged variable))
next-by g true variable r h =
    to_next g (record g { tagged = g.tagged + 1 }) (g.tagged + 1)
    (with_tagged g (next_above 127 g.tagged (le_through 127 g.variable g.tagged r.variable_least (le_through g.variable 255 g.tagged r.variable_most r.tagged_least))) (next_above 255 g.tagged r.tagged_least))
    (next_tagged g.fixed g.variable g.tagged r h)
next-by g false true r h =
    to_next g (record g { variable = g.variable + 1 }) (g.variable + 1) (with_variable g (next_above 127 g.variable r.variable_least) h) (next_variable g.fixed g.variable g.tagged r h)
next-by g false false r h = to_next g (record g { fixed = g.fixed + 1 }) (g.fixed + 1) (with_fixed g h) (next_fixed g.fixed g.variable g.tagged r h)

-- the column has the next number of its kind, and the kind has that number
pub record HasNextNumber (greatest : GreatestColumns) (column : Column) : Type 0 where
  pub next : column.id.0 ≡ next_column_id greatest column.kind column.tagged
  pub has : has_column_id column.kind column.tagged (next_column_id greatest column.kind column.tagged) ≡ true

pub has_own_numbers-with_column : (t : Table) (column : Column) → HasNextNumber t.greatest column → has_own_numbers t ≡ true → has_own_numbers (with_column column t) ≡ true
has_own_numbers-with_column t column next h =
    let range = and_left (are_in_range t.greatest) (list_all (is_given_number t.greatest) t.columns) (and_left (are_in_range t.greatest && list_all (is_given_number t.greatest) t.columns) (are_distinct (map number_of_column t.columns)) h) in
    let by = next-by t.greatest (column.tagged || is_long_type column.kind) (is_variable_type column.kind) (ranges t.greatest.fixed t.greatest.variable t.greatest.tagged range) next.has in
    own-more t.greatest (with_column_id t.greatest column.id.0) t.columns column (subst (λ n. IsNextOf t.greatest n (with_column_id t.greatest n)) (sym next.next) by) h
