-- What a new column leaves of the columns of a table, and of its number where it is tagged anyway.
use Rattle.std.proofs.Common.{◌≡◌, ℕ, ◌+◌, Bool, true, false, ◌||◌, cond, List, [], ◌∷◌, Some, None, refl, ap, arith}
use Rattle.std.specs.Prelude.{◌==◌, nat_le, nat_lt, is_some}
use Rattle.std.specs.List.{list_all}
use Rattle.std.proofs.lemmas.Bool.Decides.{nat_tests}
use Rattle.std.proofs.lemmas.Bool.{and_from}
use Rattle.common_lemmas.proofs.Booleans.{and_left, and_right}
use Rattle.jet_base.specs.declared.words.ColType.{ColType}
use Rattle.jet_base.specs.TypeKinds.{is_long_type, is_variable_type}
use Rattle.column_set.specs.declared.columns.Column.{Column}
use Rattle.column_set.specs.RecordValues.{column_of_id}
use Rattle.database_state.specs.SchemaChanges.{columns_with, has_column_id, next_column_id}
use Rattle.database_state.specs.Table.{GreatestColumns}

-- whether they all have greater numbers than a new one
abbrev pub are_behind : Column → List Column → Bool
are_behind column columns = list_all (λ c. nat_lt column.id.0 c.id.0) columns

-- what holds of the columns and of the new one holds of all
pub list_all-columns_with : (p : Column → Bool) (column : Column) (columns : List Column) → list_all p columns ≡ true → p column ≡ true → list_all p (columns_with column columns) ≡ true
list_all-columns_with p column [] all own = and_from (p column) true own refl
list_all-columns_with p column (c ∷ columns) all own =
    elim (are_behind column (c ∷ columns)) as (λ b. list_all p (cond b (column ∷ c ∷ columns) (c ∷ columns_with column columns)) ≡ true) [
      | true ↦ and_from (p column) (list_all p (c ∷ columns)) own all
      | false ↦ and_from (p c) (list_all p (columns_with column columns)) (and_left (p c) (list_all p columns) all)
          (list_all-columns_with p column columns (and_right (p c) (list_all p columns) all) own)
    ]

above : (n c id : ℕ) → nat_lt n c ≡ true → (c == id) ≡ true → (n == id) ≡ false
above n c id h g = grind (arith, nat_tests)

-- a column that is found has another number than one that they all have greater numbers than
found_apart : (column : Column) (id : ℕ) (columns : List Column) → are_behind column columns ≡ true → is_some (column_of_id columns id) ≡ true → (column.id.0 == id) ≡ false
found_apart column id [] behind h = cc
found_apart column id (c ∷ columns) behind h =
    elim (c.id.0 == id) as (λ b. (c.id.0 == id) ≡ b → is_some (cond b (Some c) (column_of_id columns id)) ≡ true → (column.id.0 == id) ≡ false) [
      | true ↦ λ e g. above column.id.0 c.id.0 id (and_left (nat_lt column.id.0 c.id.0) (are_behind column columns) behind) e
      | false ↦ λ e g. found_apart column id columns (and_right (nat_lt column.id.0 c.id.0) (are_behind column columns) behind) g
    ] refl h

-- a column that was found is found as before
pub column_of_id-columns_with : (column : Column) (id : ℕ) (columns : List Column) → is_some (column_of_id columns id) ≡ true → column_of_id (columns_with column columns) id ≡ column_of_id columns id
column_of_id-columns_with column id [] h = cc
column_of_id-columns_with column id (c ∷ columns) h =
    elim (are_behind column (c ∷ columns)) as (λ b. are_behind column (c ∷ columns) ≡ b → column_of_id (cond b (column ∷ c ∷ columns) (c ∷ columns_with column columns)) id ≡ column_of_id (c ∷ columns) id) [
      | true ↦ λ e. rw (found_apart column id (c ∷ columns) e h) refl
      | false ↦ λ e. elim (c.id.0 == id) as (λ b. is_some (cond b (Some c) (column_of_id columns id)) ≡ true → cond b (Some c) (column_of_id (columns_with column columns) id) ≡ cond b (Some c) (column_of_id columns id)) [
        | true ↦ λ g. refl
        | false ↦ λ g. column_of_id-columns_with column id columns g
      ] h
    ] refl

-- ---- a long column is tagged, whether or not that is said

pub or_again : (a b : Bool) → ((a || b) || b) ≡ (a || b)
or_again true b = refl
or_again false true = refl
or_again false false = refl

-- the next number of its kind is the same
pub next_column_id-tagged : (greatest : GreatestColumns) (type : ColType) (tagged : Bool) → next_column_id greatest type (tagged || is_long_type type) ≡ next_column_id greatest type tagged
next_column_id-tagged greatest type tagged = ap (λ b. cond b (greatest.tagged + 1) (cond (is_variable_type type) (greatest.variable + 1) (greatest.fixed + 1))) (or_again tagged (is_long_type type))

pub has_column_id-tagged : (greatest : GreatestColumns) (type : ColType) (tagged : Bool)
    → has_column_id type (tagged || is_long_type type) (next_column_id greatest type (tagged || is_long_type type)) ≡ has_column_id type tagged (next_column_id greatest type tagged)
has_column_id-tagged greatest type tagged = ap (λ b. kind_has b (kind_next b)) (or_again tagged (is_long_type type))
  where
    kind_next : Bool → ℕ
    kind_next b = cond b (greatest.tagged + 1) (cond (is_variable_type type) (greatest.variable + 1) (greatest.fixed + 1))

    kind_has : Bool → ℕ → Bool
    kind_has b id = cond b (nat_le id 511) (cond (is_variable_type type) (nat_le id 255) (nat_le id 127))
