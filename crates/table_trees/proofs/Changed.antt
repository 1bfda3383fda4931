-- What changes of a table's long values leave, one after the other.
use Rattle.std.proofs.Common.{◌≡◌, ◌≢◌, ℕ, ◌==◌, Bool, true, ◌||◌, if◌then◌else◌, List, [], ◌∷◌, map, refl, sym, ap, ◌∙◌}
use Rattle.std.specs.List.{list_any}
use Rattle.common_lemmas.proofs.Booleans.{by_test}
use Rattle.long_value.specs.Values.{Values}
use Rattle.table_trees.specs.StoredTables.{StoredTable, has_table, is_table, put_long_values, table_indexes, table_long_values, table_nodes, with_long_values}
use Rattle.table_trees.specs.ValuesChanged.{HasLongValues}

abbrev pub numbers_of : List StoredTable → List ℕ
numbers_of tables = map (λ (t : StoredTable). t.number) tables

-- what the law of changed long values says
pub record ChangeLaw : Type 0 where
  pub named : (tables : List StoredTable) (table : ℕ) (values : Values) → has_table tables table ≡ true → table_long_values (with_long_values table values tables) table ≡ values
  pub others : (tables : List StoredTable) (table other : ℕ) (values : Values) → other ≢ table → table_long_values (with_long_values table values tables) other ≡ table_long_values tables other
  pub nodes : (tables : List StoredTable) (table other : ℕ) (values : Values) → table_nodes (with_long_values table values tables) other ≡ table_nodes tables other
  pub indexes : (tables : List StoredTable) (table other : ℕ) (values : Values) → table_indexes (with_long_values table values tables) other ≡ table_indexes tables other

one_number : (table : ℕ) (values : Values) (t : StoredTable) → (if is_table table t then put_long_values values t else t).number ≡ t.number
one_number table values t =
    by_test (is_table table t)
    (λ y. ap (λ (b : Bool). (if b then put_long_values values t else t).number) y)
    (λ n. ap (λ (b : Bool). (if b then put_long_values values t else t).number) n)

numbers_stay : (table : ℕ) (values : Values) (tables : List StoredTable) → numbers_of (with_long_values table values tables) ≡ numbers_of tables
numbers_stay table values [] = refl
numbers_stay table values (t ∷ tables) = ap (λ (n : ℕ). n ∷ numbers_of (with_long_values table values tables)) (one_number table values t) ∙ ap (λ (l : List ℕ). t.number ∷ l) (numbers_stay table values tables)

pub changed : ChangeLaw → (table : ℕ) (values : Values) (old new : List StoredTable) → has_table old table ≡ true → new ≡ with_long_values table values old → HasLongValues table values old new
changed law table values old new there is = record {
  named = ap (λ (l : List StoredTable). table_long_values l table) is ∙ law.named old table values there;
  others = λ other n. ap (λ (l : List StoredTable). table_long_values l other) is ∙ law.others old table other values n;
  nodes = λ other. ap (λ (l : List StoredTable). table_nodes l other) is ∙ law.nodes old table other values;
  indexes = λ other. ap (λ (l : List StoredTable). table_indexes l other) is ∙ law.indexes old table other values;
  numbers = ap numbers_of is ∙ numbers_stay table values old;
}

pub same : (table : ℕ) (tables : List StoredTable) → HasLongValues table (table_long_values tables table) tables tables
same table tables = record { named = refl; others = λ other n. refl; nodes = λ other. refl; indexes = λ other. refl; numbers = refl }

pub then_has : (table : ℕ) (first second : Values) (a b c : List StoredTable) → HasLongValues table first a b → HasLongValues table second b c → HasLongValues table second a c
then_has table first second a b c one two = record {
  named = two.named;
  others = λ other n. two.others other n ∙ one.others other n;
  nodes = λ other. two.nodes other ∙ one.nodes other;
  indexes = λ other. two.indexes other ∙ one.indexes other;
  numbers = two.numbers ∙ one.numbers;
}

by_number : (table : ℕ) (tables : List StoredTable) → has_table tables table ≡ list_any (λ n. n == table) (numbers_of tables)
by_number table [] = refl
by_number table (t ∷ tables) = ap (λ (b : Bool). (t.number == table) || b) (by_number table tables)

pub still_there : (table : ℕ) (values : Values) (old new : List StoredTable) → HasLongValues table values old new → has_table old table ≡ true → has_table new table ≡ true
still_there table values old new has there = by_number table new ∙ ap (list_any (λ n. n == table)) has.numbers ∙ sym (by_number table old) ∙ there
