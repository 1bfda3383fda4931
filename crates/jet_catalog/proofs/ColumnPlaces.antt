-- The place of a new column, where the last column that does not come behind it was looked for.
use Rattle.std.proofs.Common.{◌≡◌, ℕ, ◌+◌, ◌<◌, Bool, true, false, ◌&&◌, cond, zero, suc, List, [], ◌∷◌, length, get_or, refl, sym, ap, ◌∙◌, arith, add-one}
use Rattle.std.specs.Prelude.{nat_le, nat_lt}
use Rattle.std.specs.List.{list_all, insert}
use Rattle.std.proofs.lemmas.Bool.Decides.{nat_tests}
use Rattle.column_set.specs.declared.columns.Column.{Column}
use Rattle.database_state.specs.SchemaChanges.{columns_with}

-- whether the column has a greater number
abbrev is_behind : Column → Column → Bool
is_behind column c = nat_lt column.id.0 c.id.0

not_above : (n m : ℕ) → nat_le m n ≡ false → nat_lt n m ≡ true
not_above n m h = grind (arith, nat_tests)

at_most : (n m : ℕ) → nat_le m n ≡ true → nat_lt n m ≡ false
at_most n m h = grind (arith, nat_tests)

and_false : (a b : Bool) → b ≡ false → (a && b) ≡ false
and_false true b h = h
and_false false b h = refl

all_behind : (column : Column) (columns : List Column) (d : Column) → ((k : ℕ) → k < length columns → nat_le (get_or columns k d).id.0 column.id.0 ≡ false) → list_all (is_behind column) columns ≡ true
all_behind column [] d each = refl
all_behind column (c ∷ columns) d each =
    rw (not_above column.id.0 c.id.0 (each 0 (omega arith))) (all_behind column columns d (λ k lt. each (suc k) (omega (arith, lt))))

-- some column does not come behind it
not_all : (column : Column) (columns : List Column) (place : ℕ) (d : Column) → place < length columns → nat_le (get_or columns place d).id.0 column.id.0 ≡ true → list_all (is_behind column) columns ≡ false
not_all column [] place d within low = absurd (omega (arith, within))
not_all column (c ∷ columns) zero d within low = rw (at_most column.id.0 c.id.0 low) refl
not_all column (c ∷ columns) (suc place) d within low =
    and_false (is_behind column c) (list_all (is_behind column) columns) (not_all column columns place d (omega (arith, within)) low)

pub placed_first : (column : Column) (columns : List Column) (d : Column) → ((k : ℕ) → k < length columns → nat_le (get_or columns k d).id.0 column.id.0 ≡ false) → insert columns 0 column ≡ columns_with column columns
placed_first column [] d each = refl
placed_first column (c ∷ columns) d each =
    ap (λ b. cond b (column ∷ c ∷ columns) (c ∷ columns_with column columns)) (sym (all_behind column (c ∷ columns) d each))

placed : (column : Column) (columns : List Column) (place : ℕ) (d : Column) → place < length columns → nat_le (get_or columns place d).id.0 column.id.0 ≡ true
    → ((k : ℕ) → place < k → k < length columns → nat_le (get_or columns k d).id.0 column.id.0 ≡ false) → insert columns (suc place) column ≡ columns_with column columns
placed column [] place d within low after = absurd (omega (arith, within))
placed column (c ∷ columns) zero d within low after =
    ap (λ rest. c ∷ rest) (placed_first column columns d (λ k lt. after (suc k) (omega arith) (omega (arith, lt))))
    ∙ ap (λ b. cond b (column ∷ c ∷ columns) (c ∷ columns_with column columns)) (sym (not_all column (c ∷ columns) 0 d within low))
placed column (c ∷ columns) (suc place) d within low after =
    ap (λ rest. c ∷ rest) (placed column columns place d (omega (arith, within)) low (λ k more lt. after (suc k) (omega (arith, more)) (omega (arith, lt))))
    ∙ ap (λ b. cond b (column ∷ c ∷ columns) (c ∷ columns_with column columns)) (sym (not_all column (c ∷ columns) (suc place) d within low))

pub placed_behind : (column : Column) (columns : List Column) (place : ℕ) (d : Column) → place < length columns → nat_le (get_or columns place d).id.0 column.id.0 ≡ true
    → ((k : ℕ) → place < k → k < length columns → nat_le (get_or columns k d).id.0 column.id.0 ≡ false) → insert columns (place + 1) column ≡ columns_with column columns
placed_behind column columns place d within low after = ap (λ n. insert columns n column) (add-one place) ∙ placed column columns place d within low after
