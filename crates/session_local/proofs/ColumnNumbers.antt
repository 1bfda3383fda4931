-- The numbers of columns, and whether no two are one.
use Rattle.std.proofs.Common.{◌≡◌, ℕ, suc, ◌≤◌, ◌==◌, Bool, not, ◌&&◌, ◌||◌, List, [], ◌∷◌, length, map, refl, sym, ap, ◌∙◌, get_or, take, drop, ◌-◌, arith}
use Rattle.std.specs.List.{list_any}
use Rattle.column_set.specs.declared.columns.Column.{Column}
use Rattle.session_local.specs.SessionSide.{are_distinct}
use Rattle.session_local.specs.WellFormed.{number_of_column}

pub any_numbers : (number : ℕ) (columns : List Column) → list_any (λ other. other == number) (map number_of_column columns) ≡ list_any (λ column. column.id.0 == number) columns
any_numbers number [] = refl
any_numbers number (x ∷ xs) = ap (λ b. (x.id.0 == number) || b) (any_numbers number xs)

-- the columns behind the first, as the code has them
abbrev pub behind : List Column → List Column
behind columns = take (length columns - 1) (drop 1 columns)

behind-cons : (x : Column) (xs : List Column) → behind (x ∷ xs) ≡ xs
behind-cons x xs = let e : suc (length xs) - 1 ≡ length xs = omega arith in ap (λ n. take n xs) e ∙ whole xs
  where
    whole : (xs : List Column) → take (length xs) xs ≡ xs
    whole [] = refl
    whole (x ∷ xs) = ap (λ cs. x ∷ cs) (whole xs)

pub distinct_cons : (columns : List Column) (first : Column) (again : Bool) → 1 ≤ length columns → first ≡ get_or columns 0 first → again ≡ list_any (λ column. column.id.0 == first.id.0) (behind columns) → are_distinct (map number_of_column columns) ≡ (not again && are_distinct (map number_of_column (behind columns)))
distinct_cons [] first again some is told = absurd (omega (arith, some))
distinct_cons (x ∷ xs) first again some is told =
    let any : list_any (λ other. other == x.id.0) (map number_of_column xs) ≡ again =
    any_numbers x.id.0 xs
    ∙ ap (λ (c : Column). list_any (λ column. column.id.0 == c.id.0) xs) (sym is)
    ∙ ap (λ (cs : List Column). list_any (λ column. column.id.0 == first.id.0) cs) (sym (behind-cons x xs))
    ∙ sym told in
    ap (λ b. not b && are_distinct (map number_of_column xs)) any ∙ ap (λ (cs : List Column). not again && are_distinct (map number_of_column cs)) (sym (behind-cons x xs))
