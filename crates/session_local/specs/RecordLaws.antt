-- Laws of records whose values stand under columns that take them.
use Rattle.std.proofs.Common.{◌≡◌, ℕ, zero, ◌+◌, ◌*◌, ◌≤◌, ◌==◌, Bool, true, false, cond, not, ◌&&◌, ◌||◌, List, [], ◌∷◌, length, map, filter, fold, Some, refl, ap, ◌∙◌, sum_by, arith}
use Rattle.std.specs.List.{list_all, list_any}
use Rattle.std.specs.Ordering.{nat_cmp}
use Rattle.std.specs.declared.cmp.Ordering.TheVariants.{Less, Equal, Greater}
use Rattle.std.specs.FinMap.{nat_cmp-IsAntisymmetric}
use Rattle.std.specs.FinMap.Entries.{put as put_entry, by_order}
use Rattle.std.proofs.lemmas.List.Sums.{sum_by-cons}
use Rattle.std.proofs.lemmas.Bool.{and_from, and_parts, not-true, or_parts}
use Rattle.common_lemmas.proofs.Lists.{all_filtered}
use Rattle.common_lemmas.proofs.Numbers.{self_equal, unequal_turned}
use Rattle.column_set.specs.declared.columns.Column.{Column}
use Rattle.column_set.specs.RecordValues.{RecordFields, with_values, column_of_id, value_fits, values_fit, size_of_values, record_size, stands_in}
use Rattle.database_state.specs.SchemaChanges.{is_type_long}
use Rattle.session_local.specs.RecordCalls.{with_sums_at_zero}
use Rattle.session_local.specs.SessionSide.{are_distinct}
use Rattle.session_local.specs.WellFormed.{number_of_column, is_sum, is_long_if_sum}
use Rattle.session_local.specs.FoundLaws.{taken}
use Rattle.session_local.specs.FittingLaws.{value_fits-zero}

-- ---- the values of a column

-- values that fit their column stand in it
pub stands-in : (columns : List Column) (id : ℕ) (column : Column) (values : List (List ℕ)) → column_of_id columns id ≡ Some column → values_fit column values ≡ true → stands_in columns (id, values) ≡ true
stands-in columns id column values found fit = taken columns (id, values) (Some column) found ∙ fit

all_put : (columns : List Column) (id : ℕ) (values : List (List ℕ)) (fields : RecordFields) → list_all (stands_in columns) fields ≡ true → stands_in columns (id, values) ≡ true → list_all (stands_in columns) (put_entry nat_cmp id values fields) ≡ true
all_put columns id values [] all one = rw one refl
all_put columns id values (field ∷ fields) all one =
    let parts : (stands_in columns field ≡ true) × (list_all (stands_in columns) fields ≡ true) = and_parts _ _ all in
    elim (nat_cmp id field.0) as (λ o. nat_cmp id field.0 ≡ o → list_all (stands_in columns) (by_order o ((id, values) ∷ field ∷ fields) ((field.0, values) ∷ fields) (field ∷ put_entry nat_cmp id values fields)) ≡ true) [
      | Less ↦ λ e. and_from (stands_in columns (id, values)) (list_all (stands_in columns) (field ∷ fields)) one all
      | Equal ↦ λ e. let same : id ≡ field.0 = nat_cmp-IsAntisymmetric id field.0 e in
          and_from (stands_in columns (field.0, values)) (list_all (stands_in columns) fields) (rw (← same) one) parts.1
      | Greater ↦ λ e. and_from (stands_in columns field) (list_all (stands_in columns) (put_entry nat_cmp id values fields)) parts.0 (all_put columns id values fields parts.1 one)
    ] refl

-- a record with other values that stand in their column
pub all_with_values : (columns : List Column) (fields : RecordFields) (id : ℕ) (values : List (List ℕ)) → list_all (stands_in columns) fields ≡ true → stands_in columns (id, values) ≡ true → list_all (stands_in columns) (with_values fields id values) ≡ true
all_with_values columns fields id [] all one = all_filtered (stands_in columns) (λ field. not (field.0 == id)) fields all
all_with_values columns fields id (value ∷ values) all one = all_put columns id (value ∷ values) fields all one

-- ---- sizes

size_put : (id : ℕ) (values : List (List ℕ)) (fields : RecordFields) → sum_by (λ field. size_of_values field.1) (put_entry nat_cmp id values fields) ≤ size_of_values values + sum_by (λ field. size_of_values field.1) fields
size_put id values [] = omega arith
size_put id values (field ∷ fields) =
    let room : ℕ × List (List ℕ) → ℕ = λ f. size_of_values f.1 in
    let old = sum_by-cons room field fields in
    elim (nat_cmp id field.0) as (λ o. sum_by (λ f. size_of_values f.1) (by_order o ((id, values) ∷ field ∷ fields) ((field.0, values) ∷ fields) (field ∷ put_entry nat_cmp id values fields)) ≤ size_of_values values + sum_by (λ f. size_of_values f.1) (field ∷ fields)) [
      | Less ↦ let new = sum_by-cons room (id, values) (field ∷ fields) in omega (arith, new)
      | Equal ↦ let new = sum_by-cons room (field.0, values) fields in omega (arith, old, new)
      | Greater ↦ let new = sum_by-cons room field (put_entry nat_cmp id values fields) in let rest = size_put id values fields in omega (arith, old, new, rest)
    ]

-- ---- sums at 0

abbrev zero_values : List (List ℕ)
zero_values = (0 ∷ 0 ∷ 0 ∷ 0 ∷ []) ∷ []

abbrev with_zeros : RecordFields → List Column → RecordFields
with_zeros fields sums = fold (λ made column. with_values made column.id.0 zero_values) fields sums

abbrev takes_zero : List Column → Column → Bool
takes_zero columns column = stands_in columns (column.id.0, zero_values)

all_zeros : (columns sums : List Column) (fields : RecordFields) → list_all (takes_zero columns) sums ≡ true → list_all (stands_in columns) fields ≡ true → list_all (stands_in columns) (with_zeros fields sums) ≡ true
all_zeros columns [] fields each all = all
all_zeros columns (sum ∷ sums) fields each all =
    let parts : (takes_zero columns sum ≡ true) × (list_all (takes_zero columns) sums ≡ true) = and_parts _ _ each in
    all_zeros columns sums (with_values fields sum.id.0 zero_values) parts.1 (all_with_values columns fields sum.id.0 zero_values all parts.0)

-- one column more, of another number
below_one_more : (x : Column) (columns sums : List Column) → list_all (takes_zero columns) sums ≡ true → list_any (λ other. other == x.id.0) (map number_of_column sums) ≡ false → list_all (takes_zero (x ∷ columns)) sums ≡ true
below_one_more x columns [] each none = refl
below_one_more x columns (sum ∷ sums) each none =
    let parts : (takes_zero columns sum ≡ true) × (list_all (takes_zero columns) sums ≡ true) = and_parts _ _ each in
    let apart : ((sum.id.0 == x.id.0) ≡ false) × (list_any (λ other. other == x.id.0) (map number_of_column sums) ≡ false) = or_parts _ _ none in
    let other : (x.id.0 == sum.id.0) ≡ false = unequal_turned sum.id.0 x.id.0 apart.0 in
    let past : column_of_id (x ∷ columns) sum.id.0 ≡ column_of_id columns sum.id.0 = ap (λ b. cond b (Some x) (column_of_id columns sum.id.0)) other in
    and_from (takes_zero (x ∷ columns) sum) (list_all (takes_zero (x ∷ columns)) sums)
    (taken (x ∷ columns) (sum.id.0, zero_values) (column_of_id columns sum.id.0) past ∙ parts.0)
    (below_one_more x columns sums parts.1 apart.1)

any_filtered : (number : ℕ) (columns : List Column) → list_any (λ other. other == number) (map number_of_column columns) ≡ false → list_any (λ other. other == number) (map number_of_column (filter is_sum columns)) ≡ false
any_filtered number [] none = refl
any_filtered number (x ∷ xs) none =
    let parts : ((x.id.0 == number) ≡ false) × (list_any (λ other. other == number) (map number_of_column xs) ≡ false) = or_parts _ _ none in
    elim (is_sum x) as (λ b. list_any (λ other. other == number) (map number_of_column (cond b (x ∷ filter is_sum xs) (filter is_sum xs))) ≡ false) [
      | true ↦ rw parts.0 (any_filtered number xs parts.1)
      | false ↦ any_filtered number xs parts.1
    ]

takes_its_zero : (x : Column) (columns : List Column) → is_long_if_sum x ≡ true → is_sum x ≡ true → takes_zero (x ∷ columns) x ≡ true
takes_its_zero x columns long sum =
    let kind : is_type_long x.kind ≡ true = rw sum at long in
    let zero : value_fits x.kind (0 ∷ 0 ∷ 0 ∷ 0 ∷ []) ≡ true = value_fits-zero x.kind kind in
    let fit : values_fit x zero_values ≡ true = rw zero (elim x.multi as (λ b. ((b || true) && true) ≡ true) [ true ↦ refl | false ↦ refl ]) in
    stands-in (x ∷ columns) x.id.0 x zero_values (rw (self_equal x.id.0) refl) fit

sums_take_zero : (columns : List Column) → are_distinct (map number_of_column columns) ≡ true → list_all is_long_if_sum columns ≡ true → list_all (takes_zero columns) (filter is_sum columns) ≡ true
sums_take_zero [] distinct long = refl
sums_take_zero (x ∷ xs) distinct long =
    let parts : (not (list_any (λ other. other == x.id.0) (map number_of_column xs)) ≡ true) × (are_distinct (map number_of_column xs) ≡ true) = and_parts _ _ distinct in
    let longs : (is_long_if_sum x ≡ true) × (list_all is_long_if_sum xs ≡ true) = and_parts _ _ long in
    let rest : list_all (takes_zero (x ∷ xs)) (filter is_sum xs) ≡ true =
    below_one_more x xs (filter is_sum xs) (sums_take_zero xs parts.1 longs.1) (any_filtered x.id.0 xs (not-true _ parts.0)) in
    elim (is_sum x) as (λ b. is_sum x ≡ b → list_all (takes_zero (x ∷ xs)) (cond b (x ∷ filter is_sum xs) (filter is_sum xs)) ≡ true) [
      | true ↦ λ e. and_from (takes_zero (x ∷ xs) x) (list_all (takes_zero (x ∷ xs)) (filter is_sum xs)) (takes_its_zero x xs longs.0 e) rest
      | false ↦ λ e. rest
    ] refl

size_zeros : (sums : List Column) (fields : RecordFields) → record_size (with_zeros fields sums) ≤ record_size fields + 9 * length sums
size_zeros [] fields = omega arith
size_zeros (sum ∷ sums) fields =
    let one = size_put sum.id.0 zero_values fields in
    let rest = size_zeros sums (with_values fields sum.id.0 zero_values) in
    omega (arith, one, rest)

-- a record of sums alone stands in its columns
pub sums_at_zero-stand : (columns : List Column) → are_distinct (map number_of_column columns) ≡ true → list_all is_long_if_sum columns ≡ true → list_all (stands_in columns) (with_sums_at_zero columns []) ≡ true
sums_at_zero-stand columns distinct long = all_zeros columns (filter is_sum columns) [] (sums_take_zero columns distinct long) refl

pub sums_at_zero-small : (columns : List Column) → length (filter is_sum columns) ≤ 127 → record_size (with_sums_at_zero columns []) ≤ 1700
sums_at_zero-small columns few = let size = size_zeros (filter is_sum columns) [] in omega (arith, size)
