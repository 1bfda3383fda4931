-- The record that a session sees, copied from the row that it is shown.
use Rattle.std.proofs.Common.{◌≡◌, ℕ, zero, suc, ◌+◌, ◌%◌, ◌^◌, ◌<◌, ◌≤◌, Bool, true, false, cond, not, ◌&&◌, ◌||◌, List, [], ◌∷◌, ◌++◌, length, map, take, get_or, fold, Option, Some, None, unwrap_or, refl, sym, ap, subst, ◌∙◌, arith}
use Rattle.std.specs.Prelude.{ℤ, ◌==◌, Result, Ok, Err, OnOk, is_ok, if◌then◌else◌, ltb, filter}
use Rattle.std.specs.Int.{w32, cast_unsigned, from_le_bytes, to_le_bytes}
use Rattle.std.specs.List.{list_all, list_any}
use Rattle.std.specs.Ordering.{nat_cmp}
use Rattle.std.specs.Cmp.{nat_cmp_total, unsigned_tied}
use Rattle.std.specs.declared.cmp.Ordering.TheVariants.{Less, Equal, Greater}
use Rattle.std.specs.Bool.{passes}
use Rattle.std.specs.FinMap.Entries.{by_order, find-put, is_sorted, is_sorted-put}
use Rattle.std.proofs.lemmas.Int.{of_z-to_z}
use Rattle.std.proofs.Math.Nat.{mod-eq_of_lt}
use Rattle.std.proofs.lemmas.List.{take_all}
use Rattle.std.proofs.lemmas.List.Folds.{list_any_more}
use Rattle.std.proofs.lemmas.Bool.{and_from, eqb-true}
use Rattle.common_lemmas.proofs.Booleans.{and_left, and_right, impossible, is_true}
use Rattle.common_lemmas.proofs.Numbers.{equal_turned, self_equal}
use Rattle.column_set.specs.declared.columns.Column.{Column}
use Rattle.column_set.specs.Record.{is_record}
use Rattle.column_set.specs.RecordValues.{RecordFields, column_of_id, lookup_by_number, put_by_number, values_of, with_values}
use Rattle.database_state.specs.Changes.{escrow_bytes, escrow_sum, with_sum}
use Rattle.index_derive.specs.declared.rules.Schema.{Schema}
use Rattle.index_derive.specs.Entries.{is_escrow_column}
use Rattle.session_local.specs.RecordCalls.{with_sums_at_zero}
use Rattle.session_local.specs.SessionSide.{are_distinct}
use Rattle.session_local.specs.WellFormed.{number_of_column}
use Rattle.laws_versions.specs.EscrowNumbers.{holds_number}
use Rattle.laws_versions.specs.EscrowSums.{escrow_value, with_sums}
use Rattle.laws_versions.proofs.SumLemmas.VeryRecords.{number_below, number_read, one_value}
use Rattle.engine_parts.specs.Reading.{IsRowOf}
use Rattle.record_decisions.proofs.CopiedValues.{same_record}

-- ---- what stays a record

all_put : (p : ℕ × List (List ℕ) → Bool) (column : ℕ) (values : List (List ℕ)) → ((number : ℕ) → p (number, values) ≡ true) → (fields : RecordFields) → list_all p fields ≡ true → list_all p (put_by_number column values fields) ≡ true
all_put p column values h [] all = and_from _ _ (h column) refl
all_put p column values h (field ∷ fields) all =
    elim (nat_cmp column field.0) as (λ o. list_all p (by_order o ((column, values) ∷ field ∷ fields) ((field.0, values) ∷ fields) (field ∷ put_by_number column values fields)) ≡ true) [
      | Less ↦ and_from _ _ (h column) all
      | Equal ↦ and_from _ _ (h field.0) (and_right (p field) (list_all p fields) all)
      | Greater ↦ and_from _ _ (and_left (p field) (list_all p fields) all) (all_put p column values h fields (and_right (p field) (list_all p fields) all))
    ]

sum_formed : (fields : RecordFields) (column : ℕ) (amount : ℤ) → is_record fields ≡ true → is_record (with_sum fields column amount) ≡ true
sum_formed fields column amount h =
    and_from _ _
    (is_true _ (is_sorted-put nat_cmp nat_cmp_total column (escrow_sum (escrow_bytes fields column) amount ∷ []) fields (passes _ (and_left (is_sorted nat_cmp fields) _ h))))
    (all_put (λ field. ltb 0 (length field.1)) column (escrow_sum (escrow_bytes fields column) amount ∷ []) (λ number. refl) fields (and_right (is_sorted nat_cmp fields) _ h))

-- sums leave a record
pub sums_formed : (fields : RecordFields) (sums : List (ℕ × ℤ)) → is_record fields ≡ true → is_record (with_sums fields sums) ≡ true
sums_formed fields [] h = h
sums_formed fields (sum ∷ sums) h = sums_formed (with_sum fields sum.0 sum.1) sums (sum_formed fields sum.0 sum.1 h)

-- ---- the number that is put

-- the one value of an escrow column is that of its number
pub value_is : (values : RecordFields) (column : ℕ) → holds_number values column ≡ true → to_le_bytes w32 (cast_unsigned w32 (escrow_value values column)) ∷ [] ≡ values_of values column
value_is values column h =
    let one = one_value values column h in
    let bytes = escrow_bytes values column in
    ap (λ (n : ℕ). to_le_bytes w32 n ∷ []) (of_z-to_z w32 (from_le_bytes w32 bytes % 2 ^ 32) (small (from_le_bytes w32 bytes)) ∙ mod-eq_of_lt (number_below bytes one.1))
    ∙ ap (λ (v : List ℕ). v ∷ []) (number_read bytes one.1)
    ∙ sym (ap (λ (o : Option (List (List ℕ))). unwrap_or o []) one.0)
  where
    small : (n : ℕ) → n % 4294967296 < 4294967296
    small n = omega arith

-- ---- a column more

-- whether the number is that of an escrow column
abbrev pub is_sum_of : List Column → ℕ → Bool
is_sum_of columns number = list_any (λ column. column.escrow && (number_of_column column == number)) columns

-- The columns so far are as the session sees them, if they are sums.
abbrev pub SumsPut : List Column → RecordFields → RecordFields → RecordFields → Type 0
SumsPut columns row seen made = (number : ℕ) → values_of made number ≡ cond (is_sum_of columns number) (values_of seen number) (values_of row number)

put_values : (fields : RecordFields) (column number : ℕ) (value : List ℕ) (values : List (List ℕ)) → values_of (with_values fields column (value ∷ values)) number ≡ cond (number == column) (value ∷ values) (values_of fields number)
put_values fields column number value values =
    ap (λ (o : Option (List (List ℕ))). unwrap_or o []) (find-put nat_cmp nat_cmp_total number column (value ∷ values) fields ∙ ap (λ b. cond b (Some (value ∷ values)) (lookup_by_number number fields)) (unsigned_tied number column))
    ∙ elim (number == column) as (λ b. unwrap_or (cond b (Some (value ∷ values)) (lookup_by_number number fields)) [] ≡ cond b (value ∷ values) (values_of fields number)) [ true ↦ refl | false ↦ refl ]

-- what each column has after the number of an escrow column was put
sum_put : (made seen : RecordFields) (column number : ℕ) → holds_number seen column ≡ true → values_of (with_values made column (values_of seen column)) number ≡ cond (number == column) (values_of seen number) (values_of made number)
sum_put made seen column number h =
    ap (λ (values : List (List ℕ)). values_of (with_values made column values) number) (sym (value_is seen column h))
    ∙ put_values made column number bytes []
    ∙ elim (number == column) as (λ b. (number == column) ≡ b → cond b (bytes ∷ []) (values_of made number) ≡ cond b (values_of seen number) (values_of made number)) [
      | true ↦ λ e. value_is seen column h ∙ ap (values_of seen) (sym (eqb-true number column e))
      | false ↦ λ e. refl
    ] refl
  where
    bytes : List ℕ
    bytes = to_le_bytes w32 (cast_unsigned w32 (escrow_value seen column))

more : (columns : List Column) (i : ℕ) (column : Column) (number : ℕ) → i < length columns → column ≡ get_or columns i column
    → is_sum_of (take (i + 1) columns) number ≡ (is_sum_of (take i columns) number || (column.escrow && (number_of_column column == number)))
more columns i column number low is =
    list_any_more (λ c. c.escrow && (number_of_column c == number)) columns i column low ∙ ap (λ (c : Column). is_sum_of (take i columns) number || (c.escrow && (number_of_column c == number))) (sym is)

pub sum-more : (columns : List Column) (i : ℕ) (column : Column) (made new row seen : RecordFields) → holds_number seen (number_of_column column) ≡ true → column.escrow ≡ true → i < length columns → column ≡ get_or columns i column
    → SumsPut (take i columns) row seen made → new ≡ with_values made (number_of_column column) (values_of seen (number_of_column column)) → SumsPut (take (i + 1) columns) row seen new
sum-more columns i column made new row seen h sum low is had put number =
    ap (λ (f : RecordFields). values_of f number) put
    ∙ sum_put made seen (number_of_column column) number h
    ∙ ap (λ (values : List (List ℕ)). cond (number == number_of_column column) (values_of seen number) values) (had number)
    ∙ by (is_sum_of (take i columns) number) (number == number_of_column column)
    ∙ ap (λ b. cond b (values_of seen number) (values_of row number)) (ap (λ b. is_sum_of (take i columns) number || b) (equal_turned number (number_of_column column) ∙ sym (ap (λ b. b && (number_of_column column == number)) sum)) ∙ sym (more columns i column number low is))
  where
    by : (a b : Bool) → cond b (values_of seen number) (cond a (values_of seen number) (values_of row number)) ≡ cond (a || b) (values_of seen number) (values_of row number)
    by true true = refl
    by true false = refl
    by false true = refl
    by false false = refl

pub plain-more : (columns : List Column) (i : ℕ) (column : Column) (made row seen : RecordFields) → column.escrow ≡ false → i < length columns → column ≡ get_or columns i column
    → SumsPut (take i columns) row seen made → SumsPut (take (i + 1) columns) row seen made
plain-more columns i column made row seen plain low is had number =
    had number
    ∙ ap (λ b. cond b (values_of seen number) (values_of row number)) (sym (more columns i column number low is ∙ ap (λ b. is_sum_of (take i columns) number || (b && (number_of_column column == number))) plain ∙ neither (is_sum_of (take i columns) number)))
  where
    neither : (a : Bool) → (a || false) ≡ a
    neither true = refl
    neither false = refl

-- ---- columns by number

among : (columns : List Column) (number : ℕ) → is_sum_of columns number ≡ true → list_any (λ other. other == number) (map number_of_column columns) ≡ true
among [] number h = impossible h
among (c ∷ columns) number h = by c.escrow (number_of_column c == number) h (among columns number)
  where
    by : (a b : Bool) → ((a && b) || is_sum_of columns number) ≡ true → (is_sum_of columns number ≡ true → list_any (λ other. other == number) (map number_of_column columns) ≡ true) → (b || list_any (λ other. other == number) (map number_of_column columns)) ≡ true
    by a true h rest = refl
    by true false h rest = rest h
    by false false h rest = rest h

-- where no two columns have one number
pub escrow_is : (columns : List Column) (number : ℕ) → are_distinct (map number_of_column columns) ≡ true → elim (column_of_id columns number) [ Some c ↦ c.escrow | None ↦ false ] ≡ is_sum_of columns number
escrow_is [] number distinct = refl
escrow_is (c ∷ columns) number distinct =
    elim (number_of_column c == number) as (λ b. (number_of_column c == number) ≡ b → elim (cond b (Some c) (column_of_id columns number)) [ Some c ↦ c.escrow | None ↦ false ] ≡ ((c.escrow && b) || is_sum_of columns number)) [
      | true ↦ λ e. only c.escrow (is_sum_of columns number) (fresh e)
      | false ↦ λ e. escrow_is columns number (and_right _ _ distinct) ∙ none c.escrow
    ] refl
  where
    only : (a b : Bool) → b ≡ false → a ≡ ((a && true) || b)
    only true b e = refl
    only false b e = sym e

    none : (a : Bool) → is_sum_of columns number ≡ ((a && false) || is_sum_of columns number)
    none true = refl
    none false = refl

    refuted : (b : Bool) → (b ≡ true → ⊥) → b ≡ false
    refuted true f = absurd (f refl)
    refuted false f = refl

    never : true ≡ false → ⊥
    never e = cc

    denied : (b : Bool) → not b ≡ true → b ≡ false
    denied false e = refl
    denied true e = impossible e

    fresh : (number_of_column c == number) ≡ true → is_sum_of columns number ≡ false
    fresh e = refuted (is_sum_of columns number) (λ h.
        never (sym (among columns number h) ∙ ap (λ n. list_any (λ other. other == n) (map number_of_column columns)) (sym (eqb-true (number_of_column c) number e))
        ∙ denied (list_any (λ other. other == number_of_column c) (map number_of_column columns)) (and_left _ _ distinct)))

at_sum : (columns : List Column) (i : ℕ) (column : Column) → column.escrow ≡ true → i < length columns → column ≡ get_or columns i column → is_sum_of columns (number_of_column column) ≡ true
at_sum [] i column sum low is = absurd (omega (arith, low))
at_sum (first ∷ columns) zero column sum low is =
    ap (λ (c : Column). (c.escrow && (number_of_column c == number_of_column column)) || is_sum_of columns (number_of_column column)) (sym is)
    ∙ ap (λ b. (b && (number_of_column column == number_of_column column)) || is_sum_of columns (number_of_column column)) sum
    ∙ ap (λ b. b || is_sum_of columns (number_of_column column)) (self_equal (number_of_column column))
at_sum (first ∷ columns) (suc i) column sum low is = either (first.escrow && (number_of_column first == number_of_column column)) _ (at_sum columns i column sum (omega (arith, low)) is)
  where
    either : (a b : Bool) → b ≡ true → (a || b) ≡ true
    either true b e = refl
    either false b e = e

pub escrow_at : (schema : Schema) (i : ℕ) (column : Column) → are_distinct (map number_of_column schema.columns) ≡ true → column.escrow ≡ true → i < length schema.columns → column ≡ get_or schema.columns i column → is_escrow_column schema (number_of_column column) ≡ true
escrow_at schema i column distinct sum low is = escrow_is schema.columns (number_of_column column) distinct ∙ at_sum schema.columns i column sum low is

pub escrow_in : (schema : Schema) (columns : List Column) → columns ≡ schema.columns → (i : ℕ) (column : Column) → are_distinct (map number_of_column schema.columns) ≡ true → column.escrow ≡ true → i < length columns → column ≡ get_or columns i column
    → is_escrow_column schema (number_of_column column) ≡ true
escrow_in schema columns same i column distinct sum low is =
    escrow_at schema i column distinct sum (subst (λ (cs : List Column). i < length cs) same low) (subst (λ (cs : List Column). column ≡ get_or cs i column) same is)

-- what is put where there is memory
pub put-done : {A E : Type 0} (result : Result A E) (new old : RecordFields) (column : ℕ) (value : List ℕ) (values : List (List ℕ)) → new ≡ (if is_ok result then with_values old column (value ∷ []) else old) → value ∷ [] ≡ values
    → OnOk result (new ≡ with_values old column values)
put-done (Ok done) new old column value values is same = is ∙ ap (λ (v : List (List ℕ)). with_values old column v) same
put-done (Err fault) new old column value values is same = tt

-- ---- all columns

pub all-seen : (schema : Schema) (amounts : ℕ → List ℤ) (i : ℕ) (made row seen : RecordFields) → are_distinct (map number_of_column schema.columns) ≡ true → IsRowOf schema amounts row seen → is_record seen ≡ true → is_record made ≡ true → length schema.columns ≤ i
    → SumsPut (take i schema.columns) row seen made → made ≡ seen
all-seen schema amounts i made row seen distinct is formed well past had =
    same_record made seen well formed
    (λ number. had number ∙ ap (λ (cs : List Column). cond (is_sum_of cs number) (values_of seen number) (values_of row number)) (take_all i schema.columns past) ∙ by number (is_sum_of schema.columns number) refl)
  where
    by : (number : ℕ) (b : Bool) → is_sum_of schema.columns number ≡ b → cond b (values_of seen number) (values_of row number) ≡ values_of seen number
    by number true e = refl
    by number false e = sym (is.plain number (escrow_is schema.columns number distinct ∙ e))

-- ---- sums at zero

abbrev pub with_zero : Column → RecordFields → RecordFields
with_zero column fields = cond column.escrow (with_values fields column.id.0 ((0 ∷ 0 ∷ 0 ∷ 0 ∷ []) ∷ [])) fields

zeros_push : (columns : List Column) (column : Column) (fields : RecordFields) → with_sums_at_zero (columns ++ column ∷ []) fields ≡ with_zero column (with_sums_at_zero columns fields)
zeros_push [] column fields = elim column.escrow as (λ b. fold (λ made c. with_values made c.id.0 ((0 ∷ 0 ∷ 0 ∷ 0 ∷ []) ∷ [])) fields (cond b (column ∷ []) []) ≡ cond b (with_values fields column.id.0 ((0 ∷ 0 ∷ 0 ∷ 0 ∷ []) ∷ [])) fields) [ true ↦ refl | false ↦ refl ]
zeros_push (x ∷ xs) column fields =
    elim x.escrow as (λ b. fold (λ made c. with_values made c.id.0 ((0 ∷ 0 ∷ 0 ∷ 0 ∷ []) ∷ [])) fields (cond b (x ∷ filter (λ c. c.escrow) (xs ++ column ∷ [])) (filter (λ c. c.escrow) (xs ++ column ∷ [])))
    ≡ with_zero column (fold (λ made c. with_values made c.id.0 ((0 ∷ 0 ∷ 0 ∷ 0 ∷ []) ∷ [])) fields (cond b (x ∷ filter (λ c. c.escrow) xs) (filter (λ c. c.escrow) xs)))) [
      | true ↦ zeros_push xs column (with_values fields x.id.0 ((0 ∷ 0 ∷ 0 ∷ 0 ∷ []) ∷ []))
      | false ↦ zeros_push xs column fields
    ]
