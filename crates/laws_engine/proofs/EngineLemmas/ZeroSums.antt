-- Sums in prepared records: they begin at 0 in a new record and in a copy, and no other column that is set changes them.
use Rattle.std.proofs.Common.{◌≡◌, ℕ, ◌+◌, ◌≤◌, Bool, true, false, not, ◌&&◌, ◌||◌, cond, List, [], ◌∷◌, map, fold, length, Option, Some, None, refl, sym, ap, subst, ◌∙◌, bytes_eq}
use Rattle.std.specs.Prelude.{◌==◌, filter, find, nat_lt, slice_get, sum_by, unwrap_or}
use Rattle.std.specs.List.{list_all, list_any}
use Rattle.std.specs.Cmp.{nat_cmp_total, unsigned_tied}
use Rattle.std.specs.FinMap.Entries.{find-put, find-where_key}
use Rattle.std.specs.Ordering.{is_eq, nat_cmp}
use Rattle.std.proofs.lemmas.Bool.{and_from, eqb-true, not-true}
use Rattle.common_lemmas.proofs.Numbers.{self_equal, unequal_turned}
use Rattle.common_lemmas.proofs.Booleans.{and_left, and_right, impossible}
use Rattle.common_lemmas.proofs.Lists.{all_stronger}
use Rattle.jet_base.specs.declared.words.ColType.{ColType}
use Rattle.jet_base.specs.declared.words.ColType.TheVariants as kind
use Rattle.column_set.specs.declared.columns.Column.{Column}
use Rattle.column_set.specs.RecordValues.{RecordFields, column_of_id, has_value, is_kept_column, lookup_by_number, size_of_length, size_of_values, value_fits, values_fit, values_of, with_values}
use Rattle.index_derive.specs.declared.rules.Schema.{Schema}
use Rattle.index_derive.specs.Entries.{is_escrow_column}
use Rattle.database_state.specs.Changes.{escrow_bytes}
use Rattle.database_state.specs.Lawful.{keeps_escrow}
use Rattle.database_state.specs.SchemaChanges.{is_type_long}
use Rattle.laws_versions.proofs.ChangeLemmas.Tests.{or_first, or_second}
use Rattle.laws_versions.specs.EscrowNumbers.{is_number, is_one_number}
use Rattle.laws_versions.proofs.SumLemmas.Puts.{all_put, sum_put}
use Rattle.laws_versions.proofs.SumLemmas.VeryRecords.{one_value}
use Rattle.laws_versions.proofs.RecordLemmas.StoredSums.{IsStoredWithNumbers}
use Rattle.session_local.specs.RecordCalls.{with_sums_at_zero}
use Rattle.session_local.specs.SessionSide.{are_distinct}
use Rattle.session_local.specs.WellFormed.{is_sum, number_of_column}
use Rattle.laws_engine.proofs.AgreeingLemmas.RisingColumns.{values_rise}
use Rattle.session_local.specs.BuiltTables.{is_built_column, is_built_sum}
use Rattle.laws_engine.proofs.EngineLemmas.BuiltColumns.{its_kind, not_numbered}

-- ---- tests of all columns

pub both_mono : (p q r : Column → Bool) → ((c : Column) → p c ≡ true → q c ≡ true → r c ≡ true) → (xs : List Column) → list_all p xs ≡ true → list_all q xs ≡ true → list_all r xs ≡ true
both_mono p q r more [] h g = refl
both_mono p q r more (x ∷ xs) h g = and_from (r x) (list_all r xs) (more x (and_left (p x) (list_all p xs) h) (and_left (q x) (list_all q xs) g)) (both_mono p q r more xs (and_right (p x) (list_all p xs) h) (and_right (q x) (list_all q xs) g))

-- the columns that the engine keeps up are the sums, where all are built
pub all_kept : (values : RecordFields) (columns : List Column) → list_all is_built_column columns ≡ true → list_all (λ c. not c.escrow || has_value values c.id.0) columns ≡ true → list_all (λ c. not (is_kept_column c) || has_value values c.id.0) columns ≡ true
all_kept values = both_mono is_built_column (λ c. not c.escrow || has_value values c.id.0) (λ c. not (is_kept_column c) || has_value values c.id.0) (λ c b h. by c.escrow c.version c.auto (has_value values c.id.0) (not_numbered c (its_kind c b)) h)
  where
    by : (e v a h : Bool) → (v || a) ≡ false → (not e || h) ≡ true → (not (e || v || a) || h) ≡ true
    by true false false h f g = g
    by false false false h f g = refl
    by e true a h f g = impossible (sym f)
    by e false true h f g = impossible (sym f)

pub sums_kept : (values : RecordFields) (columns : List Column) → list_all (λ c. not (is_kept_column c) || has_value values c.id.0) columns ≡ true → list_all (λ c. not c.escrow || has_value values c.id.0) columns ≡ true
sums_kept values = all_stronger (λ c. not (is_kept_column c) || has_value values c.id.0) (λ c. not c.escrow || has_value values c.id.0) (λ c h. by c.escrow c.version c.auto (has_value values c.id.0) h)
  where
    by : (e v a h : Bool) → (not (e || v || a) || h) ≡ true → (not e || h) ≡ true
    by false v a h g = refl
    by true v a h g = g

-- ---- sums at 0

abbrev zeros : List (List ℕ)
zeros = (0 ∷ 0 ∷ 0 ∷ 0 ∷ []) ∷ []

abbrev with_zeros : RecordFields → List Column → RecordFields
with_zeros fields sums = fold (λ (fields : RecordFields) (column : Column). with_values fields column.id.0 ((0 ∷ 0 ∷ 0 ∷ 0 ∷ []) ∷ [])) fields sums

put_seen : (fields : RecordFields) (c d : ℕ) (value : List ℕ) (values : List (List ℕ)) → values_of (with_values fields c (value ∷ values)) d ≡ cond (d == c) (value ∷ values) (values_of fields d)
put_seen fields c d value values =
    ap (λ found. unwrap_or found []) (find-put nat_cmp nat_cmp_total d c (value ∷ values) fields)
    ∙ ap (λ b. unwrap_or (cond b (Some (value ∷ values)) (lookup_by_number d fields)) []) (unsigned_tied d c)
    ∙ elim (d == c) as (λ b. unwrap_or (cond b (Some (value ∷ values)) (lookup_by_number d fields)) [] ≡ cond b (value ∷ values) (values_of fields d)) [ true ↦ refl | false ↦ refl ]

zeros_seen : (sums : List Column) (fields : RecordFields) (d : ℕ) → values_of (with_zeros fields sums) d ≡ cond (list_any (λ c. d == c.id.0) sums) zeros (values_of fields d)
zeros_seen [] fields d = refl
zeros_seen (c ∷ sums) fields d =
    zeros_seen sums (with_values fields c.id.0 zeros) d
    ∙ ap (λ (v : List (List ℕ)). cond (list_any (λ c. d == c.id.0) sums) zeros v) (put_seen fields c.id.0 d (0 ∷ 0 ∷ 0 ∷ 0 ∷ []) [])
    ∙ joined (d == c.id.0) (list_any (λ c. d == c.id.0) sums)
  where
    joined : (a b : Bool) → cond b zeros (cond a zeros (values_of fields d)) ≡ cond (a || b) zeros (values_of fields d)
    joined true true = refl
    joined true false = refl
    joined false b = refl

-- each sum is among the sums
among_sums : (columns : List Column) → list_all (λ c. not c.escrow || list_any (λ o. c.id.0 == o.id.0) (filter is_sum columns)) columns ≡ true
among_sums [] = refl
among_sums (x ∷ xs) = and_from _ _ itself (all_stronger (λ c. not c.escrow || list_any (λ o. c.id.0 == o.id.0) (filter is_sum xs)) (λ c. not c.escrow || list_any (λ o. c.id.0 == o.id.0) (filter is_sum (x ∷ xs))) more xs (among_sums xs))
  where
    itself : (not x.escrow || list_any (λ o. x.id.0 == o.id.0) (filter is_sum (x ∷ xs))) ≡ true
    itself = elim x.escrow as (λ b. (not b || list_any (λ o. x.id.0 == o.id.0) (cond b (x ∷ filter is_sum xs) (filter is_sum xs))) ≡ true) [
      | true ↦ ap (λ t. t || list_any (λ o. x.id.0 == o.id.0) (filter is_sum xs)) (self_equal x.id.0)
      | false ↦ refl
    ]

    either : (a b r : Bool) → (a || r) ≡ true → (a || (b || r)) ≡ true
    either true b r h = refl
    either false true r h = refl
    either false false r h = h

    more : (c : Column) → (not c.escrow || list_any (λ o. c.id.0 == o.id.0) (filter is_sum xs)) ≡ true → (not c.escrow || list_any (λ o. c.id.0 == o.id.0) (filter is_sum (x ∷ xs))) ≡ true
    more c h = elim x.escrow as (λ b. (not c.escrow || list_any (λ o. c.id.0 == o.id.0) (cond b (x ∷ filter is_sum xs) (filter is_sum xs))) ≡ true) [
      | true ↦ either (not c.escrow) (c.id.0 == x.id.0) (list_any (λ o. c.id.0 == o.id.0) (filter is_sum xs)) h
      | false ↦ h
    ]

-- so each has what zeros have
zeros_have : (has : List (List ℕ) → Bool) → has zeros ≡ true → (columns : List Column) (fields : RecordFields) → list_all (λ c. not c.escrow || has (values_of (with_sums_at_zero columns fields) c.id.0)) columns ≡ true
zeros_have has zero columns fields =
    all_stronger (λ c. not c.escrow || list_any (λ o. c.id.0 == o.id.0) (filter is_sum columns)) (λ c. not c.escrow || has (values_of (with_sums_at_zero columns fields) c.id.0)) at columns (among_sums columns)
  where
    at : (c : Column) → (not c.escrow || list_any (λ o. c.id.0 == o.id.0) (filter is_sum columns)) ≡ true → (not c.escrow || has (values_of (with_sums_at_zero columns fields) c.id.0)) ≡ true
    at c h = elim c.escrow as (λ b. (not b || list_any (λ o. c.id.0 == o.id.0) (filter is_sum columns)) ≡ true → (not b || has (values_of (with_sums_at_zero columns fields) c.id.0)) ≡ true) [
      | true ↦ λ any. ap has (zeros_seen (filter is_sum columns) fields c.id.0 ∙ ap (λ b. cond b zeros (values_of fields c.id.0)) any) ∙ zero
      | false ↦ λ any. refl
    ] h

pub zeros_kept : (columns : List Column) (fields : RecordFields) → keeps_escrow columns None (with_sums_at_zero columns fields) ≡ true
zeros_kept columns fields = zeros_have (λ (v : List (List ℕ)). bytes_eq (unwrap_or (slice_get v 0) (0 ∷ 0 ∷ 0 ∷ 0 ∷ [])) (0 ∷ 0 ∷ 0 ∷ 0 ∷ [])) refl columns fields

pub zeros_there : (columns : List Column) (fields : RecordFields) → list_all (λ c. not c.escrow || has_value (with_sums_at_zero columns fields) c.id.0) columns ≡ true
zeros_there columns fields = zeros_have (λ (v : List (List ℕ)). nat_lt 0 (length v)) refl columns fields

-- ---- a copy

pub none_same : (n : ℕ) (xs : List Column) → list_any (λ other. other == n) (map number_of_column xs) ≡ false → list_all (λ c. not (c.id.0 == n)) xs ≡ true
none_same n [] h = refl
none_same n (x ∷ xs) h = and_from _ _ (ap not (or_first (x.id.0 == n) _ h)) (none_same n xs (or_second (x.id.0 == n) _ h))

-- the number of each sum is that of an escrow column
abbrev is_escrow : Option Column → Bool
is_escrow found = elim found [ Some column ↦ column.escrow | None ↦ false ]

own_sums : (columns : List Column) → are_distinct (map number_of_column columns) ≡ true → list_all (λ c. not c.escrow || is_escrow (column_of_id columns c.id.0)) columns ≡ true
own_sums [] distinct = refl
own_sums (x ∷ xs) distinct =
    and_from _ _ itself
    (both_mono (λ c. not (c.id.0 == x.id.0)) (λ c. not c.escrow || is_escrow (column_of_id xs c.id.0)) (λ c. not c.escrow || is_escrow (column_of_id (x ∷ xs) c.id.0)) more xs
    (none_same x.id.0 xs (not-true _ (and_left _ _ distinct))) (own_sums xs (and_right _ _ distinct)))
  where
    itself : (not x.escrow || is_escrow (column_of_id (x ∷ xs) x.id.0)) ≡ true
    itself = ap (λ b. not x.escrow || is_escrow (cond b (Some x) (column_of_id xs x.id.0))) (self_equal x.id.0) ∙ excluded x.escrow
      where
        excluded : (b : Bool) → (not b || b) ≡ true
        excluded true = refl
        excluded false = refl

    more : (c : Column) → not (c.id.0 == x.id.0) ≡ true → (not c.escrow || is_escrow (column_of_id xs c.id.0)) ≡ true → (not c.escrow || is_escrow (column_of_id (x ∷ xs) c.id.0)) ≡ true
    more c apart h = ap (λ b. not c.escrow || is_escrow (cond b (Some x) (column_of_id xs c.id.0))) (unequal_turned c.id.0 x.id.0 (not-true _ apart)) ∙ h

among : (q : Column → Bool) (columns : List Column) → list_all (λ c. not c.escrow || q c) columns ≡ true → list_all q (filter is_sum columns) ≡ true
among q [] h = refl
among q (x ∷ xs) h = by x.escrow (and_left _ _ h) (among q xs (and_right _ _ h))
  where
    by : (b : Bool) → (not b || q x) ≡ true → list_all q (filter is_sum xs) ≡ true → list_all q (cond b (x ∷ filter is_sum xs) (filter is_sum xs)) ≡ true
    by true h rest = and_from (q x) (list_all q (filter is_sum xs)) h rest
    by false h rest = rest

-- an escrow column takes the zeros
long_fits : (type : ColType) → is_type_long type ≡ true → value_fits type (0 ∷ 0 ∷ 0 ∷ 0 ∷ []) ≡ true
long_fits kind.Long h = refl
long_fits _ h = impossible h

takes_zeros : (columns : List Column) (id : ℕ) → list_all is_built_sum columns ≡ true → is_escrow (column_of_id columns id) ≡ true → elim (column_of_id columns id) [ Some c ↦ values_fit c zeros | None ↦ false ] ≡ true
takes_zeros [] id built escrow = impossible escrow
takes_zeros (x ∷ xs) id built escrow = by (x.id.0 == id) (takes_zeros xs id (and_right (is_built_sum x) (list_all is_built_sum xs) built)) escrow
  where
    one : (m : Bool) → (m || true) ≡ true
    one true = refl
    one false = refl

    long : (e l r : Bool) → (not e || (l && r)) ≡ true → e ≡ true → l ≡ true
    long true l r h f = and_left l r h
    long false l r h f = impossible f

    by : (b : Bool) → (is_escrow (column_of_id xs id) ≡ true → elim (column_of_id xs id) [ Some c ↦ values_fit c zeros | None ↦ false ] ≡ true) → is_escrow (cond b (Some x) (column_of_id xs id)) ≡ true
        → elim (cond b (Some x) (column_of_id xs id)) [ Some c ↦ values_fit c zeros | None ↦ false ] ≡ true
    by true rest e = and_from (x.multi || true) (value_fits x.kind (0 ∷ 0 ∷ 0 ∷ 0 ∷ []) && true) (one x.multi) (and_from _ _ (long_fits x.kind (long x.escrow (is_type_long x.kind) _ (and_left (is_built_sum x) (list_all is_built_sum xs) built) e)) refl)
    by false rest e = rest e

-- A record with a sum set to 0 stays one that fits its row and its columns.
zero_stored : (number : ℕ) (schema : Schema) (bookmark : List ℕ) (column : ℕ) → list_all is_built_sum schema.columns ≡ true → is_escrow_column schema column ≡ true → (values : RecordFields)
    → IsStoredWithNumbers number schema bookmark values → IsStoredWithNumbers number schema bookmark (with_values values column zeros)
zero_stored number schema bookmark column built escrow values h = (
  (
    subst (λ (n : ℕ). n ≤ 1700) (sym (ap (λ (n : ℕ). 2 + n) (sum_put (λ field. size_of_values field.1) column zeros (old ∷ []) (ap (λ (n : ℕ). sum_by (λ (m : ℕ). 5 + size_of_length m) (n ∷ [])) (sym four_old)) values h.1.0 one.0))) h.0.0,
    and_from (list_all fits (with_values values column zeros)) (list_all (λ c. not (is_kept_column c) || has_value (with_values values column zeros) c.id.0) schema.columns)
        (all_put fits column zeros (old ∷ []) (takes_zeros schema.columns column built escrow) values h.1.0 one.0 (and_left _ _ h.0.1))
        (all_stronger (λ c. not (is_kept_column c) || has_value values c.id.0) (λ c. not (is_kept_column c) || has_value (with_values values column zeros) c.id.0) (λ c had. stays (is_kept_column c) c.id.0 had) schema.columns (and_right _ _ h.0.1)),
  ),
  (
    values_rise values column zeros h.1.0,
    λ id is. ap is_one_number (put_seen values column id (0 ∷ 0 ∷ 0 ∷ 0 ∷ []) []) ∙ elim (id == column) as (λ b. is_one_number (cond b zeros (values_of values id)) ≡ true) [ true ↦ refl | false ↦ h.1.1 id is ],
  ),
)
  where
    old : List ℕ
    old = escrow_bytes values column

    fits : ℕ × List (List ℕ) → Bool
    fits field = elim (column_of_id schema.columns field.0) [ Some c ↦ values_fit c field.1 | None ↦ false ]

    one : (lookup_by_number column values ≡ Some (escrow_bytes values column ∷ [])) × (is_number (escrow_bytes values column) ≡ true)
    one = one_value values column (h.1.1 column escrow)

    four_old : length old ≡ 4
    four_old = eqb-true (length old) 4 (and_left (length old == 4) (list_all (λ b. nat_lt b 256) old) one.1)

    stays : (kept : Bool) (id : ℕ) → (not kept || has_value values id) ≡ true → (not kept || has_value (with_values values column zeros) id) ≡ true
    stays false id had = refl
    stays true id had =
        ap (λ (found : List (List ℕ)). nat_lt 0 (length found)) (put_seen values column id (0 ∷ 0 ∷ 0 ∷ 0 ∷ []) [])
        ∙ elim (id == column) as (λ b. nat_lt 0 (length (cond b zeros (values_of values id))) ≡ true) [ true ↦ refl | false ↦ had ]

pub zeros_stored : (number : ℕ) (schema : Schema) (bookmark : List ℕ) (values : RecordFields) → list_all is_built_sum schema.columns ≡ true → are_distinct (map number_of_column schema.columns) ≡ true
    → IsStoredWithNumbers number schema bookmark values → IsStoredWithNumbers number schema bookmark (with_sums_at_zero schema.columns values)
zeros_stored number schema bookmark values built distinct h = each (filter is_sum schema.columns) values (among (λ c. is_escrow_column schema c.id.0) schema.columns (own_sums schema.columns distinct)) h
  where
    each : (sums : List Column) (values : RecordFields) → list_all (λ c. is_escrow_column schema c.id.0) sums ≡ true → IsStoredWithNumbers number schema bookmark values → IsStoredWithNumbers number schema bookmark (with_zeros values sums)
    each [] values escrow h = h
    each (c ∷ sums) values escrow h = each sums (with_values values c.id.0 zeros) (and_right _ _ escrow) (zero_stored number schema bookmark c.id.0 built (and_left _ _ escrow) values h)

-- ---- a column that is set

-- the values of the other columns
others_seen : (fields : RecordFields) (c d : ℕ) (values : List (List ℕ)) → (d == c) ≡ false → values_of (with_values fields c values) d ≡ values_of fields d
others_seen fields c d [] apart =
    ap (λ found. unwrap_or found []) (find-where_key nat_cmp (λ x. not (x == c)) d (λ x e. ap (λ (n : ℕ). not (n == c)) (sym (eqb-true d x (sym (unsigned_tied d x) ∙ ap is_eq e)))) fields)
    ∙ ap (λ b. unwrap_or (cond (not b) (lookup_by_number d fields) None) []) apart
others_seen fields c d (value ∷ values) apart = put_seen fields c d value values ∙ ap (λ b. cond b (value ∷ values) (values_of fields d)) apart

passes : (p test : Column → Bool) (xs : List Column) (c : Column) → list_all p xs ≡ true → find test xs ≡ Some c → p c ≡ true
passes p test [] c h e = absurd (none e)
  where
    none : None ≡ Some c → ⊥
    none e = cc
passes p test (x ∷ xs) c h e = elim (test x) as (λ b. cond b (Some x) (find test xs) ≡ Some c → p c ≡ true) [
  | true ↦ λ g. ap p (sym (same x c g)) ∙ and_left (p x) (list_all p xs) h
  | false ↦ λ g. passes p test xs c (and_right (p x) (list_all p xs) h) g
] e
  where
    same : (a b : Column) → Some a ≡ Some b → a ≡ b
    same a b e = cc

-- a column that is no sum has the number of none
pub apart_from_sums : (test : Column → Bool) (columns : List Column) (column : Column) → are_distinct (map number_of_column columns) ≡ true → find test columns ≡ Some column → column.escrow ≡ false → list_all (λ c. not c.escrow || not (c.id.0 == column.id.0)) columns ≡ true
apart_from_sums test [] column distinct e plain = refl
apart_from_sums test (x ∷ xs) column distinct e plain = elim (test x) as (λ b. cond b (Some x) (find test xs) ≡ Some column → list_all (λ c. not c.escrow || not (c.id.0 == column.id.0)) (x ∷ xs) ≡ true) [
  | true ↦ λ g. first (same x column g)
  | false ↦ λ g.
      and_from _ _ (either (not x.escrow) (not (x.id.0 == column.id.0)) (ap not (unequal_turned column.id.0 x.id.0 (not-true _ (passes (λ c. not (c.id.0 == x.id.0)) test xs column others g)))))
      (apart_from_sums test xs column (and_right _ _ distinct) g plain)
] e
  where
    same : (a b : Column) → Some a ≡ Some b → a ≡ b
    same a b e = cc

    either : (a b : Bool) → b ≡ true → (a || b) ≡ true
    either true b h = refl
    either false b h = h

    others : list_all (λ c. not (c.id.0 == x.id.0)) xs ≡ true
    others = none_same x.id.0 xs (not-true _ (and_left _ _ distinct))

    first : x ≡ column → list_all (λ c. not c.escrow || not (c.id.0 == column.id.0)) (x ∷ xs) ≡ true
    first is =
        and_from _ _ (ap (λ b. not b || not (x.id.0 == column.id.0)) (ap (λ (c : Column). c.escrow) is ∙ plain))
        (all_stronger (λ c. not (c.id.0 == x.id.0)) (λ c. not c.escrow || not (c.id.0 == column.id.0)) (λ c h. either (not c.escrow) (not (c.id.0 == column.id.0)) (ap (λ (k : Column). not (c.id.0 == k.id.0)) (sym is) ∙ h)) xs others)

-- so it leaves the sums, and leaves them there
pub set_keeps_sums : (columns : List Column) (seen : Option RecordFields) (fields : RecordFields) (id : ℕ) (values : List (List ℕ)) → list_all (λ c. not c.escrow || not (c.id.0 == id)) columns ≡ true → keeps_escrow columns seen fields ≡ true → keeps_escrow columns seen (with_values fields id values) ≡ true
set_keeps_sums columns seen fields id values = both_mono (λ c. not c.escrow || not (c.id.0 == id)) (λ c. not c.escrow || bytes_eq (escrow_bytes fields c.id.0) (escrow_bytes (unwrap_or seen []) c.id.0)) (λ c. not c.escrow || bytes_eq (escrow_bytes (with_values fields id values) c.id.0) (escrow_bytes (unwrap_or seen []) c.id.0)) at columns
  where
    at : (c : Column) → (not c.escrow || not (c.id.0 == id)) ≡ true → (not c.escrow || bytes_eq (escrow_bytes fields c.id.0) (escrow_bytes (unwrap_or seen []) c.id.0)) ≡ true → (not c.escrow || bytes_eq (escrow_bytes (with_values fields id values) c.id.0) (escrow_bytes (unwrap_or seen []) c.id.0)) ≡ true
    at c = elim c.escrow as (λ b. (not b || not (c.id.0 == id)) ≡ true → (not b || bytes_eq (escrow_bytes fields c.id.0) (escrow_bytes (unwrap_or seen []) c.id.0)) ≡ true → (not b || bytes_eq (escrow_bytes (with_values fields id values) c.id.0) (escrow_bytes (unwrap_or seen []) c.id.0)) ≡ true) [
      | true ↦ λ apart h. ap (λ (v : List (List ℕ)). bytes_eq (unwrap_or (slice_get v 0) (0 ∷ 0 ∷ 0 ∷ 0 ∷ [])) (escrow_bytes (unwrap_or seen []) c.id.0)) (others_seen fields id c.id.0 values (not-true _ apart)) ∙ h
      | false ↦ λ apart h. refl
    ]

pub set_leaves_sums : (columns : List Column) (fields : RecordFields) (id : ℕ) (values : List (List ℕ)) → list_all (λ c. not c.escrow || not (c.id.0 == id)) columns ≡ true → list_all (λ c. not c.escrow || has_value fields c.id.0) columns ≡ true → list_all (λ c. not c.escrow || has_value (with_values fields id values) c.id.0) columns ≡ true
set_leaves_sums columns fields id values = both_mono (λ c. not c.escrow || not (c.id.0 == id)) (λ c. not c.escrow || has_value fields c.id.0) (λ c. not c.escrow || has_value (with_values fields id values) c.id.0) at columns
  where
    at : (c : Column) → (not c.escrow || not (c.id.0 == id)) ≡ true → (not c.escrow || has_value fields c.id.0) ≡ true → (not c.escrow || has_value (with_values fields id values) c.id.0) ≡ true
    at c = elim c.escrow as (λ b. (not b || not (c.id.0 == id)) ≡ true → (not b || has_value fields c.id.0) ≡ true → (not b || has_value (with_values fields id values) c.id.0) ≡ true) [
      | true ↦ λ apart h. ap (λ (v : List (List ℕ)). nat_lt 0 (length v)) (others_seen fields id c.id.0 values (not-true _ apart)) ∙ h
      | false ↦ λ apart h. refl
    ]
