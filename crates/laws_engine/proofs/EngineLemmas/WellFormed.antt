-- Schemas of tables and sessions in step are well formed.
use Rattle.std.proofs.Common.{◌≡◌, ℕ, ◌≤◌, ◌<◌, Bool, true, false, not, ◌&&◌, ◌||◌, cond, List, [], ◌∷◌, ◌++◌, map, filter, length, Option, Some, None, refl, ap, subst, ◌∙◌, arith}
use Rattle.std.specs.Prelude.{◌==◌, nat_le, IfSome}
use Rattle.std.specs.List.{AllByRecursion, IsDistinct, list_all, list_any}
use Rattle.std.proofs.lemmas.Bool.Decides.{nat_tests}
use Rattle.std.proofs.lemmas.List.{length-map}
use Rattle.std.proofs.lemmas.Map.Steps.{length-le_from_distinct_below}
use Rattle.std.proofs.lemmas.Bool.{and_from, le-leb, not-true}
use Rattle.common_lemmas.proofs.Lists.{all_filtered, all_stronger}
use Rattle.common_lemmas.proofs.Booleans.{and_left, and_right, impossible}
use Rattle.column_set.specs.declared.columns.Column.{Column}
use Rattle.column_set.specs.RecordValues.{has_value, is_kept_column, record_size, stands_in}
use Rattle.index_derive.specs.declared.rules.IndexRule.{IndexRule}
use Rattle.database_state.specs.Table.{Table, primary_first, schema_of, table_with_id}
use Rattle.database_state.specs.SchemaChanges.{is_type_long}
use Rattle.database_state.specs.State.{DatabaseState}
use Rattle.laws_versions.proofs.ChangeLemmas.Tests.{or_first, or_second}
use Rattle.session_local.specs.Agreement.{HasSchemaOf, IsStorable}
use Rattle.session_local.specs.Local.{LocalState, OpenCursor, PreparedUpdate}
use Rattle.session_local.specs.SessionSide.{are_distinct}
use Rattle.session_local.specs.WellFormed.{has_short_keys, is_long_if_sum, is_sum, is_well_formed_cursor, is_well_formed_schema, is_well_formed_update, number_of_column}
use Rattle.laws_engine.specs.ColumnNumbers.{are_in_range, has_own_numbers, is_given_number}
use Rattle.laws_engine.proofs.LawfulLemmas.TableTests.{all_found}
use Rattle.laws_engine.specs.InStep.{IsInStep}
use Rattle.session_local.specs.BuiltTables.{is_built_column, is_built_rule, is_built_sum, is_built_table}
use Rattle.laws_engine.proofs.EngineLemmas.BuiltColumns.{its_sum}
use Rattle.laws_engine.specs.EngineState.{EngineState}
use Rattle.laws_engine.specs.HoldsState.{HoldsState}

-- ---- schemas

-- a sum is a Long
long_sum : (c : Column) → is_built_sum c ≡ true → is_long_if_sum c ≡ true
long_sum c h = by c.escrow (is_type_long c.kind) _ h
  where
    by : (e l r : Bool) → (not e || (l && r)) ≡ true → (not e || l) ≡ true
    by false l r h = refl
    by true l r h = and_left l r h

-- and has a number of a fixed column
fixed_sum : (c : Column) → is_built_sum c ≡ true → is_sum c ≡ true → (nat_le 1 c.id.0 && nat_le c.id.0 127) ≡ true
fixed_sum c h sum = and_right (not c.multi) _ (and_right (is_type_long c.kind) _ (by c.escrow _ h sum))
  where
    by : (e r : Bool) → (not e || r) ≡ true → e ≡ true → r ≡ true
    by true r h e = h
    by false r h e = impossible e

-- whether the number is not among those, and they are distinct
none_summed : (n : ℕ) (columns : List Column) → list_any (λ other. other == n) (map number_of_column columns) ≡ false → AllByRecursion (λ k. (n == k) ≡ false) (map number_of_column (filter is_sum columns))
none_summed n [] h = tt
none_summed n (c ∷ columns) h = elim c.escrow as (λ b. AllByRecursion (λ k. (n == k) ≡ false) (map number_of_column (cond b (c ∷ filter is_sum columns) (filter is_sum columns)))) [
  | true ↦ (turned c.id.0 n (or_first (c.id.0 == n) _ h), none_summed n columns (or_second (c.id.0 == n) _ h))
  | false ↦ none_summed n columns (or_second (c.id.0 == n) _ h)
]
  where
    turned : (a b : ℕ) → (a == b) ≡ false → (b == a) ≡ false
    turned a b h = grind (arith, nat_tests)

sums_distinct : (columns : List Column) → are_distinct (map number_of_column columns) ≡ true → IsDistinct (λ m n. m == n) (map number_of_column (filter is_sum columns))
unfolding IsDistinct
sums_distinct [] h = tt
sums_distinct (c ∷ columns) h = elim c.escrow as (λ b. IsDistinct (λ m n. m == n) (map number_of_column (cond b (c ∷ filter is_sum columns) (filter is_sum columns)))) [
  | true ↦ (none_summed c.id.0 columns (not-true _ (and_left _ _ h)), sums_distinct columns (and_right _ _ h))
  | false ↦ sums_distinct columns (and_right _ _ h)
]

sums_fixed : (columns : List Column) → list_all is_built_column columns ≡ true → list_all (λ n. nat_le 1 n && nat_le n 127) (map number_of_column (filter is_sum columns)) ≡ true
sums_fixed [] h = refl
sums_fixed (c ∷ columns) h = elim c.escrow as (λ b. c.escrow ≡ b → list_all (λ n. nat_le 1 n && nat_le n 127) (map number_of_column (cond b (c ∷ filter is_sum columns) (filter is_sum columns))) ≡ true) [
  | true ↦ λ e. and_from (nat_le 1 c.id.0 && nat_le c.id.0 127) (list_all (λ n. nat_le 1 n && nat_le n 127) (map number_of_column (filter is_sum columns))) (fixed_sum c (its_sum c (and_left _ _ h)) e) (sums_fixed columns (and_right _ _ h))
  | false ↦ λ e. sums_fixed columns (and_right _ _ h)
] refl

-- distinct numbers from 1 to 127, with 0 before them, are 128 numbers below 128 at most
few_numbers : (numbers : List ℕ) → IsDistinct (λ m n. m == n) numbers → list_all (λ n. nat_le 1 n && nat_le n 127) numbers ≡ true → length numbers ≤ 127
unfolding IsDistinct
few_numbers numbers distinct fixed = let most = length-le_from_distinct_below (0 ∷ numbers) 128 (apart numbers fixed, distinct) below in omega (arith, most)
  where
    apart : (xs : List ℕ) → list_all (λ n. nat_le 1 n && nat_le n 127) xs ≡ true → AllByRecursion (λ n. (0 == n) ≡ false) xs
    apart [] h = tt
    apart (x ∷ xs) h = (one x (and_left _ _ (and_left _ _ h)), apart xs (and_right _ _ h))
      where
        one : (n : ℕ) → nat_le 1 n ≡ true → (0 == n) ≡ false
        one n h = grind (arith, nat_tests)

    small : (n q : ℕ) → nat_le n 127 ≡ true → (q == n) ≡ true → q < 128
    small n q h e = grind (arith, nat_tests)

    among : (xs : List ℕ) (q : ℕ) → list_all (λ n. nat_le 1 n && nat_le n 127) xs ≡ true → list_any (λ n. q == n) xs ≡ true → q < 128
    among [] q h e = impossible e
    among (x ∷ xs) q h e = elim (q == x) as (λ b. (q == x) ≡ b → (b || list_any (λ n. q == n) xs) ≡ true → q < 128) [
      | true ↦ λ f g. small x q (and_right _ _ (and_left _ _ h)) f
      | false ↦ λ f g. among xs q (and_right _ _ h) g
    ] refl e

    zero_small : (q : ℕ) → (q == 0) ≡ true → q < 128
    zero_small q e = grind (arith, nat_tests)

    below : (q : ℕ) → list_any (λ n. q == n) (0 ∷ numbers) ≡ true → q < 128
    below q e = elim (q == 0) as (λ b. (q == 0) ≡ b → (b || list_any (λ n. q == n) numbers) ≡ true → q < 128) [
      | true ↦ λ f g. zero_small q f
      | false ↦ λ f g. among numbers q fixed g
    ] refl e

few_sums : (columns : List Column) → list_all is_built_column columns ≡ true → are_distinct (map number_of_column columns) ≡ true → nat_le (length (filter is_sum columns)) 127 ≡ true
few_sums columns built distinct = le-leb (length (filter is_sum columns)) 127 (subst (λ (n : ℕ). n ≤ 127) (length-map (filter is_sum columns) number_of_column) (few_numbers (map number_of_column (filter is_sum columns)) (sums_distinct columns distinct) (sums_fixed columns built)))

all_joined : (p : IndexRule → Bool) (xs ys : List IndexRule) → list_all p xs ≡ true → list_all p ys ≡ true → list_all p (xs ++ ys) ≡ true
all_joined p [] ys h g = g
all_joined p (x ∷ xs) ys h g = and_from (p x) (list_all p (xs ++ ys)) (and_left (p x) (list_all p xs) h) (all_joined p xs ys (and_right (p x) (list_all p xs) h) g)

pub schema_formed : (t : Table) → is_built_table t ≡ true → has_own_numbers t ≡ true → is_well_formed_schema (schema_of t) ≡ true
schema_formed t built own =
    let columns = and_left (list_all is_built_column t.columns) (list_all is_built_rule t.indexes) built in
    let rules = and_right (list_all is_built_column t.columns) (list_all is_built_rule t.indexes) built in
    let distinct = and_right (are_in_range t.greatest && list_all (is_given_number t.greatest) t.columns) (are_distinct (map number_of_column t.columns)) own in
    let sums = list_all is_long_if_sum t.columns in
    let few = nat_le (length (filter is_sum t.columns)) 127 in
    and_from (are_distinct (map number_of_column t.columns) && sums && few) (list_all has_short_keys (primary_first t.indexes))
    (and_from (are_distinct (map number_of_column t.columns) && sums) few
    (and_from (are_distinct (map number_of_column t.columns)) sums distinct (all_stronger is_built_column is_long_if_sum (λ c h. long_sum c (its_sum c h)) t.columns columns))
    (few_sums t.columns columns distinct))
    (all_joined has_short_keys (filter (λ r. r.flags.primary) t.indexes) (filter (λ r. not r.flags.primary) t.indexes) (all_filtered is_built_rule (λ r. r.flags.primary) t.indexes rules) (all_filtered is_built_rule (λ r. not r.flags.primary) t.indexes rules))

pub table_formed : (engine : EngineState) (state : DatabaseState) → HoldsState engine state → (table : ℕ) → IfSome (table_with_id state.tables table) (λ t. is_well_formed_schema (schema_of t) ≡ true)
table_formed engine state h table = by (table_with_id state.tables table) (all_found is_built_table state.tables h.built table) (all_found has_own_numbers state.tables h.reached.columns table)
  where
    by : (o : Option Table) → IfSome o (λ t. is_built_table t ≡ true) → IfSome o (λ t. has_own_numbers t ≡ true) → IfSome o (λ t. is_well_formed_schema (schema_of t) ≡ true)
    by None built own = tt
    by (Some t) built own = schema_formed t built own

-- ---- sessions

update_formed : (state : DatabaseState) (session : ℕ) (c : OpenCursor) (prepared : Option PreparedUpdate) → IsStorable state session c prepared → is_well_formed_update c.schema.columns prepared ≡ true
update_formed state session c None s = refl
update_formed state session c (Some prepared) s =
    and_from (list_all (stands_in c.schema.columns) prepared.values) (nat_le (record_size prepared.values) 1700)
    (and_left (list_all (stands_in c.schema.columns) prepared.values) (list_all (λ column. not (is_kept_column column) || has_value prepared.values column.id.0) c.schema.columns) s.1)
    (le-leb (record_size prepared.values) 1700 s.0)

schema_of_found : (c : OpenCursor) (o : Option Table) → HasSchemaOf c o → IfSome o (λ t. is_well_formed_schema (schema_of t) ≡ true) → is_well_formed_schema c.schema ≡ true
schema_of_found c None has formed = absurd has
schema_of_found c (Some t) has formed = ap is_well_formed_schema has.0 ∙ formed

cursors_formed : (state : DatabaseState) (session : ℕ) → ((table : ℕ) → IfSome (table_with_id state.tables table) (λ t. is_well_formed_schema (schema_of t) ≡ true))
    → (cursors : List OpenCursor) → AllByRecursion (λ c. HasSchemaOf c (table_with_id state.tables c.cursor.table)) cursors → AllByRecursion (λ c. IsStorable state session c c.prepared) cursors → list_all is_well_formed_cursor cursors ≡ true
cursors_formed state session formed [] has storable = refl
cursors_formed state session formed (c ∷ cursors) has storable =
    and_from (is_well_formed_cursor c) (list_all is_well_formed_cursor cursors)
    (and_from (is_well_formed_schema c.schema) (is_well_formed_update c.schema.columns c.prepared) (schema_of_found c (table_with_id state.tables c.cursor.table) has.0 (formed c.cursor.table)) (update_formed state session c c.prepared storable.0))
    (cursors_formed state session formed cursors has.1 storable.1)

pub session_formed : (engine : EngineState) (state : DatabaseState) → HoldsState engine state → (session : ℕ) (local : LocalState) → IsInStep state session local → list_all is_well_formed_cursor local.cursors ≡ true
session_formed engine state h session local step = cursors_formed state session (table_formed engine state h) local.cursors step.agrees.schemas step.agrees.prepared
