-- A lawful change can be written.
use Rattle.std.proofs.Common.{◌≡◌, ℕ, suc, ◌+◌, ◌^◌, ◌<◌, ◌≤◌, true, not, ◌&&◌, ◌||◌, List, ◌++◌, length, Option, Some, None, refl, sym, ap, subst, ◌∙◌, arith}
use Rattle.std.specs.Prelude.{ℤ, pos, negsuc, ◌==◌, nat_le, nat_lt, is_some, IfSome, FitsSigned}
use Rattle.std.specs.Int.{w16, w32, to_le_bytes, cast_unsigned}
use Rattle.std.specs.List.{flat_map, list_all}
use Rattle.std.proofs.lemmas.Bool.{and_from, and_parts, eqb-true, leb-true}
use Rattle.std.proofs.lemmas.Bool.Decides.{nat_tests}
use Rattle.std.proofs.lemmas.List.{length-append}
use Rattle.jet_base.specs.declared.ids.ColumnId.{ColumnId}
use Rattle.jet_base.specs.declared.ids.TableId.{TableId}
use Rattle.column_set.specs.declared.changes.Change.{Change}
use Rattle.column_set.specs.declared.changes.Change.TheVariants.{Put, Drop, Hold, Add}
use Rattle.column_set.specs.Record.{is_record}
use Rattle.column_set.specs.RecordValues.{RecordFields, has_value, is_kept_column, is_missing_a_value, record_fits as record_fits_columns, record_size}
use Rattle.column_set.specs.Rows.{record_values_in_order}
use Rattle.database_state.specs.Table.{Rows, Table, record_in, row_at, rows_of, schema_of, table_with_id}
use Rattle.index_derive.specs.Schemas.{primary_rule}
use Rattle.database_state.specs.State.{DatabaseState, PastChange}
use Rattle.database_state.specs.View.{view}
use Rattle.database_state.specs.Lawful.{has_free_keys, is_bookmark_of, is_copied_in, is_indexable, is_lawful_at, is_lawful_change, keeps_escrow}
use Rattle.laws_versions.specs.Records.{Records}
use Rattle.laws_versions.proofs.KeyLemmas.BookmarkKeys.{HasOneEntry}
use Rattle.common_lemmas.proofs.Found.{found_passes}
use Rattle.common_lemmas.proofs.Booleans.{and_left, and_right, impossible}
use Rattle.laws_versions.specs.EscrowNumbers.{IsOfItsType}
use Rattle.laws_engine.specs.ColumnNumbers.{are_in_range, has_own_numbers, is_given_number}
use Rattle.laws_engine.specs.LawfulSteps.{IsReached}
use Rattle.laws_engine.proofs.LawfulLemmas.TableTests.{all_found}
use Rattle.log_grammar.specs.EntryBytes.{amount_fits, bookmark_bytes, bookmark_fits, change_bytes, change_fits, copied_bytes, copied_fits, record_bytes, record_fits, value_bytes, value_fits}
use Rattle.loggable_steps.specs.Loggable.{change_fits_types}
use Rattle.loggable_steps.proofs.Bookmarks.{legal_primary, put_fits, seen_fits}
use Rattle.loggable_steps.proofs.RecordBytes.{AreNumbered, AreSmall, each_within, small_record}

-- ---- numbers

amount_spelled : (amount : ℤ) → FitsSigned w32 amount → amount_fits amount ≡ true
amount_spelled (pos n) h = by n h.sfits
  where
    by : (n : ℕ) → n < 2 ^ 31 → nat_lt n (2 ^ 31) ≡ true
    by n h = grind (arith, nat_tests)
amount_spelled (negsuc n) h = by n h.sfits
  where
    by : (n : ℕ) → n < 2 ^ 31 → nat_lt n (2 ^ 31) ≡ true
    by n h = grind (arith, nat_tests)

-- ---- bytes

bookmark_most : (bookmark : List ℕ) → bookmark_fits bookmark ≡ true → length (bookmark_bytes bookmark) ≤ 257
bookmark_most bookmark h =
    let short : length bookmark ≤ 255 = leb-true (length bookmark) 255 (and_parts (nat_le 1 (length bookmark)) (nat_le (length bookmark) 255) h).1 in
    omega (arith, short, length-append (to_le_bytes w16 (length bookmark)) bookmark)

copied_most : (copied : Option (List ℕ)) → copied_fits copied ≡ true → length (copied_bytes copied) ≤ 258
copied_most None h = omega arith
copied_most (Some bookmark) h = by (length (bookmark_bytes bookmark)) (bookmark_most bookmark h)
  where
    by : (n : ℕ) → n ≤ 257 → suc n ≤ 258
    by n h = omega (arith, h)

record_most : (fields : RecordFields) → AreSmall fields → length (record_bytes fields) ≤ 84886102
record_most fields small = omega (arith, small.few_bytes, length-append (to_le_bytes w16 (length (record_values_in_order fields))) (flat_map value_bytes (record_values_in_order fields)))

-- a change can be written, and is short
pub record IsSpelled (change : Change) : Type 0 where
  pub fits : change_fits change ≡ true
  pub short : length (change_bytes change) ≤ 84890000

with_table : (table : ℕ) (rest : List ℕ) (most : ℕ) → length rest ≤ most → 4 + most ≤ 84890000 → length (to_le_bytes w32 table ++ rest) ≤ 84890000
with_table table rest most h le = omega (arith, h, le, length-append (to_le_bytes w32 table) rest)

under_bookmark : (table : TableId) (bookmark : List ℕ) → nat_lt table.0 (2 ^ 32) ≡ true → bookmark_fits bookmark ≡ true → length (to_le_bytes w32 table.0 ++ bookmark_bytes bookmark) ≤ 84890000
under_bookmark table bookmark low h = with_table table.0 (bookmark_bytes bookmark) 257 (bookmark_most bookmark h) (omega arith)

drop_spelled : (table : TableId) (bookmark : List ℕ) → nat_lt table.0 (2 ^ 32) ≡ true → bookmark_fits bookmark ≡ true → IsSpelled (Drop table bookmark)
drop_spelled table bookmark low h = record { fits = and_from (nat_lt table.0 (2 ^ 32)) (bookmark_fits bookmark) low h; short = under_bookmark table bookmark low h }

hold_spelled : (table : TableId) (bookmark : List ℕ) → nat_lt table.0 (2 ^ 32) ≡ true → bookmark_fits bookmark ≡ true → IsSpelled (Hold table bookmark)
hold_spelled table bookmark low h = record { fits = and_from (nat_lt table.0 (2 ^ 32)) (bookmark_fits bookmark) low h; short = under_bookmark table bookmark low h }

both_most : (xs ys : List ℕ) (m n : ℕ) → length xs ≤ m → length ys ≤ n → length (xs ++ ys) ≤ m + n
both_most xs ys m n h g = omega (arith, h, g, length-append xs ys)

put_spelled : (table : TableId) (bookmark : List ℕ) (copied : Option (List ℕ)) (values : RecordFields) → nat_lt table.0 (2 ^ 32) ≡ true → bookmark_fits bookmark ≡ true → copied_fits copied ≡ true → is_record values ≡ true → AreSmall values
    → IsSpelled (Put table bookmark copied values)
put_spelled table bookmark copied values low marked from is small =
    let few : (nat_lt (length (record_values_in_order values)) (2 ^ 16) && list_all value_fits (record_values_in_order values)) ≡ true =
    and_from (nat_lt (length (record_values_in_order values)) (2 ^ 16)) (list_all value_fits (record_values_in_order values)) (counted (length (record_values_in_order values)) small.few) small.spelled in
    let whole : record_fits values ≡ true = and_from (is_record values) (nat_lt (length (record_values_in_order values)) (2 ^ 16) && list_all value_fits (record_values_in_order values)) is few in
    record {
      fits = and_from (nat_lt table.0 (2 ^ 32)) (bookmark_fits bookmark && (copied_fits copied && record_fits values)) low (and_from (bookmark_fits bookmark) (copied_fits copied && record_fits values) marked (and_from (copied_fits copied) (record_fits values) from whole));
      short = with_table table.0 (bookmark_bytes bookmark ++ (copied_bytes copied ++ record_bytes values)) (257 + (258 + 84886102))
          (both_most (bookmark_bytes bookmark) (copied_bytes copied ++ record_bytes values) 257 (258 + 84886102) (bookmark_most bookmark marked) (both_most (copied_bytes copied) (record_bytes values) 258 84886102 (copied_most copied from) (record_most values small))) (omega arith);
    }
  where
    counted : (n : ℕ) → n ≤ 1700 → nat_lt n (2 ^ 16) ≡ true
    counted n h = grind (arith, nat_tests)

add_spelled : (table : TableId) (bookmark : List ℕ) (column : ColumnId) (amount : ℤ) → nat_lt table.0 (2 ^ 32) ≡ true → bookmark_fits bookmark ≡ true → nat_lt column.0 (2 ^ 16) ≡ true → amount_fits amount ≡ true → IsSpelled (Add table bookmark column amount)
add_spelled table bookmark column amount low marked numbered fits = record {
  fits = and_from (nat_lt table.0 (2 ^ 32)) (bookmark_fits bookmark && (nat_lt column.0 (2 ^ 16) && amount_fits amount)) low
      (and_from (bookmark_fits bookmark) (nat_lt column.0 (2 ^ 16) && amount_fits amount) marked (and_from (nat_lt column.0 (2 ^ 16)) (amount_fits amount) numbered fits));
  short = with_table table.0 (bookmark_bytes bookmark ++ (to_le_bytes w16 column.0 ++ to_le_bytes w32 (cast_unsigned w32 amount))) (257 + 6)
      (both_most (bookmark_bytes bookmark) (to_le_bytes w16 column.0 ++ to_le_bytes w32 (cast_unsigned w32 amount)) 257 6 (bookmark_most bookmark marked) (omega arith)) (omega arith);
}

-- ---- the table of a change

-- what a lawful change is
pub record Allowed (state : DatabaseState) (session id : ℕ) (change : Change) : Type 0 where
  pub table : Table
  pub found : table_with_id state.tables id ≡ Some table
  pub is : is_lawful_at state session (Some table) change ≡ true
  pub same : table.id ≡ id

pub allowed : (state : DatabaseState) (session id : ℕ) (change : Change) → is_lawful_at state session (table_with_id state.tables id) change ≡ true → Allowed state session id change
allowed state session id change h = by (table_with_id state.tables id) refl h
  where
    by : (o : Option Table) → table_with_id state.tables id ≡ o → is_lawful_at state session o change ≡ true → Allowed state session id change
    by None e f = impossible f
    by (Some t) e f = record { table = t; found = e; is = f; same = eqb-true t.id id (found_passes (λ (u : Table). u.id == id) state.tables t e) }

pub columns_of : (base : Records) (dropped kept : List PastChange) (state : DatabaseState) → IsReached base dropped kept state → (id : ℕ) (table : Table) → table_with_id state.tables id ≡ Some table → AreNumbered table.greatest table.columns
columns_of base dropped kept state reached id table found =
    let own : has_own_numbers table ≡ true = subst (λ (o : Option Table). IfSome o (λ t. has_own_numbers t ≡ true)) found (all_found has_own_numbers state.tables reached.columns id) in
    let given = list_all (is_given_number table.greatest) table.columns in
    let both : (are_in_range table.greatest && given) ≡ true = and_left (are_in_range table.greatest && given) _ own in
    record { range = and_left (are_in_range table.greatest) given both; given = and_right (are_in_range table.greatest) given both }

-- ---- all changes

-- the state, with the law of primary indexes
pub record IsAsked (state : DatabaseState) : Type 0 where
  pub one : HasOneEntry
  pub base : Records
  pub dropped : List PastChange
  pub kept : List PastChange
  pub reached : IsReached base dropped kept state

-- the view of a table by its own number
seen : (state : DatabaseState) → IsAsked state → (session id : ℕ) (table : Table) → table_with_id state.tables id ≡ Some table → table.id ≡ id → (bookmark : List ℕ) → is_some (row_at (rows_of (table_with_id (view state session) table.id)) bookmark) ≡ true → bookmark_fits bookmark ≡ true
seen state asked session id table found same bookmark there =
    seen_fits asked.one asked.base asked.dropped asked.kept state asked.reached session id table found bookmark
    (ap (λ (n : ℕ). is_some (record_in (view state session) n bookmark)) (sym same) ∙ there)

copied_seen : (rows : Rows) (copied : Option (List ℕ)) → ((bookmark : List ℕ) → is_some (row_at rows bookmark) ≡ true → bookmark_fits bookmark ≡ true) → is_copied_in rows copied ≡ true → copied_fits copied ≡ true
copied_seen rows None f h = refl
copied_seen rows (Some bookmark) f h = f bookmark h

put_allowed : (state : DatabaseState) → IsAsked state → (session : ℕ) (table : TableId) (bookmark : List ℕ) (copied : Option (List ℕ)) (values : RecordFields) → Allowed state session table.0 (Put table bookmark copied values)
    → nat_lt table.0 (2 ^ 32) ≡ true → is_record values ≡ true → IsSpelled (Put table bookmark copied values)
put_allowed state asked session table bookmark copied values may low is =
    let t : Table = may.table in
    let rows : Rows = rows_of (table_with_id (view state session) t.id) in
    let free = has_free_keys state session t.id (schema_of t) rows bookmark values in
    let own = is_bookmark_of (state.number + 1) (schema_of t) rows (primary_rule (schema_of t)) bookmark values in
    let escrow = keeps_escrow t.columns (row_at rows bookmark) values in
    let fits = record_fits_columns t.columns values in
    let whole = not (is_missing_a_value t.columns values) in
    let small = nat_le (record_size values) 1700 in
    let indexed = is_indexable (schema_of t) values in
    let with_escrow : (fits && whole && small && indexed && free && own && escrow) ≡ true = and_left (fits && whole && small && indexed && free && own && escrow) (is_copied_in rows copied) may.is in
    let with_own : (fits && whole && small && indexed && free && own) ≡ true = and_left (fits && whole && small && indexed && free && own) escrow with_escrow in
    let with_small : (fits && whole && small) ≡ true = and_left (fits && whole && small) indexed (and_left (fits && whole && small && indexed) free (and_left (fits && whole && small && indexed && free) own with_own)) in
    let fit : fits ≡ true = and_left fits whole (and_left (fits && whole) small with_small) in
    let few : record_size values ≤ 1700 = leb-true (record_size values) 1700 (and_right (fits && whole) small with_small) in
    let there : (at : List ℕ) → is_some (row_at rows at) ≡ true → bookmark_fits at ≡ true = seen state asked session table.0 t may.found may.same in
    put_spelled table bookmark copied values low
    (put_fits (state.number + 1) (schema_of t) rows bookmark values (primary_rule (schema_of t)) (legal_primary asked.base asked.dropped asked.kept state asked.reached table.0 t may.found) (there bookmark)
    (and_right (fits && whole && small && indexed && free) own with_own))
    (copied_seen rows copied there (and_right (fits && whole && small && indexed && free && own && escrow) (is_copied_in rows copied) may.is)) is
    (small_record values (each_within t.greatest t.columns values (columns_of asked.base asked.dropped asked.kept state asked.reached table.0 t may.found) (and_left _ (list_all (λ column. not (is_kept_column column) || has_value values column.id.0) t.columns) fit)) few)

pub change_spelled : (state : DatabaseState) → IsAsked state → (session : ℕ) (change : Change) → is_lawful_change state session change ≡ true → IsOfItsType change → change_fits_types change ≡ true → IsSpelled change
change_spelled state asked session (Put table bookmark copied values) lawful typed sized =
    let both = and_parts (nat_lt table.0 (2 ^ 32)) (is_record values) sized in
    put_allowed state asked session table bookmark copied values (allowed state session table.0 (Put table bookmark copied values) (and_right _ _ lawful)) both.0 both.1
change_spelled state asked session (Drop table bookmark) lawful typed sized =
    let may = allowed state session table.0 (Drop table bookmark) (and_right _ _ lawful) in
    drop_spelled table bookmark sized (seen state asked session table.0 may.table may.found may.same bookmark may.is)
change_spelled state asked session (Hold table bookmark) lawful typed sized =
    let may = allowed state session table.0 (Hold table bookmark) (and_right _ _ lawful) in
    hold_spelled table bookmark sized (seen state asked session table.0 may.table may.found may.same bookmark may.is)
change_spelled state asked session (Add table bookmark column amount) lawful typed sized =
    let may = allowed state session table.0 (Add table bookmark column amount) (and_right _ _ lawful) in
    let both = and_parts (nat_lt table.0 (2 ^ 32)) (nat_lt column.0 (2 ^ 16)) sized in
    let marked : bookmark_fits bookmark ≡ true = seen state asked session table.0 may.table may.found may.same bookmark (and_left (is_some (record_in (view state session) may.table.id bookmark)) _ may.is) in
    add_spelled table bookmark column amount both.0 marked both.1 (amount_spelled amount typed)
