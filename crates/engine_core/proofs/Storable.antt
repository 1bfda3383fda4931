-- A lawful change can be made by the tables with versions.
use Rattle.std.proofs.Common.{◌≡◌, ℕ, ◌+◌, ◌<◌, ◌≤◌, Bool, true, false, not, ◌&&◌, ◌||◌, List, length, Option, Some, None, refl, sym, ap, subst, ◌∙◌, arith}
use Rattle.std.specs.Prelude.{◌==◌, ◌^◌, nat_le, nat_lt, bytes_eq, is_some, option_map, unwrap_or, T, IfSome, IsSomeAnd, IsTrue, MatchOption}
use Rattle.std.specs.Ordering.{nat_cmp}
use Rattle.std.specs.FinMap.Entries.{is_sorted}
use Rattle.std.specs.List.{list_all}
use Rattle.std.proofs.lemmas.Bool.{eqb-true, leb-true, not-true}
use Rattle.jet_base.specs.ColumnType.{big_endian}
use Rattle.column_set.specs.declared.changes.Change.{Change}
use Rattle.column_set.specs.declared.changes.Change.TheVariants.{Put, Drop, Hold, Add}
use Rattle.column_set.specs.Record.{is_record}
use Rattle.column_set.specs.RecordValues.{RecordFields, has_value, is_kept_column, is_missing_a_value, record_fits, record_size, stands_in}
use Rattle.column_set.specs.Rows.{largest_row}
use Rattle.index_derive.specs.declared.log.EntryKind.TheVariants as entry
use Rattle.index_derive.specs.declared.rules.IndexRule.{IndexRule}
use Rattle.index_derive.specs.declared.rules.Schema.{Schema}
use Rattle.index_derive.specs.Entries.{is_escrow_column, primary_key}
use Rattle.database_state.specs.Table.{Rows, Table, record_in, row_at, rows_of, schema_of, table_with_id}
use Rattle.index_derive.specs.Schemas.{primary_rule}
use Rattle.database_state.specs.State.{DatabaseState, Transaction, levels, levels_of, transaction_of}
use Rattle.database_state.specs.Conflicts.{has_write_conflict}
use Rattle.database_state.specs.View.{newest, view}
use Rattle.database_state.specs.Lawful.{has_free_keys, is_bookmark_of, is_copied_in, is_indexable, is_lawful_change, is_lawful_put, keeps_escrow}
use Rattle.database_state.specs.Step.{entry_by}
use Rattle.laws_versions.specs.Records.{records_of}
use Rattle.long_rows.specs.KeptRows.{are_values}
use Rattle.laws_versions.proofs.HistoryLemmas.Unhindered.{finds_newest}
use Rattle.laws_versions.proofs.KeyLemmas.EscrowSums.{unseen_now}
use Rattle.laws_versions.specs.Bookmarks.{is_bookmark}
use Rattle.laws_versions.specs.RecordNumbers.{HoldsNumbers as HoldsNumbersUnder}
use Rattle.laws_versions.proofs.RecordLemmas.EscrowRecords.{numbers_seen, put_numbers}
use Rattle.common_lemmas.proofs.Found.{found_passes}
use Rattle.common_lemmas.proofs.Booleans.{and_left, and_right, impossible}
use Rattle.common_lemmas.proofs.Numbers.{same_bytes}
use Rattle.laws_versions.proofs.RecordLemmas.Standing.{bookmarks_seen}
use Rattle.laws_engine.specs.EngineState.{EngineState}
use Rattle.laws_engine.specs.HoldsState.{HoldsState}
use Rattle.stored_variants.specs.PutRecords.{IsStorable}
use Rattle.stored_variants.specs.VersionsKept.{HoldsNumbers}
use Rattle.engine_parts.specs.HeldLaws.{TellsNewest}
use Rattle.engine_core.specs.Changing.{CanChange, IsFormed}
use Rattle.engine_core.specs.Steps.{MayCome}
use Rattle.engine_core.proofs.Fitting.{lawful_by_kind}
use Rattle.engine_core.proofs.PrimaryKeys.{IsLegalKey, key_short, key_some, legal_key}
use Rattle.engine_core.proofs.RowValues.{each_kept}
use Rattle.loggable_steps.proofs.Bookmarks.{legal_primary}
use Rattle.loggable_steps.proofs.ChangeBytes.{allowed, columns_of}

-- ---- a table of the state

-- the primary index of a table is legal
legal_key_of : (engine : EngineState) (state : DatabaseState) (h : HoldsState engine state) (id : ℕ) (table : Table) → table_with_id state.tables id ≡ Some table → (rule : IndexRule) → primary_rule (schema_of table) ≡ Some rule → IsLegalKey rule
legal_key_of engine state h id table found rule e = let is = legal_primary h.base h.dropped h.kept state h.reached id table found rule e in legal_key rule (schema_of table) is.legal is.primary

-- ---- a bookmark

-- a bookmark of a record: 8 bytes, or the key in the primary index
pub record IsOwn (o : Option IndexRule) (schema : Schema) (bookmark : List ℕ) (values : RecordFields) : Type 0 where
  pub own : MatchOption o (length bookmark ≡ 8) (λ rule. bookmark ≡ primary_key rule schema values)
  pub some : 0 < length bookmark
  pub short : length bookmark ≤ 255

eight : (n : ℕ) → n ≡ 8 → (0 < n) × (n ≤ 255)
eight n e = (subst (λ (m : ℕ). 0 < m) (sym e) some, subst (λ (m : ℕ). m ≤ 255) (sym e) short)
  where
    some : 0 < 8
    some = omega arith

    short : 8 ≤ 255
    short = omega arith

bookmark_own : (number : ℕ) (schema : Schema) (rows : Rows) (bookmark : List ℕ) (values : RecordFields) (o : Option IndexRule) → ((rule : IndexRule) → o ≡ Some rule → IsLegalKey rule) → (o ≡ None → is_some (row_at rows bookmark) ≡ true → length bookmark ≡ 8)
    → is_bookmark_of number schema rows o bookmark values ≡ true → IsOwn o schema bookmark values
bookmark_own number schema rows bookmark values None legal seen h =
    let eight_bytes : length bookmark ≡ 8 = by (is_some (row_at rows bookmark)) refl h in
    record { own = eight_bytes; some = (eight (length bookmark) eight_bytes).0; short = (eight (length bookmark) eight_bytes).1 }
  where
    by : (b : Bool) → is_some (row_at rows bookmark) ≡ b → (b || bytes_eq bookmark (big_endian 8 number)) ≡ true → length bookmark ≡ 8
    by true e f = seen refl e
    by false e f = ap (λ (l : List ℕ). length l) (same_bytes bookmark (big_endian 8 number) f)
bookmark_own number schema rows bookmark values (Some rule) legal seen h =
    let is : bookmark ≡ primary_key rule schema values = same_bytes bookmark (primary_key rule schema values) h in
    record {
      own = is;
      some = subst (λ (l : List ℕ). 0 < length l) (sym is) (key_some rule schema values (legal rule refl));
      short = subst (λ (l : List ℕ). length l ≤ 255) (sym is) (key_short rule schema values (legal rule refl));
    }

-- where there is no primary index a record that is seen stands under 8 bytes
seen_eight : (engine : EngineState) (state : DatabaseState) (h : HoldsState engine state) (session id : ℕ) (table : Table) → table_with_id state.tables id ≡ Some table → (bookmark : List ℕ) → primary_rule (schema_of table) ≡ None
    → is_some (record_in (view state session) id bookmark) ≡ true → length bookmark ≡ 8
seen_eight engine state h session id table found bookmark none there = by (record_in (view state session) id bookmark) there (stands bookmark)
  where
    stands : (bookmark : List ℕ) → IfSome (record_in (view state session) id bookmark) (λ values. is_bookmark state.number (schema_of table) (primary_rule (schema_of table)) bookmark values ≡ true)
    stands =
        subst (λ (o : Option Table). IfSome o (λ t. (bookmark : List ℕ) → IfSome (records_of (view state session) id bookmark) (λ values. is_bookmark state.number (schema_of t) (primary_rule (schema_of t)) bookmark values ≡ true))) found
        (bookmarks_seen h.base h.dropped h.kept state h.reached.history (unseen_now h.base h.kept state h.reached.sums) h.reached.bookmarks session id)

    by : (o : Option RecordFields) → is_some o ≡ true → IfSome o (λ values. is_bookmark state.number (schema_of table) (primary_rule (schema_of table)) bookmark values ≡ true) → length bookmark ≡ 8
    by None e s = impossible e
    by (Some values) e s =
        eqb-true (length bookmark) 8 (and_left (length bookmark == 8) _ (ap (λ (o : Option IndexRule). is_bookmark state.number (schema_of table) o bookmark values) (sym none) ∙ s))

-- ---- a put

-- the same as is asked of a put, of the schema of its table
pub record IsStorableIn (schema : Schema) (bookmark : List ℕ) (values : RecordFields) : Type 0 where
  pub columns : record_fits schema.columns values ≡ true
  pub numbers : HoldsNumbers schema values
  pub indexable : is_indexable schema values ≡ true
  pub own : IsOwn (primary_rule schema) schema bookmark values
  pub formed : IsTrue (is_record values)
  pub numbered : IsTrue (list_all (λ field. nat_lt field.0 (2 ^ 16)) values)
  pub lengths : IsTrue (list_all (λ field. are_values field.1) values)
  pub small : record_size values ≤ largest_row

storable_of : (table : Table) (bookmark : List ℕ) (values : RecordFields) → IsStorableIn (schema_of table) bookmark values → IsStorable table bookmark values
storable_of table bookmark values s = record {
  columns = s.columns;
  numbers = s.numbers;
  indexable = s.indexable;
  own = s.own.own;
  some = s.own.some;
  short = s.own.short;
  formed = s.formed;
  numbered = s.numbered;
  lengths = s.lengths;
  small = s.small;
}

-- it holds numbers in the escrow columns, as the record in whose place it comes does
put_holds : (engine : EngineState) (state : DatabaseState) → HoldsState engine state → (session id : ℕ) (table : Table) (bookmark : List ℕ) (copied : Option (List ℕ)) (values : RecordFields) → table_with_id state.tables table.id ≡ Some table
    → IsTrue (is_record values) → is_lawful_put state session table (rows_of (table_with_id (view state session) table.id)) bookmark copied values ≡ true → HoldsNumbers (schema_of table) values
put_holds engine state h session id table bookmark copied values found is lawful =
    let rise : T (is_sorted nat_cmp values) = subst (λ (b : Bool). T b) (sym (and_left (is_sorted nat_cmp values) _ is)) tt in
    let held : (bookmark : List ℕ) → IfSome (records_of (view state session) table.id bookmark) (HoldsNumbersUnder state.number (schema_of table) bookmark) =
    subst (λ (o : Option Table). IfSome o (λ t. (bookmark : List ℕ) → IfSome (records_of (view state session) table.id bookmark) (HoldsNumbersUnder state.number (schema_of t) bookmark))) found
    (numbers_seen h.base h.dropped h.kept state h.reached.history h.reached.numbers session table.id) in
    (put_numbers state session (Put (record { 0 = id }) bookmark copied values) rise h.reached.numbers.columns table (rows_of (table_with_id (view state session) table.id)) found held lawful).1

-- a lawful put is one of a record that can be kept
put_storable : (engine : EngineState) (state : DatabaseState) → HoldsState engine state → (session id : ℕ) (table : Table) (bookmark : List ℕ) (copied : Option (List ℕ)) (values : RecordFields)
    → table_with_id state.tables id ≡ Some table → IsTrue (is_record values)
    → is_lawful_put state session table (rows_of (table_with_id (view state session) table.id)) bookmark copied values ≡ true → IsStorableIn (schema_of table) bookmark values
put_storable engine state h session id table bookmark copied values found is lawful =
    let rows : Rows = rows_of (table_with_id (view state session) table.id) in
    let same : table.id ≡ id = eqb-true table.id id (found_passes (λ (t : Table). t.id == id) state.tables table found) in
    let free = has_free_keys state session table.id (schema_of table) rows bookmark values in
    let own = is_bookmark_of (state.number + 1) (schema_of table) rows (primary_rule (schema_of table)) bookmark values in
    let escrow = keeps_escrow table.columns (row_at rows bookmark) values in
    let fits = record_fits table.columns values in
    let whole = not (is_missing_a_value table.columns values) in
    let small = nat_le (record_size values) 1700 in
    let indexed = is_indexable (schema_of table) values in
    let with_own : (fits && whole && small && indexed && free && own) ≡ true = and_left (fits && whole && small && indexed && free && own) escrow (and_left (fits && whole && small && indexed && free && own && escrow) (is_copied_in rows copied) lawful) in
    let with_index : (fits && whole && small && indexed) ≡ true = and_left (fits && whole && small && indexed) free (and_left (fits && whole && small && indexed && free) own with_own) in
    let with_small : (fits && whole && small) ≡ true = and_left (fits && whole && small) indexed with_index in
    let fit : fits ≡ true = and_left fits whole (and_left (fits && whole) small with_small) in
    let few : record_size values ≤ 1700 = leb-true (record_size values) 1700 (and_right (fits && whole) small with_small) in
    let each = each_kept table.greatest table.columns values (columns_of h.base h.dropped h.kept state h.reached id table found) (and_left (list_all (stands_in table.columns) values) (list_all (λ column. not (is_kept_column column) || has_value values column.id.0) table.columns) fit) in
    record {
      columns = fit;
      numbers = put_holds engine state h session id table bookmark copied values (ap (table_with_id state.tables) same ∙ found) is lawful;
      indexable = and_right (fits && whole && small) indexed with_index;
      own =
          bookmark_own (state.number + 1) (schema_of table) rows bookmark values (primary_rule (schema_of table)) (legal_key_of engine state h id table found)
          (λ none there. seen_eight engine state h session id table found bookmark none (ap (λ (n : ℕ). is_some (record_in (view state session) n bookmark)) (sym same) ∙ there))
          (and_right (fits && whole && small && indexed && free) own with_own);
      formed = is;
      numbered = each.1;
      lengths = each.0;
      small = few;
    }

-- ---- the engine's table

-- a table of the engine has the schema of the state's
schema_found : (o found : Option Table) (P : Schema → Type 0) → option_map schema_of o ≡ option_map schema_of found → IsSomeAnd found (λ t. P (schema_of t)) → IsSomeAnd o (λ t. P (schema_of t))
schema_found None None P e h = h
schema_found None (Some t) P e h = impossible (ap is_some e)
schema_found (Some u) None P e h = absurd h
schema_found (Some u) (Some t) P e h = subst P (sym (same (schema_of u) (schema_of t) e)) h
  where
    same : (a b : Schema) → Some a ≡ Some b → a ≡ b
    same a b e = ap (λ (o : Option Schema). unwrap_or o a) e

some_and : (o : Option Table) (P Q : Table → Type 0) → ((t : Table) → P t → Q t) → IsSomeAnd o P → IsSomeAnd o Q
some_and None P Q f h = h
some_and (Some t) P Q f h = f t h

some_found : (o found : Option Table) → option_map schema_of o ≡ option_map schema_of found → is_some found ≡ true → is_some o ≡ true
some_found None found e h = by found e h
  where
    by : (found : Option Table) → None ≡ option_map schema_of found → is_some found ≡ true → false ≡ true
    by None e h = h
    by (Some t) e h = ap is_some e
some_found (Some u) found e h = refl

-- ---- all changes

-- the law that the engine tells the schemas of tables
abbrev pub TellsSchema : Type 0
TellsSchema = (engine : EngineState) (state : DatabaseState) → HoldsState engine state → (table : ℕ) → option_map schema_of (table_with_id engine.store.tables table) ≡ option_map schema_of (table_with_id state.tables table)

pub record ChangeLaws : Type 0 where
  pub schema : TellsSchema
  pub newest : TellsNewest

-- a change comes inside a transaction
in_transaction : (o : Option Transaction) → nat_lt 0 (levels_of o) ≡ true → is_some o ≡ true
in_transaction None h = h
in_transaction (Some t) h = refl

put_can : ChangeLaws → (engine : EngineState) (state : DatabaseState) → HoldsState engine state → (session id : ℕ) (table : Table) (bookmark : List ℕ) (copied : Option (List ℕ)) (values : RecordFields)
    → table_with_id state.tables id ≡ Some table → IsTrue (is_record values)
    → is_lawful_put state session table (rows_of (table_with_id (view state session) table.id)) bookmark copied values ≡ true → IsSomeAnd (table_with_id engine.store.tables id) (λ t. IsStorable t bookmark values)
put_can laws engine state h session id table bookmark copied values found is lawful =
    some_and (table_with_id engine.store.tables id) (λ t. IsStorableIn (schema_of t) bookmark values) (λ t. IsStorable t bookmark values) (λ t s. storable_of t bookmark values s)
    (schema_found (table_with_id engine.store.tables id) (Some table) (λ schema. IsStorableIn schema bookmark values) (laws.schema engine state h id ∙ ap (option_map schema_of) found)
    (put_storable engine state h session id table bookmark copied values found is lawful))

drop_can : ChangeLaws → (engine : EngineState) (state : DatabaseState) → HoldsState engine state → (session id : ℕ) (bookmark : List ℕ) (change : Change) → change ≡ Drop (record { 0 = id }) bookmark
    → nat_lt 0 (levels state session) ≡ true → has_write_conflict state session change ≡ false → is_some (record_in (view state session) id bookmark) ≡ true → is_some (record_in engine.store.tables id bookmark) ≡ true
drop_can laws engine state h session id bookmark change is inside free there = by (transaction_of state session) refl (in_transaction (transaction_of state session) inside)
  where
    by : (o : Option Transaction) → transaction_of state session ≡ o → is_some o ≡ true → is_some (record_in engine.store.tables id bookmark) ≡ true
    by None e s = impossible s
    by (Some t) e s =
        ap (λ (o : Option RecordFields). is_some o)
        (laws.newest engine state h id bookmark
        ∙ finds_newest h.base h.dropped h.kept state h.reached.history session t (Drop (record { 0 = id }) bookmark) e refl (ap (has_write_conflict state session) (sym is) ∙ free))
        ∙ there

change_can : ChangeLaws → (engine : EngineState) (state : DatabaseState) → HoldsState engine state → (session : ℕ) (change : Change) → is_lawful_change state session change ≡ true → IsFormed change → CanChange engine.store change
change_can laws engine state h session (Put table bookmark copied values) lawful is =
    let may = allowed state session table.0 (Put table bookmark copied values) (and_right _ _ lawful) in
    put_can laws engine state h session table.0 may.table bookmark copied values may.found is may.is
change_can laws engine state h session (Drop table bookmark) lawful is =
    let may = allowed state session table.0 (Drop table bookmark) (and_right _ _ lawful) in
    let same : may.table.id ≡ table.0 = eqb-true may.table.id table.0 (found_passes (λ (t : Table). t.id == table.0) state.tables may.table may.found) in
    let inside = nat_lt 0 (levels state session) in
    let free = not (has_write_conflict state session (Drop table bookmark)) in
    let both : (inside && free) ≡ true = and_left (inside && free) _ lawful in
    drop_can laws engine state h session table.0 bookmark (Drop table bookmark) refl (and_left inside free both) (not-true _ (and_right inside free both))
    (ap (λ (n : ℕ). is_some (record_in (view state session) n bookmark)) (sym same) ∙ may.is)
change_can laws engine state h session (Hold table bookmark) lawful is =
    let may = allowed state session table.0 (Hold table bookmark) (and_right _ _ lawful) in
    some_found (table_with_id engine.store.tables table.0) (table_with_id state.tables table.0) (laws.schema engine state h table.0) (ap is_some may.found)
change_can laws engine state h session (Add table bookmark column amount) lawful is =
    let may = allowed state session table.0 (Add table bookmark column amount) (and_right _ _ lawful) in
    let escrow : is_escrow_column (schema_of may.table) column.0 ≡ true = and_right (is_some (record_in (view state session) may.table.id bookmark)) (is_escrow_column (schema_of may.table) column.0) may.is in
    schema_found (table_with_id engine.store.tables table.0) (Some may.table) (λ schema. is_escrow_column schema column.0 ≡ true) (laws.schema engine state h table.0 ∙ ap (option_map schema_of) may.found) escrow

pub lawful_can : ChangeLaws → (engine : EngineState) (session : ℕ) (change : Change) → MayCome engine (entry_by session (entry.Change change)) → IsFormed change → CanChange engine.store change
lawful_can laws engine session change may is = change_can laws engine may.state may.holds session change (lawful_by_kind may.state session (entry.Change change) may.lawful) is
