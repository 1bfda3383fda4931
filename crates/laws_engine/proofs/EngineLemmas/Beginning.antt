-- An engine of tables alone.
use Rattle.std.proofs.Common.{◌≡◌, ℕ, ◌+◌, ◌^◌, ◌≤◌, Bool, true, false, not, ◌&&◌, ◌||◌, List, [], map, Option, Some, None, refl, sym, ap, subst, arith}
use Rattle.std.specs.Prelude.{IfSome}
use Rattle.std.specs.List.{AllByRecursion, list_all}
use Rattle.common_lemmas.proofs.Booleans.{and_left, and_right}
use Rattle.common_lemmas.proofs.Lists.{all_stronger}
use Rattle.database_state.specs.Table.{Table, row_at, schema_of, table_with_id}
use Rattle.database_state.specs.SchemaChanges.{is_type_long}
use Rattle.database_state.specs.State.{DatabaseState, empty_state}
use Rattle.laws_versions.specs.Records.{records_of}
use Rattle.laws_versions.specs.History.{EachTwo, LabelsRise}
use Rattle.laws_versions.specs.KeySums.{IsPlainIndex}
use Rattle.laws_versions.specs.TableOrder.{HasTablesInOrder}
use Rattle.laws_versions.specs.UniqueKeys.{IsUniqueTable}
use Rattle.laws_versions.specs.Bookmarks.{StandsUnder}
use Rattle.laws_versions.specs.RecordNumbers.{HasSingleSums, HoldsNumbers}
use Rattle.laws_versions.specs.StoredRecords.{IsStored}
use Rattle.laws_versions.proofs.RecordLemmas.EachRecord.{each_begun}
use Rattle.version_cleanup.specs.LiveSessions.{live_state}
use Rattle.laws_engine.proofs.TableLemmas.Alone.{alone_holds}
use Rattle.laws_engine.proofs.TableLemmas.TablesInOrder.{in_order_rise}
use Rattle.laws_engine.specs.ColumnNumbers.{have_own_numbers}
use Rattle.laws_engine.proofs.LawfulLemmas.ReachedStates.{begins}
use Rattle.laws_engine.proofs.LawfulLemmas.TableTests.{all_found}
use Rattle.session_local.specs.BuiltTables.{are_built, is_built_column, is_built_rule, is_built_table}
use Rattle.laws_engine.proofs.EngineLemmas.BuiltColumns.{its_sum}
use Rattle.laws_engine.specs.EngineState.{HasRoomForEnds, empty_engine, engine_of}
use Rattle.laws_engine.specs.HoldsState.{HoldsState}

-- the escrow columns of built tables have one value
built_single : (state : DatabaseState) → are_built state.tables ≡ true → (id : ℕ) → IfSome (table_with_id state.tables id) HasSingleSums
built_single state built id = by (table_with_id state.tables id) (all_found is_built_table state.tables built id)
  where
    single : (e l m r : Bool) → (not e || (l && (m && r))) ≡ true → (not e || m) ≡ true
    single false l m r h = refl
    single true l m r h = and_left m r (and_right l (m && r) h)

    by : (o : Option Table) → IfSome o (λ table. is_built_table table ≡ true) → IfSome o HasSingleSums
    by None h = tt
    by (Some table) h =
        all_stronger is_built_column (λ c. not c.escrow || not c.multi) (λ c b. single c.escrow (is_type_long c.kind) (not c.multi) _ (its_sum c b)) table.columns
        (and_left (list_all is_built_column table.columns) (list_all is_built_rule table.indexes) h)

pub tables_hold : (limit newest : ℕ) (state : DatabaseState) → newest ≤ state.number → state.sessions ≡ [] → state.past ≡ [] → HasTablesInOrder state → ((id : ℕ) → IfSome (table_with_id state.tables id) IsUniqueTable)
    → ((id : ℕ) → IfSome (table_with_id state.tables id) (λ table. AllByRecursion (IsPlainIndex table) table.indexes))
    → ((id : ℕ) → IfSome (table_with_id state.tables id) (λ table. (bookmark : List ℕ) → IfSome (row_at table.rows bookmark) (StandsUnder state.number (schema_of table) bookmark)))
    → ((id : ℕ) → IfSome (table_with_id state.tables id) (λ table. (bookmark : List ℕ) → IfSome (row_at table.rows bookmark) (IsStored state.number (schema_of table) bookmark)))
    → ((id : ℕ) → IfSome (table_with_id state.tables id) (λ table. (bookmark : List ℕ) → IfSome (row_at table.rows bookmark) (HoldsNumbers state.number (schema_of table) bookmark)))
    → are_built state.tables ≡ true → have_own_numbers state.tables ≡ true → HoldsState (engine_of limit newest state) state
tables_hold limit newest state within sessions past order unique plain marks stored numbers built columns = record {
  base = records_of state.tables;
  dropped = [];
  kept = [];
  reached = begins state sessions past order unique marks numbers plain (built_single state built) columns;
  holds = alone_holds state sessions past (in_order_rise state order);
  stored = each_begun IsStored state stored;
  number = refl;
  greatest = refl;
  newest = within;
  sessions = ap (map live_state) sessions;
  labels = subst (EachTwo LabelsRise) (sym sessions) tt;
  built = built;
}

pub empty_holds : (limit : ℕ) → HoldsState (empty_engine limit) empty_state
empty_holds limit = tables_hold limit 0 empty_state (omega arith) refl refl (record { ids = tt; given = tt; rows = tt }) (λ id. tt) (λ id. tt) (λ id. tt) (λ id. tt) (λ id. tt) refl refl

pub tables_have_room : (limit newest : ℕ) (state : DatabaseState) → state.number ≤ 2 ^ 35 + 1 → HasRoomForEnds (engine_of limit newest state)
tables_have_room limit newest state h = record { begun = least state.number; room = same state.number (2 ^ 35 + 1) h }
  where
    least : (n : ℕ) → 0 ≤ n
    least n = omega arith

    same : (n b : ℕ) → n ≤ b → n + 0 ≤ b
    same n b h = omega (arith, h)
