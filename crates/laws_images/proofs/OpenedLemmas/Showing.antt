-- The state that an engine shows is one that it holds.
use Rattle.std.proofs.Common.{◌≡◌, ◌<◌, ◌≤◌, ℕ, Option, Some, None, List, [], ◌∷◌, refl, sym}
use Rattle.std.specs.Prelude.{map, IfSome}
use Rattle.std.specs.List.{AllByRecursion}
use Rattle.common_lemmas.proofs.Lists.{all_weaker}
use Rattle.column_set.specs.RecordValues.{RecordFields}
use Rattle.database_state.specs.Changes.{without_copied}
use Rattle.column_set.specs.ChangedRecords.{changed_bookmark, changed_table}
use Rattle.database_state.specs.State.{PastChange}
use Rattle.database_state.specs.Table.{Table, schema_of, table_with_id}
use Rattle.index_derive.specs.declared.rules.Schema.{Schema}
use Rattle.laws_versions.specs.Records.{Records}
use Rattle.version_cleanup.specs.LiveSessions.{LiveState, live_state}
use Rattle.version_cleanup.specs.declared.live.Transaction.{Transaction as LiveTransaction}
use Rattle.laws_versions.specs.History.{without_rows}
use Rattle.laws_versions.proofs.HistoryLemmas.Keeping.{some_map}
use Rattle.laws_engine.specs.EngineState.{EngineState}
use Rattle.laws_engine.specs.HoldsState.{HoldsState}
use Rattle.session_local.specs.BuiltTables.{is_built_table}
use Rattle.laws_engine.specs.ColumnNumbers.{has_own_numbers}
use Rattle.laws_engine.specs.LawfulSteps.{IsReached}
use Rattle.laws_engine.specs.UncopiedPast.{AreUncopied}
use Rattle.version_store.specs.declared.calls.ChangeKind.{ChangeKind}
use Rattle.version_store.specs.declared.calls.ChangeKind.TheVariants as kind
use Rattle.laws_versions.specs.TableOrder.{IdsRise}
use Rattle.laws_versions.specs.KeySums.{IsApartFromSums, IsPlainIndex, SeesNoSum}
use Rattle.laws_versions.specs.Bookmarks.{StandsUnder}
use Rattle.laws_versions.specs.EachRecord.{EachRecordHas, HasBoth}
use Rattle.laws_versions.specs.RecordNumbers.{AddsToEscrow, HasSingleSums, HoldsNumbers}
use Rattle.laws_versions.specs.StoredRecords.{IsStored}
use Rattle.laws_versions.specs.SumBefores.{HasSumBefores}
use Rattle.laws_engine.specs.HeldRecords.{HeldRecord}
use Rattle.laws_engine.specs.Holding.{Holds, RowsRise}
use Rattle.laws_engine.proofs.TableLemmas.ShownEntries.{order_is}
use Rattle.laws_images.specs.ShownStates.{change_made, past_of, session_of, tables_before}
use Rattle.laws_images.proofs.OpenedLemmas.HeldStates.{held}
use Rattle.laws_images.proofs.OpenedLemmas.TakenBack.{exact}
use Rattle.laws_images.specs.ShowableEngines.{EachIn, HasSoundRecords, IsShowable, IsSoundRecord, first_records, past_in, state_of}
use Rattle.laws_images.proofs.OpenedLemmas.CarriedTables.{all_carried, carried, each_carried, test_carried}
use Rattle.laws_images.proofs.OpenedLemmas.EachShown.{EachBoth, each_before, each_both}
use Rattle.laws_images.proofs.OpenedLemmas.ExactRecords.{keys_exact, sums_exact}

-- ---- sessions

live_again : (first : List Table) (past : List PastChange) (sessions : List LiveState) → map live_state (map (session_of first past) sessions) ≡ sessions
live_again first past [] = refl
live_again first past (s ∷ sessions) = λ i. one s.transaction i ∷ live_again first past sessions i
  where
    one : (o : Option LiveTransaction) → live_state (session_of first past (record s { transaction = o })) ≡ record s { transaction = o }
    one None = refl
    one (Some l) = refl

-- ---- past changes

uncopied_one : (what : ChangeKind) (table : ℕ) (bookmark : List ℕ) (after : Option RecordFields) → without_copied (change_made what table bookmark after) ≡ change_made what table bookmark after
uncopied_one kind.Put table bookmark after = refl
uncopied_one kind.Drop table bookmark after = refl
uncopied_one kind.Hold table bookmark after = refl
uncopied_one (kind.Add column amount) table bookmark after = refl

uncopied : (changes : List HeldRecord) (tables : List Table) → AreUncopied (past_of changes tables)
uncopied [] tables = tt
uncopied (h ∷ changes) tables = (sym (uncopied_one h.kind h.table h.bookmark _), uncopied changes tables)

-- ---- what each record has

first_each : (P Q : ℕ → Schema → List ℕ → RecordFields → Type 0) → ((number : ℕ) (schema : Schema) (bookmark : List ℕ) (values : RecordFields) → P number schema bookmark values → Q number schema bookmark values)
    → (number : ℕ) (tables : List Table) (records : Records) → EachIn P number tables records → EachIn Q number tables records
first_each P Q turn number tables records each id = at (table_with_id tables id) (each id)
  where
    one : (schema : Schema) (bookmark : List ℕ) (o : Option RecordFields) → IfSome o (P number schema bookmark) → IfSome o (Q number schema bookmark)
    one schema bookmark None p = tt
    one schema bookmark (Some values) p = turn number schema bookmark values p

    at : (o : Option Table) → IfSome o (λ table. (bookmark : List ℕ) → IfSome (records id bookmark) (P number (schema_of table) bookmark)) → IfSome o (λ table. (bookmark : List ℕ) → IfSome (records id bookmark) (Q number (schema_of table) bookmark))
    at None e = tt
    at (Some table) e = λ bookmark. one (schema_of table) bookmark (records id bookmark) (e bookmark)

both_each : (P Q : ℕ → Schema → List ℕ → RecordFields → Type 0) → ((number : ℕ) (schema : Schema) (bookmark : List ℕ) (values : RecordFields) → P number schema bookmark values → Q number schema bookmark values)
    → (number : ℕ) (tables : List Table) (past : List PastChange) → EachBoth P number tables past → EachBoth Q number tables past
both_each P Q turn number tables [] each = tt
both_each P Q turn number tables (item ∷ past) each = (at (table_with_id tables (changed_table item.change)) each.0, both_each P Q turn number tables past each.1)
  where
    one : (schema : Schema) (o : Option RecordFields) → IfSome o (P number schema (changed_bookmark item.change)) → IfSome o (Q number schema (changed_bookmark item.change))
    one schema None p = tt
    one schema (Some values) p = turn number schema (changed_bookmark item.change) values p

    at : (o : Option Table) → IfSome o (λ table. HasBoth P number (schema_of table) item) → IfSome o (λ table. HasBoth Q number (schema_of table) item)
    at None e = tt
    at (Some table) e = (one (schema_of table) item.before e.0, one (schema_of table) item.after e.1)

carried_both : (P : ℕ → Schema → List ℕ → RecordFields → Type 0) (number : ℕ) (one other : List Table) → map without_rows one ≡ map without_rows other → (past : List PastChange) → EachBoth P number one past → EachBoth P number other past
carried_both P number one other e [] h = tt
carried_both P number one other e (item ∷ past) h = (carried (λ table. HasBoth P number (schema_of table) item) (λ t q. q) (λ t q. q) one other e (changed_table item.change) h.0, carried_both P number one other e past h.1)

carried_adds : (one other : List Table) → map without_rows one ≡ map without_rows other → (past : List PastChange) → AllByRecursion (λ item. IfSome (table_with_id one (changed_table item.change)) (λ table. AddsToEscrow (schema_of table) item.change)) past
    → AllByRecursion (λ item. IfSome (table_with_id other (changed_table item.change)) (λ table. AddsToEscrow (schema_of table) item.change)) past
carried_adds one other e [] h = tt
carried_adds one other e (item ∷ past) h = (carried (λ table. AddsToEscrow (schema_of table) item.change) (λ t q. q) (λ t q. q) one other e (changed_table item.change) h.0, carried_adds one other e past h.1)

each_record : (Q : ℕ → Schema → List ℕ → RecordFields → Type 0) → ((number : ℕ) (schema : Schema) (bookmark : List ℕ) (values : RecordFields) → IsSoundRecord number schema bookmark values → Q number schema bookmark values)
    → (engine : EngineState) → HasSoundRecords engine → map without_rows engine.store.tables ≡ map without_rows (state_of engine).tables → EachRecordHas Q (first_records engine) (past_in engine) (state_of engine)
each_record Q turn engine r e = record {
  at_first = λ id. carried (λ table. (bookmark : List ℕ) → IfSome (first_records engine id bookmark) (Q engine.number (schema_of table) bookmark)) (λ t q. q) (λ t q. q) engine.store.tables (state_of engine).tables e id
      (first_each IsSoundRecord Q turn engine.number engine.store.tables (first_records engine) (each_before IsSoundRecord engine.number engine.store.tables engine.store.held r.turn r.keeps r.befores r.newest) id);
  changes = carried_both Q engine.number engine.store.tables (state_of engine).tables e (past_in engine)
      (both_each IsSoundRecord Q turn engine.number engine.store.tables (past_in engine) (each_both IsSoundRecord engine.number engine.store.tables engine.store.held r.turn r.keeps r.befores r.newest));
}

-- ---- the whole

pub showing : (engine : EngineState) → IsShowable engine → HoldsState engine (state_of engine)
showing engine s =
    let base = first_records engine in
    let past = past_in engine in
    let state = state_of engine in
    let tables = engine.store.tables in
    let holds : Holds base [] past engine.store state = held engine.number engine.greatest_table engine.sessions engine.store s.records.turn s.placed s.records.costs s.tables.rise in
    let e : map without_rows tables ≡ map without_rows state.tables = holds.defined in
    let ex = exact engine.store.held tables s.records.turn in
    let reached : IsReached base [] past state = record {
      history = holds.history;
      sums = record {
        tables = λ id. carried (λ table. AllByRecursion (IsApartFromSums base past table) table.indexes) (λ t q. q) (λ t q. q) tables state.tables e id
            (some_map (λ table. AllByRecursion (λ rule. IsPlainIndex table rule × SeesNoSum rule table.id past) table.indexes) (λ table. AllByRecursion (IsApartFromSums base past table) table.indexes)
            (λ table. all_weaker (λ rule. IsPlainIndex table rule × SeesNoSum rule table.id past) (IsApartFromSums base past table) (λ rule q. (q.0, q.1, keys_exact rule (schema_of table) table.id base past ex)) table.indexes)
            (table_with_id tables id) (s.tables.plain id));
      };
      unique = s.records.unique;
      order = record {
        ids = each_carried IdsRise (λ t u q. q) (λ t u q. q) tables state.tables e s.tables.ids;
        given = all_carried (λ table. (0 < table.id) × (table.id ≤ engine.greatest_table)) (λ t q. q) (λ t q. q) tables state.tables e s.tables.given;
        rows = all_weaker (λ table. RowsRise table.rows) _ (λ table rise. order_is table.rows rise) state.tables holds.rise.committed;
      };
      bookmarks = record { records = each_record StandsUnder (λ number schema bookmark values p. p.2) engine s.records e; touched = s.records.touched };
      numbers = record {
        columns = λ id. carried HasSingleSums (λ t q. q) (λ t q. q) tables state.tables e id (s.tables.single id);
        sums = carried_adds tables state.tables e past s.records.adds;
        records = each_record HoldsNumbers (λ number schema bookmark values p. p.1) engine s.records e;
      };
      befores = λ id. some_map (λ table. Unit {0}) (λ table. HasSumBefores table.columns table.id base past) (λ table q. sums_exact table.columns table.id base past ex) (table_with_id state.tables id) (any (table_with_id state.tables id));
      columns = test_carried has_own_numbers (λ t. refl) tables state.tables e s.tables.columns;
      uncopied = uncopied engine.store.held tables;
    } in
    record {
      base = base;
      dropped = [];
      kept = past;
      reached = reached;
      holds = holds;
      stored = each_record IsStored (λ number schema bookmark values p. p.0) engine s.records e;
      number = refl;
      greatest = refl;
      newest = s.numbered;
      sessions = live_again (tables_before engine.store.held tables) past engine.sessions;
      labels = s.labels;
      built = test_carried is_built_table (λ t. refl) tables state.tables e s.tables.built;
    }
  where
    any : (o : Option Table) → IfSome o (λ table. Unit {0})
    any None = tt
    any (Some t) = tt
