-- What an engine without its undone changes holds.
use Rattle.std.proofs.Common.{◌≡◌, ℕ, Bool, true, false, not, cond, List, [], ◌∷◌, refl, sym, ap, subst, ◌∙◌}
use Rattle.std.specs.Prelude.{filter}
use Rattle.std.specs.List.{AllByRecursion}
use Rattle.common_lemmas.proofs.Lists.{all_filter, all_weaker}
use Rattle.column_set.specs.declared.columns.Column.{Column}
use Rattle.column_set.specs.RecordValues.{RecordFields}
use Rattle.database_state.specs.State.{DatabaseState, PastChange, Status, is_undone, transaction_of}
use Rattle.database_state.specs.Table.{Table, schema_of, table_with_id}
use Rattle.index_derive.specs.declared.rules.IndexRule.{IndexRule}
use Rattle.index_derive.specs.declared.rules.Schema.{Schema}
use Rattle.laws_versions.specs.Records.{Records, after_item, records_of}
use Rattle.laws_images.specs.Settled.{settled, settled_engine, settled_store, stands}
use Rattle.laws_images.proofs.SettledLemmas.SettledHistories.{each_two, history}
use Rattle.laws_images.proofs.SettledLemmas.Steps.{newest_alike}
use Rattle.laws_versions.specs.Readers.{is_standing}
use Rattle.laws_versions.proofs.HistoryLemmas.Keeping.{some_map}
use Rattle.laws_engine.specs.LawfulSteps.{IsReached}
use Rattle.laws_engine.specs.EngineState.{EngineState}
use Rattle.laws_engine.specs.HoldsState.{HoldsState}
use Rattle.laws_versions.specs.KeySums.{HasEscrowSums, HasKeyBefores, IsApartFromSums}
use Rattle.laws_versions.specs.UniqueKeys.{BringsFreeKeys, HasBookmarkKeys, HasFreeKeys, HasUniqueIndexes, HasUniqueKeys, InKeyOrder, IsSoundIndex, IsUniqueIndex}
use Rattle.laws_versions.specs.Bookmarks.{TouchesRecord}
use Rattle.laws_versions.specs.EachRecord.{EachRecordHas}
use Rattle.laws_versions.specs.SumBefores.{HasSumBefores}
use Rattle.laws_engine.specs.HeldRecords.{HeldRecord}
use Rattle.laws_engine.specs.Holding.{AllMatch, Holds}
use Rattle.laws_engine.specs.VersionedTables.{VersionedTables}

-- ---- what else is reached

key_befores : (rule : IndexRule) (schema : Schema) (table : ℕ) (records : Records) (kept : List PastChange) → HasKeyBefores rule schema table records kept → HasKeyBefores rule schema table records (filter is_standing kept)
key_befores rule schema table records [] h = tt
key_befores rule schema table records (item ∷ kept) h = at (is_standing item) refl (key_befores rule schema table (cond (is_standing item) (after_item records item) records) kept h.1)
  where
    at : (b : Bool) → is_standing item ≡ b → HasKeyBefores rule schema table (cond (is_standing item) (after_item records item) records) (filter is_standing kept) → HasKeyBefores rule schema table records (cond b (item ∷ filter is_standing kept) (filter is_standing kept))
    at true e rest = (h.0, rest)
    at false e rest = subst (λ (b : Bool). HasKeyBefores rule schema table (cond b (after_item records item) records) (filter is_standing kept)) e rest

free_keys : (rule : IndexRule) (schema : Schema) (table : ℕ) (records : Records) (kept : List PastChange) → BringsFreeKeys rule schema table records kept → BringsFreeKeys rule schema table records (filter is_standing kept)
free_keys rule schema table records [] h = tt
free_keys rule schema table records (item ∷ kept) h = at (is_standing item) refl (free_keys rule schema table (cond (is_standing item) (after_item records item) records) kept h.1)
  where
    at : (b : Bool) → is_standing item ≡ b → BringsFreeKeys rule schema table (cond (is_standing item) (after_item records item) records) (filter is_standing kept) → BringsFreeKeys rule schema table records (cond b (item ∷ filter is_standing kept) (filter is_standing kept))
    at true e rest = (h.0, rest)
    at false e rest = subst (λ (b : Bool). BringsFreeKeys rule schema table (cond b (after_item records item) records) (filter is_standing kept)) e rest

sum_befores : (columns : List Column) (table : ℕ) (records : Records) (kept : List PastChange) → HasSumBefores columns table records kept → HasSumBefores columns table records (filter is_standing kept)
sum_befores columns table records [] h = tt
sum_befores columns table records (item ∷ kept) h = at (is_standing item) refl (sum_befores columns table (cond (is_standing item) (after_item records item) records) kept h.1)
  where
    at : (b : Bool) → is_standing item ≡ b → HasSumBefores columns table (cond (is_standing item) (after_item records item) records) (filter is_standing kept) → HasSumBefores columns table records (cond b (item ∷ filter is_standing kept) (filter is_standing kept))
    at true e rest = (h.0, rest)
    at false e rest = subst (λ (b : Bool). HasSumBefores columns table (cond b (after_item records item) records) (filter is_standing kept)) e rest

sums : (base : Records) (kept : List PastChange) (state : DatabaseState) → HasEscrowSums base kept state → HasEscrowSums base (filter is_standing kept) (settled state)
sums base kept state h = record {
  tables = λ id. some_map (λ t. AllByRecursion (IsApartFromSums base kept t) t.indexes) (λ t. AllByRecursion (IsApartFromSums base (filter is_standing kept) t) t.indexes)
      (λ t. all_weaker (IsApartFromSums base kept t) (IsApartFromSums base (filter is_standing kept) t) (λ rule p. (p.0, all_filter _ is_standing kept p.1, key_befores rule (schema_of t) t.id base kept p.2)) t.indexes)
      (table_with_id state.tables id) (h.tables id);
}

unique : (base : Records) (kept : List PastChange) (state : DatabaseState) → HasUniqueKeys base kept state → HasUniqueKeys base (filter is_standing kept) (settled state)
unique base kept state h = record {
  tables = λ id. some_map (HasUniqueIndexes (transaction_of state) base kept) (HasUniqueIndexes (transaction_of state) base (filter is_standing kept))
      (λ t. all_weaker (λ rule. IsSoundIndex t rule × IsUniqueIndex (transaction_of state) base kept t rule) (λ rule. IsSoundIndex t rule × IsUniqueIndex (transaction_of state) base (filter is_standing kept) t rule)
      (λ rule p. (p.0, λ is. let q = p.1 is in (free t rule q.0, λ primary. own t rule (q.1 primary)))) t.indexes)
      (table_with_id state.tables id) (h.tables id);
}
  where
    free : (t : Table) (rule : IndexRule) → HasFreeKeys rule (schema_of t) t.id (transaction_of state) base kept → HasFreeKeys rule (schema_of t) t.id (transaction_of state) base (filter is_standing kept)
    free t rule f = record { at_first = f.at_first; free_keys = free_keys rule (schema_of t) t.id base kept f.free_keys; key_order = each_two (InKeyOrder rule (schema_of t) t.id (transaction_of state)) is_standing kept f.key_order }

    own : (t : Table) (rule : IndexRule) → HasBookmarkKeys rule (schema_of t) t.id base kept → HasBookmarkKeys rule (schema_of t) t.id base (filter is_standing kept)
    own t rule b = record { at_first = b.at_first; changes = all_filter _ is_standing kept b.changes }

each_record : (P : ℕ → Schema → List ℕ → RecordFields → Type 0) (base : Records) (kept : List PastChange) (state : DatabaseState) → EachRecordHas P base kept state → EachRecordHas P base (filter is_standing kept) (settled state)
each_record P base kept state h = record { at_first = h.at_first; changes = all_filter _ is_standing kept h.changes }

pub reached : (base : Records) (dropped kept : List PastChange) (state : DatabaseState) → IsReached base dropped kept state → IsReached base (filter is_standing dropped) (filter is_standing kept) (settled state)
reached base dropped kept state h = record {
  history = history base dropped kept state h.history;
  sums = sums base kept state h.sums;
  unique = unique base kept state h.unique;
  order = record { ids = h.order.ids; given = h.order.given; rows = h.order.rows };
  bookmarks = record { records = each_record _ base kept state h.bookmarks.records; touched = all_filter TouchesRecord is_standing kept h.bookmarks.touched };
  numbers = record { columns = h.numbers.columns; sums = all_filter _ is_standing kept h.numbers.sums; records = each_record _ base kept state h.numbers.records };
  befores = λ id. some_map (λ t. HasSumBefores t.columns t.id base kept) (λ t. HasSumBefores t.columns t.id base (filter is_standing kept)) (λ t. sum_befores t.columns t.id base kept) (table_with_id state.tables id) (h.befores id);
  columns = h.columns;
  uncopied = all_filter _ is_standing kept h.uncopied;
}

-- ---- what is held

match : (kept : List PastChange) (held : List HeldRecord) → AllMatch kept held → AllMatch (filter is_standing kept) (filter stands held)
match [] [] m = tt
match [] (h ∷ held) m = absurd m
match (item ∷ kept) [] m = absurd m
match (item ∷ kept) (h ∷ held) m = at (is_standing item) refl (match kept held m.1)
  where
    same : stands h ≡ is_standing item
    same = ap (λ (s : Status). not (is_undone s)) m.0.status

    at : (b : Bool) → is_standing item ≡ b → AllMatch (filter is_standing kept) (filter stands held) → AllMatch (cond b (item ∷ filter is_standing kept) (filter is_standing kept)) (cond (stands h) (h ∷ filter stands held) (filter stands held))
    at true e rest = subst (λ b. AllMatch (item ∷ filter is_standing kept) (cond b (h ∷ filter stands held) (filter stands held))) (sym (same ∙ e)) (m.0, rest)
    at false e rest = subst (λ b. AllMatch (filter is_standing kept) (cond b (h ∷ filter stands held) (filter stands held))) (sym (same ∙ e)) rest

holds : (base : Records) (dropped kept : List PastChange) (store : VersionedTables) (state : DatabaseState) → Holds base dropped kept store state → Holds base (filter is_standing dropped) (filter is_standing kept) (settled_store store) (settled state)
holds base dropped kept store state h = record {
  history = history base dropped kept state h.history;
  rise = record { committed = h.rise.committed; snapshots = h.rise.snapshots };
  defined = h.defined;
  newest = h.newest ∙ sym (ap records_of (newest_alike state));
  in_order = h.in_order;
  held = match kept store.held h.held;
}

pub settled_holds : (engine : EngineState) (state : DatabaseState) → HoldsState engine state → HoldsState (settled_engine engine) (settled state)
settled_holds engine state h = record {
  base = h.base;
  dropped = filter is_standing h.dropped;
  kept = filter is_standing h.kept;
  reached = reached h.base h.dropped h.kept state h.reached;
  holds = holds h.base h.dropped h.kept engine.store state h.holds;
  stored = each_record _ h.base h.kept state h.stored;
  number = h.number;
  greatest = h.greatest;
  newest = h.newest;
  sessions = h.sessions;
  labels = h.labels;
  built = h.built;
}
