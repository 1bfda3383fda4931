-- The states that lawful entries reach.
use Rattle.std.proofs.Common.{◌≡◌, ℕ, true, false, List, [], ◌∷◌, ◌++◌, refl}
use Rattle.std.specs.Prelude.{if◌then◌else◌, IfSome}
use Rattle.std.specs.List.{AllByRecursion}
use Rattle.index_derive.specs.declared.log.Entry.{Entry}
use Rattle.database_state.specs.Table.{table_with_id}
use Rattle.database_state.specs.State.{DatabaseState, PastChange, empty_state}
use Rattle.database_state.specs.Step.{state_after, state_after_all}
use Rattle.database_state.specs.VersionStore.{is_needed}
use Rattle.database_state.specs.Lawful.{is_lawful}
use Rattle.laws_versions.specs.Records.{Records, after_item, records_of}
use Rattle.laws_versions.specs.Readers.{is_standing}
use Rattle.laws_versions.specs.KeptSteps.{base_after, dropped_after, kept_after}
use Rattle.laws_versions.proofs.HistoryLemmas.EndEntries.{history_cleaned}
use Rattle.laws_versions.proofs.HistoryLemmas.LawfulEntries.{history_alone, keeps_lawful}
use Rattle.laws_versions.specs.TableOrder.{HasTablesInOrder}
use Rattle.laws_versions.specs.UniqueKeys.{IsUniqueTable}
use Rattle.laws_versions.specs.KeySums.{IsPlainIndex}
use Rattle.laws_versions.proofs.KeyLemmas.BookmarkKeys.{HasOneEntry}
use Rattle.laws_versions.proofs.KeyLemmas.EscrowSums.{sums_begin, sums_cleaned, sums_kept, unseen_next, unseen_now}
use Rattle.laws_versions.proofs.KeyLemmas.OrderedTables.{order_kept}
use Rattle.laws_versions.proofs.KeyLemmas.UniqueLaws.{keys_begin, keys_cleaned, keys_kept}
use Rattle.laws_versions.specs.Bookmarks.{StandsUnder}
use Rattle.laws_versions.specs.RecordNumbers.{HasItsType, HasSingleSums, HoldsNumbers}
use Rattle.laws_versions.proofs.RecordLemmas.EachRecord.{RowsHave}
use Rattle.laws_versions.proofs.RecordLemmas.EscrowRecords.{numbers_begin, numbers_cleaned, numbers_kept as escrow_kept}
use Rattle.laws_versions.proofs.RecordLemmas.SumBefores.{sum_befores_begin, sum_befores_cleaned, sum_befores_kept}
use Rattle.laws_versions.proofs.RecordLemmas.Standing.{bookmarks_begun, bookmarks_cleaned, bookmarks_kept}
use Rattle.laws_engine.specs.ColumnNumbers.{have_own_numbers}
use Rattle.laws_engine.specs.EntryTypes.{AreOfTheirTypes}
use Rattle.laws_engine.specs.LawfulSteps.{AreLawful, IsReached, IsReachedState}
use Rattle.laws_engine.proofs.LawfulLemmas.OwnNumbers.{numbers_kept}
use Rattle.laws_engine.proofs.LawfulLemmas.UncopiedChanges.{uncopied_after}

-- ---- entries

pub reaches : HasOneEntry → (base : Records) (dropped kept : List PastChange) (state : DatabaseState) (made : Entry) → IsReached base dropped kept state → is_lawful state made ≡ true → HasItsType made.kind
    → IsReached (base_after state made.kind base) (dropped_after made.kind dropped kept) (kept_after state made.session.0 made.kind kept) (state_after state made)
reaches one base dropped kept state made reached e type =
    let now = unseen_now base kept state reached.sums in
    let next = unseen_next base dropped kept state made reached.history e reached.sums in
    let order = order_kept state made reached.order e in
    record {
      history = keeps_lawful base dropped kept state made reached.history e;
      sums = sums_kept base dropped kept state made reached.history e reached.sums;
      unique = keys_kept one base dropped kept state made reached.history e now next reached.unique;
      order = order;
      bookmarks = bookmarks_kept one base dropped kept state made reached.history e now next reached.unique reached.bookmarks;
      numbers = escrow_kept base dropped kept state made reached.history e type reached.numbers;
      befores = sum_befores_kept base dropped kept state made reached.history reached.numbers.sums reached.befores;
      columns = numbers_kept state made order e reached.columns;
      uncopied = uncopied_after state made.session.0 made.kind kept reached.uncopied;
    }

pub reaches_all : HasOneEntry → (state : DatabaseState) (entries : List Entry) → IsReachedState state → AreLawful state entries → AreOfTheirTypes entries → IsReachedState (state_after_all state entries)
reaches_all one state [] reached lawful types = reached
reaches_all one state (made ∷ entries) reached lawful types =
    reaches_all one (state_after state made) entries (record {
      base = base_after state made.kind reached.base;
      dropped = dropped_after made.kind reached.dropped reached.kept;
      kept = kept_after state made.session.0 made.kind reached.kept;
      is_reached = reaches one reached.base reached.dropped reached.kept state made reached.is_reached lawful.0 types.0;
    }) lawful.1 types.1

-- ---- a clean

pub cleaned : (base : Records) (dropped : List PastChange) (item : PastChange) (kept : List PastChange) (state : DatabaseState) → IsReached base dropped (item ∷ kept) state → is_needed state.sessions item ≡ false
    → IsReached (if is_standing item then after_item base item else base) (dropped ++ item ∷ []) kept state
cleaned base dropped item kept state reached unneeded = record {
  history = history_cleaned base dropped item kept state reached.history unneeded;
  sums = sums_cleaned base item kept state reached.sums;
  unique = keys_cleaned base dropped item kept state reached.history (unseen_now base (item ∷ kept) state reached.sums) reached.unique;
  order = reached.order;
  bookmarks = bookmarks_cleaned base dropped item kept state reached.history (unseen_now base (item ∷ kept) state reached.sums) reached.bookmarks;
  numbers = numbers_cleaned base dropped item kept state reached.history reached.numbers;
  befores = sum_befores_cleaned base item kept state reached.befores;
  columns = reached.columns;
  uncopied = reached.uncopied.1;
}

-- ---- where it begins

pub begins : (state : DatabaseState) → state.sessions ≡ [] → state.past ≡ [] → HasTablesInOrder state → ((id : ℕ) → IfSome (table_with_id state.tables id) IsUniqueTable) → RowsHave StandsUnder state.number state.tables → RowsHave HoldsNumbers state.number state.tables
    → ((id : ℕ) → IfSome (table_with_id state.tables id) (λ table. AllByRecursion (IsPlainIndex table) table.indexes)) → ((id : ℕ) → IfSome (table_with_id state.tables id) HasSingleSums) → have_own_numbers state.tables ≡ true → IsReached (records_of state.tables) [] [] state
begins state sessions past order unique marks numbers plain single columns = record {
  history = history_alone state sessions past;
  sums = sums_begin state plain;
  unique = keys_begin state unique;
  order = order;
  bookmarks = bookmarks_begun state marks;
  numbers = numbers_begin state single numbers;
  befores = sum_befores_begin state;
  columns = columns;
  uncopied = tt;
}

pub begins_empty : IsReached (records_of empty_state.tables) [] [] empty_state
begins_empty = begins empty_state refl refl (record { ids = tt; given = tt; rows = tt }) (λ id. tt) (λ id. tt) (λ id. tt) (λ id. tt) (λ id. tt) refl
