-- That tables with versions hold the state that they show.
use Rattle.std.proofs.Common.{◌≡◌, ℕ, true, Option, Some, None, List, [], ◌∷◌, refl, sym, ◌∙◌}
use Rattle.std.specs.Prelude.{filter, map, option_map, IfSome}
use Rattle.std.specs.List.{AllByRecursion}
use Rattle.column_set.specs.RecordValues.{RecordFields}
use Rattle.database_state.specs.State.{PastChange, change_of}
use Rattle.database_state.specs.Table.{Table, record_in}
use Rattle.laws_versions.specs.Records.{record_after, records_of}
use Rattle.version_cleanup.specs.LiveSessions.{LiveState}
use Rattle.version_cleanup.specs.declared.live.Transaction.{Transaction as LiveTransaction}
use Rattle.laws_versions.specs.History.{IsHistory, without_rows}
use Rattle.laws_versions.specs.Readers.{is_rewrite, was_committed}
use Rattle.laws_versions.proofs.HistoryLemmas.EndEntries.{same_definitions}
use Rattle.laws_versions.proofs.HistoryLemmas.SeenRecords.{newest_records}
use Rattle.version_store.specs.HeldChanges.{kind_of}
use Rattle.version_store.specs.declared.calls.ChangeKind.{ChangeKind}
use Rattle.version_store.specs.declared.calls.ChangeKind.TheVariants as kind
use Rattle.laws_engine.specs.HeldRecords.{HeldRecord, inverse, inverse_of}
use Rattle.laws_engine.specs.Holding.{AllMatch, AllRise, Holds, SnapshotRises}
use Rattle.laws_engine.specs.VersionedTables.{VersionedTables}
use Rattle.laws_engine.proofs.TableLemmas.Rising.{all_tables_rise, tables_rise}
use Rattle.laws_images.specs.InTurn.{ArePlaced, HaveTheirCosts, AreInTurn}
use Rattle.laws_images.specs.ShownStates.{change_made, past_of, session_of, shown_state, tables_before, with_snapshot, with_empty_snapshot}
use Rattle.laws_images.proofs.OpenedLemmas.ShownHistories.{history}
use Rattle.laws_images.proofs.OpenedLemmas.TakenBack.{made_bookmark, made_table, newest}

-- ---- what matches

same_kind : (what : ChangeKind) (table : ℕ) (bookmark : List ℕ) (after : Option RecordFields) → what ≡ kind_of (change_made what table bookmark after)
same_kind kind.Put table bookmark after = refl
same_kind kind.Drop table bookmark after = refl
same_kind kind.Hold table bookmark after = refl
same_kind (kind.Add column amount) table bookmark after = refl

same_before : (what : ChangeKind) (table : ℕ) (bookmark : List ℕ) (before after : Option RecordFields) → is_rewrite (change_made what table bookmark after) ≡ true → before ≡ record_after (inverse_of what table bookmark before) after
same_before kind.Put table bookmark None after e = refl
same_before kind.Put table bookmark (Some values) after e = refl
same_before kind.Drop table bookmark None after e = refl
same_before kind.Drop table bookmark (Some values) after e = refl
same_before kind.Hold table bookmark before after e = cc
same_before (kind.Add column amount) table bookmark before after e = cc

match : (changes : List HeldRecord) (tables : List Table) → HaveTheirCosts changes tables → AllMatch (past_of changes tables) changes
match [] tables priced = tt
match (h ∷ changes) tables priced =
    let after = record_in (tables_before changes tables) h.table h.bookmark in (
      record {
        number = refl;
        session = refl;
        level = refl;
        kind = same_kind h.kind h.table h.bookmark after;
        table = sym (made_table h.kind h.table h.bookmark after);
        bookmark = sym (made_bookmark h.kind h.table h.bookmark after);
        status = refl;
        before = λ stands rewrite. same_before h.kind h.table h.bookmark h.before after rewrite;
        cost = priced.0;
      },
      match changes tables priced.1,
    )

-- ---- what rises

first_rise : (changes : List HeldRecord) (tables : List Table) → AllRise tables → AllRise (tables_before changes tables)
first_rise [] tables rise = rise
first_rise (h ∷ changes) tables rise = tables_rise (tables_before changes tables) (inverse h) (first_rise changes tables rise)

snapshots : (first : List Table) (past : List PastChange) → AllRise first → (sessions : List LiveState) → AllByRecursion SnapshotRises (map (session_of first past) sessions)
snapshots first past rise [] = tt
snapshots first past rise (s ∷ sessions) = (one s.transaction, snapshots first past rise sessions)
  where
    one : (o : Option LiveTransaction) → IfSome (option_map (with_snapshot first past) o) (λ transaction. AllRise transaction.snapshot)
    one None = tt
    one (Some l) = all_tables_rise first (map change_of (filter (was_committed (Some (with_empty_snapshot l))) past)) rise

-- ---- definitions

first_defined : (changes : List HeldRecord) (tables : List Table) → map without_rows (tables_before changes tables) ≡ map without_rows tables
first_defined [] tables = refl
first_defined (h ∷ changes) tables = same_definitions (tables_before changes tables) (inverse h ∷ []) ∙ first_defined changes tables

pub held : (number greatest : ℕ) (sessions : List LiveState) (store : VersionedTables) → AreInTurn store.held store.tables → ArePlaced number greatest sessions store → HaveTheirCosts store.held store.tables → AllRise store.tables
    → Holds (records_of (tables_before store.held store.tables)) [] (past_of store.held store.tables) store (shown_state number greatest sessions store)
held number greatest sessions store turn placed priced rise =
    let first = tables_before store.held store.tables in
    let past = past_of store.held store.tables in
    let is : IsHistory (records_of first) [] past (shown_state number greatest sessions store) = history number greatest sessions store turn placed in
    record {
      history = is;
      rise = record {
        committed = all_tables_rise first (map change_of (filter (was_committed None) past)) (first_rise store.held store.tables rise);
        snapshots = snapshots first past (first_rise store.held store.tables rise) sessions;
      };
      defined = sym (same_definitions first (map change_of (filter (was_committed None) past)) ∙ first_defined store.held store.tables);
      newest = sym (newest_records (records_of first) [] past (shown_state number greatest sessions store) is ∙ newest store.held store.tables turn);
      in_order = rise;
      held = match store.held store.tables priced;
    }
