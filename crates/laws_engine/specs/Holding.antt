-- When versioned tables hold a database state.
use Rattle.std.specs.Prelude.{◌≡◌, ℕ, true, List, [], ◌∷◌, map, Option, Some, None, nat_lt, if◌then◌else◌, option_map, IfSome, T}
use Rattle.std.specs.List.{AllByRecursion}
use Rattle.std.specs.Ordering.{nat_cmp}
use Rattle.std.specs.Cmp.Lexicographic.{slice_cmp}
use Rattle.std.specs.FinMap.Entries.{is_sorted}
use Rattle.database_state.specs.Table.{Table, Rows}
use Rattle.column_set.specs.ChangedRecords.{changed_table, changed_bookmark}
use Rattle.database_state.specs.State.{DatabaseState, LiveSession, PastChange, Transaction}
use Rattle.database_state.specs.VersionStore.{cost_of}
use Rattle.database_state.specs.View.{newest}
use Rattle.laws_versions.specs.Records.{Records, records_of}
use Rattle.laws_versions.specs.Readers.{is_standing, is_rewrite}
use Rattle.laws_versions.specs.History.{IsHistory, without_rows}
use Rattle.version_store.specs.HeldChanges.{kind_of}
use Rattle.laws_engine.specs.HeldRecords.{HeldRecord}
use Rattle.laws_engine.specs.VersionedTables.{VersionedTables}

-- the bookmarks of a table's records rise
abbrev pub RowsRise : Rows → Type 0
RowsRise rows = T (is_sorted (slice_cmp nat_cmp) rows)

abbrev pub AllRise : List Table → Type 0
AllRise tables = AllByRecursion (λ table. RowsRise table.rows) tables

-- where a transaction began, none outside one
abbrev pub begin_of : Option Transaction → Option ℕ
begin_of transaction = option_map (λ t. t.begin) transaction

-- the earlier of two begins
abbrev pub earlier : Option ℕ → Option ℕ → Option ℕ
earlier None other = other
earlier (Some one) None = Some one
earlier (Some one) (Some other) = Some (if nat_lt other one then other else one)

-- where the oldest open transaction began, none where none is open
abbrev pub oldest_begin : List LiveSession → Option ℕ
oldest_begin [] = None
oldest_begin (session ∷ sessions) = earlier (begin_of session.transaction) (oldest_begin sessions)

-- A held change is the kept one. One that stands and sets or removes its record has the very record before it.
pub record Matches (item : PastChange) (held : HeldRecord) : Type 0 where
  pub number : held.number ≡ item.number
  pub session : held.session ≡ item.session
  pub level : held.level ≡ item.level
  pub kind : held.kind ≡ kind_of item.change
  pub table : held.table ≡ changed_table item.change
  pub bookmark : held.bookmark ≡ changed_bookmark item.change
  pub status : held.status ≡ item.status
  pub before : is_standing item ≡ true → is_rewrite item.change ≡ true → held.before ≡ item.before
  pub cost : held.cost ≡ cost_of item.change item.before

abbrev pub AllMatch : List PastChange → List HeldRecord → Type 0
AllMatch [] [] = Unit {0}
AllMatch [] (held ∷ rest) = ⊥
AllMatch (item ∷ items) [] = ⊥
AllMatch (item ∷ items) (held ∷ rest) = Matches item held × AllMatch items rest

abbrev pub SnapshotRises : LiveSession → Type 0
SnapshotRises session = IfSome session.transaction (λ transaction. AllRise transaction.snapshot)

-- The records of the committed tables and of each snapshot stand in the order of their bookmarks.
pub record RecordsRise (state : DatabaseState) : Type 0 where
  pub committed : AllRise state.tables
  pub snapshots : AllByRecursion SnapshotRises state.sessions

-- Of a state with a history the versioned tables have the newest records, and the kept changes.
pub record Holds (base : Records) (dropped kept : List PastChange) (store : VersionedTables) (state : DatabaseState) : Type 0 where
  pub history : IsHistory base dropped kept state
  pub rise : RecordsRise state
  pub defined : map without_rows store.tables ≡ map without_rows state.tables
  pub newest : records_of store.tables ≡ records_of (newest state)
  pub in_order : AllRise store.tables
  pub held : AllMatch kept store.held
