-- Held changes that can be taken back, the newest first, and made again.
use Rattle.std.specs.Prelude.{◌≡◌, ◌≤◌, ℕ, true, false, List, [], ◌∷◌, Option, None, is_some, option_map, IfSome}
use Rattle.std.specs.List.{AllByRecursion}
use Rattle.column_set.specs.RecordValues.{RecordFields}
use Rattle.database_state.specs.Changes.{with_sum}
use Rattle.database_state.specs.State.{is_undone, transaction_of}
use Rattle.database_state.specs.Table.{Table, record_in, table_with_id}
use Rattle.database_state.specs.VersionStore.{cost_of}
use Rattle.laws_versions.specs.Records.{record_after}
use Rattle.version_store.specs.declared.calls.ChangeKind.{ChangeKind}
use Rattle.version_store.specs.declared.calls.ChangeKind.TheVariants as kind
use Rattle.laws_engine.specs.HeldRecords.{HeldRecord, inverse}
use Rattle.version_cleanup.specs.LiveSessions.{LiveState}
use Rattle.laws_versions.specs.History.{EachTwo, InOrder, IsPlaced, LevelsRise, NumbersRise}
use Rattle.laws_engine.specs.VersionedTables.{VersionedTables}
use Rattle.laws_images.specs.ShownStates.{change_made, past_of, shown_state, tables_before}

-- A put left a record, a drop left none, and a sum left the sum of what is there without it.
abbrev pub CanLeave : ChangeKind → Option RecordFields → Option RecordFields → Type 0
CanLeave kind.Put before after = is_some after ≡ true
CanLeave kind.Drop before after = after ≡ None
CanLeave kind.Hold before after = Unit {0}
CanLeave (kind.Add column amount) before after = option_map (λ values. with_sum values column.0 amount) before ≡ after

-- Each held change stands, is of a table that is there, and can have left the record that is there without the later ones.
abbrev pub AreInTurn : List HeldRecord → List Table → Type 0
AreInTurn [] tables = Unit {0}
AreInTurn (held ∷ changes) tables =
    (is_undone held.status ≡ false) × (is_some (table_with_id (tables_before changes tables) held.table) ≡ true)
    × CanLeave held.kind (record_after (inverse held) (record_in (tables_before changes tables) held.table held.bookmark)) (record_in (tables_before changes tables) held.table held.bookmark)
    × AreInTurn changes tables

-- What is asked of held changes beside one another and of the sessions: those that collide are in order, numbers rise, levels do
-- not fall, and each is of its session's transaction, which began.
pub record ArePlaced (number greatest : ℕ) (sessions : List LiveState) (store : VersionedTables) : Type 0 where
  pub in_order : EachTwo (InOrder (transaction_of (shown_state number greatest sessions store))) (past_of store.held store.tables)
  pub numbers : EachTwo NumbersRise (past_of store.held store.tables)
  pub levels : EachTwo LevelsRise (past_of store.held store.tables)
  pub placed : AllByRecursion (IsPlaced number (shown_state number greatest sessions store).tables (transaction_of (shown_state number greatest sessions store))) (past_of store.held store.tables)
  pub begins : (session : ℕ) → IfSome (transaction_of (shown_state number greatest sessions store) session) (λ t. (t.begin ≤ number) × (1 ≤ t.levels))

-- Each held change costs what its record before makes it cost.
abbrev pub HaveTheirCosts : List HeldRecord → List Table → Type 0
HaveTheirCosts [] tables = Unit {0}
HaveTheirCosts (held ∷ changes) tables =
    (held.cost ≡ cost_of (change_made held.kind held.table held.bookmark (record_in (tables_before changes tables) held.table held.bookmark)) (record_after (inverse held) (record_in (tables_before changes tables) held.table held.bookmark)))
    × HaveTheirCosts changes tables
