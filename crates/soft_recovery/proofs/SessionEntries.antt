-- Entries that neither change a record nor the schema are lawful as the live sessions tell.
use Rattle.std.proofs.Common.{◌≡◌, ℕ, Bool, true, not, ◌&&◌, List, length, Option, Some, None, option_map, refl, sym, ap, ◌∙◌}
use Rattle.std.specs.Prelude.{◌==◌, is_some, nat_le, nat_lt}
use Rattle.std.proofs.lemmas.Bool.{eqb-true}
use Rattle.common_lemmas.proofs.Booleans.{and_right, by_test, impossible}
use Rattle.index_derive.specs.declared.log.EntryKind.{EntryKind}
use Rattle.index_derive.specs.declared.log.EntryKind.TheVariants as entry
use Rattle.database_state.specs.Lawful.{has_number, has_open, is_lawful, is_lawful_kind, is_live as is_live_in, is_unique_throughout}
use Rattle.database_state.specs.State.{DatabaseState, LiveSession, PastChange, levels, live_session}
use Rattle.database_state.specs.Step.{state_after}
use Rattle.database_state.specs.Table.{Table, table_with_id}
use Rattle.version_cleanup.specs.LiveSessions.{LiveState, has_open_in, has_table, is_live, levels_in, live_state}
use Rattle.laws_versions.specs.History.{IsHistory, without_rows}
use Rattle.laws_versions.specs.KeySums.{IndexesSeeNoSum}
use Rattle.laws_versions.specs.Records.{Records}
use Rattle.laws_versions.specs.TableOrder.{HasTablesInOrder}
use Rattle.laws_versions.specs.UniqueKeys.{HasUniqueKeys}
use Rattle.laws_versions.proofs.KeyLemmas.EscrowSums.{unseen_now}
use Rattle.laws_engine.specs.EngineState.{EngineState}
use Rattle.laws_engine.specs.HoldsState.{HoldsState}
use Rattle.laws_engine.proofs.EngineLemmas.Sessions.{session_alike}
use Rattle.soft_recovery.specs.LawfulEntries.{TellsEntries}

-- the laws that it rests on
abbrev MayCommit : Type 0
MayCommit =
    (base : Records) (dropped kept : List PastChange) (state : DatabaseState) (session : ℕ) → IsHistory base dropped kept state → IndexesSeeNoSum kept state → HasUniqueKeys base kept state → HasTablesInOrder state
    → levels state session ≡ 1 → is_lawful state (record { session = record { 0 = session }; kind = entry.Commit }) ≡ true

pub record EntryLaws : Type 0 where
  pub live : (engine : EngineState) (state : DatabaseState) → HoldsState engine state → (session : ℕ) → is_live session engine.sessions ≡ is_live_in state session
  pub count : (engine : EngineState) (state : DatabaseState) → HoldsState engine state → length engine.sessions ≡ length state.sessions
  pub levels : (engine : EngineState) (state : DatabaseState) → HoldsState engine state → (session : ℕ) → levels_in session engine.sessions ≡ levels state session
  pub numbered : (engine : EngineState) (state : DatabaseState) → HoldsState engine state → (table : ℕ) → option_map without_rows (table_with_id engine.store.tables table) ≡ option_map without_rows (table_with_id state.tables table)
  pub commit : MayCommit

bare_there : (found : Option Table) → is_some (option_map without_rows found) ≡ is_some found
bare_there None = refl
bare_there (Some t) = refl

there_alike : (one other : Option Table) → option_map without_rows one ≡ option_map without_rows other → is_some one ≡ is_some other
there_alike one other e = sym (bare_there one) ∙ ap (λ (o : Option Table). is_some o) e ∙ bare_there other

open_alike : (found : Option LiveSession) (table : ℕ) → has_table table (option_map live_state found) ≡ has_open found table
open_alike None table = refl
open_alike (Some s) table = refl

open_told : (engine : EngineState) (state : DatabaseState) → HoldsState engine state → (session table : ℕ) → has_open_in session table engine.sessions ≡ has_open (live_session state session) table
open_told engine state h session table =
    ap (λ (sessions : List LiveState). has_open_in session table sessions) (sym h.sessions)
    ∙ ap (has_table table) (session_alike session state.sessions)
    ∙ open_alike (live_session state session) table

commit_lawful : EntryLaws → (engine : EngineState) (state : DatabaseState) → HoldsState engine state → (session : ℕ) → levels state session ≡ 1 → is_lawful_kind state session entry.Commit ≡ true
unfolding is_lawful
commit_lawful laws engine state h session one =
    and_right (has_number state.number entry.Commit) (is_lawful_kind state session entry.Commit)
    (laws.commit h.base h.dropped h.kept state session h.reached.history (unseen_now h.base h.kept state h.reached.sums) h.reached.unique h.reached.order one)

commit_told : EntryLaws → (engine : EngineState) (state : DatabaseState) → HoldsState engine state → (session : ℕ) → (levels state session == 1) ≡ is_lawful_kind state session entry.Commit
commit_told laws engine state h session =
    by_test (levels state session == 1)
    (λ e. e ∙ sym (commit_lawful laws engine state h session (eqb-true (levels state session) 1 e)))
    (λ e. e ∙ sym (ap (λ b. b && is_unique_throughout (state_after state (record { session = record { 0 = session }; kind = entry.Commit })).tables) e))

pub entries_told : EntryLaws → TellsEntries
entries_told laws engine state h session entry.Enter is = λ i. not (laws.live engine state h session i) && nat_lt (laws.count engine state h i) 64
entries_told laws engine state h session entry.Leave is = laws.live engine state h session
entries_told laws engine state h session (entry.Open table) is =
    λ i. laws.live engine state h session i && there_alike (table_with_id engine.store.tables table.0) (table_with_id state.tables table.0) (laws.numbered engine state h table.0) i
entries_told laws engine state h session (entry.Shut table) is = open_told engine state h session table.0
entries_told laws engine state h session entry.Begin is = λ i. laws.live engine state h session i && (laws.levels engine state h session i == 0)
entries_told laws engine state h session entry.Save is = λ i. nat_le 1 (laws.levels engine state h session i) && nat_le (laws.levels engine state h session i) 6
entries_told laws engine state h session entry.Release is = ap (nat_le 2) (laws.levels engine state h session)
entries_told laws engine state h session entry.Undo is = ap (nat_le 1) (laws.levels engine state h session)
entries_told laws engine state h session entry.UndoAll is = ap (nat_le 1) (laws.levels engine state h session)
entries_told laws engine state h session entry.Commit is = ap (λ n. n == 1) (laws.levels engine state h session) ∙ commit_told laws engine state h session
entries_told laws engine state h session (entry.Change change) is = impossible is
entries_told laws engine state h session (entry.Schema made) is = impossible is
