-- Entries that leave the tables and the changes as they are.
use Rattle.std.proofs.Common.{◌≡◌, ℕ, true, List, map, refl, sym, ap, ◌∙◌}
use Rattle.common_lemmas.proofs.Booleans.{impossible}
use Rattle.index_derive.specs.declared.log.EntryKind.{EntryKind}
use Rattle.index_derive.specs.declared.log.EntryKind.TheVariants as entry
use Rattle.database_state.specs.State.{DatabaseState, PastChange}
use Rattle.database_state.specs.Step.{entry_by, state_after}
use Rattle.database_state.specs.Lawful.{is_lawful}
use Rattle.database_state.specs.View.{newest}
use Rattle.laws_versions.specs.Records.{Records, records_of}
use Rattle.laws_versions.specs.History.{IsHistory, without_rows}
use Rattle.laws_versions.proofs.HistoryLemmas.LawfulEntries.{keeps_lawful}
use Rattle.laws_engine.specs.VersionedTables.{VersionedTables, leaves_tables}
use Rattle.laws_engine.specs.Holding.{Holds}
use Rattle.laws_engine.proofs.TableLemmas.RisingSteps.{step_keeps_order}

same_newest : (state : DatabaseState) (session : ℕ) (kind : EntryKind) → leaves_tables kind ≡ true → newest (state_after state (entry_by session kind)) ≡ newest state
unfolding newest state_after
same_newest state session entry.Enter e = refl
same_newest state session entry.Leave e = impossible e
same_newest state session (entry.Open table) e = refl
same_newest state session (entry.Shut table) e = refl
same_newest state session entry.Begin e = refl
same_newest state session entry.Save e = refl
same_newest state session (entry.Change change) e = impossible e
same_newest state session entry.Release e = impossible e
same_newest state session entry.Undo e = impossible e
same_newest state session entry.UndoAll e = impossible e
same_newest state session entry.Commit e = impossible e
same_newest state session (entry.Schema made) e = impossible e

same_tables : (state : DatabaseState) (session : ℕ) (kind : EntryKind) → leaves_tables kind ≡ true → (state_after state (entry_by session kind)).tables ≡ state.tables
unfolding state_after
same_tables state session entry.Enter e = refl
same_tables state session entry.Leave e = impossible e
same_tables state session (entry.Open table) e = refl
same_tables state session (entry.Shut table) e = refl
same_tables state session entry.Begin e = refl
same_tables state session entry.Save e = refl
same_tables state session (entry.Change change) e = impossible e
same_tables state session entry.Release e = impossible e
same_tables state session entry.Undo e = impossible e
same_tables state session entry.UndoAll e = impossible e
same_tables state session entry.Commit e = impossible e
same_tables state session (entry.Schema made) e = impossible e

same_history : (base : Records) (dropped kept : List PastChange) (state : DatabaseState) (session : ℕ) (kind : EntryKind) → leaves_tables kind ≡ true → IsHistory base dropped kept state → is_lawful state (entry_by session kind) ≡ true
    → IsHistory base dropped kept (state_after state (entry_by session kind))
same_history base dropped kept state session entry.Enter e h lawful = keeps_lawful base dropped kept state (entry_by session entry.Enter) h lawful
same_history base dropped kept state session entry.Leave e h lawful = impossible e
same_history base dropped kept state session (entry.Open table) e h lawful = keeps_lawful base dropped kept state (entry_by session (entry.Open table)) h lawful
same_history base dropped kept state session (entry.Shut table) e h lawful = keeps_lawful base dropped kept state (entry_by session (entry.Shut table)) h lawful
same_history base dropped kept state session entry.Begin e h lawful = keeps_lawful base dropped kept state (entry_by session entry.Begin) h lawful
same_history base dropped kept state session entry.Save e h lawful = keeps_lawful base dropped kept state (entry_by session entry.Save) h lawful
same_history base dropped kept state session (entry.Change change) e h lawful = impossible e
same_history base dropped kept state session entry.Release e h lawful = impossible e
same_history base dropped kept state session entry.Undo e h lawful = impossible e
same_history base dropped kept state session entry.UndoAll e h lawful = impossible e
same_history base dropped kept state session entry.Commit e h lawful = impossible e
same_history base dropped kept state session (entry.Schema made) e h lawful = impossible e

pub unchanged_holds : (base : Records) (dropped kept : List PastChange) (store : VersionedTables) (state : DatabaseState) (session : ℕ) (kind : EntryKind) → leaves_tables kind ≡ true → Holds base dropped kept store state → is_lawful state (entry_by session kind) ≡ true
    → Holds base dropped kept store (state_after state (entry_by session kind))
unchanged_holds base dropped kept store state session kind e h lawful = record {
  history = same_history base dropped kept state session kind e h.history lawful;
  rise = step_keeps_order state (entry_by session kind) h.rise;
  defined = h.defined ∙ ap (map without_rows) (sym (same_tables state session kind e));
  newest = h.newest ∙ ap records_of (sym (same_newest state session kind e));
  in_order = h.in_order;
  held = h.held;
}
