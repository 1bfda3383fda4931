-- Tables without a held change.
use Rattle.std.proofs.Common.{◌≡◌, [], refl, sym, ap, subst}
use Rattle.std.specs.List.{AllByRecursion}
use Rattle.database_state.specs.State.{DatabaseState, open_changes}
use Rattle.database_state.specs.Changes.{tables_after_all}
use Rattle.database_state.specs.View.{newest}
use Rattle.laws_versions.specs.Records.{records_of}
use Rattle.laws_versions.proofs.HistoryLemmas.LawfulEntries.{history_alone}
use Rattle.laws_engine.specs.Holding.{AllRise, Holds, SnapshotRises}

newest_alone : (state : DatabaseState) → state.past ≡ [] → newest state ≡ state.tables
unfolding newest
newest_alone state e = ap (λ past. tables_after_all state.tables (open_changes past)) e

pub alone_holds : (state : DatabaseState) → state.sessions ≡ [] → state.past ≡ [] → AllRise state.tables → Holds (records_of state.tables) [] [] (record { tables = state.tables; held = [] }) state
alone_holds state sessions past rise = record {
  history = history_alone state sessions past;
  rise = record { committed = rise; snapshots = subst (AllByRecursion SnapshotRises) (sym sessions) tt };
  defined = refl;
  newest = ap records_of (sym (newest_alone state past));
  in_order = rise;
  held = tt;
}
