use Rattle.std.proofs.Common.{◌≡◌, false}
use Rattle.std.specs.List.{list_any}
use Rattle.laws_engine.specs.HeldRecords.{is_open_at}
use Rattle.laws_engine.specs.VersionedTables.{with_changes_undone}
use Rattle.table_versions.proofs.UndoneLevel.{steps_left}
use Rattle.table_versions.proofs.store.TableVersions.undo_level.Given as goal

-- with what is still open undone the store is the one that is looked for
abbrev pub invariant-loop-more : goal.invariant-loop-more
invariant-loop-more l = record {
  rest : record l.self { store = with_changes_undone (is_open_at l.session.0 l.level) l.self.store } ≡ record l.fn.self { store = with_changes_undone (is_open_at l.session.0 l.level) l.fn.self.store };
  more : l.more ≡ false → list_any (is_open_at l.session.0 l.level) l.self.store.held ≡ false;
}

abbrev pub decreases-loop-more : goal.decreases-loop-more
decreases-loop-more l = steps_left l.more (is_open_at l.session.0 l.level) l.self.store
