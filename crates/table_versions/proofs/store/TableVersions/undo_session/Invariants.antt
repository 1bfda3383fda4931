use Rattle.std.proofs.Common.{◌≡◌}
use Rattle.laws_engine.specs.VersionedTables.{with_changes_undone}
use Rattle.table_versions.proofs.UndoneSession.{is_open_above}
use Rattle.table_versions.proofs.store.TableVersions.undo_session.Given as goal

-- the open changes above the level are undone
abbrev pub invariant-loop-level : goal.invariant-loop-level
invariant-loop-level l = l.self ≡ record l.fn.self { store = with_changes_undone (is_open_above l.session.0 l.level) l.fn.self.store }

abbrev pub decreases-loop-level : goal.decreases-loop-level
decreases-loop-level l = l.level
