use Rattle.std.proofs.Common.{List, map, sym, ap, subst, ◌∙◌}
use Rattle.version_store.specs.HeldChanges.{HeldChange, committed_change}
use Rattle.laws_engine.specs.HeldRecords.{HeldRecord, committed_change as committed_record}
use Rattle.laws_engine.specs.VersionedTables.{with_session_committed}
use Rattle.stored_variants.specs.StoredVersions.{StoredVersions}
use Rattle.stored_variants.specs.VersionsView.{with_newest, stored_versions}
use Rattle.stored_variants.specs.VersionsKept.{AreKeptWith, IsKeptChange}
use Rattle.stored_variants.proofs.ChangesKept.{all_changed, changes_kept, map_held, same_variants}
use Rattle.table_versions.proofs.Ends.{committed_row, committed_kept, committed_leaves, committed_same}
use Rattle.table_versions.proofs.store.TableVersions.commit.Goals as goal
use Rattle.table_trees.specs.StoredTables.{table_long_values}
use Rattle.stored_variants.specs.CountedValues.{AreCounted}
use Rattle.table_versions.proofs.CountedSteps.{mapped_counted}

pub invariant_of-self : goal.invariant_of-self
invariant_of-self c = record {
  kept = (
      let tables = c.self.inside.catalog.tables in
      let trees = c.self.inside.trees.tables in
      let held = c.self.inside.versions in
      let session = c.args.session.0 in
      let number = c.args.number in
      subst (λ (changed : List HeldChange). AreKeptWith (table_long_values c.self.inside.trees.tables) tables trees changed) (sym c.commit.ensures)
      (changes_kept (table_long_values c.self.inside.trees.tables) tables trees held (map (committed_change session number) held) c.self.invariant.kept
      (all_changed (IsKeptChange (table_long_values c.self.inside.trees.tables) tables trees) (committed_change session number) (committed_kept (table_long_values c.self.inside.trees.tables) tables trees session number) held c.self.invariant.kept.changes)
      (same_variants (table_long_values c.self.inside.trees.tables) (committed_change session number) (committed_leaves (table_long_values c.self.inside.trees.tables) session number) held))
      );
  shows = c.self.invariant.shows;
  counts = subst (AreCounted c.self.inside.trees.tables) (sym c.commit.ensures) (mapped_counted c.self.inside.trees.tables (committed_change c.args.session.0 c.args.number) (committed_row c.args.session.0 c.args.number) c.self.inside.versions c.self.invariant.counts);
  entries = c.self.invariant.entries;
}

pub returns : goal.returns
returns c =
    let session = c.args.session.0 in
    let number = c.args.number in
    ap (λ (held : List HeldChange). stored_versions c.self.inside.newest_put c.self.inside.catalog c.self.inside.trees.tables held) c.commit.ensures
    ∙ ap (λ (held : List HeldRecord). record { greatest_table = c.self.inside.catalog.greatest_table; newest_put = c.self.inside.newest_put; store = record { tables = map (with_newest c.self.inside.trees.tables) c.self.inside.catalog.tables; held = held } })
    (map_held (table_long_values c.self.inside.trees.tables) (committed_change session number) (committed_record session number) (committed_same (table_long_values c.self.inside.trees.tables) session number) c.self.inside.versions)
    ∙ ap (λ (v : StoredVersions). record v { store = with_session_committed session number v.store }) c.self.view_is
