use Rattle.std.proofs.Common.{List, map, sym, ap, subst, ◌∙◌}
use Rattle.version_store.specs.HeldChanges.{HeldChange, released_change}
use Rattle.laws_engine.specs.HeldRecords.{HeldRecord, released_change as released_record}
use Rattle.laws_engine.specs.VersionedTables.{with_level_released}
use Rattle.stored_variants.specs.StoredVersions.{StoredVersions}
use Rattle.stored_variants.specs.VersionsView.{with_newest, stored_versions}
use Rattle.stored_variants.specs.VersionsKept.{AreKeptWith, IsKeptChange}
use Rattle.stored_variants.proofs.ChangesKept.{all_changed, changes_kept, map_held, same_variants}
use Rattle.table_versions.proofs.Ends.{released_row, released_kept, released_leaves, released_same}
use Rattle.table_versions.proofs.store.TableVersions.release.Goals as goal
use Rattle.table_trees.specs.StoredTables.{table_long_values}
use Rattle.stored_variants.specs.CountedValues.{AreCounted}
use Rattle.table_versions.proofs.CountedSteps.{mapped_counted}

pub invariant_of-self : goal.invariant_of-self
invariant_of-self c = record {
  kept = (
      let tables = c.self.inside.catalog.tables in
      let trees = c.self.inside.trees.tables in
      let held = c.self.inside.versions in
      let session = c.args.session.0 in
      let level = c.args.level in
      subst (λ (changed : List HeldChange). AreKeptWith (table_long_values c.self.inside.trees.tables) tables trees changed) (sym c.release.ensures)
      (changes_kept (table_long_values c.self.inside.trees.tables) tables trees held (map (released_change session level) held) c.self.invariant.kept
      (all_changed (IsKeptChange (table_long_values c.self.inside.trees.tables) tables trees) (released_change session level) (released_kept (table_long_values c.self.inside.trees.tables) tables trees session level) held c.self.invariant.kept.changes)
      (same_variants (table_long_values c.self.inside.trees.tables) (released_change session level) (released_leaves (table_long_values c.self.inside.trees.tables) session level) held))
      );
  shows = c.self.invariant.shows;
  counts = subst (AreCounted c.self.inside.trees.tables) (sym c.release.ensures) (mapped_counted c.self.inside.trees.tables (released_change c.args.session.0 c.args.level) (released_row c.args.session.0 c.args.level) c.self.inside.versions c.self.invariant.counts);
  entries = c.self.invariant.entries;
}

pub returns : goal.returns
returns c =
    let session = c.args.session.0 in
    let level = c.args.level in
    ap (λ (held : List HeldChange). stored_versions c.self.inside.newest_put c.self.inside.catalog c.self.inside.trees.tables held) c.release.ensures
    ∙ ap (λ (held : List HeldRecord). record { greatest_table = c.self.inside.catalog.greatest_table; newest_put = c.self.inside.newest_put; store = record { tables = map (with_newest c.self.inside.trees.tables) c.self.inside.catalog.tables; held = held } })
    (map_held (table_long_values c.self.inside.trees.tables) (released_change session level) (released_record session level) (released_same (table_long_values c.self.inside.trees.tables) session level) c.self.inside.versions)
    ∙ ap (λ (v : StoredVersions). record v { store = with_level_released session level v.store }) c.self.view_is
