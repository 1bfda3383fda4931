use Rattle.std.proofs.Common.{refl, None, ◌≡◌, Bool, false, true, List, map, sym, ap, subst, ◌∙◌}
use Rattle.std.specs.Prelude.{◌↔◌, IsErrOf, is_some}
use Rattle.column_set.specs.ChangedRecords.{changed_table}
use Rattle.database_state.specs.Table.{table_with_id}
use Rattle.version_store.specs.declared.fault.VersionFault.TheVariants as fault
use Rattle.version_store.specs.HeldChanges.{new_change, HeldChange}
use Rattle.laws_engine.specs.VersionedTables.{VersionedTables, with_change}
use Rattle.stored_variants.specs.StoredVersions.{StoredVersions}
use Rattle.stored_variants.specs.VersionsView.{with_newest, stored_versions}
use Rattle.stored_variants.specs.VersionsKept.{AreKeptWith}
use Rattle.stored_variants.proofs.Outcomes.{either, on_err, on_ok}
use Rattle.table_versions.proofs.Held.{lock_is_kept, lock_room, lock_shown, named_in_catalog}
use Rattle.table_versions.proofs.store.TableVersions.hold.Goals as goal
use Rattle.table_trees.specs.StoredTables.{table_long_values}
use Rattle.stored_variants.specs.CountedValues.{AreCounted}
use Rattle.table_versions.proofs.CountedSteps.{held_counted}

pub invariant_of-self : goal.invariant_of-self
invariant_of-self c = record {
  kept = (
      let tables = c.self.inside.catalog.tables in
      let trees = c.self.inside.trees.tables in
      let held = c.self.inside.versions in
      let P : List HeldChange → Type 0 = λ changed. AreKeptWith (table_long_values c.self.inside.trees.tables) tables trees changed in
      let named = named_in_catalog (table_long_values c.self.inside.trees.tables) trees tables (changed_table c.args.change.now) (subst (λ (v : StoredVersions). is_some (table_with_id v.store.tables (changed_table c.args.change.now)) ≡ true) (sym c.self.view_is) c.requires.named) in
      either c.push.result c.push.ensures.ok c.push.ensures.err
      (λ e. subst P (sym e) (lock_is_kept (table_long_values c.self.inside.trees.tables) tables trees held c.args.by c.args.change.now c.requires.lock named c.self.invariant.kept))
      (λ e. subst P (sym e) c.self.invariant.kept)
      );
  shows = c.self.invariant.shows;
  counts =
      either c.push.result c.push.ensures.ok c.push.ensures.err
      (λ e. subst (AreCounted c.self.inside.trees.tables) (sym e) (held_counted c.counts_after_a_step.ensures.held c.self.inside.trees.tables c.self.inside.versions (new_change c.args.by c.args.change.now None) refl refl c.self.invariant.counts))
      (λ e. subst (AreCounted c.self.inside.trees.tables) (sym e) c.self.invariant.counts);
  entries = c.self.invariant.entries;
}

pub returns-clause-over : goal.returns-clause-over
returns-clause-over c =
    subst (λ (b : Bool). IsErrOf c.push.result fault.OverSpan ↔ (b ≡ false))
    (lock_room (table_long_values c.self.inside.trees.tables) c.args.by c.args.change.now c.requires.lock c.self.inside.versions c.args.self.now.store (ap (λ (v : StoredVersions). v.store.held) c.self.view_is)) c.push.ensures.over

pub returns-clause-ok : goal.returns-clause-ok
returns-clause-ok c =
    on_ok c.push.result c.push.ensures.ok
    (λ e.
    ap (λ (held : List HeldChange). stored_versions c.self.inside.newest_put c.self.inside.catalog c.self.inside.trees.tables held) e
    ∙ ap (λ (store : VersionedTables). record { greatest_table = c.self.inside.catalog.greatest_table; newest_put = c.self.inside.newest_put; store = store })
    (lock_shown (table_long_values c.self.inside.trees.tables) (map (with_newest c.self.inside.trees.tables) c.self.inside.catalog.tables) c.self.inside.versions c.args.by c.args.change.now c.requires.lock)
    ∙ ap (λ (v : StoredVersions). record v { store = with_change c.args.by c.args.change.now v.store }) c.self.view_is)

pub returns-clause-err : goal.returns-clause-err
returns-clause-err c =
    on_err c.push.result c.push.ensures.err
    (λ e. ap (λ (held : List HeldChange). stored_versions c.self.inside.newest_put c.self.inside.catalog c.self.inside.trees.tables held) e ∙ c.self.view_is)
