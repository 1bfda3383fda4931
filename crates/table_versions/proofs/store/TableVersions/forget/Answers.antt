use Rattle.std.proofs.Common.{List, map, sym, ap, subst, ◌∙◌}
use Rattle.std.specs.Prelude.{◌<◌, length}
use Rattle.table_trees.specs.StoredTables.{table_long_values}
use Rattle.version_store.specs.HeldChanges.{HeldChange}
use Rattle.laws_engine.specs.VersionedTables.{without_oldest}
use Rattle.stored_variants.specs.CountedValues.{AreCounted}
use Rattle.stored_variants.specs.RecordRows.{held_record_in}
use Rattle.stored_variants.specs.StoredVersions.{StoredVersions}
use Rattle.stored_variants.specs.VersionsKept.{AreKept}
use Rattle.table_versions.proofs.OldestHeld.{rest_of_records, some_held}
use Rattle.table_versions.proofs.StepInStore.{entries_stay, still_shown}
use Rattle.table_versions.proofs.store.TableVersions.forget.Goals as goal

pub forget_oldest-requires-clause-kept : goal.forget_oldest-requires-clause-kept
forget_oldest-requires-clause-kept c = c.self.invariant.kept

pub forget_oldest-requires-clause-counts : goal.forget_oldest-requires-clause-counts
forget_oldest-requires-clause-counts c = c.self.invariant.counts

pub forget_oldest-requires-clause-some : goal.forget_oldest-requires-clause-some
forget_oldest-requires-clause-some c = some_held (table_long_values c.self.inside.trees.tables) c.self.inside.versions (subst (λ (v : StoredVersions). 0 < length v.store.held) (sym c.self.view_is) c.requires)

pub pop_oldest-requires : goal.pop_oldest-requires
pop_oldest-requires c = some_held (table_long_values c.self.inside.trees.tables) c.self.inside.versions (subst (λ (v : StoredVersions). 0 < length v.store.held) (sym c.self.view_is) c.requires)

pub invariant_of-self : goal.invariant_of-self
invariant_of-self c = record {
  kept = subst (λ (held : List HeldChange). AreKept c.self.inside.catalog.tables c.forget_oldest.new.trees.tables held) (sym c.pop_oldest.ensures) c.forget_oldest.ensures.forgotten.kept;
  shows = still_shown c.self.inside.catalog c.self.inside.trees.catalog c.forget_oldest.new.trees.catalog c.forget_oldest.ensures.catalog c.self.invariant.shows;
  counts = subst (AreCounted c.forget_oldest.new.trees.tables) (sym c.pop_oldest.ensures) c.forget_oldest.ensures.forgotten.counts;
  entries = entries_stay c.self.inside.newest_put c.self.inside.trees.tables c.forget_oldest.new.trees.tables c.forget_oldest.ensures.forgotten.values c.self.invariant.entries;
}

pub returns : goal.returns
returns c =
    (λ i. record {
      greatest_table = c.self.inside.catalog.greatest_table;
      newest_put = c.self.inside.newest_put;
      store = record {
        tables = c.forget_oldest.ensures.forgotten.newest i;
        held = (ap (λ (held : List HeldChange). map (held_record_in (table_long_values c.forget_oldest.new.trees.tables)) held) c.pop_oldest.ensures
            ∙ c.forget_oldest.ensures.forgotten.held_records ∙ rest_of_records (table_long_values c.self.inside.trees.tables) c.self.inside.versions) i;
      };
    })
    ∙ ap (λ (v : StoredVersions). record v { store = without_oldest v.store }) c.self.view_is
