use Rattle.stored_variants.proofs.Outcomes.{either, on_err, on_ok}
use Rattle.table_versions.proofs.StepInStore.{parts_of_store, unchanged_stored, settled_counts, IsStored, index_in_catalog, is_after, settled_parts, unchanged_shown}
use Rattle.table_versions.proofs.store.TableVersions.delete_index.Goals as goal

pub drop_index-requires-clause-kept : goal.drop_index-requires-clause-kept
drop_index-requires-clause-kept c = settled_parts c.self.inside.newest_put c.self.inside.catalog c.self.inside.trees.tables c.self.inside.versions c.self.invariant.kept c.args.self.now c.self.view_is c.requires.settled

pub drop_index-requires-clause-there : goal.drop_index-requires-clause-there
drop_index-requires-clause-there c = index_in_catalog c.self.inside.newest_put c.self.inside.catalog c.self.inside.trees.tables c.self.inside.versions c.args.self.now c.self.view_is c.args.table.0 c.args.index.0 c.requires.there

pub invariant_of-self : goal.invariant_of-self
invariant_of-self c =
    let stored : IsStored c.self.inside.newest_put c.drop_index.new.catalog c.drop_index.new.trees.tables c.self.inside.versions =
    either c.drop_index.result c.drop_index.ensures.ok c.drop_index.ensures.err
    (λ is. (is_after c.self.inside.newest_put c.self.inside.catalog c.self.inside.trees.tables c.self.inside.versions c.self.invariant.entries c.args.self.now c.self.view_is c.requires.settled c.args.made.now c.drop_index.new.catalog c.drop_index.new.trees.tables is).stored)
    (λ e. unchanged_stored c.self.inside.newest_put c.self.inside.catalog c.drop_index.new.catalog c.self.inside.trees.tables c.drop_index.new.trees.tables c.self.inside.versions e (parts_of_store c.self.inside.newest_put c.self.inside.catalog c.self.inside.trees c.self.inside.versions c.self.invariant)) in
    record { kept = stored.kept; shows = c.drop_index.ensures.shown; counts = stored.counts; entries = stored.entries }

pub returns-clause-ok : goal.returns-clause-ok
returns-clause-ok c =
    on_ok c.drop_index.result c.drop_index.ensures.ok
    (λ is. (is_after c.self.inside.newest_put c.self.inside.catalog c.self.inside.trees.tables c.self.inside.versions c.self.invariant.entries c.args.self.now c.self.view_is c.requires.settled c.args.made.now c.drop_index.new.catalog c.drop_index.new.trees.tables is).shown)

pub returns-clause-err : goal.returns-clause-err
returns-clause-err c =
    on_err c.drop_index.result c.drop_index.ensures.err
    (λ e. unchanged_shown c.self.inside.newest_put c.self.inside.catalog c.drop_index.new.catalog c.self.inside.trees.tables c.drop_index.new.trees.tables c.self.inside.versions c.args.self.now e c.self.view_is)

pub drop_index-requires-clause-shown : goal.drop_index-requires-clause-shown
drop_index-requires-clause-shown c = c.self.invariant.shows

pub drop_index-requires-clause-counts : goal.drop_index-requires-clause-counts
drop_index-requires-clause-counts c = settled_counts c.self.inside.newest_put c.self.inside.catalog c.self.inside.trees.tables c.self.inside.versions c.self.invariant.counts c.args.self.now c.self.view_is c.requires.settled
