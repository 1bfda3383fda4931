use Rattle.stored_variants.proofs.Outcomes.{either, on_err, on_ok}
use Rattle.table_versions.proofs.StepInStore.{parts_of_store, unchanged_stored, settled_counts, IsStored, has_in_catalog, unused_in_catalog, is_after, settled_parts, unchanged_shown}
use Rattle.table_versions.proofs.store.TableVersions.delete_column.Goals as goal

pub drop_column-requires-clause-kept : goal.drop_column-requires-clause-kept
drop_column-requires-clause-kept c = settled_parts c.self.inside.newest_put c.self.inside.catalog c.self.inside.trees.tables c.self.inside.versions c.self.invariant.kept c.args.self.now c.self.view_is c.requires.settled

pub drop_column-requires-clause-unused : goal.drop_column-requires-clause-unused
drop_column-requires-clause-unused c = unused_in_catalog c.self.inside.newest_put c.self.inside.catalog c.self.inside.trees.tables c.self.inside.versions c.args.self.now c.self.view_is c.args.table.0 c.args.column c.requires.unused

pub invariant_of-self : goal.invariant_of-self
invariant_of-self c =
    let stored : IsStored c.self.inside.newest_put c.drop_column.new.catalog c.drop_column.new.trees.tables c.self.inside.versions =
    either c.drop_column.result c.drop_column.ensures.ok c.drop_column.ensures.err
    (λ is. (is_after c.self.inside.newest_put c.self.inside.catalog c.self.inside.trees.tables c.self.inside.versions c.self.invariant.entries c.args.self.now c.self.view_is c.requires.settled c.args.made.now c.drop_column.new.catalog c.drop_column.new.trees.tables is).stored)
    (λ e. unchanged_stored c.self.inside.newest_put c.self.inside.catalog c.drop_column.new.catalog c.self.inside.trees.tables c.drop_column.new.trees.tables c.self.inside.versions e (parts_of_store c.self.inside.newest_put c.self.inside.catalog c.self.inside.trees c.self.inside.versions c.self.invariant)) in
    record { kept = stored.kept; shows = c.drop_column.ensures.shown; counts = stored.counts; entries = stored.entries }

pub returns-clause-ok : goal.returns-clause-ok
returns-clause-ok c =
    on_ok c.drop_column.result c.drop_column.ensures.ok
    (λ is. (is_after c.self.inside.newest_put c.self.inside.catalog c.self.inside.trees.tables c.self.inside.versions c.self.invariant.entries c.args.self.now c.self.view_is c.requires.settled c.args.made.now c.drop_column.new.catalog c.drop_column.new.trees.tables is).shown)

pub returns-clause-err : goal.returns-clause-err
returns-clause-err c =
    on_err c.drop_column.result c.drop_column.ensures.err
    (λ e. unchanged_shown c.self.inside.newest_put c.self.inside.catalog c.drop_column.new.catalog c.self.inside.trees.tables c.drop_column.new.trees.tables c.self.inside.versions c.args.self.now e c.self.view_is)

pub drop_column-requires-clause-shown : goal.drop_column-requires-clause-shown
drop_column-requires-clause-shown c = c.self.invariant.shows

pub drop_column-requires-clause-there : goal.drop_column-requires-clause-there
drop_column-requires-clause-there c = has_in_catalog c.self.inside.newest_put c.self.inside.catalog c.self.inside.trees.tables c.self.inside.versions c.args.self.now c.self.view_is c.args.table.0 c.args.column c.requires.there

pub drop_column-requires-clause-counts : goal.drop_column-requires-clause-counts
drop_column-requires-clause-counts c = settled_counts c.self.inside.newest_put c.self.inside.catalog c.self.inside.trees.tables c.self.inside.versions c.self.invariant.counts c.args.self.now c.self.view_is c.requires.settled
