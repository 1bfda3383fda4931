use Rattle.table_versions.proofs.StepInStore.{settled_counts, IsStored, is_after, settled_parts, there_in_catalog}
use Rattle.table_versions.proofs.store.TableVersions.delete_table.Goals as goal

pub drop_table-requires-clause-kept : goal.drop_table-requires-clause-kept
drop_table-requires-clause-kept c = settled_parts c.self.inside.newest_put c.self.inside.catalog c.self.inside.trees.tables c.self.inside.versions c.self.invariant.kept c.args.self.now c.self.view_is c.requires.settled

pub drop_table-requires-clause-shown : goal.drop_table-requires-clause-shown
drop_table-requires-clause-shown c = c.self.invariant.shows

pub drop_table-requires-clause-there : goal.drop_table-requires-clause-there
drop_table-requires-clause-there c = there_in_catalog c.self.inside.newest_put c.self.inside.catalog c.self.inside.trees.tables c.self.inside.versions c.args.self.now c.self.view_is c.args.table.0 c.requires.there

pub invariant_of-self : goal.invariant_of-self
invariant_of-self c =
    let stored : IsStored c.self.inside.newest_put c.drop_table.new.catalog c.drop_table.new.trees.tables c.self.inside.versions =
    (is_after c.self.inside.newest_put c.self.inside.catalog c.self.inside.trees.tables c.self.inside.versions c.self.invariant.entries c.args.self.now c.self.view_is c.requires.settled c.args.made.now c.drop_table.new.catalog c.drop_table.new.trees.tables c.drop_table.ensures.made).stored in
    record { kept = stored.kept; shows = c.drop_table.ensures.shown; counts = stored.counts; entries = stored.entries }

pub returns : goal.returns
returns c = (is_after c.self.inside.newest_put c.self.inside.catalog c.self.inside.trees.tables c.self.inside.versions c.self.invariant.entries c.args.self.now c.self.view_is c.requires.settled c.args.made.now c.drop_table.new.catalog c.drop_table.new.trees.tables c.drop_table.ensures.made).shown

pub drop_table-requires-clause-counts : goal.drop_table-requires-clause-counts
drop_table-requires-clause-counts c = settled_counts c.self.inside.newest_put c.self.inside.catalog c.self.inside.trees.tables c.self.inside.versions c.self.invariant.counts c.args.self.now c.self.view_is c.requires.settled
