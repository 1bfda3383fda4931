use Rattle.std.proofs.Common.{ap, arith}
use Rattle.stored_variants.specs.StoredVersions.{StoredVersions}
use Rattle.stored_variants.proofs.Outcomes.{either, on_err, on_ok}
use Rattle.table_versions.proofs.StepInStore.{parts_of_store, unchanged_stored, settled_counts, IsStored, is_after, settled_parts, unchanged_shown}
use Rattle.table_versions.proofs.store.TableVersions.make_table.Goals as goal

pub create_table-requires-clause-kept : goal.create_table-requires-clause-kept
create_table-requires-clause-kept c = settled_parts c.self.inside.newest_put c.self.inside.catalog c.self.inside.trees.tables c.self.inside.versions c.self.invariant.kept c.args.self.now c.self.view_is c.requires.settled

pub create_table-requires-clause-new_id : goal.create_table-requires-clause-new_id
create_table-requires-clause-new_id c = omega (arith, ap (λ (v : StoredVersions). v.greatest_table) c.self.view_is, c.requires.new_id)

pub invariant_of-self : goal.invariant_of-self
invariant_of-self c =
    let stored : IsStored c.self.inside.newest_put c.create_table.new.catalog c.create_table.new.trees.tables c.self.inside.versions =
    either c.create_table.result c.create_table.ensures.ok c.create_table.ensures.err
    (λ is. (is_after c.self.inside.newest_put c.self.inside.catalog c.self.inside.trees.tables c.self.inside.versions c.self.invariant.entries c.args.self.now c.self.view_is c.requires.settled c.args.made.now c.create_table.new.catalog c.create_table.new.trees.tables is).stored)
    (λ e. unchanged_stored c.self.inside.newest_put c.self.inside.catalog c.create_table.new.catalog c.self.inside.trees.tables c.create_table.new.trees.tables c.self.inside.versions e (parts_of_store c.self.inside.newest_put c.self.inside.catalog c.self.inside.trees c.self.inside.versions c.self.invariant)) in
    record { kept = stored.kept; shows = c.create_table.ensures.shown; counts = stored.counts; entries = stored.entries }

pub returns-clause-ok : goal.returns-clause-ok
returns-clause-ok c =
    on_ok c.create_table.result c.create_table.ensures.ok
    (λ is. (is_after c.self.inside.newest_put c.self.inside.catalog c.self.inside.trees.tables c.self.inside.versions c.self.invariant.entries c.args.self.now c.self.view_is c.requires.settled c.args.made.now c.create_table.new.catalog c.create_table.new.trees.tables is).shown)

pub returns-clause-err : goal.returns-clause-err
returns-clause-err c =
    on_err c.create_table.result c.create_table.ensures.err
    (λ e. unchanged_shown c.self.inside.newest_put c.self.inside.catalog c.create_table.new.catalog c.self.inside.trees.tables c.create_table.new.trees.tables c.self.inside.versions c.args.self.now e c.self.view_is)

pub create_table-requires-clause-shown : goal.create_table-requires-clause-shown
create_table-requires-clause-shown c = c.self.invariant.shows

pub create_table-requires-clause-counts : goal.create_table-requires-clause-counts
create_table-requires-clause-counts c = settled_counts c.self.inside.newest_put c.self.inside.catalog c.self.inside.trees.tables c.self.inside.versions c.self.invariant.counts c.args.self.now c.self.view_is c.requires.settled
