use Rattle.std.proofs.Common.{subst}
use Rattle.std.specs.Prelude.{Option, IsSomeAnd}
use Rattle.database_state.specs.Table.{Table}
use Rattle.stored_variants.specs.SchemaSteps.{IsIndexFor}
use Rattle.stored_variants.proofs.Outcomes.{either, on_err, on_ok}
use Rattle.table_versions.proofs.StepInStore.{parts_of_store, unchanged_stored, settled_counts, IsStored, in_catalog, is_after, settled_parts, unchanged_shown}
use Rattle.table_versions.proofs.store.TableVersions.make_index.Goals as goal

pub create_index-requires-clause-kept : goal.create_index-requires-clause-kept
create_index-requires-clause-kept c = settled_parts c.self.inside.newest_put c.self.inside.catalog c.self.inside.trees.tables c.self.inside.versions c.self.invariant.kept c.args.self.now c.self.view_is c.requires.settled

pub create_index-requires-clause-fits : goal.create_index-requires-clause-fits
create_index-requires-clause-fits c =
    subst (λ (o : Option Table). IsSomeAnd o (IsIndexFor c.args.rule.now)) (in_catalog c.self.inside.newest_put c.self.inside.catalog c.self.inside.trees.tables c.self.inside.versions c.args.self.now c.self.view_is c.args.table.0) c.requires.fits

pub invariant_of-self : goal.invariant_of-self
invariant_of-self c =
    let stored : IsStored c.self.inside.newest_put c.create_index.new.catalog c.create_index.new.trees.tables c.self.inside.versions =
    either c.create_index.result c.create_index.ensures.ok c.create_index.ensures.err
    (λ is. (is_after c.self.inside.newest_put c.self.inside.catalog c.self.inside.trees.tables c.self.inside.versions c.self.invariant.entries c.args.self.now c.self.view_is c.requires.settled c.args.made.now c.create_index.new.catalog c.create_index.new.trees.tables is).stored)
    (λ e. unchanged_stored c.self.inside.newest_put c.self.inside.catalog c.create_index.new.catalog c.self.inside.trees.tables c.create_index.new.trees.tables c.self.inside.versions e (parts_of_store c.self.inside.newest_put c.self.inside.catalog c.self.inside.trees c.self.inside.versions c.self.invariant)) in
    record { kept = stored.kept; shows = c.create_index.ensures.shown; counts = stored.counts; entries = stored.entries }

pub returns-clause-ok : goal.returns-clause-ok
returns-clause-ok c =
    on_ok c.create_index.result c.create_index.ensures.ok
    (λ is. (is_after c.self.inside.newest_put c.self.inside.catalog c.self.inside.trees.tables c.self.inside.versions c.self.invariant.entries c.args.self.now c.self.view_is c.requires.settled c.args.made.now c.create_index.new.catalog c.create_index.new.trees.tables is).shown)

pub returns-clause-err : goal.returns-clause-err
returns-clause-err c =
    on_err c.create_index.result c.create_index.ensures.err
    (λ e. unchanged_shown c.self.inside.newest_put c.self.inside.catalog c.create_index.new.catalog c.self.inside.trees.tables c.create_index.new.trees.tables c.self.inside.versions c.args.self.now e c.self.view_is)

pub create_index-requires-clause-shown : goal.create_index-requires-clause-shown
create_index-requires-clause-shown c = c.self.invariant.shows

pub create_index-requires-clause-counts : goal.create_index-requires-clause-counts
create_index-requires-clause-counts c = settled_counts c.self.inside.newest_put c.self.inside.catalog c.self.inside.trees.tables c.self.inside.versions c.self.invariant.counts c.args.self.now c.self.view_is c.requires.settled
