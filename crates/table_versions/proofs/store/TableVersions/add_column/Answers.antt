use Rattle.std.proofs.Common.{subst}
use Rattle.std.specs.Prelude.{Option, IfSome, IsSomeAnd}
use Rattle.database_state.specs.Table.{Table}
use Rattle.stored_variants.specs.SchemaSteps.{IsColumnFor, TakesColumn}
use Rattle.stored_variants.proofs.Outcomes.{either, on_err, on_ok}
use Rattle.table_versions.proofs.StepInStore.{parts_of_store, unchanged_stored, settled_counts, IsStored, in_catalog, is_after, settled_parts, unchanged_shown}
use Rattle.table_versions.proofs.store.TableVersions.add_column.Goals as goal

pub add_column-requires-clause-kept : goal.add_column-requires-clause-kept
add_column-requires-clause-kept c = settled_parts c.self.inside.newest_put c.self.inside.catalog c.self.inside.trees.tables c.self.inside.versions c.self.invariant.kept c.args.self.now c.self.view_is c.requires.settled

pub add_column-requires-clause-taken : goal.add_column-requires-clause-taken
add_column-requires-clause-taken c =
    subst (λ (o : Option Table). IfSome o (TakesColumn c.args.column.now)) (in_catalog c.self.inside.newest_put c.self.inside.catalog c.self.inside.trees.tables c.self.inside.versions c.args.self.now c.self.view_is c.args.table.0) c.requires.taken

pub invariant_of-self : goal.invariant_of-self
invariant_of-self c =
    let stored : IsStored c.self.inside.newest_put c.add_column.new.catalog c.add_column.new.trees.tables c.self.inside.versions =
    either c.add_column.result c.add_column.ensures.ok c.add_column.ensures.err
    (λ is. (is_after c.self.inside.newest_put c.self.inside.catalog c.self.inside.trees.tables c.self.inside.versions c.self.invariant.entries c.args.self.now c.self.view_is c.requires.settled c.args.made.now c.add_column.new.catalog c.add_column.new.trees.tables is).stored)
    (λ e. unchanged_stored c.self.inside.newest_put c.self.inside.catalog c.add_column.new.catalog c.self.inside.trees.tables c.add_column.new.trees.tables c.self.inside.versions e (parts_of_store c.self.inside.newest_put c.self.inside.catalog c.self.inside.trees c.self.inside.versions c.self.invariant)) in
    record { kept = stored.kept; shows = c.add_column.ensures.shown; counts = stored.counts; entries = stored.entries }

pub returns-clause-ok : goal.returns-clause-ok
returns-clause-ok c =
    on_ok c.add_column.result c.add_column.ensures.ok
    (λ is. (is_after c.self.inside.newest_put c.self.inside.catalog c.self.inside.trees.tables c.self.inside.versions c.self.invariant.entries c.args.self.now c.self.view_is c.requires.settled c.args.made.now c.add_column.new.catalog c.add_column.new.trees.tables is).shown)

pub returns-clause-err : goal.returns-clause-err
returns-clause-err c =
    on_err c.add_column.result c.add_column.ensures.err
    (λ e. unchanged_shown c.self.inside.newest_put c.self.inside.catalog c.add_column.new.catalog c.self.inside.trees.tables c.add_column.new.trees.tables c.self.inside.versions c.args.self.now e c.self.view_is)

pub add_column-requires-clause-shown : goal.add_column-requires-clause-shown
add_column-requires-clause-shown c = c.self.invariant.shows

pub add_column-requires-clause-fits : goal.add_column-requires-clause-fits
add_column-requires-clause-fits c =
    subst (λ (o : Option Table). IsSomeAnd o (IsColumnFor c.args.column.now)) (in_catalog c.self.inside.newest_put c.self.inside.catalog c.self.inside.trees.tables c.self.inside.versions c.args.self.now c.self.view_is c.args.table.0) c.requires.fits

pub add_column-requires-clause-counts : goal.add_column-requires-clause-counts
add_column-requires-clause-counts c = settled_counts c.self.inside.newest_put c.self.inside.catalog c.self.inside.trees.tables c.self.inside.versions c.self.invariant.counts c.args.self.now c.self.view_is c.requires.settled
