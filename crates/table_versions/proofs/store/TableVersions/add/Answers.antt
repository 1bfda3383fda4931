use Rattle.std.proofs.Common.{refl, ◌≡◌, List, None, sym, ap, subst, ◌∙◌}
use Rattle.std.specs.Prelude.{IsSomeAnd}
use Rattle.column_set.specs.ChangedRecords.{changed_bookmark, changed_table}
use Rattle.database_state.specs.Table.{Table, schema_of, table_with_id}
use Rattle.version_store.specs.HeldChanges.{new_change, HeldChange, has_room as has_room_for_row, kind_of}
use Rattle.laws_engine.specs.VersionedTables.{with_change}
use Rattle.stored_variants.specs.StoredVersions.{StoredVersions, has_room}
use Rattle.stored_variants.specs.VersionsKept.{AreKept, AddsToEscrow}
use Rattle.stored_variants.specs.VersionsView.{stored_versions}
use Rattle.table_versions.proofs.Held.{is_held, other_room}
use Rattle.table_versions.proofs.SumsHeld.{inputs_of, if_of, plain_sum, some_of, store_summed}
use Rattle.stored_variants.proofs.Tables.{newest_is_row}
use Rattle.table_versions.proofs.StepInStore.{entries_stay, brings_none, still_shown}
use Rattle.table_versions.proofs.store.TableVersions.add.Goals as goal
use Rattle.table_trees.specs.StoredTables.{table_long_values}
use Rattle.stored_variants.specs.CountedValues.{AreCounted}
use Rattle.table_versions.proofs.CountedSteps.{held_counted}

pub add_sum-requires : goal.add_sum-requires
add_sum-requires c = newest_is_row (table_long_values c.self.inside.trees.tables) c.self.inside.catalog.tables c.self.inside.trees.tables c.self.inside.versions c.self.invariant.kept (changed_table c.args.change.now) (changed_bookmark c.args.change.now)

named : (c : goal.After-add_sum) → IsSomeAnd (table_with_id c.self.inside.catalog.tables (changed_table c.args.change.now)) (λ t. AddsToEscrow (schema_of t) (kind_of c.args.change.now))
named c =
    inputs_of (table_long_values c.self.inside.trees.tables) (λ s. AddsToEscrow s (kind_of c.args.change.now)) c.self.inside.trees.tables c.self.inside.catalog.tables (changed_table c.args.change.now)
    (subst (λ (v : StoredVersions). IsSomeAnd (table_with_id v.store.tables (changed_table c.args.change.now)) (λ t. AddsToEscrow (schema_of t) (kind_of c.args.change.now))) (sym c.self.view_is) c.requires.column)

held_kept : (c : goal.After-add_sum) → AreKept c.self.inside.catalog.tables c.self.inside.trees.tables c.push.new.self
held_kept c =
    let P : Table → Type 0 = λ t. AddsToEscrow (schema_of t) (kind_of c.args.change.now) in
    subst (AreKept c.self.inside.catalog.tables c.self.inside.trees.tables) (sym c.in-Ok.ensures.ok)
    (is_held (table_long_values c.self.inside.trees.tables) c.self.inside.catalog.tables c.self.inside.trees.tables c.self.inside.versions c.args.by c.args.change.now (plain_sum c.args.change.now c.requires.sum)
    (some_of P (table_with_id c.self.inside.catalog.tables (changed_table c.args.change.now)) (named c)) (if_of P (table_with_id c.self.inside.catalog.tables (changed_table c.args.change.now)) (named c)) c.self.invariant.kept)

counted : (c : goal.After-add_sum) → AreCounted c.self.inside.trees.tables c.push.new.self
counted c =
    subst (AreCounted c.self.inside.trees.tables) (sym c.in-Ok.ensures.ok)
    (held_counted c.counts_after_a_step.ensures.held c.self.inside.trees.tables c.self.inside.versions (new_change c.args.by c.args.change.now None) refl refl c.self.invariant.counts)

pub invariant_of-self : goal.invariant_of-self
invariant_of-self c = record {
  kept = c.add_sum.ensures.kept c.self.inside.catalog.tables c.push.new.self (named c) (held_kept c);
  shows = still_shown c.self.inside.catalog c.self.inside.trees.catalog c.add_sum.new.trees.catalog c.add_sum.ensures.catalog c.self.invariant.shows;
  counts = c.add_sum.ensures.counts c.self.inside.catalog.tables c.push.new.self (named c) (held_kept c) (counted c);
  entries = entries_stay c.self.inside.newest_put c.self.inside.trees.tables c.add_sum.new.trees.tables (brings_none c.self.inside.trees.tables c.add_sum.new.trees.tables c.add_sum.ensures.values) c.self.invariant.entries;
}

pub returns-in-Ok-clause-ok : goal.returns-in-Ok-clause-ok
returns-in-Ok-clause-ok c =
    ap (λ (held : List HeldChange). stored_versions c.self.inside.newest_put c.self.inside.catalog c.add_sum.new.trees.tables held) c.in-Ok.ensures.ok
    ∙ store_summed c.self.inside.newest_put c.self.inside.catalog c.self.inside.trees.tables c.add_sum.new.trees.tables c.self.inside.versions c.args.by c.args.change.now c.requires.sum c.add_sum.ensures.values
    (c.add_sum.ensures.shown c.self.inside.catalog.tables c.self.inside.versions c.requires.sum (named c) c.self.invariant.kept)
    ∙ ap (λ (v : StoredVersions). record v { store = with_change c.args.by c.args.change.now v.store }) c.self.view_is

pub returns-in-Ok-clause-over : goal.returns-in-Ok-clause-over
returns-in-Ok-clause-over c =
    let room : has_room_for_row c.args.by c.args.change.now None c.self.inside.versions ≡ has_room c.args.by c.args.change.now c.args.self.now.store =
    other_room (table_long_values c.self.inside.trees.tables) c.args.by c.args.change.now (plain_sum c.args.change.now c.requires.sum) c.self.inside.versions c.args.self.now.store (ap (λ (v : StoredVersions). v.store.held) c.self.view_is) in
    (λ e. sym room ∙ c.in-Ok.ensures.over.0 e, λ e. c.in-Ok.ensures.over.1 (room ∙ e))

pub returns-in-Err-clause-over : goal.returns-in-Err-clause-over
returns-in-Err-clause-over c =
    let room : has_room_for_row c.args.by c.args.change.now None c.self.inside.versions ≡ has_room c.args.by c.args.change.now c.args.self.now.store =
    other_room (table_long_values c.self.inside.trees.tables) c.args.by c.args.change.now (plain_sum c.args.change.now c.requires.sum) c.self.inside.versions c.args.self.now.store (ap (λ (v : StoredVersions). v.store.held) c.self.view_is) in
    (λ e. sym room ∙ c.in-Err.ensures.over.0 e, λ e. c.in-Err.ensures.over.1 (room ∙ e))
