use Rattle.std.proofs.Common.{rules, map, sym, ap, subst, ◌∙◌}
use Rattle.std.specs.Prelude.{ℤ, FitsSigned, IsSomeAnd}
use Rattle.std.specs.Int.{w32, cast_unsigned}
use Rattle.std.proofs.lemmas.Int.{to_z-of_z}
use Rattle.common_lemmas.proofs.Booleans.{impossible}
use Rattle.column_set.specs.declared.changes.Change.{Change}
use Rattle.column_set.specs.declared.changes.Change.TheVariants.{Add}
use Rattle.database_state.specs.Changes.{is_sum, tables_after}
use Rattle.column_set.specs.ChangedRecords.{changed_table}
use Rattle.database_state.specs.Table.{schema_of, table_with_id}
use Rattle.version_store.specs.HeldChanges.{kind_of}
use Rattle.stored_variants.specs.VersionsKept.{AddsToEscrow}
use Rattle.stored_variants.specs.VersionsView.{with_newest_by}
use Rattle.table_trees.specs.StoredTables.{table_long_values}
use Rattle.variant_trees.proofs.sums.add_sum.Goals as goal

pub returns-in-Add-clause-kept : goal.returns-in-Add-clause-kept
returns-in-Add-clause-kept c = λ tables held named kept.
    c.add_in_place.ensures.kept tables held (subst (λ (x : Change). IsSomeAnd (table_with_id tables (changed_table x)) (λ t. AddsToEscrow (schema_of t) (kind_of x))) c.in-Add.is named) kept

pub returns-in-Add-clause-counts : goal.returns-in-Add-clause-counts
returns-in-Add-clause-counts c = λ tables held named kept counts.
    c.add_in_place.ensures.counts tables held (subst (λ (x : Change). IsSomeAnd (table_with_id tables (changed_table x)) (λ t. AddsToEscrow (schema_of t) (kind_of x))) c.in-Add.is named) kept counts

pub returns-in-Add-clause-shown : goal.returns-in-Add-clause-shown
returns-in-Add-clause-shown c = λ tables held sum named kept.
    let fits : FitsSigned w32 c.in-Add.amount = search rules in
    c.add_in_place.ensures.shown tables held (subst (λ (x : Change). IsSomeAnd (table_with_id tables (changed_table x)) (λ t. AddsToEscrow (schema_of t) (kind_of x))) c.in-Add.is named) kept c.in-Add.amount (sym (c.cast_unsigned.ensures ∙ ap (λ (z : ℤ). cast_unsigned w32 z) (to_z-of_z w32 c.in-Add.amount fits)))
    ∙ ap (λ bookmark. tables_after (map (with_newest_by (table_long_values c.args.trees.now.tables) c.args.trees.now.tables) tables) (Add c.in-Add.table bookmark c.in-Add.column c.in-Add.amount)) c.as_bytes.ensures
    ∙ ap (tables_after (map (with_newest_by (table_long_values c.args.trees.now.tables) c.args.trees.now.tables) tables)) (sym c.in-Add.is)

pub returns-in-Add-clause-other : goal.returns-in-Add-clause-other
returns-in-Add-clause-other c = λ e. impossible (sym e ∙ ap is_sum c.in-Add.is)
