use Rattle.std.proofs.Common.{ℕ, ◌++◌, ◌∷◌, [], List, Option, not, sym, ap, subst, ◌∙◌}
use Rattle.std.specs.Prelude.{IsSome}
use Rattle.column_set.specs.RowReading.{row_in}
use Rattle.long_rows.proofs.Taken.{ValueLaws}
use Rattle.long_rows.specs.KeptRows.{given_values}
use Rattle.long_value.specs.Values.{Values, value_of}
use Rattle.page_image.specs.Page.{Node}
use Rattle.stored_variants.specs.RecordRows.{row_under}
use Rattle.table_trees.specs.StoredTables.{table_long_values}
use Rattle.version_store.specs.HeldChanges.{new_change}
use Rattle.variant_trees.specs.PutStages.{row_if}
use Rattle.variant_trees.proofs.HalfPuts.{table_stays}
use Rattle.variant_trees.proofs.TakenValues.{all_given_back, taken_is_there}
use Rattle.variant_trees.proofs.putting.take_and_hold.Goals as goal

pub returns-in-Ok-push-clause-held : goal.returns-in-Ok-push-clause-held
returns-in-Ok-push-clause-held c =
    c.in-Ok-push.ensures.ok
    ∙ ap (λ (o : Option (List ℕ)). c.args.versions.now ++ new_change c.args.by c.args.change.now o ∷ [])
    (c.row_before.ensures.row ∙ ap (λ (nodes : List Node). row_if (not c.args.is_new) (row_under nodes c.args.bookmark.now)) (c.in-Ok.ensures.ok.nodes c.args.table.0))

pub release_row-requires-clause-table : goal.release_row-requires-clause-table
release_row-requires-clause-table c = table_stays c.args.table.0 c.args.trees.now.tables c.take_long_values.new.trees.tables c.in-Ok.ensures.ok.numbers ∙ c.requires.there

pub release_row-requires-clause-there : goal.release_row-requires-clause-there
release_row-requires-clause-there c = λ id some.
    let laws : ValueLaws = record {
      put = c.values_after_a_change.ensures.put;
      beside = c.values_after_a_change.ensures.beside;
      more = c.references_after_a_change.ensures.more;
      more_beside = c.references_after_a_change.ensures.more_beside;
      less = c.references_after_a_change.ensures.less;
      less_beside = c.references_after_a_change.ensures.less_beside;
    } in
    subst (λ (v : Values). IsSome (value_of id v)) (sym c.in-Ok.ensures.ok.named)
    (taken_is_there laws (given_values (row_in c.args.row.now) c.args.values.now) (table_long_values c.args.trees.now.tables c.args.table.0) (row_in c.args.row.now) c.requires.names id some)

pub returns-in-Err-push-clause-err : goal.returns-in-Err-push-clause-err
returns-in-Err-push-clause-err c =
    all_given_back c.values_that_are_given_back.ensures.all c.args.table.0 (given_values (row_in c.args.row.now) c.args.values.now) (row_in c.args.row.now) c.args.trees.now.tables c.take_long_values.new.trees.tables c.release_row.new.trees.tables
    (c.long_values_are_whole.ensures c.args.table.0) c.requires.names c.in-Ok.ensures.ok c.release_row.ensures.tables
