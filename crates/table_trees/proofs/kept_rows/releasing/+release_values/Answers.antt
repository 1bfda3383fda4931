use Rattle.std.proofs.Common.{arith}
use Rattle.std.specs.Option.{option_map}
use Rattle.common_lemmas.proofs.Options.{some_apart}
use Rattle.long_rows.specs.RowReferences.{named_by}
use Rattle.long_rows.proofs.Taken.{ValueLaws}
use Rattle.long_value.specs.Stores.{id_bytes}
use Rattle.table_trees.specs.StoredTables.{table_long_values}
use Rattle.table_trees.proofs.Changed.{still_there}
use Rattle.table_trees.proofs.GivingUp.{all_released, first_can, none_released, others_can}
use Rattle.table_trees.proofs.kept_rows.releasing.+release_values.Goals as goal

pub release_first-requires-clause-there : goal.release_first-requires-clause-there
release_first-requires-clause-there t c =
    let kept = c.requires.kept in
    first_can (named_by kept.0) c.args.values.now (option_map id_bytes c.in-Some.named) (option_map id_bytes c.unless_named.result) c.in-Some.rest.now (table_long_values c.args.trees.now.tables c.args.table.0) (c.unless_named.ensures kept.0 kept.1)
    (λ e. some_apart _ (c.in-Some.ensures.end e)) c.in-Some.ensures.value c.requires.there

pub release_values-requires : goal.release_values-requires
release_values-requires t c =
    let more = c.references_after_a_change.ensures in
    let put = c.values_after_a_change.ensures in
    let laws : ValueLaws = record { put = put.put; beside = put.beside; more = more.more; more_beside = more.more_beside; less = more.less; less_beside = more.less_beside } in
    let kept = c.requires.kept in
    let can = others_can laws (named_by kept.0) c.args.values.now (option_map id_bytes c.in-Some.named) (option_map id_bytes c.unless_named.result) c.in-Some.rest.now c.args.table.0 c.args.trees.now.tables c.release_first.new.trees.tables (c.unless_named.ensures kept.0 kept.1)
    (λ e. some_apart _ (c.in-Some.ensures.end e)) c.in-Some.ensures.value c.requires.there c.release_first.ensures.tables in
    let had = c.release_first.ensures.tables can.0 can.1 in
    (omega (arith, c.decreases, c.in-Some.ensures.shorter), (still_there c.args.table.0 _ c.args.trees.now.tables c.release_first.new.trees.tables had c.requires.table, (can, kept)))

pub returns-in-Some-clause-tables : goal.returns-in-Some-clause-tables
returns-in-Some-clause-tables t c xs ys stand kept =
    all_released (named_by ys) c.args.values.now (option_map id_bytes c.in-Some.named) (option_map id_bytes c.unless_named.result) c.in-Some.rest.now c.args.table.0 c.args.trees.now.tables c.release_first.new.trees.tables c.release_values.new.trees.tables (c.unless_named.ensures ys kept)
    (λ e. some_apart _ (c.in-Some.ensures.end e)) c.in-Some.ensures.value c.release_first.ensures.tables (λ zs st. c.release_values.ensures.tables zs ys st kept) xs stand

pub returns-in-None-clause-tables : goal.returns-in-None-clause-tables
returns-in-None-clause-tables t c xs ys stand kept = none_released (named_by ys) c.args.values.now c.args.table.0 c.args.trees.now.tables (λ value behind may is. let h = c.in-None.ensures.value value behind may is in h) xs stand
