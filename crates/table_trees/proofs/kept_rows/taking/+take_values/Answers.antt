use Rattle.std.proofs.Common.{◌≡◌, List, ℕ, ◌∷◌, sym, ap, subst, ◌∙◌, arith, length}
use Rattle.std.specs.Option.{option_map}
use Rattle.common_lemmas.proofs.Options.{some_apart}
use Rattle.column_set.specs.declared.rows.RowValue.{RowValue}
use Rattle.long_value.specs.Stores.{id_bytes}
use Rattle.long_rows.specs.ReferenceCounts.{with_all_taken}
use Rattle.long_rows.proofs.Taken.{ValueLaws}
use Rattle.column_set.specs.OtherValues.{StandIn}
use Rattle.table_trees.specs.StoredTables.{table_long_values}
use Rattle.table_trees.specs.NamedValues.{given_of, values_left}
use Rattle.table_trees.specs.ValuesChanged.{HasLongValues}
use Rattle.table_trees.proofs.Changed.{still_there}
use Rattle.table_trees.proofs.TakingAll.{MayAll, all_back, all_taken, back_can, first_can, none_taken, others_can}
use Rattle.table_trees.proofs.kept_rows.taking.+take_values.Goals as goal

pub take_first-requires-clause-may : goal.take_first-requires-clause-may
take_first-requires-clause-may t c =
    let bytes = c.as_bytes.result.now in
    let others = c.in-Some.others.now in
    let split : c.args.values.now ≡ bytes ∷ others = c.in-Some.ensures.cases.0 ∙ ap (λ (b : List ℕ). b ∷ others) (sym c.as_bytes.ensures) in
    let may = subst (λ (l : List (List ℕ)). MayAll c.args.row.now (values_left l c.args.fields.now) (table_long_values c.args.trees.now.tables c.args.table.0)) split c.requires.may in
    first_can c.args.row.now (option_map id_bytes c.in-Some-first_named.named) c.in-Some-first_named.rest.now bytes (values_left others c.args.fields.now) (table_long_values c.args.trees.now.tables c.args.table.0)
    (λ e. some_apart _ (c.in-Some-first_named.ensures.end e)) c.in-Some-first_named.ensures.value may

pub take_values-requires : goal.take_values-requires
take_values-requires t c =
    let more = c.references_after_a_change.ensures in
    let put = c.values_after_a_change.ensures in
    let laws : ValueLaws = record { put = put.put; beside = put.beside; more = more.more; more_beside = more.more_beside; less = more.less; less_beside = more.less_beside } in
    let bytes = c.as_bytes.result.now in
    let others = c.in-Some.others.now in
    let split : c.args.values.now ≡ bytes ∷ others = c.in-Some.ensures.cases.0 ∙ ap (λ (b : List ℕ). b ∷ others) (sym c.as_bytes.ensures) in
    let may = subst (λ (l : List (List ℕ)). MayAll c.args.row.now (values_left l c.args.fields.now) (table_long_values c.args.trees.now.tables c.args.table.0)) split c.requires.may in
    let can = others_can laws c.args.row.now (option_map id_bytes c.in-Some-first_named.named) c.in-Some-first_named.rest.now bytes (values_left others c.args.fields.now) c.args.table.0 c.args.trees.now.tables c.take_first.new.trees.tables
    (λ e. some_apart _ (c.in-Some-first_named.ensures.end e)) c.in-Some-first_named.ensures.value may c.in-Ok.ensures.ok in
    let had = c.in-Ok.ensures.ok can.0 can.1 in
    (omega (arith, c.decreases, c.in-Some.ensures.cases.1), (still_there c.args.table.0 _ c.args.trees.now.tables c.take_first.new.trees.tables had c.requires.table, can))

pub release_first-requires-clause-table : goal.release_first-requires-clause-table
release_first-requires-clause-table t c =
    let bytes = c.as_bytes.result.now in
    let others = c.in-Some.others.now in
    let split : c.args.values.now ≡ bytes ∷ others = c.in-Some.ensures.cases.0 ∙ ap (λ (b : List ℕ). b ∷ others) (sym c.as_bytes.ensures) in
    let may = subst (λ (l : List (List ℕ)). MayAll c.args.row.now (values_left l c.args.fields.now) (table_long_values c.args.trees.now.tables c.args.table.0)) split c.requires.may in
    let can = first_can c.args.row.now (option_map id_bytes c.in-Some-first_named.named) c.in-Some-first_named.rest.now bytes (values_left others c.args.fields.now) (table_long_values c.args.trees.now.tables c.args.table.0)
    (λ e. some_apart _ (c.in-Some-first_named.ensures.end e)) c.in-Some-first_named.ensures.value may in
    let had = c.in-Ok.ensures.ok can.0 can.1 in
    let here = still_there c.args.table.0 _ c.args.trees.now.tables c.take_first.new.trees.tables had c.requires.table in
    still_there c.args.table.0 _ c.take_first.new.trees.tables c.take_values.new.trees.tables c.in-Err-take_values.ensures.err here

pub release_first-requires-clause-there : goal.release_first-requires-clause-there
release_first-requires-clause-there t c =
    let more = c.references_after_a_change.ensures in
    let put = c.values_after_a_change.ensures in
    let laws : ValueLaws = record { put = put.put; beside = put.beside; more = more.more; more_beside = more.more_beside; less = more.less; less_beside = more.less_beside } in
    let bytes = c.as_bytes.result.now in
    let others = c.in-Some.others.now in
    let split : c.args.values.now ≡ bytes ∷ others = c.in-Some.ensures.cases.0 ∙ ap (λ (b : List ℕ). b ∷ others) (sym c.as_bytes.ensures) in
    let may = subst (λ (l : List (List ℕ)). MayAll c.args.row.now (values_left l c.args.fields.now) (table_long_values c.args.trees.now.tables c.args.table.0)) split c.requires.may in
    let can = first_can c.args.row.now (option_map id_bytes c.in-Some-first_named.named) c.in-Some-first_named.rest.now bytes (values_left others c.args.fields.now) (table_long_values c.args.trees.now.tables c.args.table.0)
    (λ e. some_apart _ (c.in-Some-first_named.ensures.end e)) c.in-Some-first_named.ensures.value may in
    back_can laws c.in-Some-first_named.rest.now (option_map id_bytes c.in-Some-first_named.named) bytes c.args.table.0 c.args.trees.now.tables c.take_first.new.trees.tables c.take_values.new.trees.tables (can.0, can.1) c.in-Ok.ensures.ok c.in-Err-take_values.ensures.err

pub returns-in-Ok-take_values-clause-ok : goal.returns-in-Ok-take_values-clause-ok
returns-in-Ok-take_values-clause-ok t c =
    let bytes = c.as_bytes.result.now in
    let others = c.in-Some.others.now in
    let split : c.args.values.now ≡ bytes ∷ others = c.in-Some.ensures.cases.0 ∙ ap (λ (b : List ℕ). b ∷ others) (sym c.as_bytes.ensures) in
    let all = all_taken c.args.row.now (option_map id_bytes c.in-Some-first_named.named) c.in-Some-first_named.rest.now bytes (values_left others c.args.fields.now) c.args.table.0 c.args.trees.now.tables c.take_first.new.trees.tables c.take_values.new.trees.tables
    (λ e. some_apart _ (c.in-Some-first_named.ensures.end e)) c.in-Some-first_named.ensures.value c.in-Ok.ensures.ok c.in-Ok-take_values.ensures.ok in
    subst (λ (l : List (List ℕ)). (xs : List (ℕ × RowValue)) → StandIn c.args.row.now xs → length xs ≡ length (values_left l c.args.fields.now)
    → HasLongValues c.args.table.0 (with_all_taken (given_of xs (values_left l c.args.fields.now)) (table_long_values c.args.trees.now.tables c.args.table.0)) c.args.trees.now.tables c.take_values.new.trees.tables) (sym split) all

pub returns-in-Err-take_values-clause-err : goal.returns-in-Err-take_values-clause-err
returns-in-Err-take_values-clause-err t c =
    let more = c.references_after_a_change.ensures in
    let put = c.values_after_a_change.ensures in
    let laws : ValueLaws = record { put = put.put; beside = put.beside; more = more.more; more_beside = more.more_beside; less = more.less; less_beside = more.less_beside } in
    let bytes = c.as_bytes.result.now in
    let others = c.in-Some.others.now in
    let split : c.args.values.now ≡ bytes ∷ others = c.in-Some.ensures.cases.0 ∙ ap (λ (b : List ℕ). b ∷ others) (sym c.as_bytes.ensures) in
    let may = subst (λ (l : List (List ℕ)). MayAll c.args.row.now (values_left l c.args.fields.now) (table_long_values c.args.trees.now.tables c.args.table.0)) split c.requires.may in
    let can = first_can c.args.row.now (option_map id_bytes c.in-Some-first_named.named) c.in-Some-first_named.rest.now bytes (values_left others c.args.fields.now) (table_long_values c.args.trees.now.tables c.args.table.0)
    (λ e. some_apart _ (c.in-Some-first_named.ensures.end e)) c.in-Some-first_named.ensures.value may in
    all_back laws c.in-Some-first_named.rest.now (option_map id_bytes c.in-Some-first_named.named) bytes c.args.table.0 c.args.trees.now.tables c.take_first.new.trees.tables c.take_values.new.trees.tables c.release_first.new.trees.tables
    (c.long_values_are_whole.ensures c.args.table.0) (can.0, can.1) c.in-Ok.ensures.ok c.in-Err-take_values.ensures.err c.release_first.ensures.tables

pub returns-in-None-first_named-clause-ok : goal.returns-in-None-first_named-clause-ok
returns-in-None-first_named-clause-ok t c =
    let others = c.in-Some.others.now in
    let value = c.in-Some.value.now in
    subst (λ (l : List (List ℕ)). (xs : List (ℕ × RowValue)) → StandIn c.args.row.now xs → length xs ≡ length (values_left l c.args.fields.now)
    → HasLongValues c.args.table.0 (with_all_taken (given_of xs (values_left l c.args.fields.now)) (table_long_values c.args.trees.now.tables c.args.table.0)) c.args.trees.now.tables c.args.trees.now.tables) (sym c.in-Some.ensures.cases.0)
    (none_taken c.args.row.now value (values_left others c.args.fields.now) c.args.table.0 c.args.trees.now.tables (λ v behind may is. let h = c.in-None-first_named.ensures.value v behind may is in h))
